-- What a line of a script asks of the front, and what it is answered.
use Rattle.std.specs.Prelude.{◌≡◌, ℕ, List, [], ◌∷◌, ◌++◌, Option, None, Some, Result, Ok, Err}
use Rattle.front_api.specs.Front.{Drains}
use Rattle.front_api.specs.Seen.{SeenBooks}
use Rattle.rest_api.specs.Doing.{TellsError}
use Rattle.rest_api.specs.Handling.{Handles}
use Rattle.rest_replies.specs.Error.{plain_error}
use Rattle.rest_replies.specs.ErrorBody.{jobs_text}
use Rattle.rest_replies.specs.Faults.{sack_error}
use Rattle.rest_replies.specs.Handled.{AnswersWith}
use Rattle.rest_replies.specs.ReplyLine.{reply_line_text}
use Rattle.rest_replies.specs.Script.{LineMeaning, Means}
use Rattle.rest_replies.specs.declared.code.ErrorCode.TheVariants as is
use Rattle.rest_replies.specs.declared.handled.Handled.{Handled}
use Rattle.rest_replies.specs.declared.status.HttpStatus.TheVariants.{InternalError, Okay}
use Rattle.sack_history.specs.declared.fault.SackFault.{SackFault}

-- what is answered by the result of a drain: the number of turns that were taken, or the refusal
abbrev pub TellsTurns : Result ℕ SackFault → Handled → Type 0
TellsTurns (Ok turns) answer = AnswersWith answer Okay [] (jobs_text turns)
TellsTurns (Err fault) answer = TellsError (sack_error fault) None answer

-- the posts that wait are processed, and the number of turns is told
pub record DrainsAll (answer : Handled) (old new : SeenBooks) : Type 0 where
  pub result : Result ℕ SackFault
  pub drains : Drains result old new
  pub tells : TellsTurns result answer

-- What a line does, and its answer: an empty line and a comment do nothing and have none, `WORK` processes the posts that
-- wait, and any other line is handled as the HTTP request with its method, its target and its body, or is a bad one.
pub data AnswersLine (line : List ℕ) : Option Handled → SeenBooks → SeenBooks → Type 0 where
  nothing : (books : SeenBooks) → Means line LineMeaning.nothing → AnswersLine line None books books
  work : (answer : Handled) (old new : SeenBooks) → Means line LineMeaning.work → DrainsAll answer old new → AnswersLine line (Some answer) old new
  request : (method target body : List ℕ) (answer : Handled) (old new : SeenBooks) → Means line (LineMeaning.request method target body)
      → Handles method target body answer old new → AnswersLine line (Some answer) old new
  bad : (answer : Handled) (books : SeenBooks) → ((meaning : LineMeaning) → Means line meaning → ⊥)
      → TellsError (plain_error is.BadLine) None answer → AnswersLine line (Some answer) books books

-- the reply line with this answer, or the one that there was no memory
pub data IsReplyLine (answer : Handled) (text : List ℕ) : Type 0 where
  told : text ≡ reply_line_text answer.status answer.body.items → IsReplyLine answer text
  starved : text ≡ reply_line_text InternalError [] → IsReplyLine answer text

-- the reply: a line, or nothing
abbrev pub IsReply : Option Handled → List ℕ → Type 0
IsReply None text = text ≡ []
IsReply (Some answer) text = IsReplyLine answer text

-- a line is answered, and this is the reply
pub record Replies (line text : List ℕ) (old new : SeenBooks) : Type 0 where
  pub answer : Option Handled
  pub answers : AnswersLine line answer old new
  pub reply : IsReply answer text

-- lines are answered one after another, and these are the replies
pub data AnswersLines : List (List ℕ) → List ℕ → SeenBooks → SeenBooks → Type 0 where
  nothing : (books : SeenBooks) → AnswersLines [] [] books books
  one_more : (lines : List (List ℕ)) (line text reply : List ℕ) (old mid new : SeenBooks)
      → AnswersLines lines text old mid → Replies line reply mid new → AnswersLines (lines ++ line ∷ []) (text ++ reply) old new
