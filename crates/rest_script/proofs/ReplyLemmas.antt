-- A line's answer, and the reply that is written.
use Rattle.std.proofs.Common.{◌≡◌, ℕ, ◌≤◌, List, ◌++◌, length, take, drop, Option, None, Some, Result, take-append-drop}
use Rattle.std.specs.Io.KnownBytes.{Appends}
use Rattle.front_api.proofs.Leading.{leads_more, leads_to_itself}
use Rattle.front_api.specs.Front.{Drains}
use Rattle.front_api.specs.Seen.{LeadsTo, SeenBooks}
use Rattle.rest_api.specs.Doing.{TellsError}
use Rattle.rest_api.specs.Handling.{Handles}
use Rattle.rest_replies.specs.Error.{plain_error}
use Rattle.rest_replies.specs.Script.{LineMeaning, Means}
use Rattle.rest_replies.specs.declared.code.ErrorCode.TheVariants as is
use Rattle.rest_replies.specs.declared.handled.Handled.{Handled}
use Rattle.rest_script.specs.Replying.{AnswersLine, DrainsAll, IsReply, Replies, TellsTurns}
use Rattle.rest_script.specs.Serving.{WritesReply, WritesReplyFront}
use Rattle.sack_history.specs.declared.fault.SackFault.{SackFault}

-- some first bytes were written, and there are others
pub front_written : (from to : Option (List ℕ)) (text : List ℕ) → ((n : ℕ) × (n ≤ length text) × Appends from to (take n text))
    → (front : List ℕ) × (more : List ℕ) × (front ++ more ≡ text) × Appends from to front
front_written from to text h = (take h.0 text, drop h.0 text, take-append-drop h.0 text, h.2)

module _ {F : Type 0} (stands : F → SeenBooks → Type 0) (f g : F) where
  -- ---- what a line does

  pub drains_all : (result : Result ℕ SackFault) (answer : Handled) → LeadsTo stands f g (Drains result) → TellsTurns result answer → LeadsTo stands f g (DrainsAll answer)
  drains_all result answer leads tells =
      leads_more stands f g (Drains result) (DrainsAll answer) (λ old new h. record { result = result; drains = h; tells = tells }) leads

  pub answers_work : (line : List ℕ) (answer : Handled) → Means line LineMeaning.work → LeadsTo stands f g (DrainsAll answer) → LeadsTo stands f g (AnswersLine line (Some answer))
  answers_work line answer means leads =
      leads_more stands f g (DrainsAll answer) (AnswersLine line (Some answer)) (λ old new h. AnswersLine.work answer old new means h) leads

  pub answers_request : (line method target body : List ℕ) (answer : Handled) → Means line (LineMeaning.request method target body)
      → LeadsTo stands f g (Handles method target body answer) → LeadsTo stands f g (AnswersLine line (Some answer))
  answers_request line method target body answer means leads =
      leads_more stands f g (Handles method target body answer) (AnswersLine line (Some answer))
      (λ old new h. AnswersLine.request method target body answer old new means h) leads

  -- ---- what is written

  pub writes_reply : (line : List ℕ) (answer : Option Handled) (reply : List ℕ) (from to : Option (List ℕ))
      → LeadsTo stands f g (AnswersLine line answer) → IsReply answer reply → Appends from to reply → WritesReply stands f g line from to
  writes_reply line answer reply from to leads is written = record {
    reply = reply;
    written = written;
    leads = leads_more stands f g (AnswersLine line answer) (Replies line reply) (λ old new h. record { answer = answer; answers = h; reply = is }) leads;
  }

  pub writes_reply_front : (line : List ℕ) (answer : Option Handled) (text more : List ℕ) (from to : Option (List ℕ))
      → LeadsTo stands f g (AnswersLine line answer) → IsReply answer (text ++ more) → Appends from to text → WritesReplyFront stands f g line from to
  writes_reply_front line answer text more from to leads is written = record {
    text = text;
    more = more;
    written = written;
    leads = leads_more stands f g (AnswersLine line answer) (Replies line (text ++ more)) (λ old new h. record { answer = answer; answers = h; reply = is }) leads;
  }

module _ {F : Type 0} (stands : F → SeenBooks → Type 0) (f : F) where
  pub answers_nothing : (line : List ℕ) → Means line LineMeaning.nothing → LeadsTo stands f f (AnswersLine line None)
  answers_nothing line means = leads_to_itself stands f (AnswersLine line None) (λ books. AnswersLine.nothing books means)

  pub answers_bad : (line : List ℕ) (answer : Handled) → ((meaning : LineMeaning) → Means line meaning → ⊥) → TellsError (plain_error is.BadLine) None answer
      → LeadsTo stands f f (AnswersLine line (Some answer))
  answers_bad line answer none tells = leads_to_itself stands f (AnswersLine line (Some answer)) (λ books. AnswersLine.bad answer books none tells)
