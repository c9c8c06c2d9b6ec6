-- Where no fault is seen, no line is answered 503.
use Rattle.std.proofs.Common.{◌≡◌, ◌≢◌, ℕ, List, [], ◌++◌, Option, Result, Ok, Err, sym, subst, ◌∙◌, ◌⊎◌, inl, inr}
use Rattle.front_api.specs.FaultWords.{sack_words}
use Rattle.front_api.specs.Front.{Drains}
use Rattle.front_api.specs.Seen.{SeenBooks}
use Rattle.front_api.specs.SeenLaws.{BooksGoOn, SeeNoFault, TellsNoFault, WereAllOpened}
use Rattle.rest_api.specs.Handling.{Handles}
use Rattle.rest_replies.specs.ErrorBody.{jobs_text}
use Rattle.rest_replies.specs.Handled.{AnswersWith}
use Rattle.rest_replies.specs.declared.handled.Handled.{Handled}
use Rattle.rest_replies.specs.declared.status.HttpStatus.{HttpStatus}
use Rattle.rest_replies.specs.declared.status.HttpStatus.TheVariants.{BadRequest, InternalError, InsufficientStorage, NotFound, Okay, Unavailable}
use Rattle.rest_script.specs.Laws.{AreAvailable, BeginsAvailable, IsAvailable}
use Rattle.rest_script.specs.Laws as laws
use Rattle.rest_script.specs.Replying.{AnswersLine, AnswersLines, IsReply, IsReplyLine, TellsTurns}
use Rattle.rest_script.specs.Serving.{Transcribes, WritesBehind}
use Rattle.rest_script.specs.declared.script_end.ScriptEnd.{ScriptEnd}
use Rattle.rest_script.specs.declared.script_end.ScriptEnd.TheVariants.{Ended, TooLong, Cut, TooMuch, ReadFault, WriteFault, Memory}
use Rattle.sack_history.specs.declared.fault.SackFault.{SackFault}
use Rattle.sack_history.specs.declared.fault.SackFault.TheVariants as posts

told_status : (answer : Handled) (status : HttpStatus) (allow body : List ℕ) → AnswersWith answer status allow body → (answer.status ≡ status) ⊎ (answer.status ≡ InternalError)
told_status answer status allow body (inl h) = inl h.status
told_status answer status allow body (inr h) = inr h.status

starved_is_other : InternalError ≡ Unavailable → ⊥
starved_is_other e = cc

other_than : (answer : Handled) (status : HttpStatus) (allow body : List ℕ) → AnswersWith answer status allow body → (status ≡ Unavailable → ⊥) → answer.status ≡ Unavailable → ⊥
other_than answer status allow body h other is = by (told_status answer status allow body h)
  where
    by : (answer.status ≡ status) ⊎ (answer.status ≡ InternalError) → ⊥
    by (inl e) = other (sym e ∙ is)
    by (inr e) = starved_is_other (sym e ∙ is)

drain_other : (result : Result ℕ SackFault) (answer : Handled) → TellsNoFault sack_words result → TellsTurns result answer → answer.status ≡ Unavailable → ⊥
drain_other (Ok turns) answer no_fault tells = other_than answer Okay [] (jobs_text turns) tells (λ e. cc)
drain_other (Err posts.Unknown) answer no_fault tells = other_than answer NotFound [] _ tells (λ e. cc)
drain_other (Err (posts.Spent s)) answer no_fault tells = other_than answer InsufficientStorage [] _ tells (λ e. cc)
drain_other (Err (posts.DiskFault f)) answer no_fault tells = cc (no_fault.no_disk)
drain_other (Err (posts.Damaged d)) answer no_fault tells = cc (no_fault.no_damage)
drain_other (Err posts.Memory) answer no_fault tells = other_than answer InternalError [] _ tells starved_is_other

module _ (drained : (result : Result ℕ SackFault) (old new : SeenBooks) → WereAllOpened old → Drains result old new → SeeNoFault new → TellsNoFault sack_words result)
    (drains_on : (result : Result ℕ SackFault) (old new : SeenBooks) → Drains result old new → BooksGoOn old new)
    (handled : (method target body : List ℕ) (answer : Handled) (old new : SeenBooks) → WereAllOpened old → SeeNoFault new → Handles method target body answer old new → answer.status ≢ Unavailable)
    (handles_on : (method target body : List ℕ) (answer : Handled) (old new : SeenBooks) → Handles method target body answer old new → BooksGoOn old new)
    (lines_on : (lines : List (List ℕ)) (text : List ℕ) (old new : SeenBooks) → AnswersLines lines text old new → BooksGoOn old new)
    (earlier : (old new : SeenBooks) → BooksGoOn old new → SeeNoFault new → SeeNoFault old)
    (later : (old new : SeenBooks) → BooksGoOn old new → WereAllOpened old → WereAllOpened new) where
  -- what is seen before a line has no fault where none is seen behind it
  line_before : (line : List ℕ) (answer : Option Handled) (old new : SeenBooks) → SeeNoFault new → AnswersLine line answer old new → SeeNoFault old
  line_before line _ old _ none (AnswersLine.nothing _ means) = none
  line_before line _ old new none (AnswersLine.work answer _ _ means d) = earlier old new (drains_on d.result old new d.drains) none
  line_before line _ old new none (AnswersLine.request method target body answer _ _ means h) = earlier old new (handles_on method target body answer old new h) none
  line_before line _ old _ none (AnswersLine.bad answer _ never tells) = none

  reply_available : (answer : Handled) (text : List ℕ) → (answer.status ≡ Unavailable → ⊥) → IsReplyLine answer text → IsAvailable text
  reply_available answer text other (IsReplyLine.told is) = subst IsAvailable (sym is) (laws.line answer.status answer.body.items other)
  reply_available answer text other (IsReplyLine.starved is) = subst IsAvailable (sym is) (laws.line InternalError [] starved_is_other)

  bad_is_other : BadRequest ≡ Unavailable → ⊥
  bad_is_other e = cc

  line_available : (line : List ℕ) (answer : Option Handled) (text : List ℕ) (old new : SeenBooks) → WereAllOpened old → SeeNoFault new → AnswersLine line answer old new → IsReply answer text → IsAvailable text
  line_available line _ text old _ opened none (AnswersLine.nothing _ means) reply = subst IsAvailable (sym reply) laws.none
  line_available line _ text old new opened none (AnswersLine.work answer _ _ means d) reply = reply_available answer text (drain_other d.result answer (drained d.result old new opened d.drains none) d.tells) reply
  line_available line _ text old new opened none (AnswersLine.request method target body answer _ _ means h) reply = reply_available answer text (handled method target body answer old new opened none h) reply
  line_available line _ text old _ opened none (AnswersLine.bad answer _ never tells) reply = reply_available answer text (other_than answer BadRequest [] _ tells bad_is_other) reply

  lines_available : (lines : List (List ℕ)) (text : List ℕ) (old new : SeenBooks) → WereAllOpened old → SeeNoFault new → AnswersLines lines text old new → AreAvailable lines text
  lines_available _ _ old _ opened none (AnswersLines.nothing _) = laws.nothing
  lines_available _ _ old new opened none (AnswersLines.one_more lines line text reply _ mid _ first r) =
      laws.one_more lines line text reply (lines_available lines text old mid opened (line_before line r.answer mid new none r.answers) first)
      (line_available line r.answer reply mid new (later old mid (lines_on lines text old mid first) opened) none r.answers r.reply)

  -- what was written behind the lines
  nothing_begins : (text : List ℕ) → text ≡ [] → BeginsAvailable text
  nothing_begins text is = record { more = []; whole = subst (λ l. IsAvailable (l ++ [])) (sym is) laws.none }

  pub transcript_available : (lines : List (List ℕ)) (behind : List ℕ) (end : ScriptEnd) (answered last : List ℕ) (old new : SeenBooks)
      → WereAllOpened old → SeeNoFault new → Transcribes lines behind end answered last old new → AreAvailable lines answered × BeginsAvailable last
  transcript_available lines behind end answered last old new opened none t =
      let at_mid = later old t.mid (lines_on lines answered old t.mid t.lines_are) opened in
      let rest = by end at_mid t.rest in
      (lines_available lines answered old t.mid opened rest.0 t.lines_are, rest.1)
    where
      same : (new ≡ t.mid) → SeeNoFault t.mid
      same is = subst SeeNoFault is none

      by : (e : ScriptEnd) → WereAllOpened t.mid → WritesBehind e behind last t.mid new → SeeNoFault t.mid × BeginsAvailable last
      by Ended opened_mid w = (same w.1, nothing_begins last w.0)
      by TooLong opened_mid w = (same w.1, nothing_begins last w.0)
      by Cut opened_mid w = (same w.1, nothing_begins last w.0)
      by TooMuch opened_mid w = (same w.1, nothing_begins last w.0)
      by ReadFault opened_mid w = (same w.1, nothing_begins last w.0)
      by WriteFault opened_mid w =
          (line_before w.line w.replies.answer t.mid new none w.replies.answers, record { more = w.more; whole = line_available w.line w.replies.answer (last ++ w.more) t.mid new opened_mid none w.replies.answers w.replies.reply })
      by Memory opened_mid w = (same w.1, nothing_begins last w.0)
