-- Lines that are answered 202, and what goes on behind lines.
use Rattle.std.proofs.Common.{◌≡◌, ℕ, ◌^◌, ◌<◌, List, [], ◌++◌, length, Option, Result, refl, sym, subst, ◌∙◌, append_assoc, codes, lit<}
use Rattle.std.specs.Fmt.{decimal, digits}
use Rattle.std.proofs.lemmas.Fmt.{decimal_injective}
use Rattle.front_api.proofs.GoingOn.{all_further, all_stay}
use Rattle.front_api.specs.Front.{Drains}
use Rattle.front_api.specs.Seen.{SeenBooks}
use Rattle.front_api.specs.SeenLaws.{BooksGoOn}
use Rattle.rest_api.specs.Handling.{Handles}
use Rattle.rest_replies.proofs.HeadLemmas.{same_front}
use Rattle.rest_replies.proofs.ScriptLemmas.{one-reading}
use Rattle.rest_replies.proofs.StatusLemmas.{one-status}
use Rattle.rest_replies.specs.ReplyLine.{behind_space, reply_line_text}
use Rattle.rest_replies.specs.Response.{body_of}
use Rattle.rest_replies.specs.Script.{LineMeaning, Means}
use Rattle.rest_replies.specs.Status.{status_code}
use Rattle.rest_replies.specs.declared.handled.Handled.{Handled}
use Rattle.rest_replies.specs.declared.status.HttpStatus.{HttpStatus}
use Rattle.rest_replies.specs.declared.status.HttpStatus.TheVariants.{Okay, Created, Accepted, NoContent, BadRequest, NotFound, MethodNotAllowed, Conflict, LengthRequired, ContentTooLarge, HeaderFieldsTooLarge, InternalError, NotImplemented, Unavailable, InsufficientStorage}
use Rattle.rest_script.specs.Replying.{AnswersLine, AnswersLines, IsReply, IsReplyLine, Replies}
use Rattle.sack_history.specs.declared.fault.SackFault.{SackFault}

-- ---- the status of a reply line

record HasThreeDigits (status : HttpStatus) : Type 0 where
  small : status_code status < 2 ^ 64
  three : length (decimal (status_code status)) ≡ 3

three_digits : (status : HttpStatus) → HasThreeDigits status
unfolding digits
three_digits Okay = record { small = lit< tt; three = refl }
three_digits Created = record { small = lit< tt; three = refl }
three_digits Accepted = record { small = lit< tt; three = refl }
three_digits NoContent = record { small = lit< tt; three = refl }
three_digits BadRequest = record { small = lit< tt; three = refl }
three_digits NotFound = record { small = lit< tt; three = refl }
three_digits MethodNotAllowed = record { small = lit< tt; three = refl }
three_digits Conflict = record { small = lit< tt; three = refl }
three_digits LengthRequired = record { small = lit< tt; three = refl }
three_digits ContentTooLarge = record { small = lit< tt; three = refl }
three_digits HeaderFieldsTooLarge = record { small = lit< tt; three = refl }
three_digits InternalError = record { small = lit< tt; three = refl }
three_digits NotImplemented = record { small = lit< tt; three = refl }
three_digits Unavailable = record { small = lit< tt; three = refl }
three_digits InsufficientStorage = record { small = lit< tt; three = refl }

accepted_digits : codes "202" ≡ decimal 202
unfolding digits
accepted_digits = refl

-- a reply line that begins with 202 has that status
status_is : (status : HttpStatus) (body : List ℕ) → codes "202\n" ≡ reply_line_text status body → status ≡ Accepted
status_is status body e =
    let own = three_digits status in
    let accepted = three_digits Accepted in
    let parts = same_front (codes "202") (decimal (status_code status)) (codes "\n") (behind_space (body_of status body) ++ codes "\n") (sym own.three)
    (e ∙ append_assoc (decimal (status_code status)) (behind_space (body_of status body)) (codes "\n")) in
    one-status status Accepted (decimal_injective (status_code status) 202 own.small accepted.small (sym parts.0 ∙ accepted_digits))

told_accepted : (answer : Handled) → IsReplyLine answer (codes "202\n") → answer.status ≡ Accepted
told_accepted answer (IsReplyLine.told e) = status_is answer.status answer.body.items e
told_accepted answer (IsReplyLine.starved e) = let clash : InternalError ≡ Accepted = status_is InternalError [] e in cc

-- ---- a request that is answered 202

-- what a request line was answered with this status
pub accepted_request : (line method target body : List ℕ) (old new : SeenBooks) → Means line (LineMeaning.request method target body) → Replies line (codes "202\n") old new
    → (answer : Handled) × (answer.status ≡ Accepted) × Handles method target body answer old new
accepted_request line method target body old new means r = by r.answer old new r.answers r.reply
  where
    by : (answer : Option Handled) (before after : SeenBooks) → AnswersLine line answer before after → IsReply answer (codes "202\n")
        → (answer : Handled) × (answer.status ≡ Accepted) × Handles method target body answer before after
    by _ before _ (AnswersLine.nothing _ none) is = let clash : LineMeaning.nothing ≡ LineMeaning.request method target body = one-reading line LineMeaning.nothing (LineMeaning.request method target body) none means in cc
    by _ before after (AnswersLine.work answer _ _ work h) is = let clash : LineMeaning.work ≡ LineMeaning.request method target body = one-reading line LineMeaning.work (LineMeaning.request method target body) work means in cc
    by _ before after (AnswersLine.request m t b answer _ _ other h) is =
        let same : LineMeaning.request m t b ≡ LineMeaning.request method target body = one-reading line (LineMeaning.request m t b) (LineMeaning.request method target body) other means in
        let one : m ≡ method = cc in
        let two : t ≡ target = cc in
        let three : b ≡ body = cc in (
          answer,
          told_accepted answer is,
          subst (λ (x : List ℕ). Handles x target body answer before after) one
              (subst (λ (x : List ℕ). Handles m x body answer before after) two (subst (λ (x : List ℕ). Handles m t x answer before after) three h)),
        )
    by _ before _ (AnswersLine.bad answer _ none tells) is = absurd (none (LineMeaning.request method target body) means)

-- ---- what goes on

module _ (draining : (result : Result ℕ SackFault) (old new : SeenBooks) → Drains result old new → BooksGoOn old new)
    (handling : (method target body : List ℕ) (answer : Handled) (old new : SeenBooks) → Handles method target body answer old new → BooksGoOn old new) where
  line_goes_on : (line : List ℕ) (answer : Option Handled) (old new : SeenBooks) → AnswersLine line answer old new → BooksGoOn old new
  line_goes_on line _ old _ (AnswersLine.nothing _ means) = all_stay old
  line_goes_on line _ old new (AnswersLine.work answer _ _ means h) = draining h.result old new h.drains
  line_goes_on line _ old new (AnswersLine.request method target body answer _ _ means h) = handling method target body answer old new h
  line_goes_on line _ old _ (AnswersLine.bad answer _ none tells) = all_stay old

  pub lines_go_on : (lines : List (List ℕ)) (text : List ℕ) (old new : SeenBooks) → AnswersLines lines text old new → BooksGoOn old new
  lines_go_on _ _ old _ (AnswersLines.nothing _) = all_stay old
  lines_go_on _ _ old new (AnswersLines.one_more lines line text reply _ mid _ first h) =
      all_further old mid new (lines_go_on lines text old mid first) (line_goes_on line h.answer mid new h.answers)
