-- Where a reply line ends.
use Rattle.std.proofs.Common.{◌≡◌, ◌≢◌, ◌==◌, not, ℕ, ◌^◌, ◌<◌, List, [], ◌∷◌, ◌++◌, length, Bool, true, false, if◌then◌else◌, All, refl, sym, ◌∙◌, append_assoc, codes, arith, lit<}
use Rattle.std.specs.Fmt.{decimal, digits}
use Rattle.std.proofs.lemmas.Bool.Decides.{nat_tests}
use Rattle.std.proofs.lemmas.Fmt.{decimal_injective}
use Rattle.rest_replies.specs.declared.status.HttpStatus.{HttpStatus}
use Rattle.rest_replies.specs.declared.status.HttpStatus.TheVariants.{Okay, Created, Accepted, NoContent, BadRequest, NotFound, MethodNotAllowed, Conflict, LengthRequired, ContentTooLarge, HeaderFieldsTooLarge, InternalError, NotImplemented, Unavailable, InsufficientStorage}
use Rattle.rest_replies.specs.ReplyLine.{behind_space, reply_line_text}
use Rattle.rest_replies.specs.Response.{body_of}
use Rattle.rest_replies.specs.Status.{status_code}
use Rattle.rest_replies.proofs.CutLemmas.{Without, one_cut, without_of}
use Rattle.rest_replies.proofs.HeadLemmas.{Inner, inner_passes, inner_test, same_front}
use Rattle.rest_replies.proofs.StatusLemmas.{one-status}

-- the digits of a status: three, none of them a line feed
record IsThreeDigits (status : HttpStatus) : Type 0 where
  small : status_code status < 2 ^ 64
  three : length (decimal (status_code status)) ≡ 3
  inner : inner_test (decimal (status_code status)) ≡ true

three_digits : (status : HttpStatus) → IsThreeDigits status
unfolding digits inner_test
three_digits Okay = record { small = lit< tt; three = refl; inner = refl }
three_digits Created = record { small = lit< tt; three = refl; inner = refl }
three_digits Accepted = record { small = lit< tt; three = refl; inner = refl }
three_digits NoContent = record { small = lit< tt; three = refl; inner = refl }
three_digits BadRequest = record { small = lit< tt; three = refl; inner = refl }
three_digits NotFound = record { small = lit< tt; three = refl; inner = refl }
three_digits MethodNotAllowed = record { small = lit< tt; three = refl; inner = refl }
three_digits Conflict = record { small = lit< tt; three = refl; inner = refl }
three_digits LengthRequired = record { small = lit< tt; three = refl; inner = refl }
three_digits ContentTooLarge = record { small = lit< tt; three = refl; inner = refl }
three_digits HeaderFieldsTooLarge = record { small = lit< tt; three = refl; inner = refl }
three_digits InternalError = record { small = lit< tt; three = refl; inner = refl }
three_digits NotImplemented = record { small = lit< tt; three = refl; inner = refl }
three_digits Unavailable = record { small = lit< tt; three = refl; inner = refl }
three_digits InsufficientStorage = record { small = lit< tt; three = refl; inner = refl }

without_feed : (line : List ℕ) → Inner line → Without 10 line
without_feed [] h = tt
without_feed (b ∷ line) h = (h.0.1, without_feed line h.1)

without_append : (m n : List ℕ) → Without 10 m → Without 10 n → Without 10 (m ++ n)
without_append [] n h k = k
without_append (b ∷ m) n h k = (h.0, without_append m n h.1 k)

without_behind : (body : List ℕ) → Without 10 body → Without 10 (behind_space body)
without_behind body h = by (not (length body == 0))
  where
    by : (v : Bool) → Without 10 ((if v then codes " " else []) ++ body)
    by true = (λ is. omega arith, h)
    by false = h

no_memory_body : inner_test (codes "{\"error\":\"memory\"}") ≡ true
unfolding inner_test
no_memory_body = refl

without_body : (status : HttpStatus) (body : List ℕ) → Without 10 body → Without 10 (body_of status body)
without_body Okay body h = h
without_body Created body h = h
without_body Accepted body h = h
without_body NoContent body h = tt
without_body BadRequest body h = h
without_body NotFound body h = h
without_body MethodNotAllowed body h = h
without_body Conflict body h = h
without_body LengthRequired body h = h
without_body ContentTooLarge body h = h
without_body HeaderFieldsTooLarge body h = h
without_body InternalError body h = without_feed (codes "{\"error\":\"memory\"}") (inner_passes (codes "{\"error\":\"memory\"}") no_memory_body)
without_body NotImplemented body h = h
without_body Unavailable body h = h
without_body InsufficientStorage body h = h

behind-some : (b : ℕ) (body : List ℕ) → behind_space (b ∷ body) ≡ 32 ∷ b ∷ body
behind-some b body = let some : (length (b ∷ body) == 0) ≡ false = grind (arith, nat_tests) in rw some refl

behind_same : (s t : List ℕ) → behind_space s ≡ behind_space t → s ≡ t
behind_same [] [] e = refl
behind_same [] (b ∷ t) e = let clash : [] ≡ 32 ∷ b ∷ t = e ∙ behind-some b t in cc
behind_same (b ∷ s) [] e = let clash : 32 ∷ b ∷ s ≡ [] = sym (behind-some b s) ∙ e in cc
behind_same (b ∷ s) (d ∷ t) e = let both : 32 ∷ b ∷ s ≡ 32 ∷ d ∷ t = sym (behind-some b s) ∙ e ∙ behind-some d t in cc

-- a reply line in front of its line feed
abbrev front : HttpStatus → List ℕ → List ℕ
front status body = decimal (status_code status) ++ behind_space (body_of status body)

without_front : (status : HttpStatus) (body : List ℕ) → All (λ b. b ≢ 10) body → Without 10 (front status body)
without_front status body h =
    let three = three_digits status in
    without_append (decimal (status_code status)) (behind_space (body_of status body)) (without_feed (decimal (status_code status)) (inner_passes (decimal (status_code status)) three.inner)) (without_behind (body_of status body) (without_body status body (without_of 10 body h)))

pub one-reply_line : (status other : HttpStatus) (body text rest more : List ℕ) → All (λ b. b ≢ 10) body → All (λ b. b ≢ 10) text
    → reply_line_text status body ++ rest ≡ reply_line_text other text ++ more
    → (status ≡ other) × (body_of status body ≡ body_of other text) × (rest ≡ more)
one-reply_line status other body text rest more h k e =
    let one = three_digits status in
    let two = three_digits other in
    let cut = one_cut 10 (front status body) (front other text) rest more (without_front status body h) (without_front other text k) (sym (append_assoc (front status body) (codes "\n") rest) ∙ e ∙ append_assoc (front other text) (codes "\n") more) in
    let parts = same_front (decimal (status_code status)) (decimal (status_code other)) (behind_space (body_of status body)) (behind_space (body_of other text)) (one.three ∙ sym two.three) cut.0 in (
      one-status status other (decimal_injective (status_code status) (status_code other) one.small two.small parts.0),
      behind_same (body_of status body) (body_of other text) parts.1,
      cut.1,
    )
