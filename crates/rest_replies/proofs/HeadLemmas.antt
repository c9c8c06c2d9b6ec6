-- Where a head ends, and a response.
use Rattle.std.proofs.Common.{◌≡◌, ◌≢◌, ◌==◌, ◌&&◌, not, ℕ, ◌+◌, ◌^◌, ◌<◌, ◌%◌, List, [], ◌∷◌, ◌++◌, length, Bool, true, false, All, refl, sym, ap, subst, ◌∙◌, append_assoc, codes, arith, lit<}
use Rattle.std.specs.List.{AllByRecursion}
use Rattle.std.specs.Fmt.{decimal, digits}
use Rattle.std.proofs.lemmas.Bool.Decides.{nat_tests}
use Rattle.std.proofs.lemmas.Fmt.{decimal_by_steps, decimal_injective}
use Rattle.std.proofs.lemmas.List.Elements.{All-from_recursion, recursion_from_All}
use Rattle.rest_replies.specs.declared.status.HttpStatus.{HttpStatus}
use Rattle.rest_replies.specs.declared.status.HttpStatus.TheVariants.{Okay, Created, Accepted, NoContent, BadRequest, NotFound, MethodNotAllowed, Conflict, LengthRequired, ContentTooLarge, HeaderFieldsTooLarge, InternalError, NotImplemented, Unavailable, InsufficientStorage}
use Rattle.rest_replies.specs.Response.{IsHeadLine, body_sent, has_allow, has_length, head_lines, head_text, line_if, response_text}
use Rattle.rest_replies.specs.Status.{status_line}
use Rattle.rest_replies.proofs.CutLemmas.{Without, one_cut, tail_same}
use Rattle.rest_replies.proofs.StatusLemmas.{one-status_line}

-- a byte inside a line
abbrev pub IsInner : ℕ → Type 0
IsInner b = (b ≢ 13) × (b ≢ 10)

abbrev pub Inner : List ℕ → Type 0
Inner = AllByRecursion IsInner

-- a line, by recursion
record IsLineText (line : List ℕ) : Type 0 where
  some : line ≢ []
  inner : Inner line

abbrev Lines : List (List ℕ) → Type 0
Lines = AllByRecursion IsLineText

without_end : (line : List ℕ) → Inner line → Without 13 line
without_end [] h = tt
without_end (b ∷ line) h = (h.0.0, without_end line h.1)

-- ---- a head has one end

line-first : (l : List ℕ) (ls : List (List ℕ)) (x : List ℕ) → head_text (l ∷ ls) ++ x ≡ l ++ 13 ∷ 10 ∷ (head_text ls ++ x)
line-first l ls x = simp append_assoc

no_line : (k : List ℕ) (x y : List ℕ) → IsLineText k → 13 ∷ x ≡ k ++ y → ⊥
no_line [] x y h e = h.some refl
no_line (b ∷ k) x y h e = h.inner.0.0 (let same : b ≡ 13 = cc in same)

one_head : (ls ks : List (List ℕ)) (x y : List ℕ) → Lines ls → Lines ks → head_text ls ++ x ≡ head_text ks ++ y → (ls ≡ ks) × (x ≡ y)
one_head [] [] x y h k e = (refl, cc)
one_head [] (l ∷ ks) x y h k e = absurd (no_line l (10 ∷ x) (13 ∷ 10 ∷ (head_text ks ++ y)) k.0 (e ∙ line-first l ks y))
one_head (l ∷ ls) [] x y h k e = absurd (no_line l (10 ∷ y) (13 ∷ 10 ∷ (head_text ls ++ x)) h.0 (sym e ∙ line-first l ls x))
one_head (l ∷ ls) (m ∷ ks) x y h k e =
    let both = one_cut 13 l m (10 ∷ (head_text ls ++ x)) (10 ∷ (head_text ks ++ y)) (without_end l h.0.inner) (without_end m k.0.inner) (sym (line-first l ls x) ∙ e ∙ line-first m ks y) in
    let behind : head_text ls ++ x ≡ head_text ks ++ y = let tails = both.1 in cc in
    let rest = one_head ls ks x y h.1 k.1 behind in
    let first = both.0 in
    let others = rest.0 in
    (cc, rest.1)

-- ---- the lines of a response

unfoldable pub inner_test : List ℕ → Bool
inner_test [] = true
inner_test (b ∷ line) = (not (b == 13) && not (b == 10)) && inner_test line

inner_byte : (b : ℕ) (v : Bool) → ((not (b == 13) && not (b == 10)) && v) ≡ true → IsInner b × (v ≡ true)
inner_byte b v e = by (b == 13) (b == 10) refl refl e
  where
    by : (p q : Bool) → (b == 13) ≡ p → (b == 10) ≡ q → ((not p && not q) && v) ≡ true → IsInner b × (v ≡ true)
    by true q f g e = let clash : false ≡ true = e in cc
    by false true f g e = let clash : false ≡ true = e in cc
    by false false f g e =
        ((λ is. let same : (b == 13) ≡ true = grind (arith, nat_tests) in (let clash : true ≡ false = sym same ∙ f in cc), λ is. let same : (b == 10) ≡ true = grind (arith, nat_tests) in (let clash : true ≡ false = sym same ∙ g in cc)), e)

pub inner_passes : (line : List ℕ) → inner_test line ≡ true → Inner line
unfolding inner_test
inner_passes [] e = tt
inner_passes (b ∷ line) e = let both = inner_byte b (inner_test line) e in (both.0, inner_passes line both.1)

inner_append : (m n : List ℕ) → Inner m → Inner n → Inner (m ++ n)
inner_append [] n h k = k
inner_append (b ∷ m) n h k = (h.0, inner_append m n h.1 k)

inner_decimal : (n : ℕ) → n < 2 ^ 64 → Inner (decimal n)
inner_decimal n small =
    decimal_by_steps (λ m ds. Inner ds)
    (λ m low. ((λ is. omega arith, λ is. omega arith), tt))
    (λ m ds high h. inner_append ds ((48 + m % 10) ∷ []) h ((λ is. omega arith, λ is. omega arith), tt))
    n small

inner_status_line : (status : HttpStatus) → inner_test (status_line status) ≡ true
unfolding inner_test digits
inner_status_line Okay = refl
inner_status_line Created = refl
inner_status_line Accepted = refl
inner_status_line NoContent = refl
inner_status_line BadRequest = refl
inner_status_line NotFound = refl
inner_status_line MethodNotAllowed = refl
inner_status_line Conflict = refl
inner_status_line LengthRequired = refl
inner_status_line ContentTooLarge = refl
inner_status_line HeaderFieldsTooLarge = refl
inner_status_line InternalError = refl
inner_status_line NotImplemented = refl
inner_status_line Unavailable = refl
inner_status_line InsufficientStorage = refl

lines_append : (ls ks : List (List ℕ)) → Lines ls → Lines ks → Lines (ls ++ ks)
lines_append [] ks h k = k
lines_append (l ∷ ls) ks h k = (h.0, lines_append ls ks h.1 k)

lines_if : (is_there : Bool) (line : List ℕ) → IsLineText line → Lines (line_if is_there line)
lines_if true line h = (h, tt)
lines_if false line h = tt

-- a line that begins with this text
named_line : (b : ℕ) (name value : List ℕ) → inner_test (b ∷ name) ≡ true → Inner value → IsLineText ((b ∷ name) ++ value)
named_line b name value e h = record { some = λ is. cc; inner = inner_append (b ∷ name) value (inner_passes (b ∷ name) e) h }

close_line : IsLineText (codes "Connection: close")
unfolding inner_test
close_line = record { some = λ is. cc; inner = inner_passes (codes "Connection: close") refl }

type_line : IsLineText (codes "Content-Type: application/json")
unfolding inner_test
type_line = record { some = λ is. cc; inner = inner_passes (codes "Content-Type: application/json") refl }

allow_line : (allow : List ℕ) → Inner allow → IsLineText (codes "Allow: " ++ allow)
unfolding inner_test
allow_line allow h = record { some = λ is. cc; inner = inner_append (codes "Allow: ") allow (inner_passes (codes "Allow: ") refl) h }

length_line : (n : ℕ) → n < 2 ^ 64 → IsLineText (codes "Content-Length: " ++ decimal n)
unfolding inner_test
length_line n small = record { some = λ is. cc; inner = inner_append (codes "Content-Length: ") (decimal n) (inner_passes (codes "Content-Length: ") refl) (inner_decimal n small) }

first_line : (status : HttpStatus) → IsLineText (status_line status)
first_line status = record { some = λ is. cc; inner = inner_passes (status_line status) (inner_status_line status) }

are_lines : (close : Bool) (status : HttpStatus) (allow body : List ℕ) → Inner allow → length body < 2 ^ 64 → Lines (head_lines close status allow body)
are_lines close status allow body h small = (
  first_line status,
  lines_append _ _
      (lines_append _ _
      (lines_append _ _ (lines_if close (codes "Connection: close") close_line) (lines_if (has_allow status) (codes "Allow: " ++ allow) (allow_line allow h)))
      (lines_if (not (length body == 0)) (codes "Content-Type: application/json") type_line))
      (lines_if (has_length status) (codes "Content-Length: " ++ decimal (length body)) (length_line (length body) small)),
)

line_is : (line : List ℕ) → IsLineText line → IsHeadLine line
line_is line h = record { some = h.some; inside = All-from_recursion IsInner line h.inner }

lines_are : (ls : List (List ℕ)) → Lines ls → AllByRecursion IsHeadLine ls
lines_are [] h = tt
lines_are (l ∷ ls) h = (line_is l h.0, lines_are ls h.1)

pub heads-lines : (close : Bool) (status : HttpStatus) (allow body : List ℕ) → All (λ b. (b ≢ 13) × (b ≢ 10)) allow → length body < 2 ^ 64
    → All IsHeadLine (head_lines close status allow body)
heads-lines close status allow body h small =
    All-from_recursion IsHeadLine (head_lines close status allow body) (lines_are (head_lines close status allow body) (are_lines close status allow body (recursion_from_All IsInner allow h) small))

-- ---- one response

last_same : (xs ys : List (List ℕ)) (l m : List ℕ) → xs ++ l ∷ [] ≡ ys ++ m ∷ [] → l ≡ m
last_same [] [] l m e = cc
last_same [] (y ∷ []) l m e = cc
last_same [] (y ∷ z ∷ ys) l m e = cc
last_same (x ∷ []) [] l m e = cc
last_same (x ∷ z ∷ xs) [] l m e = cc
last_same (x ∷ xs) (y ∷ ys) l m e = last_same xs ys l m (let tails : xs ++ l ∷ [] ≡ ys ++ m ∷ [] = cc in tails)

pub same_front : (s t x y : List ℕ) → length s ≡ length t → s ++ x ≡ t ++ y → (s ≡ t) × (x ≡ y)
same_front [] [] x y n e = (refl, e)
same_front [] (b ∷ t) x y n e = absurd (omega arith)
same_front (b ∷ s) [] x y n e = absurd (omega arith)
same_front (b ∷ s) (d ∷ t) x y n e =
    let tails : s ++ x ≡ t ++ y = cc in
    let rest = same_front s t x y (omega arith) tails in
    let front = rest.0 in
    let heads : b ≡ d = cc in
    (cc, rest.1)

-- the lines in front of the one that tells the length, which is the last
abbrev earlier_lines : Bool → HttpStatus → List ℕ → List ℕ → List (List ℕ)
earlier_lines close status allow body =
    status_line status ∷ (line_if close (codes "Connection: close") ++ line_if (has_allow status) (codes "Allow: " ++ allow) ++ line_if (not (length body == 0)) (codes "Content-Type: application/json"))

told-last : (close : Bool) (status : HttpStatus) (allow body : List ℕ) → has_length status ≡ true
    → head_lines close status allow body ≡ earlier_lines close status allow body ++ (codes "Content-Length: " ++ decimal (length body)) ∷ []
told-last close status allow body e = rw e refl

one_length : (close other : Bool) (status : HttpStatus) (allow methods s t : List ℕ) → length s < 2 ^ 64 → length t < 2 ^ 64 → has_length status ≡ true
    → head_lines close status allow s ≡ head_lines other status methods t → length s ≡ length t
one_length close other status allow methods s t small least e same =
    let last = last_same (earlier_lines close status allow s) (earlier_lines other status methods t) (codes "Content-Length: " ++ decimal (length s)) (codes "Content-Length: " ++ decimal (length t)) (sym (told-last close status allow s e) ∙ same ∙ told-last other status methods t e) in
    decimal_injective (length s) (length t) small least (tail_same (codes "Content-Length: ") (decimal (length s)) (decimal (length t)) last)

-- a response whose length isn't told has no body
no_body : (is_head : Bool) (status : HttpStatus) (body : List ℕ) → has_length status ≡ false → body_sent is_head status body ≡ []
no_body true status body e = refl
no_body false NoContent body e = refl
no_body false Okay body e = cc
no_body false Created body e = cc
no_body false Accepted body e = cc
no_body false BadRequest body e = cc
no_body false NotFound body e = cc
no_body false MethodNotAllowed body e = cc
no_body false Conflict body e = cc
no_body false LengthRequired body e = cc
no_body false ContentTooLarge body e = cc
no_body false HeaderFieldsTooLarge body e = cc
no_body false InternalError body e = cc
no_body false NotImplemented body e = cc
no_body false Unavailable body e = cc
no_body false InsufficientStorage body e = cc

-- responses with the same lines have bodies of one length
one_body : (is_head close other : Bool) (status told : HttpStatus) (allow methods body text : List ℕ)
    → length (body_sent is_head status body) < 2 ^ 64 → length (body_sent is_head told text) < 2 ^ 64 → status ≡ told
    → head_lines close status allow (body_sent is_head status body) ≡ head_lines other told methods (body_sent is_head told text)
    → length (body_sent is_head status body) ≡ length (body_sent is_head told text)
one_body is_head close other status told allow methods body text small least same lines =
    subst (λ t. length (body_sent is_head t text) < 2 ^ 64 → head_lines close status allow (body_sent is_head status body) ≡ head_lines other t methods (body_sent is_head t text)
    → length (body_sent is_head status body) ≡ length (body_sent is_head t text)) same (by (has_length status) refl) least lines
  where
    by : (v : Bool) → has_length status ≡ v → length (body_sent is_head status text) < 2 ^ 64
        → head_lines close status allow (body_sent is_head status body) ≡ head_lines other status methods (body_sent is_head status text)
        → length (body_sent is_head status body) ≡ length (body_sent is_head status text)
    by true e few is = one_length close other status allow methods (body_sent is_head status body) (body_sent is_head status text) small few e is
    by false e few is = ap length (no_body is_head status body e ∙ sym (no_body is_head status text e))

sent_small : (is_head : Bool) (status : HttpStatus) (body : List ℕ) → length body < 2 ^ 64 → length (body_sent is_head status body) < 2 ^ 64
sent_small true status body h = lit< tt
sent_small false NoContent body h = lit< tt
sent_small false Okay body h = h
sent_small false Created body h = h
sent_small false Accepted body h = h
sent_small false BadRequest body h = h
sent_small false NotFound body h = h
sent_small false MethodNotAllowed body h = h
sent_small false Conflict body h = h
sent_small false LengthRequired body h = h
sent_small false ContentTooLarge body h = h
sent_small false HeaderFieldsTooLarge body h = h
sent_small false InternalError body h = lit< tt
sent_small false NotImplemented body h = h
sent_small false Unavailable body h = h
sent_small false InsufficientStorage body h = h

pub one-response : (is_head close other_close : Bool) (status other : HttpStatus) (allow methods body text rest more : List ℕ)
    → All (λ b. (b ≢ 13) × (b ≢ 10)) allow → All (λ b. (b ≢ 13) × (b ≢ 10)) methods
    → length body < 2 ^ 64 → length text < 2 ^ 64
    → response_text is_head close status allow body ++ rest ≡ response_text is_head other_close other methods text ++ more
    → (status ≡ other) × (body_sent is_head status body ≡ body_sent is_head other text) × (rest ≡ more)
one-response is_head close other_close status other allow methods body text rest more h k small least e =
    let s = body_sent is_head status body in
    let t = body_sent is_head other text in
    let short = sent_small is_head status body small in
    let brief = sent_small is_head other text least in
    let lines = are_lines close status allow s (recursion_from_All IsInner allow h) short in
    let others = are_lines other_close other methods t (recursion_from_All IsInner methods k) brief in
    let heads = one_head (head_lines close status allow s) (head_lines other_close other methods t) (s ++ rest) (t ++ more) lines others
    (sym (append_assoc (head_text (head_lines close status allow s)) s rest) ∙ e ∙ append_assoc (head_text (head_lines other_close other methods t)) t more) in
    let first : status_line status ≡ status_line other = let same = heads.0 in cc in
    let same = one-status_line status other first in
    let bodies = one_body is_head close other_close status other allow methods body text short brief same heads.0 in
    let both = same_front s t rest more bodies heads.1 in
    (same, both.0, both.1)
