-- Why a head is refused, by what its `Content-Length` states.
use Rattle.std.proofs.Common.{◌≡◌, ℕ, ◌-◌, ◌^◌, ◌<◌, ◌∷◌, ◌==◌, Bool, true, false, nat_lt, if◌then◌else◌, List, [], length, min, codes, Result, Ok, Err, None, Some, MatchResult, refl, sym, ap, subst, arith, ◌∙◌}
use Rattle.std.proofs.lemmas.Bool.Decides.{nat_tests}
use Rattle.std.specs.Str.{bytes_eq}
use Rattle.http_conn.specs.declared.head.HeadEnd.{HeadEnd}
use Rattle.http_conn.specs.declared.head.HeadEnd.TheVariants.{BodyTooLarge}
use Rattle.http_conn.specs.declared.framing.Stated.{Stated}
use Rattle.http_conn.specs.declared.framing.Stated.TheVariants.{Nothing, Bytes, Wrong}
use Rattle.http_conn.specs.Fields.{Line}
use Rattle.http_conn.specs.Message.{lacks_host, lengths, has_coding, lacks_length, body_length, refusal_of}
use Rattle.http_conn.specs.Stated.{IsStated, LengthIs}

-- the result is the length of a head that isn't refused, or the cause of the refusal
abbrev pub Judges : List ℕ → ℕ → List Line → Result ℕ HeadEnd → Type 0
Judges method minor lines r =
    MatchResult r (λ _. refusal_of method minor lines ≡ None) (λ e. refusal_of method minor lines ≡ Some e)

-- a number that is kept up to 2 ^ 64 - 1 is over the limit where the number is
over_as_far : (m n : ℕ) → n ≡ min m (2 ^ 64 - 1) → nat_lt 4194304 m ≡ nat_lt 4194304 n
over_as_far m n e = grind (arith, nat_tests)

-- the list isn't empty
not_none : (values : List (List ℕ)) → 0 < length values → (length values == 0) ≡ false
not_none [] some = absurd (omega arith)
not_none (value ∷ values) some = grind (arith, nat_tests)

-- no head with a `Content-Length` lacks one
not_lacking : (method : List ℕ) (lines : List Line) (post : Bool) → 0 < length (lengths lines) → bytes_eq method (codes "POST") ≡ post
    → lacks_length method lines ≡ false
not_lacking method lines true some is_post = rw (is_post, not_none (lengths lines) some) refl
not_lacking method lines false some is_post = rw is_post refl

-- a number over the limit, and one that isn't
is_over : (method : List ℕ) (minor : ℕ) (lines : List Line) (n : ℕ) (post over : Bool) (r : Result ℕ HeadEnd)
    → lacks_host minor lines ≡ false → IsStated lines (Bytes n) → has_coding lines ≡ false → lacks_length method lines ≡ false
    → nat_lt 4194304 n ≡ over → LengthIs (Bytes n) false post r → Judges method minor lines r
is_over method minor lines n post true r host stated is_coding lacks over same =
    let large : nat_lt 4194304 (body_length lines) ≡ true = over_as_far _ n stated.2 ∙ over in
    subst (Judges method minor lines) (sym (same ∙ ap (λ (b : Bool). if b then Err BodyTooLarge else Ok n) over))
    (rw (host, stated.1, is_coding, lacks, large) refl)
is_over method minor lines n post false r host stated is_coding lacks over same =
    let small : nat_lt 4194304 (body_length lines) ≡ false = over_as_far _ n stated.2 ∙ over in
    subst (Judges method minor lines) (sym (same ∙ ap (λ (b : Bool). if b then Err BodyTooLarge else Ok n) over))
    (rw (host, stated.1, is_coding, lacks, small) refl)

pub judged : (method : List ℕ) (minor : ℕ) (lines : List Line) (stated : Stated) (coding post : Bool) (r : Result ℕ HeadEnd)
    → lacks_host minor lines ≡ false → IsStated lines stated → has_coding lines ≡ coding → bytes_eq method (codes "POST") ≡ post
    → LengthIs stated coding post r → Judges method minor lines r
judged method minor lines Wrong coding post r host stated is_coding is_post same =
    subst (Judges method minor lines) (sym same) (rw (host, stated) refl)
judged method minor lines Nothing true post r host stated is_coding is_post same =
    subst (Judges method minor lines) (sym same) (rw (host, stated, is_coding) refl)
judged method minor lines Nothing false true r host stated is_coding is_post same =
    subst (Judges method minor lines) (sym same) (rw (host, stated, is_coding, is_post) refl)
judged method minor lines Nothing false false r host stated is_coding is_post same =
    subst (Judges method minor lines) (sym same) (rw (host, stated, is_coding, is_post) refl)
judged method minor lines (Bytes n) true post r host stated is_coding is_post same =
    subst (Judges method minor lines) (sym same) (rw (host, stated.1, is_coding) refl)
judged method minor lines (Bytes n) false post r host stated is_coding is_post same =
    is_over method minor lines n post (nat_lt 4194304 n) r host stated is_coding (not_lacking method lines post stated.0 is_post) refl same
