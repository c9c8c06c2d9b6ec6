-- Reading escapes from the front, and the kit's decoder.
use Rattle.std.proofs.Common.{◌≡◌, ℕ, ◌+◌, ◌*◌, ◌<◌, ◌≤◌, List, length, drop, get_or, [], ◌∷◌, Option, Some, None, is_some, Bool, true, false, refl, sym, ap, ◌∙◌, arith, ◌==◌, ◌&&◌, ◌||◌}
use Rattle.std.proofs.lemmas.Bool.Decides.{nat_tests}
use Rattle.std.specs.Char.{is_digit, digit_value, is_ascii_hexdigit}
use Rattle.percent_encoding.specs.Percent.{percent_decode}
use Rattle.rest_routes.specs.Escapes.{percent, byte_before, unescaped}

pub hex-digit : (c : ℕ) → is_ascii_hexdigit c ≡ is_digit c 16
hex-digit c = grind (arith, nat_tests)

is_some-byte_before : (b : ℕ) (o : Option (List ℕ)) → is_some (byte_before b o) ≡ is_some o
is_some-byte_before b None = refl
is_some-byte_before b (Some bs) = refl

-- another byte in front
pub whole-other : (b : ℕ) (rest : List ℕ) → (b == percent) ≡ false → is_some (unescaped (b ∷ rest)) ≡ is_some (unescaped rest)
whole-other b [] n = rw n refl
whole-other b (c ∷ []) n = by (c == percent) refl
  where
    by : (v : Bool) → (c == percent) ≡ v → is_some (unescaped (b ∷ c ∷ [])) ≡ is_some (unescaped (c ∷ []))
    by true e = rw (n, e) refl
    by false e = rw (n, e) refl
whole-other b (c ∷ d ∷ rest) n = rw n (is_some-byte_before b (unescaped (c ∷ d ∷ rest)))

-- an escape in front
pub whole-escape : (bs : List ℕ) → 2 ≤ length bs → is_ascii_hexdigit (get_or bs 0 0) ≡ true → is_ascii_hexdigit (get_or bs 1 0) ≡ true
    → is_some (unescaped (percent ∷ bs)) ≡ is_some (unescaped (drop 2 bs))
whole-escape [] n h l = elim n [ ]
whole-escape (high ∷ []) n h l = absurd (omega arith)
whole-escape (high ∷ low ∷ rest) n h l =
    let a : is_digit high 16 ≡ true = sym (hex-digit high) ∙ h in
    let b : is_digit low 16 ≡ true = sym (hex-digit low) ∙ l in
    rw (a, b) (is_some-byte_before (16 * digit_value high + digit_value low) (unescaped rest))

-- a `%` without an escape in front
pub short-escape : (bs : List ℕ) → length bs < 2 → is_some (unescaped (percent ∷ bs)) ≡ false
short-escape [] n = refl
short-escape (c ∷ []) n = refl
short-escape (high ∷ low ∷ rest) n = absurd (omega arith)

broken-escape : (bs : List ℕ) → (is_ascii_hexdigit (get_or bs 0 0) && is_ascii_hexdigit (get_or bs 1 0)) ≡ false
    → is_some (unescaped (percent ∷ bs)) ≡ false
broken-escape [] h = refl
broken-escape (c ∷ []) h = refl
broken-escape (high ∷ low ∷ rest) h =
    let e : (is_digit high 16 && is_digit low 16) ≡ false = rw (← hex-digit high, ← hex-digit low) h in
    rw e refl

and-false : (a b : Bool) → b ≡ false → (a && b) ≡ false
and-false true b e = e
and-false false b e = refl

pub broken-high : (bs : List ℕ) → is_ascii_hexdigit (get_or bs 0 0) ≡ false → is_some (unescaped (percent ∷ bs)) ≡ false
broken-high bs e =
    broken-escape bs (ap (λ z. z && is_ascii_hexdigit (get_or bs 1 0)) e)

pub broken-low : (bs : List ℕ) → is_ascii_hexdigit (get_or bs 1 0) ≡ false → is_some (unescaped (percent ∷ bs)) ≡ false
broken-low bs e =
    broken-escape bs (and-false (is_ascii_hexdigit (get_or bs 0 0)) (is_ascii_hexdigit (get_or bs 1 0)) e)

pub percent-front : (bs : List ℕ) → 0 < length bs → get_or bs 0 0 ≡ 37 → unescaped bs ≡ unescaped (percent ∷ drop 1 bs)
percent-front [] n e = elim n [ ]
percent-front (b ∷ bs) n e = ap (λ z. unescaped (z ∷ bs)) e

-- what can be read is what the decoder gives
pub unescaped-decode : (bs : List ℕ) → is_some (unescaped bs) ≡ true → unescaped bs ≡ Some (percent_decode bs)
unfolding percent_decode
unescaped-decode [] h = refl
unescaped-decode (b ∷ []) h = by (b == percent) refl
  where
    by : (v : Bool) → (b == percent) ≡ v → unescaped (b ∷ []) ≡ Some (b ∷ [])
    by true e = cc
    by false e = rw e refl
unescaped-decode (b ∷ c ∷ []) h = by (b == percent || c == percent) refl
  where
    by : (v : Bool) → (b == percent || c == percent) ≡ v → unescaped (b ∷ c ∷ []) ≡ Some (b ∷ c ∷ [])
    by true e = cc
    by false e = rw e refl
unescaped-decode (b ∷ high ∷ low ∷ rest) h =
    by (b == percent) refl (is_digit high 16 && is_digit low 16) refl h (unescaped-decode rest) (unescaped-decode (high ∷ low ∷ rest))
  where
    by : (v : Bool) → (b == percent) ≡ v → (u : Bool) → (is_digit high 16 && is_digit low 16) ≡ u
        → is_some (unescaped (b ∷ high ∷ low ∷ rest)) ≡ true
        → (is_some (unescaped rest) ≡ true → unescaped rest ≡ Some (percent_decode rest))
        → (is_some (unescaped (high ∷ low ∷ rest)) ≡ true → unescaped (high ∷ low ∷ rest) ≡ Some (percent_decode (high ∷ low ∷ rest)))
        → unescaped (b ∷ high ∷ low ∷ rest) ≡ Some (percent_decode (b ∷ high ∷ low ∷ rest))
    by true e true f h2 one more =
        let n = 16 * digit_value high + digit_value low in
        let whole : is_some (byte_before n (unescaped rest)) ≡ true = rw (e, f) at h2 in
        rw (e, f) (ap (byte_before n) (one (sym (is_some-byte_before n (unescaped rest)) ∙ whole)))
    by true e false f h2 one more =
        let no : false ≡ true = rw (e, f) at h2 in
        cc
    by false e u f h2 one more =
        let whole : is_some (byte_before b (unescaped (high ∷ low ∷ rest))) ≡ true = rw e at h2 in
        rw e (ap (byte_before b) (more (sym (is_some-byte_before b (unescaped (high ∷ low ∷ rest))) ∙ whole)))
