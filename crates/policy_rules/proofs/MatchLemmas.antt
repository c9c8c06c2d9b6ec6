-- Matching behind bytes that a pattern and a name share, and behind a star.
use Rattle.std.proofs.Common.{◌≡◌, ◌≢◌, ◌↔◌, ℕ, ◌≤◌, ◌-◌, Bool, true, false, eqb, take, drop, take_all, List, [], ◌∷◌, ◌++◌, length, refl, sym, ap, subst, ◌∙◌, inl, inr, arith, append_assoc, length-append}
use Rattle.std.proofs.Math.Logic.{⊎_elim}
use Rattle.std.specs.List.{All}
use Rattle.std.proofs.lemmas.Bool.{eqb-true, eq-eqb, both_ways}
use Rattle.std.proofs.lemmas.List.Elements.{All-head, All-tail}
use Rattle.policy_rules.specs.Matching.{Matches}
use Rattle.policy_rules.specs.Literals.{IsLeft}

-- ---- the two forms of a byte

-- any run, and then a name that the pattern matches
abbrev Starred : List ℕ → List ℕ → Type 0
Starred pattern name = (run : List ℕ) × (rest : List ℕ) × (name ≡ run ++ rest) × Matches pattern rest

starred_of : (pattern name : List ℕ) → Matches (42 ∷ pattern) name → Starred pattern name
starred_of pattern name m = ⊎_elim (λ star. star.1) (λ other. absurd (other.0 refl)) m

starred : (pattern name : List ℕ) → Starred pattern name → Matches (42 ∷ pattern) name
starred pattern name s = inl (refl, s)

-- a star takes more
more : (pattern front name : List ℕ) → Matches (42 ∷ pattern) name → Matches (42 ∷ pattern) (front ++ name)
more pattern front name m =
    let s = starred_of pattern name m in
    starred pattern (front ++ name) (front ++ s.0, s.1, ap (λ l. front ++ l) s.2 ∙ sym (append_assoc front s.0 s.1), s.3)

-- a byte that is no star
abbrev IsLiteral : ℕ → Type 0
IsLiteral byte = byte ≢ 42

literal_of : (byte : ℕ) (pattern name : List ℕ) → IsLiteral byte → Matches (byte ∷ pattern) name → (rest : List ℕ) × (name ≡ byte ∷ rest) × Matches pattern rest
literal_of byte pattern name ne m = ⊎_elim (λ star. absurd (ne star.0)) (λ other. other.1) m

-- ---- literal bytes in front

front_from : (common pattern name : List ℕ) → All IsLiteral common → Matches pattern name → Matches (common ++ pattern) (common ++ name)
front_from [] pattern name literal m = m
front_from (byte ∷ common) pattern name literal m =
    inr (All-head IsLiteral byte common literal, (common ++ name, refl, front_from common pattern name (All-tail IsLiteral byte common literal) m))

front_of : (common pattern name : List ℕ) → All IsLiteral common → Matches (common ++ pattern) name → (rest : List ℕ) × (name ≡ common ++ rest) × Matches pattern rest
front_of [] pattern name literal m = (name, refl, m)
front_of (byte ∷ common) pattern name literal m =
    let r = literal_of byte (common ++ pattern) name (All-head IsLiteral byte common literal) m in
    let s = front_of common pattern r.0 (All-tail IsLiteral byte common literal) r.2 in
    (s.0, r.1 ∙ ap (λ l. byte ∷ l) s.1, s.2)

same_behind : (front xs ys : List ℕ) → front ++ xs ≡ front ++ ys → xs ≡ ys
same_behind [] xs ys same = same
same_behind (x ∷ front) xs ys same = same_behind front xs ys (cc)

is_nil : (xs : List ℕ) → length xs ≡ 0 → xs ≡ []
is_nil [] e = refl
is_nil (x ∷ xs) e = absurd (omega (arith, e))

-- of two ends of one list the longer one ends in the other
ends_in : (a b s t : List ℕ) → a ++ s ≡ b ++ t → length t ≤ length s → (x : List ℕ) × (s ≡ x ++ t)
ends_in [] b s t same long = (b, same)
ends_in (y ∷ a) [] s t same long =
    let e : length (y ∷ (a ++ s)) ≡ length t = ap length same in absurd (omega (arith, e, long, length-append a s))
ends_in (y ∷ a) (z ∷ b) s t same long = ends_in a b s t (cc) long

-- ---- what is left behind the common bytes

left_matches : (pattern name rest left : List ℕ) → IsLeft pattern name rest left → Matches pattern name ↔ Matches rest left
left_matches pattern name rest left h =
    let P : List ℕ → Type 0 = λ p. Matches p name in
    let Q : List ℕ → Type 0 = λ n. Matches (h.common ++ rest) n in (
      λ m. let r = front_of h.common rest name h.literal (subst P h.pattern_is m) in let same : left ≡ r.0 = same_behind h.common left r.0 (sym h.name_is ∙ r.1) in let R : List ℕ → Type 0 = λ n. Matches rest n in subst R (sym same) r.2,
      λ m. subst P (sym h.pattern_is) (subst Q (sym h.name_is) (front_from h.common rest left h.literal m)),
    )

-- neither begins with a star, so only nothing matches nothing
pub stuck : (pattern name rest left : List ℕ) → IsLeft pattern name rest left → ((behind : List ℕ) → rest ≢ 42 ∷ behind) → Matches rest left → (rest ≡ []) × (left ≡ [])
stuck pattern name [] left h ne m = (refl, m)
stuck pattern name (byte ∷ rest) left h ne m =
    let literal : IsLiteral byte = λ star. ne rest (ap (λ b. b ∷ rest) star) in
    let r = literal_of byte rest left literal m in
    absurd (literal (h.longest byte rest r.0 refl r.1))

pub nothing_matches : Matches [] []
nothing_matches = refl

-- ---- a pattern without a star in front of it

pub plain_star : (pattern name rest left behind : List ℕ) → IsLeft pattern name rest left → rest ≡ 42 ∷ behind → Matches pattern name ↔ Matches (42 ∷ behind) left
plain_star pattern name rest left behind h is =
    let P : List ℕ → Type 0 = λ r. Matches r left in
    let both = left_matches pattern name rest left h in
    (λ m. subst P is (both.0 m), λ m. both.1 (subst P (sym is) m))

pub plain_stuck : (pattern name rest left : List ℕ) → IsLeft pattern name rest left → ((behind : List ℕ) → rest ≢ 42 ∷ behind) → Matches pattern name ↔ ((rest ≡ []) × (left ≡ []))
plain_stuck pattern name rest left h ne =
    let both = left_matches pattern name rest left h in
    let P : List ℕ → Type 0 = λ r. Matches r left in (
      λ m. stuck pattern name rest left h ne (both.0 m),
      λ e. both.1 (subst P (sym e.0) e.1),
    )

-- ---- a pattern with a star in front of it

-- the first star can leave all that it takes beyond the common bytes to the next one
pub next_star : (pattern name rest left behind : List ℕ) → IsLeft pattern name rest left → rest ≡ 42 ∷ behind → Matches (42 ∷ pattern) name ↔ Matches (42 ∷ behind) left
next_star pattern name rest left behind h is = (
  λ m.
      let s = starred_of pattern name m in
      let P : List ℕ → Type 0 = λ p. Matches p s.1 in
      let r = front_of h.common rest s.1 h.literal (subst P h.pattern_is s.3) in
      let same : h.common ++ left ≡ (s.0 ++ h.common) ++ r.0 =
      sym h.name_is ∙ s.2 ∙ ap (λ l. s.0 ++ l) r.1 ∙ sym (append_assoc s.0 h.common r.0) in
      let long : length r.0 ≤ length left =
      omega (arith, ap length same, length-append h.common left, length-append (s.0 ++ h.common) r.0, length-append s.0 h.common) in
      let e = ends_in h.common (s.0 ++ h.common) left r.0 same long in
      let Q : List ℕ → Type 0 = λ p. Matches p r.0 in
      let R : List ℕ → Type 0 = λ n. Matches (42 ∷ behind) n in
      subst R (sym e.1) (more behind e.0 r.0 (subst Q is r.2)),
  λ m.
      let both = left_matches pattern name rest left h in
      let P : List ℕ → Type 0 = λ r. Matches r left in
      starred pattern name ([], name, refl, both.1 (subst P (sym is) m)),
)

-- where nothing of the name is left, nothing of the pattern may be
pub at_end : (pattern name rest left : List ℕ) → IsLeft pattern name rest left → ((behind : List ℕ) → rest ≢ 42 ∷ behind) → left ≡ [] → Matches (42 ∷ pattern) name ↔ (rest ≡ [])
at_end pattern name rest left h ne none = (
  λ m.
      let s = starred_of pattern name m in
      let P : List ℕ → Type 0 = λ p. Matches p s.1 in
      let r = front_of h.common rest s.1 h.literal (subst P h.pattern_is s.3) in
      let same : h.common ++ left ≡ (s.0 ++ h.common) ++ r.0 =
      sym h.name_is ∙ s.2 ∙ ap (λ l. s.0 ++ l) r.1 ∙ sym (append_assoc s.0 h.common r.0) in
      let long : length r.0 ≤ length left =
      omega (arith, ap length same, length-append h.common left, length-append (s.0 ++ h.common) r.0, length-append s.0 h.common) in
      let e = ends_in h.common (s.0 ++ h.common) left r.0 same long in
      let short : length r.0 ≡ 0 = omega (arith, long, ap length none) in
      let Q : List ℕ → Type 0 = λ n. Matches rest n in
      let nothing : r.0 ≡ left = is_nil r.0 short ∙ sym none in
      (stuck pattern name rest left h ne (subst Q nothing r.2)).0,
  λ e.
      let both = left_matches pattern name rest left h in
      let P : List ℕ → Type 0 = λ r. Matches r left in
      starred pattern name ([], name, refl, both.1 (subst P (sym e) none)),
)

-- where the bytes behind it don't fit, the star takes one byte more
pub one_more : (pattern rest left : List ℕ) (byte : ℕ) (name : List ℕ) → IsLeft pattern (byte ∷ name) rest left → ((behind : List ℕ) → rest ≢ 42 ∷ behind) → left ≢ [] → Matches (42 ∷ pattern) (byte ∷ name) ↔ Matches (42 ∷ pattern) name
one_more pattern rest left byte name h ne some = (
  λ m. let s = starred_of pattern (byte ∷ name) m in taken s.0 s.1 s.2 s.3,
  λ m. more pattern (byte ∷ []) name m,
)
  where
    taken : (run end : List ℕ) → byte ∷ name ≡ run ++ end → Matches pattern end → Matches (42 ∷ pattern) name
    taken [] end is m =
        let P : List ℕ → Type 0 = λ n. Matches pattern n in
        absurd (some ((stuck pattern (byte ∷ name) rest left h ne ((left_matches pattern (byte ∷ name) rest left h).0 (subst P (sym is) m))).1))
    taken (x ∷ run) end is m = let tail : name ≡ run ++ end = cc in starred pattern name (run, end, tail, m)

-- the same of a name that isn't split yet
pub one_less : (pattern name rest left : List ℕ) → IsLeft pattern name rest left → ((behind : List ℕ) → rest ≢ 42 ∷ behind) → left ≢ [] → Matches (42 ∷ pattern) name ↔ Matches (42 ∷ pattern) (take (length name - 1) (drop 1 name))
one_less pattern [] rest left h ne some =
    let e : length (h.common ++ left) ≡ 0 = sym (ap length h.name_is) in
    absurd (some (is_nil left (omega (arith, e, length-append h.common left))))
one_less pattern (byte ∷ name) rest left h ne some =
    rw (take_all (length (byte ∷ name) - 1) name (omega arith)) (one_more pattern rest left byte name h ne some)

-- two tests in a row
pub both_ways_on : (A B C : Type 0) → A ↔ B → B ↔ C → A ↔ C
both_ways_on A B C first second = (λ a. second.0 (first.0 a), λ c. first.1 (second.1 c))

pub other_way : (A B : Type 0) → A ↔ B → B ↔ A
other_way A B both = (both.1, both.0)

-- a list is empty
pub is_empty_iff : (xs : List ℕ) (b : Bool) → b ≡ eqb (length xs) 0 → (b ≡ true) ↔ (xs ≡ [])
is_empty_iff xs b is = (
  λ t. is_nil xs (eqb-true (length xs) 0 (sym is ∙ t)),
  λ e. is ∙ eq-eqb (length xs) 0 (ap length e),
)

pub not_empty : (xs : List ℕ) (b : Bool) → b ≡ eqb (length xs) 0 → b ≡ false → xs ≢ []
not_empty xs b is fails e = both_ways b fails ((is_empty_iff xs b is).1 e)
