-- The kinds of a policy as the bits of a number.
use Rattle.std.proofs.Common.{◌≡◌, ℕ, suc, ◌+◌, ◌-◌, ◌*◌, ◌/◌, ◌%◌, ◌^◌, ◌<◌, ◌≤◌, Bool, true, false, cond, eqb, inl, inr, List, [], ◌∷◌, ◌++◌, length, map, take, get_or, Option, Some, None, refl, sym, ap, ◌∙◌, arith, lit<}
use Rattle.std.specs.List.{filter}
use Rattle.std.specs.List.Sorted.{IsStrictlyIncreasing}
use Rattle.std.proofs.lemmas.Bool.{cases_lt, eqb-true}
use Rattle.std.proofs.lemmas.Nat.{shr-shr, mod-pow-add, div-mul-add, pow-add}
use Rattle.std.proofs.Math.Nat.{mul_assoc}
use Rattle.std.proofs.lemmas.List.{append-nil}
use Rattle.std.proofs.lemmas.List.Elements.{filter_more}
use Rattle.std.proofs.lemmas.List.Sums.{sum_by-cons}
use Rattle.std.proofs.lemmas.Option.{get_or_from_slice_get, slice_get_within}
use Rattle.std.specs.Prelude.{slice_get}
use Rattle.std.proofs.Math.Pow.{pow_mono}
use Rattle.std.proofs.lemmas.Bool.Decides.{nat_tests}
use Rattle.archive_policy.specs.declared.kind.Kind.{Kind}
use Rattle.archive_policy.specs.declared.kind.Kind.TheVariants.{Mean}
use Rattle.archive_policy.specs.Kinds.{all_kinds, kind_index}
use Rattle.archive_policy.proofs.KindLemmas.{same_place, place_below, place_at, at_place, only_place}
use Rattle.archive_policy.proofs.Rising.{Above, Rises, Rises_from_rising}
use Rattle.gno_codec.specs.Policy.{kind_bits}
use Rattle.gno_codec.specs.PolicyReading.{has_bit, kinds_with}

pow_more : (i : ℕ) → 2 ^ (i + 1) ≡ 2 * 2 ^ i
pow_more i = omega (arith, pow-add 2 i 1)

-- kinds that stand at the places from i on
abbrev AreFrom : ℕ → List Kind → Type 0
AreFrom i [] = Unit {0}
AreFrom i (kind ∷ kinds) = (kind_index kind ≡ i) × AreFrom (i + 1) kinds

table_from : AreFrom 0 all_kinds
table_from = (refl, (refl, (refl, (refl, (refl, (refl, (refl, (refl, (refl, (refl, (refl, (refl, (refl, (refl, (refl, (refl, tt))))))))))))))))

-- ---- the number that kinds with set bits make

odd : (q : ℕ) → eqb (q % 2) 1 ≡ true → q % 2 ≡ 1
odd q e = eqb-true _ _ e

even : (q : ℕ) → eqb (q % 2) 1 ≡ false → q % 2 ≡ 0
even q e = grind (arith, nat_tests)

-- one bit, and the bits above it
one_bit : (b : Bool) (q m p : ℕ) → eqb (q % 2) 1 ≡ b → cond b p 0 + m * (2 * p) ≡ (m * 2 + q % 2) * p
one_bit true q m p e =
    let r : q % 2 ≡ 1 = odd q e in
    ap (λ (x : ℕ). p + x) (swapped m p) ∙ regrouped m p ∙ ap (λ (x : ℕ). (m * 2 + x) * p) (sym r)
  where
    swapped : (m p : ℕ) → m * (2 * p) ≡ m * 2 * p
    swapped m p = sym (mul_assoc m 2 p)

    regrouped : (m p : ℕ) → p + m * 2 * p ≡ (m * 2 + 1) * p
    regrouped m p = omega arith
one_bit false q m p e =
    let r : q % 2 ≡ 0 = even q e in
    no_more (m * (2 * p)) ∙ sym (mul_assoc m 2 p) ∙ ap (λ (x : ℕ). x * p) (plain m) ∙ ap (λ (x : ℕ). (m * 2 + x) * p) (sym r)
  where
    plain : (m : ℕ) → m * 2 ≡ m * 2 + 0
    plain m = omega arith

    no_more : (n : ℕ) → 0 + n ≡ n
    no_more n = omega arith

kept_sum : (b : Bool) (kind : Kind) (kinds : List Kind) → kind_bits (cond b (kind ∷ kinds) kinds) ≡ cond b (2 ^ kind_index kind) 0 + kind_bits kinds
kept_sum true kind kinds = sum_by-cons (λ (k : Kind). 2 ^ kind_index k) kind kinds
kept_sum false kind kinds = omega arith

bits_from : (i : ℕ) (kinds : List Kind) (bits : ℕ) → AreFrom i kinds → kind_bits (filter (λ kind. has_bit bits (kind_index kind)) kinds) ≡ bits / 2 ^ i % 2 ^ length kinds * 2 ^ i
bits_from i [] bits from =
    let none : bits / 2 ^ i % 1 ≡ 0 = omega arith in
    nothing (2 ^ i) ∙ ap (λ (x : ℕ). x * 2 ^ i) (sym none)
  where
    nothing : (p : ℕ) → 0 ≡ 0 * p
    nothing p = omega arith
bits_from i (kind ∷ kinds) bits from =
    let p = 2 ^ i in
    let n = length kinds in
    let q = bits / p in
    let m = q / 2 % 2 ^ n in
    let others = filter (λ k. has_bit bits (kind_index k)) kinds in
    let b = has_bit bits (kind_index kind) in
    let up : bits / 2 ^ (i + 1) ≡ q / 2 = sym (shr-shr bits i 1) in
    let above : kind_bits others ≡ m * (2 * p) = bits_from (i + 1) kinds bits from.1 ∙ ap (λ (x : ℕ). x % 2 ^ n * 2 ^ (i + 1)) up ∙ ap (λ (x : ℕ). m * x) (pow_more i) in
    let place : 2 ^ kind_index kind ≡ p = ap (λ (x : ℕ). 2 ^ x) from.0 in
    let own : eqb (q % 2) 1 ≡ b = ap (λ (x : ℕ). eqb (bits / 2 ^ x % 2) 1) (sym from.0) in
    let count : 2 ^ suc n ≡ 2 ^ (n + 1) = ap (λ (x : ℕ). 2 ^ x) (suc_more n) in
    kept_sum b kind others ∙ ap (λ (x : ℕ). cond b x 0 + kind_bits others) place ∙ ap (λ (x : ℕ). cond b p 0 + x) above
    ∙ one_bit b q m p own ∙ ap (λ (x : ℕ). x * p) (sym (mod-pow-add q n 1)) ∙ ap (λ (x : ℕ). q % x * p) (sym count)
  where
    suc_more : (n : ℕ) → suc n ≡ n + 1
    suc_more n = omega arith

-- a number of sixteen bits is that of its kinds
pub bits_again : (bits : ℕ) → bits < 2 ^ 16 → kind_bits (kinds_with bits) ≡ bits
bits_again bits lt =
    let one : bits / 1 ≡ bits = omega arith in
    let small : bits % 2 ^ 16 ≡ bits = omega arith in
    bits_from 0 all_kinds bits table_from ∙ ap (λ (x : ℕ). x % 2 ^ 16 * 1) one ∙ ap (λ (x : ℕ). x * 1) small ∙ mul_one bits
  where
    mul_one : (n : ℕ) → n * 1 ≡ n
    mul_one n = omega arith

-- ---- the kinds of the number that kinds make

-- none is before the place i
abbrev NoneBefore : ℕ → List Kind → Type 0
NoneBefore i [] = Unit {0}
NoneBefore i (kind ∷ kinds) = (i ≤ kind_index kind) × NoneBefore i kinds

above_none : (n : ℕ) (kinds : List Kind) → Above n (map kind_index kinds) → NoneBefore (n + 1) kinds
above_none n [] h = tt
above_none n (kind ∷ kinds) h = (omega (arith, h.0), above_none n kinds h.1)

-- what stands from a place on is a multiple of its bit
multiple : (i : ℕ) (kinds : List Kind) → NoneBefore i kinds → (m : ℕ) × (kind_bits kinds ≡ m * 2 ^ i)
multiple i [] h = (0, nothing (2 ^ i))
  where
    nothing : (p : ℕ) → 0 ≡ 0 * p
    nothing p = omega arith
multiple i (kind ∷ kinds) h =
    let r = multiple i kinds h.1 in
    let d = kind_index kind - i in
    let up : kind_index kind ≡ d + i = omega (arith, h.0) in
    let own : 2 ^ kind_index kind ≡ 2 ^ d * 2 ^ i = ap (λ (x : ℕ). 2 ^ x) up ∙ pow-add 2 d i in
    (2 ^ d + r.0, sum_by-cons (λ (k : Kind). 2 ^ kind_index k) kind kinds ∙ ap (λ (x : ℕ). x + kind_bits kinds) own ∙ ap (λ (x : ℕ). 2 ^ d * 2 ^ i + x) r.1 ∙ together (2 ^ d) r.0 (2 ^ i))
  where
    together : (a b p : ℕ) → a * p + b * p ≡ (a + b) * p
    together a b p = omega arith

kept_if : (b : Bool) (kind : Kind) (kinds : List Kind) → b ≡ true → cond b (kind ∷ kinds) kinds ≡ kind ∷ kinds
kept_if true kind kinds e = refl
kept_if false kind kinds e = absurd cc

left_if : (b : Bool) (kind : Kind) (kinds : List Kind) → b ≡ false → cond b (kind ∷ kinds) kinds ≡ kinds
left_if false kind kinds e = refl
left_if true kind kinds e = absurd cc

-- a bit is set where the number of what lies above is odd
bit_set : (i low m bits : ℕ) → low < 2 ^ i → bits ≡ (1 + 2 * m) * 2 ^ i + low → has_bit bits i ≡ true
bit_set i low m bits lt is =
    let q : bits / 2 ^ i ≡ 1 + 2 * m = ap (λ (x : ℕ). x / 2 ^ i) is ∙ div-mul-add (1 + 2 * m) (2 ^ i) low lt in
    let one : (1 + 2 * m) % 2 ≡ 1 = omega arith in
    ap (λ (x : ℕ). eqb (x % 2) 1) q ∙ ap (λ (x : ℕ). eqb x 1) one

bit_clear : (i low m bits : ℕ) → low < 2 ^ i → bits ≡ (2 * m) * 2 ^ i + low → has_bit bits i ≡ false
bit_clear i low m bits lt is =
    let q : bits / 2 ^ i ≡ 2 * m = ap (λ (x : ℕ). x / 2 ^ i) is ∙ div-mul-add (2 * m) (2 ^ i) low lt in
    let none : (2 * m) % 2 ≡ 0 = omega arith in
    ap (λ (x : ℕ). eqb (x % 2) 1) q ∙ ap (λ (x : ℕ). eqb x 1) none

none_lower : (a b : ℕ) (kinds : List Kind) → a ≤ b → NoneBefore b kinds → NoneBefore a kinds
none_lower a b [] le h = tt
none_lower a b (kind ∷ kinds) le h = (omega (arith, h.0), none_lower a b kinds le h.1)

no_bits : (p low bits : ℕ) → bits ≡ 0 + low → bits ≡ 2 * 0 * p + low
no_bits p low bits is = omega (arith, is)

later_bits : (m p low all bits : ℕ) → all ≡ m * (2 * p) → bits ≡ all + low → bits ≡ 2 * m * p + low
later_bits m p low all bits a is = is ∙ ap (λ (x : ℕ). x + low) (a ∙ moved m p)
  where
    moved : (m p : ℕ) → m * (2 * p) ≡ 2 * m * p
    moved m p = omega arith

first_bit : (m p low own others all bits : ℕ) → all ≡ own + others → own ≡ p → others ≡ m * (2 * p) → bits ≡ all + low → bits ≡ (1 + 2 * m) * p + low
first_bit m p low own others all bits a o r is = is ∙ ap (λ (x : ℕ). x + low) (a ∙ ap (λ (x : ℕ). x + others) o ∙ ap (λ (x : ℕ). p + x) r ∙ moved m p)
  where
    moved : (m p : ℕ) → p + m * (2 * p) ≡ (1 + 2 * m) * p
    moved m p = omega arith

-- the kinds at the places from i on whose bits are set
kinds_from : (i : ℕ) (table kinds : List Kind) (low bits : ℕ) → AreFrom i table → i + length table ≡ 16 → Rises (map kind_index kinds) → NoneBefore i kinds → low < 2 ^ i → bits ≡ kind_bits kinds + low
    → filter (λ kind. has_bit bits (kind_index kind)) table ≡ kinds
kinds_from i [] [] low bits from end rises none lt is = refl
kinds_from i [] (x ∷ xs) low bits from end rises none lt is = absurd (omega (arith, place_below x, none.0, end))
kinds_from i (kind ∷ table) [] low bits from end rises none lt is =
    let clear : has_bit bits (kind_index kind) ≡ false = ap (has_bit bits) from.0 ∙ bit_clear i low 0 bits lt (no_bits (2 ^ i) low bits is) in
    let more : low < 2 ^ (i + 1) = omega (arith, pow_more i, lt) in
    left_if (has_bit bits (kind_index kind)) kind _ clear ∙ kinds_from (i + 1) table [] low bits from.1 (omega (arith, end)) tt tt more is
kinds_from i (kind ∷ table) (x ∷ xs) low bits from end rises none lt is =
    let p = 2 ^ i in
    let past = above_none (kind_index x) xs rises.0 in
    elim (cases_lt i (kind_index x)) [
      | inl later ↦
          let all : NoneBefore (i + 1) (x ∷ xs) = (omega (arith, later), none_lower (i + 1) (kind_index x + 1) xs (omega (arith, later)) past) in
          let m = multiple (i + 1) (x ∷ xs) all in
          let sum : kind_bits (x ∷ xs) ≡ m.0 * (2 * p) = m.1 ∙ ap (λ (y : ℕ). m.0 * y) (pow_more i) in
          let clear : has_bit bits (kind_index kind) ≡ false = ap (has_bit bits) from.0 ∙ bit_clear i low m.0 bits lt (later_bits m.0 p low (kind_bits (x ∷ xs)) bits sum is) in
          let more : low < 2 ^ (i + 1) = omega (arith, pow_more i, lt) in
          left_if (has_bit bits (kind_index kind)) kind _ clear ∙ kinds_from (i + 1) table (x ∷ xs) low bits from.1 (omega (arith, end)) rises all more is
      | inr here ↦
          let at : kind_index x ≡ i = omega (arith, here, none.0) in
          let same : kind ≡ x = same_place kind x (from.0 ∙ sym at) in
          let rest : NoneBefore (i + 1) xs = none_lower (i + 1) (kind_index x + 1) xs (omega (arith, at)) past in
          let m = multiple (i + 1) xs rest in
          let sum : kind_bits xs ≡ m.0 * (2 * p) = m.1 ∙ ap (λ (y : ℕ). m.0 * y) (pow_more i) in
          let cons = sum_by-cons (λ (k : Kind). 2 ^ kind_index k) x xs in
          let own : 2 ^ kind_index x ≡ p = ap (λ (y : ℕ). 2 ^ y) at in
          let set : has_bit bits (kind_index kind) ≡ true = ap (has_bit bits) from.0 ∙ bit_set i low m.0 bits lt (first_bit m.0 p low (2 ^ kind_index x) (kind_bits xs) (kind_bits (x ∷ xs)) bits cons own sum is) in
          let more : p + low < 2 ^ (i + 1) = omega (arith, pow_more i, lt) in
          let left : bits ≡ kind_bits xs + (p + low) = omega (arith, is, cons, own) in
          let others = kinds_from (i + 1) table xs (p + low) bits from.1 (omega (arith, end)) rises.1 rest more left in
          kept_if (has_bit bits (kind_index kind)) kind _ set ∙ ap (λ (ks : List Kind). kind ∷ ks) others ∙ ap (λ (k : Kind). k ∷ xs) same
    ]

-- kinds in table order are those of their number
pub kinds_again : (kinds : List Kind) → IsStrictlyIncreasing (map kind_index kinds) → kinds_with (kind_bits kinds) ≡ kinds
kinds_again kinds rising =
    kinds_from 0 all_kinds kinds 0 (kind_bits kinds) table_from refl (Rises_from_rising (map kind_index kinds) rising) (from_start kinds) (lit< tt) (no_more (kind_bits kinds))
  where
    from_start : (kinds : List Kind) → NoneBefore 0 kinds
    from_start [] = tt
    from_start (kind ∷ kinds) = (omega arith, from_start kinds)

    no_more : (n : ℕ) → n ≡ n + 0
    no_more n = omega arith

-- they fit in sixteen bits
bits_below : (i : ℕ) (kinds : List Kind) → i ≤ 16 → Rises (map kind_index kinds) → NoneBefore i kinds → kind_bits kinds + 2 ^ i ≤ 2 ^ 16
bits_below i [] le rises none = omega (arith, pow_mono le)
bits_below i (x ∷ xs) le rises none =
    let j = kind_index x in
    let below : j < 16 = place_below x in
    let above = bits_below (j + 1) xs (omega (arith, below)) rises.1 (above_none j xs rises.0) in
    omega (arith, above, pow_more j, pow_mono none.0, sum_by-cons (λ (k : Kind). 2 ^ kind_index k) x xs)

pub bits_fit : (kinds : List Kind) → IsStrictlyIncreasing (map kind_index kinds) → kind_bits kinds < 2 ^ 16
bits_fit kinds rising =
    omega (arith, bits_below 0 kinds (omega arith) (Rises_from_rising (map kind_index kinds) rising) (from_start kinds))
  where
    from_start : (kinds : List Kind) → NoneBefore 0 kinds
    from_start [] = tt
    from_start (kind ∷ kinds) = (omega arith, from_start kinds)

-- ---- the table, walked over from its start

pub with_bit : (bits place : ℕ) (kept new : List Kind) (kind : Kind) → place < 16 → slice_get all_kinds place ≡ Some kind → has_bit bits place ≡ true
    → kept ≡ filter (λ k. has_bit bits (kind_index k)) (take place all_kinds) → new ≡ kept ++ kind ∷ []
    → new ≡ filter (λ k. has_bit bits (kind_index k)) (take (place + 1) all_kinds)
with_bit bits place kept new kind lt is set so_far more =
    let p : Kind → Bool = λ k. has_bit bits (kind_index k) in
    let own : get_or all_kinds place kind ≡ kind = get_or_from_slice_get all_kinds place kind kind is in
    let here : p (get_or all_kinds place kind) ≡ true = ap (has_bit bits) (place_at place kind lt) ∙ set in
    let one : cond (p (get_or all_kinds place kind)) (get_or all_kinds place kind ∷ []) [] ≡ kind ∷ [] =
    ap (λ (b : Bool). cond b (get_or all_kinds place kind ∷ []) []) here ∙ ap (λ (k : Kind). k ∷ []) own in
    more ∙ ap (λ (ks : List Kind). ks ++ kind ∷ []) so_far ∙ ap (λ (ks : List Kind). filter p (take place all_kinds) ++ ks) (sym one) ∙ sym (filter_more p all_kinds place kind lt)

pub without_bit : (bits place : ℕ) (kept : List Kind) → place < 16 → has_bit bits place ≡ false
    → kept ≡ filter (λ k. has_bit bits (kind_index k)) (take place all_kinds) → kept ≡ filter (λ k. has_bit bits (kind_index k)) (take (place + 1) all_kinds)
without_bit bits place kept lt clear so_far =
    let p : Kind → Bool = λ k. has_bit bits (kind_index k) in
    let here : p (get_or all_kinds place Mean) ≡ false = ap (has_bit bits) (place_at place Mean lt) ∙ clear in
    let none : cond (p (get_or all_kinds place Mean)) (get_or all_kinds place Mean ∷ []) [] ≡ [] =
    ap (λ (b : Bool). cond b (get_or all_kinds place Mean ∷ []) []) here in
    so_far ∙ sym (append-nil (filter p (take place all_kinds))) ∙ ap (λ (ks : List Kind). filter p (take place all_kinds) ++ ks) (sym none) ∙ sym (filter_more p all_kinds place Mean lt)

-- ---- a kind by its place

pub kind_found : (place : ℕ) (kind : Kind) → place ≡ kind_index kind → slice_get all_kinds place ≡ Some kind
kind_found place kind e = ap (λ (n : ℕ). slice_get all_kinds n) e ∙ at_place kind

pub kind_of_place : (place : ℕ) (kind : Kind) → slice_get all_kinds place ≡ Some kind → place ≡ kind_index kind
kind_of_place place kind e = only_place place kind (slice_get_within all_kinds place kind e) e

pub kind_missing : (place : ℕ) → ((kind : Kind) → place ≡ kind_index kind → ⊥) → slice_get all_kinds place ≡ None
kind_missing place none = by (slice_get all_kinds place) refl
  where
    by : (o : Option Kind) → slice_get all_kinds place ≡ o → o ≡ None
    by None e = refl
    by (Some kind) e = absurd (none kind (kind_of_place place kind e))
