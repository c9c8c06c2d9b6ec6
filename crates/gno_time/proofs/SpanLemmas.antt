-- Lengths that are too long either way, and parts of units.
use Rattle.std.proofs.Common.{◌≡◌, ℕ, zero, suc, ◌+◌, ◌-◌, ◌*◌, ◌/◌, ◌%◌, ◌^◌, ◌<◌, ◌≤◌, ◌==◌, nat_le, min, List, [], ◌∷◌, ◌++◌, length, take, drop, get_or, true, false, ◌&&◌, Err, inl, inr, refl, sym, ap, ◌∙◌, arith}
use Rattle.std.proofs.Math.Nat.{pow-suc, mul-le-mul, mul-lt-mul_of_pos_right}
use Rattle.std.proofs.lemmas.Bool.{cases_lt, lt-leb, and_right, eq-eqb, ne_eqb}
use Rattle.std.proofs.lemmas.List.{take_all}
use Rattle.std.proofs.lemmas.Nat.{div-mul-add, mod-mul-add, mod_below, div-add-mod'}
use Rattle.gno_num.specs.Digits.{number_onto}
use Rattle.gno_num.proofs.DigitLemmas.{pow_ten_above}
use Rattle.gno_num.proofs.RowLemmas.{number_onto-split, number_onto-append}
use Rattle.gno_num.specs.Scaled.{scaled_of}
use Rattle.gno_num.specs.declared.number.Scaled.{Scaled}
use Rattle.gno_time.specs.SpanReading.{span_in_range, span_of, span_of_units}
use Rattle.gno_time.specs.declared.span.SpanFault.TheVariants.{BadSpan, SpanRange}

pub too_long : (n : ℕ) → 9 * 10 ^ 18 < n → span_in_range n ≡ Err SpanRange
unfolding span_in_range
too_long n h =
    let over : (nat_le (10 ^ 6) n && nat_le n (9 * 10 ^ 18)) ≡ false = and_right _ _ (lt-leb n (9 * 10 ^ 18) h) in
    rw over refl

-- what doesn't fit is too long
pub span_in_range-min : (n : ℕ) → span_in_range (min n (2 ^ 64 - 1)) ≡ span_in_range n
span_in_range-min n =
    elim (cases_lt (2 ^ 64 - 1) n) [
      | inl over ↦ too_long (min n (2 ^ 64 - 1)) (omega arith) ∙ sym (too_long n (omega arith))
      | inr fits ↦ let same : min n (2 ^ 64 - 1) ≡ n = omega arith in ap span_in_range same
    ]

pub span_in_range-days : (days all clock nanos : ℕ) → days ≡ min all (2 ^ 64 - 1) → span_in_range ((days * 86400 + clock) * 10 ^ 9 + nanos) ≡ span_in_range ((all * 86400 + clock) * 10 ^ 9 + nanos)
span_in_range-days days all clock nanos h =
    elim (cases_lt (2 ^ 64 - 1) all) [
      | inl over ↦ too_long ((days * 86400 + clock) * 10 ^ 9 + nanos) (omega arith) ∙ sym (too_long ((all * 86400 + clock) * 10 ^ 9 + nanos) (omega arith))
      | inr fits ↦ let same : days ≡ all = omega arith in ap (λ n. span_in_range ((n * 86400 + clock) * 10 ^ 9 + nanos)) same
    ]

-- what was scaled exactly is a whole number of nanoseconds
pub exact_span : (num den : ℕ) (s : Scaled) → s ≡ scaled_of num den → s.is_exact ≡ true → span_in_range s.units ≡ span_of num den
unfolding scaled_of span_of
exact_span num den s is exact =
    let whole : (num % den == 0) ≡ true = sym (ap (λ (x : Scaled). x.is_exact) is) ∙ exact in
    rw (ap (λ (x : Scaled). x.units) is, whole) (span_in_range-min (num / den))

pub inexact_span : (num den : ℕ) (s : Scaled) → s ≡ scaled_of num den → s.is_exact ≡ false → span_of num den ≡ Err BadSpan
unfolding scaled_of span_of
inexact_span num den s is exact =
    let broken : (num % den == 0) ≡ false = sym (ap (λ (x : Scaled). x.is_exact) is) ∙ exact in
    rw broken refl

gather : (a q p r : ℕ) → a * p + (q * p + r) ≡ (a + q) * p + r
gather a q p r = grind arith

tens : (t p : ℕ) → t * (p * 10) + 0 ≡ t * 10 * p + 0
tens t p = grind arith

spread_unit : (d p n unit : ℕ) → (d * p + n) * unit ≡ d * unit * p + n * unit
spread_unit d p n unit = grind arith

join_tenths : (a p b : ℕ) → a * p + b * p ≡ (a + b) * p
join_tenths a p b = grind arith

tens_moved : (q p : ℕ) → q * 10 * p ≡ q * (p * 10)
tens_moved q p = grind arith

spread_tenths : (q r p : ℕ) → (q * 10 + r) * p ≡ q * (p * 10) + r * p
spread_tenths q r p = grind arith

below_ten : (r p : ℕ) → r < 10 → 0 < p → r * p < p * 10
below_ten r p h above =
    let less : r * p < 10 * p = mul-lt-mul_of_pos_right h above in
    omega arith

zero_factor : (r p : ℕ) → r * p ≡ 0 → 0 < p → r ≡ 0
zero_factor zero p h above = refl
zero_factor (suc r) p h above =
    let less : 0 * p < suc r * p = mul-lt-mul_of_pos_right (omega arith) above in
    absurd (omega arith)

-- a number of units that doesn't fit is too long
units_capped : (n unit part : ℕ) → 10 ^ 6 ≤ unit → span_in_range (min n (2 ^ 64 - 1) * unit + part) ≡ span_in_range (n * unit + part)
units_capped n unit part least =
    let m = 2 ^ 64 - 1 in
    elim (cases_lt m n) [
      | inl over ↦
          let capped : min n m ≡ m = omega arith in
          let long : m * 10 ^ 6 ≤ m * unit = let same : m ≤ m = omega arith in mul-le-mul same least in
          let longer : m * 10 ^ 6 ≤ n * unit = let more : m ≤ n = omega arith in mul-le-mul more least in
          rw capped (too_long (m * unit + part) (omega arith) ∙ sym (too_long (n * unit + part) (omega arith)))
      | inr fits ↦ let same : min n m ≡ n = omega arith in ap (λ k. span_in_range (k * unit + part)) same
    ]

-- ---- parts of a unit

-- a multiple of the divisor in front changes nothing of the rest
mod_behind : (a p x : ℕ) → 0 < p → (a * p + x) % p ≡ x % p
mod_behind a p x above =
    let q = x / p in
    let r = x % p in
    let parts : a * p + x ≡ (a + q) * p + r = ap (λ n. a * p + n) (sym (div-add-mod' x p)) ∙ gather a q p r in
    ap (λ n. n % p) parts ∙ mod-mul-add (a + q) p r (mod_below x p above)

-- what ten times the divisor divides, the divisor divides
mod_tenth : (y p : ℕ) → 0 < p → y % (p * 10) ≡ 0 → y % p ≡ 0
mod_tenth y p above h =
    let t = y / (p * 10) in
    let parts : y ≡ t * 10 * p + 0 = sym (div-add-mod' y (p * 10)) ∙ ap (λ n. t * (p * 10) + n) h ∙ tens t p in
    ap (λ n. n % p) parts ∙ mod-mul-add (t * 10) p 0 above

first_part : (c : ℕ) (cs : List ℕ) (unit : ℕ) → number_onto 0 (c ∷ cs) * unit ≡ (c - 48) * unit * 10 ^ length cs + number_onto 0 cs * unit
first_part c cs unit =
    let same : 10 * 0 + (c - 48) ≡ c - 48 = omega arith in
    let parts : number_onto 0 (c ∷ cs) ≡ (c - 48) * 10 ^ length cs + number_onto 0 cs = ap (λ (n : ℕ). number_onto n cs) same ∙ number_onto-split (c - 48) cs in
    ap (λ n. n * unit) parts ∙ spread_unit (c - 48) (10 ^ length cs) (number_onto 0 cs) unit

pub part_err : (ds : List ℕ) (unit : ℕ) → 1 ≤ length ds → (number_onto 0 (drop 1 ds) * unit % 10 ^ length (drop 1 ds) ≡ 0 → ⊥) → number_onto 0 ds * unit % 10 ^ length ds ≡ 0 → ⊥
part_err [] unit some broken h = absurd (omega arith)
part_err (c ∷ cs) unit some broken h =
    let p = 10 ^ length cs in
    let above = pow_ten_above (length cs) in
    let ten : number_onto 0 (c ∷ cs) * unit % (p * 10) ≡ 0 = rw (pow-suc 10 (length cs)) at h in
    let whole = mod_tenth (number_onto 0 (c ∷ cs) * unit) p above ten in
    broken (sym (ap (λ n. n % p) (first_part c cs unit) ∙ mod_behind ((c - 48) * unit) p (number_onto 0 cs * unit) above) ∙ whole)

-- the number of tenths of the place in front
tenths_are : (c : ℕ) (cs : List ℕ) (unit behind tenths : ℕ) → tenths ≡ (c - 48) * unit + behind → number_onto 0 cs * unit ≡ behind * 10 ^ length cs → number_onto 0 (c ∷ cs) * unit ≡ tenths * 10 ^ length cs
tenths_are c cs unit behind tenths is h =
    first_part c cs unit ∙ ap (λ n. (c - 48) * unit * 10 ^ length cs + n) h ∙ join_tenths ((c - 48) * unit) (10 ^ length cs) behind ∙ ap (λ n. n * 10 ^ length cs) (sym is)

pub part_some : (ds : List ℕ) (unit behind tenths : ℕ) → 1 ≤ length ds → tenths ≡ (get_or ds 0 0 - 48) * unit + behind → number_onto 0 (drop 1 ds) * unit ≡ behind * 10 ^ length (drop 1 ds) → tenths % 10 ≡ 0 → number_onto 0 ds * unit ≡ tenths / 10 * 10 ^ length ds
part_some [] unit behind tenths some is h whole = absurd (omega arith)
part_some (c ∷ cs) unit behind tenths some is h whole =
    let ten : tenths ≡ tenths / 10 * 10 = omega arith in
    rw (pow-suc 10 (length cs)) (tenths_are c cs unit behind tenths is h ∙ ap (λ n. n * 10 ^ length cs) ten ∙ tens_moved (tenths / 10) (10 ^ length cs))

pub part_none : (ds : List ℕ) (unit behind tenths : ℕ) → 1 ≤ length ds → tenths ≡ (get_or ds 0 0 - 48) * unit + behind → number_onto 0 (drop 1 ds) * unit ≡ behind * 10 ^ length (drop 1 ds) → (tenths % 10 ≡ 0 → ⊥) → number_onto 0 ds * unit % 10 ^ length ds ≡ 0 → ⊥
part_none [] unit behind tenths some is h broken e = absurd (omega arith)
part_none (c ∷ cs) unit behind tenths some is h broken e =
    let p = 10 ^ length cs in
    let above = pow_ten_above (length cs) in
    let q = tenths / 10 in
    let r = tenths % 10 in
    let least : r < 10 = omega arith in
    let parts : number_onto 0 (c ∷ cs) * unit ≡ q * (p * 10) + r * p = tenths_are c cs unit behind tenths is h ∙ ap (λ n. n * p) (sym (div-add-mod' tenths 10)) ∙ spread_tenths q r p in
    let less : r * p < p * 10 = below_ten r p least above in
    let rest : number_onto 0 (c ∷ cs) * unit % (p * 10) ≡ r * p = ap (λ n. n % (p * 10)) parts ∙ mod-mul-add q (p * 10) (r * p) less in
    let none : r * p ≡ 0 = sym rest ∙ (rw (pow-suc 10 (length cs)) at e) in
    broken (zero_factor r p none above)

-- ---- so many units

whole_units : (whole fraction : List ℕ) (unit : ℕ) → number_onto 0 (whole ++ fraction) * unit ≡ number_onto 0 whole * unit * 10 ^ length fraction + number_onto 0 fraction * unit
whole_units whole fraction unit =
    ap (λ n. n * unit) (number_onto-append 0 whole fraction ∙ number_onto-split (number_onto 0 whole) fraction) ∙ spread_unit (number_onto 0 whole) (10 ^ length fraction) (number_onto 0 fraction) unit

pub units_none : (whole fraction : List ℕ) (unit : ℕ) → (number_onto 0 fraction * unit % 10 ^ length fraction ≡ 0 → ⊥) → span_of_units whole fraction unit ≡ Err BadSpan
unfolding span_of
units_none whole fraction unit broken =
    let p = 10 ^ length fraction in
    let same = ap (λ n. n % p) (whole_units whole fraction unit) ∙ mod_behind (number_onto 0 whole * unit) p (number_onto 0 fraction * unit) (pow_ten_above (length fraction)) in
    let test : (number_onto 0 (whole ++ fraction) * unit % p == 0) ≡ false = ne_eqb _ 0 (λ e. broken (sym same ∙ e)) in
    rw test refl

units_whole : (whole fraction : List ℕ) (unit part : ℕ) → number_onto 0 fraction * unit ≡ part * 10 ^ length fraction → span_of_units whole fraction unit ≡ span_in_range (number_onto 0 whole * unit + part)
unfolding span_of
units_whole whole fraction unit part h =
    let p = 10 ^ length fraction in
    let above = pow_ten_above (length fraction) in
    let t = number_onto 0 whole * unit + part in
    let all : number_onto 0 (whole ++ fraction) * unit ≡ t * p + 0 = whole_units whole fraction unit ∙ ap (λ n. number_onto 0 whole * unit * p + n) h ∙ join_tenths (number_onto 0 whole * unit) p part ∙ omega arith in
    let rest : (number_onto 0 (whole ++ fraction) * unit % p == 0) ≡ true = eq-eqb _ 0 (ap (λ n. n % p) all ∙ mod-mul-add t p 0 above) in
    rw rest (ap span_in_range (ap (λ n. n / p) all ∙ div-mul-add t p 0 above))

pub units_some : (whole fraction : List ℕ) (unit part : ℕ) → 10 ^ 6 ≤ unit → number_onto 0 fraction * unit ≡ part * 10 ^ length fraction → span_in_range (min (number_onto 0 whole) (2 ^ 64 - 1) * unit + part) ≡ span_of_units whole fraction unit
units_some whole fraction unit part least h =
    let n = number_onto 0 whole in
    let m = 2 ^ 64 - 1 in
    units_capped n unit part least ∙ sym (units_whole whole fraction unit part h)

-- the row behind the first digit
pub rest_is : (ds : List ℕ) → take (length ds - 1) (drop 1 ds) ≡ drop 1 ds
rest_is [] = refl
rest_is (c ∷ cs) = take_all (suc (length cs) - 1) cs (omega arith)
