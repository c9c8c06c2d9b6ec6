-- Digits behind a point.
use Rattle.std.proofs.Common.{◌≡◌, ℕ, ◌+◌, ◌-◌, ◌*◌, ◌^◌, ◌<◌, ◌≤◌, true, List, length, sym, ap, ◌∙◌, arith}
use Rattle.std.specs.Str.{all_ascii_digits}
use Rattle.std.proofs.Math.Nat.{mul-lt-mul_of_pos_right}
use Rattle.std.proofs.lemmas.Nat.{pow-add}
use Rattle.gno_num.specs.Digits.{number_onto}
use Rattle.gno_num.proofs.DigitLemmas.{pow_ten_above, pow_ten_order}
use Rattle.gno_num.proofs.RowLemmas.{number_onto-short}

-- at most nine digits spell less than a second
pub nanos_below : (ds : List ℕ) → all_ascii_digits ds ≡ true → length ds ≤ 9 → number_onto 0 ds * 10 ^ (9 - length ds) < 10 ^ 9
nanos_below ds digits few =
    let less : number_onto 0 ds * 10 ^ (9 - length ds) < 10 ^ length ds * 10 ^ (9 - length ds) = mul-lt-mul_of_pos_right (number_onto-short ds digits) (pow_ten_above (9 - length ds)) in
    let parts : length ds + (9 - length ds) ≡ 9 = omega arith in
    let power : 10 ^ length ds * 10 ^ (9 - length ds) ≡ 10 ^ 9 = sym (pow-add 10 (length ds) (9 - length ds)) ∙ ap (λ n. 10 ^ n) parts in
    omega arith

pub number_below : (ds : List ℕ) → all_ascii_digits ds ≡ true → length ds ≤ 9 → number_onto 0 ds < 10 ^ 9
number_below ds digits few = omega (arith, number_onto-short ds digits, pow_ten_order (length ds) 9 few)
