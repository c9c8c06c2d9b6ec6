use Rattle.std.proofs.Common.{◌≡◌, ◌≤◌, ◌+◌, true, length, arith, length-append}
use Rattle.std.specs.Str.{all_ascii_digits}
use Rattle.gno_num.proofs.RowLemmas.{all_ascii_digits-append, digits_front-all}
use Rattle.gno_num.proofs.number.pieces_of.Goals as goal

pub invariant_of-result : goal.invariant_of-result
invariant_of-result c =
    let whole : all_ascii_digits c.split_digits.result.0.now ≡ true = rw c.split_digits.ensures.front (digits_front-all c.skip-negative.result.1.now) in
    let fraction : all_ascii_digits c.in_ok-fraction.fraction.now ≡ true = c.in_ok-fraction.ensures.digits in
    let behind : length c.in_ok-fraction.fraction.now + length c.in_ok-fraction.rest.now ≤ length c.split_digits.result.1.now = c.in_ok-fraction.ensures.len in
    record {
      digits = all_ascii_digits-append c.split_digits.result.0.now c.in_ok-fraction.fraction.now whole fraction;
      short = omega (arith, length-append c.split_digits.result.0.now c.in_ok-fraction.fraction.now);
    }
