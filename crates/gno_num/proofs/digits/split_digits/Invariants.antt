use Rattle.std.proofs.Common.{◌≡◌, ◌-◌, ◌≤◌, ◌++◌, length, take, drop}
use Rattle.gno_num.specs.Digits.{digits_front, digits_back}
use Rattle.gno_num.proofs.digits.split_digits.Given as goal

abbrev pub invariant-loop-count : goal.invariant-loop-count
invariant-loop-count l = record {
  within : l.count ≤ length l.text;
  front : take l.count l.text ++ digits_front (drop l.count l.text) ≡ digits_front l.text;
  back : digits_back (drop l.count l.text) ≡ digits_back l.text;
}

abbrev pub decreases-loop-count : goal.decreases-loop-count
decreases-loop-count l = length l.text - l.count
