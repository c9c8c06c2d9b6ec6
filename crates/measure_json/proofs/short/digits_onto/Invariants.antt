use Rattle.std.proofs.Common.{◌≡◌, ◌+◌, ◌-◌, ◌*◌, ◌^◌, ◌≤◌, true, length, take}
use Rattle.std.specs.Str.{all_ascii_digits}
use Rattle.gno_num.specs.Digits.{number_onto}
use Rattle.measure_json.proofs.short.digits_onto.Given as goal

abbrev pub invariant-loop-count : goal.invariant-loop-count
invariant-loop-count l = record {
  within : l.count ≤ length l.text;
  few : l.count ≤ l.most;
  number : l.total ≡ number_onto l.number (take l.count l.text);
  digits : all_ascii_digits (take l.count l.text) ≡ true;
  fits : (l.total + 1) * 10 ^ (l.most - l.count) ≤ 2 ^ 64;
}

abbrev pub decreases-loop-count : goal.decreases-loop-count
decreases-loop-count l = length l.text - l.count
