use Rattle.std.proofs.Common.{◌≡◌, ◌-◌, ◌≤◌, ◌++◌, length, take, drop}
use Rattle.measure_json.specs.Text.{plain_front, plain_back}
use Rattle.measure_json.proofs.text.split_plain.Given as goal

abbrev pub invariant-loop-count : goal.invariant-loop-count
invariant-loop-count l = record {
  within : l.count ≤ length l.text;
  front : take l.count l.text ++ plain_front (drop l.count l.text) ≡ plain_front l.text;
  back : plain_back (drop l.count l.text) ≡ plain_back l.text;
}

abbrev pub decreases-loop-count : goal.decreases-loop-count
decreases-loop-count l = length l.text - l.count
