use Rattle.std.proofs.Common.{◌≡◌, ◌^◌, ◌-◌, ◌<◌, min, drop}
use Rattle.gno_num.specs.Digits.{number_onto}
use Rattle.gno_num.proofs.digits.number_onto.Given as goal

-- what is left of the digits gives the result
abbrev pub invariant-loop-digit : goal.invariant-loop-digit
invariant-loop-digit l = record {
  fits : l.total < 2 ^ 64;
  left : min (number_onto l.total (drop l.digit-index l.digits)) (2 ^ 64 - 1) ≡ min (number_onto l.number l.digits) (2 ^ 64 - 1);
}
