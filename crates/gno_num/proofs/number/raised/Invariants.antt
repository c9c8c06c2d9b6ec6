use Rattle.std.proofs.Common.{◌≡◌, ◌*◌, ◌^◌, ◌-◌, ◌++◌, min}
use Rattle.gno_num.specs.Digits.{number_onto}
use Rattle.gno_num.proofs.number.raised.Given as goal

abbrev pub invariant-loop : goal.invariant-loop
invariant-loop l =
    l.units ≡ min (number_onto 0 (l.whole ++ l.fraction) * 10 ^ l.counter) (2 ^ 64 - 1)
