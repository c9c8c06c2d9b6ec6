use Rattle.std.proofs.Common.{◌≡◌, ltb, take}
use Rattle.std.specs.List.{filter}
use Rattle.sack_history.proofs.plain.numbers_above.Given as goal

abbrev pub invariant-loop-number : goal.invariant-loop-number
invariant-loop-number l = l.above.items ≡ filter (λ n. ltb l.done n) (take l.number-index l.numbers)
