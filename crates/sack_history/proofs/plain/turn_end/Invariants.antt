use Rattle.std.proofs.Common.{◌≡◌, ℕ, take}
use Rattle.std.specs.List.{fold}
use Rattle.sack_history.specs.Lives.{done_of}
use Rattle.sack_history.proofs.plain.turn_end.Given as goal

abbrev pub invariant-loop-number : goal.invariant-loop-number
invariant-loop-number l = l.upto ≡ fold (λ (before n : ℕ). n) (done_of l.fn.metric l.counts) (take l.number-index l.number-items)
