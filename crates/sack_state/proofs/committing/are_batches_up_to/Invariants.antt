use Rattle.std.proofs.Common.{◌≡◌, ◌++◌, map, take}
use Rattle.std.specs.Prelude.{nat_le}
use Rattle.std.specs.List.{filter}
use Rattle.sack_state.proofs.committing.are_batches_up_to.Given as goal

-- the batches are those of the posts so far, and those that are left
abbrev pub invariant-loop-number : goal.invariant-loop-number
invariant-loop-number l = l.batches ≡ map (λ p. p.1) (filter (λ p. nat_le p.0 l.upto) (take l.number-index l.posts)) ++ l.left
