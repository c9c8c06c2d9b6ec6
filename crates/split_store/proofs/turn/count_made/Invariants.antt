use Rattle.std.proofs.Common.{◌≡◌, take}
use Rattle.shelf_blocks.specs.Turns.{made_count}
use Rattle.split_store.proofs.turn.count_made.Given as goal

-- the count so far
abbrev pub invariant-loop-one : goal.invariant-loop-one
invariant-loop-one l = l.count ≡ made_count (take l.one-index l.made)
