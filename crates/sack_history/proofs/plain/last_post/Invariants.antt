use Rattle.std.proofs.Common.{◌≡◌, take}
use Rattle.std.specs.List.{fold}
use Rattle.sack_history.specs.Lives.{last_after}
use Rattle.sack_history.proofs.plain.last_post.Given as goal

abbrev pub invariant-loop-c : goal.invariant-loop-c
invariant-loop-c l = l.last ≡ fold last_after 0 (take l.c-index l.counts)
