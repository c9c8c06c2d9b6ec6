use Rattle.std.proofs.Common.{◌≡◌, [], take}
use Rattle.std.specs.List.{filter}
use Rattle.sack_history.specs.Lives.{all_posts, is_waiting}
use Rattle.sack_history.proofs.plain.longest_waiting.Given as goal

abbrev pub invariant-loop-c : goal.invariant-loop-c
invariant-loop-c l = filter (is_waiting l.counts) (all_posts (take l.c-index l.counts)) ≡ []
