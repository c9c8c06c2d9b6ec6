use Rattle.std.proofs.Common.{◌≡◌, take}
use Rattle.std.specs.Option.{is_some}
use Rattle.sack_history.specs.Lives.{life_of}
use Rattle.sack_history.specs.Plain.{numbers_in}
use Rattle.sack_history.proofs.plain.post_numbers.Given as goal

abbrev pub invariant-loop-c : goal.invariant-loop-c
invariant-loop-c l =
    (l.live ≡ is_some (life_of l.metric (take l.c-index l.counts))) × (l.numbers.items ≡ numbers_in (life_of l.metric (take l.c-index l.counts)))
