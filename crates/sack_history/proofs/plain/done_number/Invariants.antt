use Rattle.std.proofs.Common.{◌≡◌, take}
use Rattle.std.specs.Option.{option_map}
use Rattle.sack_history.specs.Lives.{Life, last_post, life_of}
use Rattle.sack_history.proofs.plain.done_number.Given as goal

abbrev pub invariant-loop-c : goal.invariant-loop-c
invariant-loop-c l = (l.last ≡ last_post (take l.c-index l.counts)) × (l.done ≡ option_map (λ (life : Life). life.done) (life_of l.metric (take l.c-index l.counts)))
