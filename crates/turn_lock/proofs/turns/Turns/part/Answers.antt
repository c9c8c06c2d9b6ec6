use Rattle.std.proofs.Common.{rules, ap}
use Rattle.turn_lock.proofs.Steps.{splits_root, finds_own}
use Rattle.turn_lock.proofs.turns.Turns.part.Goals as goal

pub split_seat-new-requires : goal.split_seat-new-requires
split_seat-new-requires g c = (search rules, search rules, splits_root _ _ _ c.requires.root.0 c.requires.root.1)

pub load-requires : goal.load-requires
load-requires g c = (search rules, search rules, finds_own _ _ _ _ (ap (λ m. m.0.live) c.split_seat-new.ensures.4))
