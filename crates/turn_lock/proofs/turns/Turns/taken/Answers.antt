use Rattle.std.proofs.Common.{◌∷◌, Some, rules, sym, ap, ◌∙◌}
use Rattle.atomic_table.specs.Table.{rest}
use Rattle.turn_lock.proofs.Steps.{counts_entries}
use Rattle.turn_lock.proofs.turns.Turns.taken.Goals as goal

pub exchange-requires : goal.exchange-requires
exchange-requires g c =
    let place = c.requires.place in
    (search rules, (Some place.0, place.1 ∙ ap (λ xs. (0, Some place.0) ∷ xs) (sym (ap rest place.1))))

pub load-count-requires : goal.load-count-requires
load-count-requires g c = (search rules, search rules, counts_entries _ _ _ _ (ap (λ m. m.0.holds) c.exchange.ensures.3 ∙ c.requires.live.1))
