use Rattle.std.proofs.Common.{rules, ap, ◌∙◌}
use Rattle.turn_lock.proofs.Steps.{takes_value}
use Rattle.turn_lock.proofs.turns.Turns.try_take.Goals as goal

pub compare_exchange-requires : goal.compare_exchange-requires
compare_exchange-requires g c =
    let from = ap (λ l. l.origin) c.self.view_is in
    (search rules, search rules, takes_value _ g.M.Found.found (λ x list s. c.requires.found x list s.0 (s.1 ∙ from)) _ _ _ c.requires.live)
