use Rattle.std.proofs.Common.{◌≡◌, [], ◌∷◌, List, Option, Some, sym, ap, subst, rules}
use Rattle.atomic_table.specs.Table.{opening}
use Rattle.turn_lock.specs.Knowledge.{StandsFrom}
use Rattle.turn_lock.specs.Rules.{Kept, newcomer}
use Rattle.turn_lock.proofs.Steps.{begins}
use Rattle.turn_lock.proofs.turns.Turns.new.Goals as goal

pub new-requires : goal.new-requires
new-requires g c =
    let Rule = Kept {E = g.row.E.Denot} (StandsFrom g.T.Stands.stands g.T.Stands.origin (g.T.Stands.origin c.of-made.result.value)) in
    let made : c.push.new.self.items ≡ Some c.args.value ∷ [] = search rules in
    subst (λ (xs : List (Option g.row.T.Denot)). Rule (opening (0 ∷ 0 ∷ []) xs (newcomer {E = g.row.E.Denot} 0 []))) (sym made) (begins _ c.args.value (c.requires, ap g.T.Stands.origin (sym c.of-made.ensures)))
