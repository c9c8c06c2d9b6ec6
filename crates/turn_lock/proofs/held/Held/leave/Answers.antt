use Rattle.std.proofs.Common.{◌∷◌, Some, rules, sym, ap, ◌∙◌, subst}
use Rattle.atomic_table.specs.Table.{rest}
use Rattle.turn_lock.specs.History.{entries_in}
use Rattle.turn_lock.specs.Knowledge.{Holding}
use Rattle.turn_lock.proofs.Steps.{gives_value}
use Rattle.turn_lock.proofs.held.Held.leave.Goals as goal

pub store-requires : goal.store-requires
store-requires g c =
    let e = c.exchange-nothing.ensures in
    let x = c.self.inside.value in
    let same = ap (λ m. m.0) e.3 in
    let out = ap (λ m. m.1) e.3 in
    let stands = subst (λ (h : Holding g.row.T.Denot g.row.E.Denot). g.T.Stands.stands h.value (entries_in h.pass.seen)) (sym c.self.view_is) c.requires.stands in
    let origin = ap (λ h. g.T.Stands.origin h.value) c.self.view_is ∙ (c.requires.origin ∙ sym (ap (λ l. l.origin) c.turns.view_is)) in (
      search rules,
      search rules,
      gives_value _ _ _ _ x c.turns.invariant.1 (ap (λ v. v.holds) same ∙ c.self.invariant.holds) (out ∙ ap (λ xs. (0, Some x) ∷ rest xs) c.self.invariant.place)
          (subst (λ v. g.T.Stands.stands x (entries_in v.seen)) (sym same) stands, origin),
    )
