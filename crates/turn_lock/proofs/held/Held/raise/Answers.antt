use Rattle.std.proofs.Common.{sym, subst}
use Rattle.turn_lock.specs.History.{entries_in}
use Rattle.turn_lock.specs.Knowledge.{Holding}
use Rattle.turn_lock.proofs.Histories.{entries_in-more}
use Rattle.turn_lock.proofs.held.Held.raise.Goals as goal

pub returns-clause-stands : goal.returns-clause-stands
returns-clause-stands g c =
    let r = c.tell.ensures.raised in
    let was = c.args.self.now in
    let list = entries_in-more was.pass.seen was.pass.number r.0 in
    subst (λ (h : Holding g.row.T.Denot g.row.E.Denot). g.T.Stands.stands h.value (entries_in h.pass.seen)) (sym r.2) (subst (g.T.Stands.stands was.value) (sym list) r.3.1)
