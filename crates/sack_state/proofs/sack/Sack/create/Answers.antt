use Rattle.std.proofs.Common.{None, Some, refl, sym, ap, subst}
use Rattle.sack_state.specs.declared.disks.Opening.{Opening}
use Rattle.sack_state.specs.declared.holding.Keeping.TheVariants.{Mounted}
use Rattle.sack_state.specs.Books.{AreMadeFrom}
use Rattle.sack_state.specs.Disks.{TellAll}
use Rattle.sack_state.proofs.CallLemmas.{view_of}
use Rattle.sack_state.proofs.OpenLemmas.{made_stands}
use Rattle.sack_state.proofs.sack.Sack.create.Goals as goal

pub returns-in-Ok-clause-stands : goal.returns-in-Ok-clause-stands
returns-in-Ok-clause-stands g c tell =
    let d = g.met.D.Disk in
    let books = c.in-Ok.books in
    let is = c.of-opened.ensures in
    made_stands g.D.Disk d.came_tells d.came_later (view_of (Some (Mounted books)) c.args.place c.of-opened.result.value None 0 0) refl refl books
    (subst (λ (o : Opening _). AreMadeFrom g.D.Disk c.args.place o.disks books) (sym is) c.in-Ok.ensures.ok) (ap (λ (o : Opening _). o.is_new) is)
    (subst (λ (o : Opening _). TellAll g.D.Disk o.disks) (sym is) tell)
