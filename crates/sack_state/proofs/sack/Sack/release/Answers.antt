use Rattle.std.proofs.Common.{List, None, Ok, Err, sym, subst, ◌∙◌}
use Rattle.sack_history.specs.declared.entry.Counted.{Counted}
use Rattle.sack_history.specs.declared.fault.ReleaseFault.TheVariants as release_fault
use Rattle.sack_history.specs.Calls.{IsReleasing}
use Rattle.sack_state.specs.SackView.{SackView, StandsAfter, StandsFor}
use Rattle.sack_state.proofs.CallLemmas.{view_of}
use Rattle.sack_state.proofs.ReleaseLemmas.{released, unreleased}
use Rattle.sack_state.proofs.sack.Sack.release.Goals as goal

pub returns-then-is_holder-clause-stands : goal.returns-then-is_holder-clause-stands
returns-then-is_holder-clause-stands g c h stands =
    let i = c.self.inside in
    let d = g.met.D.Disk in
    let k = c.saturating_add-self-inside.result in
    let here = subst (StandsFor g.D.Disk h) (sym c.self.view_is) stands in
    subst (λ (v : SackView _). StandsAfter g.D.Disk h (λ (counts : List Counted). None) v (view_of i.keeping i.place i.opened.value None i.tickets k) (IsReleasing c.args.ticket (Ok tt))) c.self.view_is
    (released g.D.Disk d.only_now i.place i.opened.value i.keeping i.claim i.tickets i.entries k c.saturating_add-self-inside.ensures c.args.ticket tt (sym c.is_holder.ensures ∙ c.if-is_holder.true) h here)

pub returns-clause-stands : goal.returns-clause-stands
returns-clause-stands g c h stands =
    let i = c.self.inside in
    let d = g.met.D.Disk in
    let k = c.saturating_add-self-inside.result in
    let here = subst (StandsFor g.D.Disk h) (sym c.self.view_is) stands in
    subst (λ (v : SackView _). StandsAfter g.D.Disk h (λ (counts : List Counted). None) v (view_of i.keeping i.place i.opened.value i.claim i.tickets k) (IsReleasing c.args.ticket (Err (release_fault.NotHolder c.args.ticket c.holder.result)))) c.self.view_is
    (subst (λ o. StandsAfter g.D.Disk h (λ (counts : List Counted). None) (view_of i.keeping i.place i.opened.value i.claim i.tickets i.entries) (view_of i.keeping i.place i.opened.value i.claim i.tickets k) (IsReleasing c.args.ticket (Err (release_fault.NotHolder c.args.ticket o))))
    (sym c.holder.ensures.value)
    (unreleased g.D.Disk d.only_now i.place i.opened.value i.keeping i.claim i.tickets i.entries k c.saturating_add-self-inside.ensures c.args.ticket (sym c.is_holder.ensures ∙ c.if-is_holder.false) h here))
