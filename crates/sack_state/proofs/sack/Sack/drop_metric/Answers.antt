use Rattle.std.proofs.Common.{◌≡◌, true, false, cond, ◌||◌, List, None, Some, Err, sym, subst, refl, ap, ◌∙◌}
use Rattle.std.specs.Result.{IfErr}
use Rattle.sack_history.specs.Calls.{IsDropping}
use Rattle.sack_history.specs.declared.entry.Counted.{Counted}
use Rattle.sack_history.specs.declared.entry.Counted.TheVariants as counted
use Rattle.sack_history.specs.declared.entry.Entry.TheVariants as entries
use Rattle.sack_history.specs.Holding.{held_after}
use Rattle.sack_state.specs.Disks.{CameWithin, IsSackFault, OnShelfLog}
use Rattle.sack_state.specs.Holding.{are_broken}
use Rattle.sack_state.specs.SackCalls.{MatchOnDisk}
use Rattle.sack_state.specs.SackView.{IsEarlier, Of, OfBoth, SackView, StandsAfter, StandsFor}
use Rattle.sack_state.proofs.CallFacts.{failed_came, failed_cause, failed_uses, sack_sound}
use Rattle.sack_state.proofs.CallLemmas.{failed_sound, view_of}
use Rattle.sack_state.proofs.DropCalls.{drop_came, drop_cause, drop_sound, drop_stands, drop_uses, undropped}
use Rattle.sack_state.proofs.sack.Sack.drop_metric.Goals as goal

pub returns-in-Err-clause-stands : goal.returns-in-Err-clause-stands
returns-in-Err-clause-stands g c h stands =
    let i = c.self.inside in
    let d = g.met.D.Disk in
    let then = c.take_books-taken.new.held in
    let here = subst (StandsFor g.D.Disk h) (sym c.self.view_is) stands in
    let after = undropped g.D.Disk d.came_tells d.reads d.came_none d.came_more d.came_then d.came_later d.only_now i.place i.opened.value i.keeping then i.claim i.claim i.tickets i.entries c.saturating_add-self-inside.result c.args.metric
    c.in-Err.fault c.in-Err.ensures.err c.refusal_of.result c.refusal_of.ensures refl c.saturating_add-self-inside.ensures h here in
    subst (λ (v : SackView _). StandsAfter g.D.Disk h (λ (counts : List Counted). Some (counted.Drop c.args.metric)) v (view_of then i.place i.opened.value i.claim i.tickets c.saturating_add-self-inside.result) (IsDropping c.args.metric (Err c.refusal_of.result))) c.self.view_is after

pub returns-in-Err-clause-came : goal.returns-in-Err-clause-came
returns-in-Err-clause-came g c =
    let i = c.self.inside in
    let d = g.met.D.Disk in
    subst (λ (v : SackView _). OfBoth v (view_of c.take_books-taken.new.held i.place i.opened.value i.claim i.tickets c.saturating_add-self-inside.result) (λ s t. CameWithin g.D.Disk 2 6 1 s.disks t.disks)) c.self.view_is
    (failed_came g.D.Disk d.came_none d.came_more d.came_then d.came_later i.place i.keeping c.take_books-taken.new.held c.in-Err.fault c.in-Err.ensures.err 0 4 0)

pub returns-in-Err-clause-uses : goal.returns-in-Err-clause-uses
returns-in-Err-clause-uses g c =
    let i = c.self.inside in
    let d = g.met.D.Disk in
    subst (λ (v : SackView _). OfBoth v (view_of c.take_books-taken.new.held i.place i.opened.value i.claim i.tickets c.saturating_add-self-inside.result) (λ s t. s.broken ≡ false → OnShelfLog g.D.Disk 4 s.disks t.disks)) c.self.view_is
    (failed_uses g.D.Disk d.came_none d.came_more d.came_then d.came_later i.place i.keeping c.take_books-taken.new.held c.in-Err.fault c.in-Err.ensures.err (OnShelfLog g.D.Disk 4))

pub returns-in-Err-clause-cause : goal.returns-in-Err-clause-cause
returns-in-Err-clause-cause g c =
    let i = c.self.inside in
    let d = g.met.D.Disk in
    subst (λ (v : SackView _). MatchOnDisk c.refusal_of.result (λ f. OfBoth v (view_of c.take_books-taken.new.held i.place i.opened.value i.claim i.tickets c.saturating_add-self-inside.result) (λ s t. IsSackFault g.D.Disk s.disks t.disks f)) (Of v (λ s. s.broken ≡ true))) c.self.view_is
    (failed_cause g.D.Disk d.came_none d.came_more d.came_then d.came_later i.place i.keeping c.take_books-taken.new.held c.in-Err.fault c.in-Err.ensures.err c.refusal_of.result c.refusal_of.ensures)

pub returns-clause-stands : goal.returns-clause-stands
returns-clause-stands g c h stands =
    let i = c.self.inside in
    let d = g.met.D.Disk in
    let call = c.drop_metric-result in
    let then = c.put_back.new.held in
    let left = c.claim_left-self-inside.result in
    let k = c.entries_after-self-inside.result in
    let here = subst (StandsFor g.D.Disk h) (sym c.self.view_is) stands in
    let broken : are_broken call.new.self ≡ c.is_broken.result = sym c.is_broken.ensures.value in
    let after = drop_stands g.D.Disk d.came_tells d.reads d.came_none d.came_more d.came_then d.came_later d.only_now i.place i.opened.value i.keeping then i.claim left i.tickets i.entries k c.args.metric c.in-Ok.taken.0 call.new.self c.in-Ok.taken.1 call.result c.in-Ok.ensures.ok c.in-Ok.ensures.of_place c.put_back.ensures call.ensures.incoming call.ensures.place call.ensures.outcome
    (c.claim_left-self-inside.ensures ∙ ap (λ b. cond (c.in-Ok.taken.1 || b) None c.claim_without-left.result) (sym broken) ∙ ap (λ o. cond (c.in-Ok.taken.1 || are_broken call.new.self) None o) (c.claim_without-left.ensures ∙ ap (λ b. cond b (held_after i.claim (entries.Counted (counted.Drop c.args.metric))) i.claim) c.is_ok.ensures.value)) c.entries_after-self-inside.ensures h here in
    subst (λ (v : SackView _). StandsAfter g.D.Disk h (λ (counts : List Counted). Some (counted.Drop c.args.metric)) v (view_of then i.place i.opened.value left i.tickets k) (IsDropping c.args.metric call.result)) c.self.view_is after

pub returns-clause-came : goal.returns-clause-came
returns-clause-came g c =
    let i = c.self.inside in
    let d = g.met.D.Disk in
    let call = c.drop_metric-result in
    let then = c.put_back.new.held in
    let left = c.claim_left-self-inside.result in
    let k = c.entries_after-self-inside.result in
    subst (λ (v : SackView _). OfBoth v (view_of then i.place i.opened.value left i.tickets k) (λ s t. CameWithin g.D.Disk 2 6 1 s.disks t.disks)) c.self.view_is
    (drop_came g.D.Disk d.came_tells d.reads d.came_none d.came_more d.came_then d.came_later d.only_now i.place i.opened.value i.keeping then i.claim left i.tickets i.entries k c.args.metric c.in-Ok.taken.0 call.new.self c.in-Ok.taken.1 call.result c.in-Ok.ensures.ok c.in-Ok.ensures.of_place c.put_back.ensures call.ensures.incoming call.ensures.place call.ensures.outcome)

pub returns-clause-uses : goal.returns-clause-uses
returns-clause-uses g c =
    let i = c.self.inside in
    let d = g.met.D.Disk in
    let call = c.drop_metric-result in
    let then = c.put_back.new.held in
    let left = c.claim_left-self-inside.result in
    let k = c.entries_after-self-inside.result in
    subst (λ (v : SackView _). OfBoth v (view_of then i.place i.opened.value left i.tickets k) (λ s t. s.broken ≡ false → OnShelfLog g.D.Disk 4 s.disks t.disks)) c.self.view_is
    (drop_uses g.D.Disk d.came_tells d.reads d.came_none d.came_more d.came_then d.came_later d.only_now i.place i.opened.value i.keeping then i.claim left i.tickets i.entries k c.args.metric c.in-Ok.taken.0 call.new.self c.in-Ok.taken.1 call.result c.in-Ok.ensures.ok c.in-Ok.ensures.of_place c.put_back.ensures call.ensures.incoming call.ensures.place call.ensures.outcome)

pub returns-clause-cause : goal.returns-clause-cause
returns-clause-cause g c =
    let i = c.self.inside in
    let d = g.met.D.Disk in
    let call = c.drop_metric-result in
    let then = c.put_back.new.held in
    let left = c.claim_left-self-inside.result in
    let k = c.entries_after-self-inside.result in
    subst (λ (v : SackView _). IfErr call.result (λ e. MatchOnDisk e (λ f. OfBoth v (view_of then i.place i.opened.value left i.tickets k) (λ s t. IsSackFault g.D.Disk s.disks t.disks f)) (Of v (λ s. s.broken ≡ true)))) c.self.view_is
    (drop_cause g.D.Disk d.came_tells d.reads d.came_none d.came_more d.came_then d.came_later d.only_now i.place i.opened.value i.keeping then i.claim left i.tickets i.entries k c.args.metric c.in-Ok.taken.0 call.new.self c.in-Ok.taken.1 call.result c.in-Ok.ensures.ok c.in-Ok.ensures.of_place c.put_back.ensures call.ensures.incoming call.ensures.place call.ensures.outcome)

pub returns-in-Err-clause-sound : goal.returns-in-Err-clause-sound
returns-in-Err-clause-sound g c earlier h stands legal =
    let i = c.self.inside in
    let d = g.met.D.Disk in
    let here = subst (StandsFor g.D.Disk h) (sym c.self.view_is) stands in
    let may = subst (λ (v : SackView _). IsEarlier g.D.Disk v.place v.opening earlier) (sym c.self.view_is) legal in
    sack_sound c.in-Err.fault c.refusal_of.result c.refusal_of.ensures
    (failed_sound g.D.Disk d.came_tells d.reads d.came_later i.place i.opened.value i.keeping c.take_books-taken.new.held i.claim i.claim i.tickets i.tickets i.entries c.saturating_add-self-inside.result (Some c.args.metric)
    (λ b own. Unit {0}) (λ failure. Unit {0}) (λ counts. None) c.in-Err.fault c.in-Err.ensures.err refl refl c.saturating_add-self-inside.ensures h here earlier may)

pub returns-clause-sound : goal.returns-clause-sound
returns-clause-sound g c earlier h stands legal =
    let i = c.self.inside in
    let d = g.met.D.Disk in
    let call = c.drop_metric-result in
    let then = c.put_back.new.held in
    let left = c.claim_left-self-inside.result in
    let k = c.entries_after-self-inside.result in
    drop_sound g.D.Disk d.came_tells d.reads d.came_none d.came_more d.came_then d.came_later d.only_now i.place i.opened.value i.keeping then i.claim left i.tickets i.entries k c.args.metric c.in-Ok.taken.0 call.new.self c.in-Ok.taken.1 call.result c.in-Ok.ensures.ok c.in-Ok.ensures.of_place c.put_back.ensures call.ensures.incoming call.ensures.place call.ensures.outcome
