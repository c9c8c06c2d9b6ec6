use Rattle.std.proofs.Common.{◌≡◌, ◌⊎◌, true, cond, None, Err, Option, sym, subst, refl, ap, ◌∙◌}
use Rattle.std.specs.Result.{IfErr, IfOk}
use Rattle.gno_disk.specs.Phases.{AreUnwritten}
use Rattle.sack_history.specs.Calls.{IsClaiming}
use Rattle.sack_history.specs.declared.holding.HeldClaim.{HeldClaim}
use Rattle.sack_state.specs.Claiming.{ClaimsFrom, KeepsNone, claim_given}
use Rattle.sack_state.specs.Disks.{CameWithin, IsSackFault, sack_phases}
use Rattle.sack_state.specs.Holding.{are_broken}
use Rattle.sack_state.specs.SackCalls.{HasTicketOf, MatchOnDisk}
use Rattle.sack_state.specs.SackView.{IsEarlier, Of, OfBoth, SackView, StandsAfter, StandsFor}
use Rattle.sack_state.proofs.CallFacts.{failed_came, failed_cause, sack_sound}
use Rattle.sack_state.proofs.CallLemmas.{failed_sound, view_of}
use Rattle.sack_state.proofs.ClaimCalls.{claim_came, claim_cause, claim_known, claim_of_place, claim_reads, claim_sound, claim_stands, unclaimed}
use Rattle.sack_state.proofs.ReadCalls.{cause_weaker, failed_reads, not_broken_yet, taken_has, was_broken}
use Rattle.sack_state.proofs.sack.Sack.claim.Goals as goal

pub returns-in-Err-clause-stands : goal.returns-in-Err-clause-stands
returns-in-Err-clause-stands g c h stands =
    let i = c.self.inside in
    let d = g.met.D.Disk in
    let then = c.take_books-taken.new.held in
    let here = subst (StandsFor g.D.Disk h) (sym c.self.view_is) stands in
    let after = unclaimed g.D.Disk d.came_tells d.reads d.came_none d.came_more d.came_then d.came_later d.came_goes_on d.only_now i.place i.opened.value i.keeping then i.claim i.claim i.tickets i.tickets i.entries c.saturating_add-self-inside.result
    c.in-Err.fault c.in-Err.ensures.err c.refusal_of.result c.refusal_of.ensures refl refl c.saturating_add-self-inside.ensures h here in
    subst (λ (v : SackView _). StandsAfter g.D.Disk h (λ counts. None) v (view_of then i.place i.opened.value i.claim i.tickets c.saturating_add-self-inside.result) (IsClaiming v.place.sack (Err c.refusal_of.result))) c.self.view_is after

pub returns-in-Err-clause-came : goal.returns-in-Err-clause-came
returns-in-Err-clause-came g c =
    let i = c.self.inside in
    let d = g.met.D.Disk in
    subst (λ (v : SackView _). OfBoth v (view_of c.take_books-taken.new.held i.place i.opened.value i.claim i.tickets c.saturating_add-self-inside.result) (λ s t. CameWithin g.D.Disk 2 2 1 s.disks t.disks)) c.self.view_is
    (failed_came g.D.Disk d.came_none d.came_more d.came_then d.came_later i.place i.keeping c.take_books-taken.new.held c.in-Err.fault c.in-Err.ensures.err 0 0 0)

pub returns-in-Err-clause-reads : goal.returns-in-Err-clause-reads
returns-in-Err-clause-reads g c =
    let i = c.self.inside in
    let d = g.met.D.Disk in
    subst (λ (v : SackView _). OfBoth v (view_of c.take_books-taken.new.held i.place i.opened.value i.claim i.tickets c.saturating_add-self-inside.result) (λ s t. AreUnwritten g.D.Disk (sack_phases s.disks t.disks))) c.self.view_is
    (failed_reads g.D.Disk d.came_goes_on i.place i.keeping c.take_books-taken.new.held c.in-Err.fault c.in-Err.ensures.err)

pub returns-in-Err-clause-cause : goal.returns-in-Err-clause-cause
returns-in-Err-clause-cause g c =
    let i = c.self.inside in
    let d = g.met.D.Disk in
    let then = c.take_books-taken.new.held in
    let told = failed_cause g.D.Disk d.came_none d.came_more d.came_then d.came_later i.place i.keeping then c.in-Err.fault c.in-Err.ensures.err c.refusal_of.result c.refusal_of.ensures in
    subst (λ (v : SackView _). MatchOnDisk c.refusal_of.result (λ f. OfBoth v (view_of then i.place i.opened.value i.claim i.tickets c.saturating_add-self-inside.result) (λ s t. IsSackFault g.D.Disk s.disks t.disks f)) (Of v (λ s. (s.broken ≡ true) ⊎ KeepsNone g.D.Disk s.books))) c.self.view_is
    (cause_weaker c.refusal_of.result _ _ _ (was_broken i.keeping (λ s. KeepsNone g.D.Disk s.books)) told)

pub returns-in-Err-clause-sound : goal.returns-in-Err-clause-sound
returns-in-Err-clause-sound g c earlier h stands legal =
    let i = c.self.inside in
    let d = g.met.D.Disk in
    let here = subst (StandsFor g.D.Disk h) (sym c.self.view_is) stands in
    let may = subst (λ (v : SackView _). IsEarlier g.D.Disk v.place v.opening earlier) (sym c.self.view_is) legal in
    sack_sound c.in-Err.fault c.refusal_of.result c.refusal_of.ensures
    (failed_sound g.D.Disk d.came_tells d.reads d.came_later i.place i.opened.value i.keeping c.take_books-taken.new.held i.claim i.claim i.tickets i.tickets i.entries c.saturating_add-self-inside.result None
    (λ b own. Unit {0}) (λ failure. Unit {0}) (λ counts. None) c.in-Err.fault c.in-Err.ensures.err refl refl c.saturating_add-self-inside.ensures h here earlier may)

pub returns-clause-stands : goal.returns-clause-stands
returns-clause-stands g c h stands =
    let i = c.self.inside in
    let d = g.met.D.Disk in
    let call = c.claim-result in
    let then = c.put_back.new.held in
    let left = c.claim_left-self-inside.result in
    let given = c.tickets_given-self-inside.result in
    let k = c.entries_after-self-inside.result in
    let anew = c.in-Ok.taken.1 in
    let here = subst (StandsFor g.D.Disk h) (sym c.self.view_is) stands in
    let broken : are_broken call.new.self ≡ c.is_broken.result = sym c.is_broken.ensures.value in
    let held = c.claim_left-held.ensures ∙ not_broken_yet anew i.claim in
    let outcome = subst (λ (o : Option HeldClaim). ClaimsFrom g.D.Disk o i.place.sack i.tickets c.in-Ok.taken.0 call.new.self call.result) held call.ensures in
    let after = claim_stands g.D.Disk d.came_tells d.reads d.came_none d.came_more d.came_then d.came_later d.came_goes_on d.only_now i.place i.opened.value i.keeping then i.claim left i.tickets given i.entries k
    c.self.invariant.few c.in-Ok.taken.0 call.new.self anew call.result c.in-Ok.ensures.ok c.in-Ok.ensures.of_place c.put_back.ensures outcome
    (c.claim_left-self-inside.ensures ∙ ap (λ o. cond c.is_broken.result None o) (c.claim_given.ensures ∙ ap (λ o. claim_given o call.result) held) ∙ ap (λ b. cond b None (claim_given (cond anew None i.claim) call.result)) (sym broken))
    c.tickets_given-self-inside.ensures c.entries_after-self-inside.ensures h here in
    subst (λ (v : SackView _). StandsAfter g.D.Disk h (λ counts. None) v (view_of then i.place i.opened.value left given k) (IsClaiming v.place.sack call.result)) c.self.view_is after

pub returns-clause-came : goal.returns-clause-came
returns-clause-came g c =
    let i = c.self.inside in
    let d = g.met.D.Disk in
    let call = c.claim-result in
    let then = c.put_back.new.held in
    let left = c.claim_left-self-inside.result in
    let given = c.tickets_given-self-inside.result in
    let k = c.entries_after-self-inside.result in
    let anew = c.in-Ok.taken.1 in
    let outcome = subst (λ (o : Option HeldClaim). ClaimsFrom g.D.Disk o i.place.sack i.tickets c.in-Ok.taken.0 call.new.self call.result) (c.claim_left-held.ensures ∙ not_broken_yet anew i.claim) call.ensures in
    subst (λ (v : SackView _). OfBoth v (view_of then i.place i.opened.value left given k) (λ s t. CameWithin g.D.Disk 2 2 1 s.disks t.disks)) c.self.view_is
    (claim_came g.D.Disk d.came_tells d.reads d.came_none d.came_more d.came_then d.came_later d.came_goes_on d.only_now i.place i.opened.value i.keeping then i.claim left i.tickets given i.entries k
    c.self.invariant.few c.in-Ok.taken.0 call.new.self anew call.result c.in-Ok.ensures.ok c.in-Ok.ensures.of_place c.put_back.ensures outcome)

pub returns-clause-reads : goal.returns-clause-reads
returns-clause-reads g c =
    let i = c.self.inside in
    let d = g.met.D.Disk in
    let call = c.claim-result in
    let then = c.put_back.new.held in
    let left = c.claim_left-self-inside.result in
    let given = c.tickets_given-self-inside.result in
    let k = c.entries_after-self-inside.result in
    let anew = c.in-Ok.taken.1 in
    let outcome = subst (λ (o : Option HeldClaim). ClaimsFrom g.D.Disk o i.place.sack i.tickets c.in-Ok.taken.0 call.new.self call.result) (c.claim_left-held.ensures ∙ not_broken_yet anew i.claim) call.ensures in
    subst (λ (v : SackView _). OfBoth v (view_of then i.place i.opened.value left given k) (λ s t. AreUnwritten g.D.Disk (sack_phases s.disks t.disks))) c.self.view_is
    (claim_reads g.D.Disk d.came_tells d.reads d.came_none d.came_more d.came_then d.came_later d.came_goes_on d.only_now i.place i.opened.value i.keeping then i.claim left i.tickets given i.entries k
    c.self.invariant.few c.in-Ok.taken.0 call.new.self anew call.result c.in-Ok.ensures.ok c.in-Ok.ensures.of_place c.put_back.ensures outcome)

pub returns-clause-known : goal.returns-clause-known
returns-clause-known g c =
    let i = c.self.inside in
    let d = g.met.D.Disk in
    let call = c.claim-result in
    let then = c.put_back.new.held in
    let left = c.claim_left-self-inside.result in
    let given = c.tickets_given-self-inside.result in
    let k = c.entries_after-self-inside.result in
    let anew = c.in-Ok.taken.1 in
    let outcome = subst (λ (o : Option HeldClaim). ClaimsFrom g.D.Disk o i.place.sack i.tickets c.in-Ok.taken.0 call.new.self call.result) (c.claim_left-held.ensures ∙ not_broken_yet anew i.claim) call.ensures in
    (claim_known g.D.Disk d.came_tells d.reads d.came_none d.came_more d.came_then d.came_later d.came_goes_on d.only_now i.place i.opened.value i.keeping then i.claim left i.tickets given i.entries k
    c.self.invariant.few c.in-Ok.taken.0 call.new.self anew call.result c.in-Ok.ensures.ok c.in-Ok.ensures.of_place c.put_back.ensures outcome)

pub returns-clause-of_place : goal.returns-clause-of_place
returns-clause-of_place g c =
    let i = c.self.inside in
    let d = g.met.D.Disk in
    let call = c.claim-result in
    let then = c.put_back.new.held in
    let left = c.claim_left-self-inside.result in
    let given = c.tickets_given-self-inside.result in
    let k = c.entries_after-self-inside.result in
    let anew = c.in-Ok.taken.1 in
    let outcome = subst (λ (o : Option HeldClaim). ClaimsFrom g.D.Disk o i.place.sack i.tickets c.in-Ok.taken.0 call.new.self call.result) (c.claim_left-held.ensures ∙ not_broken_yet anew i.claim) call.ensures in
    subst (λ (v : SackView _). IfOk call.result (HasTicketOf v.place.sack)) c.self.view_is
    (claim_of_place g.D.Disk d.came_tells d.reads d.came_none d.came_more d.came_then d.came_later d.came_goes_on d.only_now i.place i.opened.value i.keeping then i.claim left i.tickets given i.entries k
    c.self.invariant.few c.in-Ok.taken.0 call.new.self anew call.result c.in-Ok.ensures.ok c.in-Ok.ensures.of_place c.put_back.ensures outcome)

pub returns-clause-cause : goal.returns-clause-cause
returns-clause-cause g c =
    let i = c.self.inside in
    let d = g.met.D.Disk in
    let call = c.claim-result in
    let then = c.put_back.new.held in
    let left = c.claim_left-self-inside.result in
    let given = c.tickets_given-self-inside.result in
    let k = c.entries_after-self-inside.result in
    let anew = c.in-Ok.taken.1 in
    let outcome = subst (λ (o : Option HeldClaim). ClaimsFrom g.D.Disk o i.place.sack i.tickets c.in-Ok.taken.0 call.new.self call.result) (c.claim_left-held.ensures ∙ not_broken_yet anew i.claim) call.ensures in
    subst (λ (v : SackView _). IfErr call.result (λ e. MatchOnDisk e (λ f. OfBoth v (view_of then i.place i.opened.value left given k) (λ s t. IsSackFault g.D.Disk s.disks t.disks f)) (Of v (λ s. (s.broken ≡ true) ⊎ KeepsNone g.D.Disk s.books)))) c.self.view_is
    (claim_cause g.D.Disk d.came_tells d.reads d.came_none d.came_more d.came_then d.came_later d.came_goes_on d.only_now i.place i.opened.value i.keeping then i.claim left i.tickets given i.entries k
    c.self.invariant.few c.in-Ok.taken.0 call.new.self anew call.result c.in-Ok.ensures.ok c.in-Ok.ensures.of_place c.put_back.ensures outcome)

pub returns-clause-sound : goal.returns-clause-sound
returns-clause-sound g c earlier h stands legal =
    let i = c.self.inside in
    let d = g.met.D.Disk in
    let call = c.claim-result in
    let then = c.put_back.new.held in
    let left = c.claim_left-self-inside.result in
    let given = c.tickets_given-self-inside.result in
    let k = c.entries_after-self-inside.result in
    let anew = c.in-Ok.taken.1 in
    let outcome = subst (λ (o : Option HeldClaim). ClaimsFrom g.D.Disk o i.place.sack i.tickets c.in-Ok.taken.0 call.new.self call.result) (c.claim_left-held.ensures ∙ not_broken_yet anew i.claim) call.ensures in
    let here = subst (StandsFor g.D.Disk h) (sym c.self.view_is) stands in
    let may = subst (λ (v : SackView _). IsEarlier g.D.Disk v.place v.opening earlier) (sym c.self.view_is) legal in
    let has = taken_has g.D.Disk d.came_tells d.reads i.place i.opened.value i.keeping i.claim i.tickets i.entries c.in-Ok.taken.0 anew c.in-Ok.ensures.ok earlier h here may in
    claim_sound g.D.Disk d.came_tells d.reads d.came_none d.came_more d.came_then d.came_later d.came_goes_on d.only_now i.place i.opened.value i.keeping then i.claim left i.tickets given i.entries k
    c.self.invariant.few c.in-Ok.taken.0 call.new.self anew call.result c.in-Ok.ensures.ok c.in-Ok.ensures.of_place c.put_back.ensures outcome has.0 has.1
