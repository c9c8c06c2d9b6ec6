use Rattle.std.proofs.Common.{◌≡◌, ℕ, cond, ◌+◌, None, Err, Option, Result, sym, subst, refl, ap, ◌∙◌}
use Rattle.std.specs.Bool.{⊤}
use Rattle.std.specs.Option.{IfSome, IsSome}
use Rattle.std.specs.Result.{IfErr}
use Rattle.sack_history.specs.Calls.{DrainsNow, IsDraining}
use Rattle.sack_history.specs.declared.fault.SackFault.{SackFault}
use Rattle.sack_history.specs.declared.holding.HeldClaim.{HeldClaim}
use Rattle.sack_history.specs.Failing.{sack_failure}
use Rattle.sack_history.specs.Turns.{drain_turns}
use Rattle.sack_state.specs.Committing.{DrainsFrom, entries_of_turns}
use Rattle.sack_state.specs.Disks.{IsSackFault}
use Rattle.sack_state.specs.Holding.{IsOfPlace}
use Rattle.sack_state.specs.SackCalls.{MatchOnDisk}
use Rattle.sack_state.specs.SackTurns.{StandsAfterTurns}
use Rattle.sack_state.specs.SackView.{IsEarlier, OfBoth, SackView, StandsFor, capped}
use Rattle.sack_state.proofs.CallFacts.{failed_cause, failure_is, failure_of, refused_as, sack_sound}
use Rattle.sack_state.proofs.CallLemmas.{failed_sound, view_of}
use Rattle.sack_state.proofs.ReadCalls.{cause_weaker, not_broken_yet}
use Rattle.sack_state.proofs.RefreshCalls.{drain_cause, drain_known, drain_place, drain_sound, drain_stands}
use Rattle.sack_state.proofs.TurnsCalls.{entries_of_mounting, failed_turns, taken_so}
use Rattle.sack_state.proofs.sack.Sack.drain.Goals as goal

pub invariant_of-self-2 : goal.invariant_of-self-2
invariant_of-self-2 g c =
    let i = c.self.inside in
    let d = g.met.D.Disk in
    let call = c.drain-turned in
    let then = c.put_back.new.held in
    let left = c.claim_left-self-inside.result in
    let k = c.entries_after_turns-self-inside.result in
    let anew = c.in-Ok.taken.1 in
    let outcome = subst (λ (o : Option HeldClaim). DrainsFrom g.D.Disk o c.in-Ok.taken.0 call.new.self call.result.result call.result.turns call.result.held) (c.claim_left-held.ensures ∙ not_broken_yet anew i.claim) call.ensures in
    let left_is = c.claim_left-self-inside.ensures ∙ ap (λ b. cond b None call.result.held) (sym (sym c.is_broken.ensures.value)) in
    record {
      some = subst (λ o. IsSome o) (sym c.put_back.ensures) refl;
      of_place = subst (λ o. IfSome o (IsOfPlace i.place)) (sym c.put_back.ensures) (drain_place g.D.Disk i.place (cond anew None i.claim) c.in-Ok.taken.0 call.new.self call.result.result call.result.turns call.result.held outcome c.in-Ok.ensures.of_place);
      few = c.self.invariant.few;
    }

pub returns-in-Err-clause-stands : goal.returns-in-Err-clause-stands
returns-in-Err-clause-stands g c h stands =
    let i = c.self.inside in
    let d = g.met.D.Disk in
    let then = c.take_books-taken.new.held in
    let r = c.refusal_of.result in
    let here = subst (StandsFor g.D.Disk h) (sym c.self.view_is) stands in
    let after = failed_turns g.D.Disk d.came_tells d.reads d.came_later i.place i.opened.value i.keeping then i.claim i.claim i.tickets i.entries c.saturating_add-self-inside.result None drain_turns
    (DrainsNow (Err r)) (λ failure. (let x : Result ℕ SackFault = Err r in x) ≡ Err (sack_failure failure)) c.in-Err.fault c.in-Err.ensures.err refl c.saturating_add-self-inside.ensures h here
    (failure_of c.in-Err.fault) (failure_is c.in-Err.fault) (ap (λ x. Err x) (refused_as c.in-Err.fault r c.refusal_of.ensures)) in
    subst (λ (v : SackView _). StandsAfterTurns g.D.Disk h drain_turns v (view_of then i.place i.opened.value i.claim i.tickets c.saturating_add-self-inside.result) (IsDraining (Err r))) c.self.view_is after

pub returns-in-Err-clause-cause : goal.returns-in-Err-clause-cause
returns-in-Err-clause-cause g c =
    let i = c.self.inside in
    let d = g.met.D.Disk in
    let then = c.take_books-taken.new.held in
    let told = failed_cause g.D.Disk d.came_none d.came_more d.came_then d.came_later i.place i.keeping then c.in-Err.fault c.in-Err.ensures.err c.refusal_of.result c.refusal_of.ensures in
    subst (λ (v : SackView _). MatchOnDisk c.refusal_of.result (λ f. OfBoth v (view_of then i.place i.opened.value i.claim i.tickets c.saturating_add-self-inside.result) (λ s t. IsSackFault g.D.Disk s.disks t.disks f)) ⊤) c.self.view_is
    (cause_weaker c.refusal_of.result _ _ _ (λ was. tt) told)

pub returns-in-Err-clause-sound : goal.returns-in-Err-clause-sound
returns-in-Err-clause-sound g c earlier h stands legal =
    let i = c.self.inside in
    let d = g.met.D.Disk in
    let here = subst (StandsFor g.D.Disk h) (sym c.self.view_is) stands in
    let may = subst (λ (v : SackView _). IsEarlier g.D.Disk v.place v.opening earlier) (sym c.self.view_is) legal in
    sack_sound c.in-Err.fault c.refusal_of.result c.refusal_of.ensures
    (failed_sound g.D.Disk d.came_tells d.reads d.came_later i.place i.opened.value i.keeping c.take_books-taken.new.held i.claim i.claim i.tickets i.tickets i.entries c.saturating_add-self-inside.result None
    (λ b own. Unit {0}) (λ failure. Unit {0}) (λ counts. None) c.in-Err.fault c.in-Err.ensures.err refl refl c.saturating_add-self-inside.ensures h here earlier may)

pub returns-clause-stands : goal.returns-clause-stands
returns-clause-stands g c h stands =
    let i = c.self.inside in
    let d = g.met.D.Disk in
    let call = c.drain-turned in
    let then = c.put_back.new.held in
    let left = c.claim_left-self-inside.result in
    let k = c.entries_after_turns-self-inside.result in
    let anew = c.in-Ok.taken.1 in
    let outcome = subst (λ (o : Option HeldClaim). DrainsFrom g.D.Disk o c.in-Ok.taken.0 call.new.self call.result.result call.result.turns call.result.held) (c.claim_left-held.ensures ∙ not_broken_yet anew i.claim) call.ensures in
    let left_is = c.claim_left-self-inside.ensures ∙ ap (λ b. cond b None call.result.held) (sym (sym c.is_broken.ensures.value)) in
    let here = subst (StandsFor g.D.Disk h) (sym c.self.view_is) stands in
    let after = drain_stands g.D.Disk d.came_tells d.reads d.came_none d.came_more d.came_then d.came_later d.came_goes_on d.only_now c.turn_is_from_scratch.ensures i.place i.opened.value i.keeping then i.claim left i.tickets i.entries k
    c.in-Ok.taken.0 call.new.self anew c.in-Ok.ensures.ok c.in-Ok.ensures.of_place c.put_back.ensures call.result.result call.result.turns call.result.held left_is outcome
    (c.entries_after_turns-self-inside.ensures ∙ ap (λ b. capped (i.entries + (entries_of_mounting anew + entries_of_turns call.result.turns b))) c.is_ok.ensures.value) h here in
    subst (λ (v : SackView _). StandsAfterTurns g.D.Disk h drain_turns v (view_of then i.place i.opened.value left i.tickets k) (IsDraining call.result.result)) c.self.view_is after

pub returns-clause-cause : goal.returns-clause-cause
returns-clause-cause g c =
    let i = c.self.inside in
    let d = g.met.D.Disk in
    let call = c.drain-turned in
    let then = c.put_back.new.held in
    let left = c.claim_left-self-inside.result in
    let k = c.entries_after_turns-self-inside.result in
    let anew = c.in-Ok.taken.1 in
    let outcome = subst (λ (o : Option HeldClaim). DrainsFrom g.D.Disk o c.in-Ok.taken.0 call.new.self call.result.result call.result.turns call.result.held) (c.claim_left-held.ensures ∙ not_broken_yet anew i.claim) call.ensures in
    let left_is = c.claim_left-self-inside.ensures ∙ ap (λ b. cond b None call.result.held) (sym (sym c.is_broken.ensures.value)) in
    subst (λ (v : SackView _). IfErr call.result.result (λ e. MatchOnDisk e (λ f. OfBoth v (view_of then i.place i.opened.value left i.tickets k) (λ s t. IsSackFault g.D.Disk s.disks t.disks f)) ⊤)) c.self.view_is
    (drain_cause g.D.Disk d.came_tells d.reads d.came_none d.came_more d.came_then d.came_later d.came_goes_on d.only_now c.turn_is_from_scratch.ensures i.place i.opened.value i.keeping then i.claim left i.tickets i.entries k
    c.in-Ok.taken.0 call.new.self anew c.in-Ok.ensures.ok c.in-Ok.ensures.of_place c.put_back.ensures call.result.result call.result.turns call.result.held left_is outcome)

pub returns-clause-sound : goal.returns-clause-sound
returns-clause-sound g c earlier h stands legal =
    let i = c.self.inside in
    let d = g.met.D.Disk in
    let call = c.drain-turned in
    let then = c.put_back.new.held in
    let left = c.claim_left-self-inside.result in
    let k = c.entries_after_turns-self-inside.result in
    let anew = c.in-Ok.taken.1 in
    let outcome = subst (λ (o : Option HeldClaim). DrainsFrom g.D.Disk o c.in-Ok.taken.0 call.new.self call.result.result call.result.turns call.result.held) (c.claim_left-held.ensures ∙ not_broken_yet anew i.claim) call.ensures in
    let left_is = c.claim_left-self-inside.ensures ∙ ap (λ b. cond b None call.result.held) (sym (sym c.is_broken.ensures.value)) in
    let here = subst (StandsFor g.D.Disk h) (sym c.self.view_is) stands in
    let may = subst (λ (v : SackView _). IsEarlier g.D.Disk v.place v.opening earlier) (sym c.self.view_is) legal in
    let so = taken_so g.D.Disk d.came_tells d.reads d.came_later i.place i.opened.value i.keeping then i.claim left i.tickets i.entries k None (λ x. x) c.in-Ok.taken.0 anew c.in-Ok.ensures.ok earlier h here may in
    drain_sound g.D.Disk d.came_tells d.reads d.came_none d.came_more d.came_then d.came_later d.came_goes_on d.only_now c.turn_is_from_scratch.ensures i.place i.opened.value i.keeping then i.claim left i.tickets i.entries k
    c.in-Ok.taken.0 call.new.self anew c.in-Ok.ensures.ok c.in-Ok.ensures.of_place c.put_back.ensures call.result.result call.result.turns call.result.held left_is outcome so.v so.history so.taken

pub returns-clause-known : goal.returns-clause-known
returns-clause-known g c =
    let i = c.self.inside in
    let d = g.met.D.Disk in
    let call = c.drain-turned in
    let then = c.put_back.new.held in
    let left = c.claim_left-self-inside.result in
    let k = c.entries_after_turns-self-inside.result in
    let anew = c.in-Ok.taken.1 in
    let outcome = subst (λ (o : Option HeldClaim). DrainsFrom g.D.Disk o c.in-Ok.taken.0 call.new.self call.result.result call.result.turns call.result.held) (c.claim_left-held.ensures ∙ not_broken_yet anew i.claim) call.ensures in
    let left_is = c.claim_left-self-inside.ensures ∙ ap (λ b. cond b None call.result.held) (sym (sym c.is_broken.ensures.value)) in
    drain_known g.D.Disk d.came_tells d.reads d.came_none d.came_more d.came_then d.came_later d.came_goes_on d.only_now c.turn_is_from_scratch.ensures i.place i.opened.value i.keeping then i.claim left i.tickets i.entries k
    c.in-Ok.taken.0 call.new.self anew c.in-Ok.ensures.ok c.in-Ok.ensures.of_place c.put_back.ensures call.result.result call.result.turns call.result.held left_is outcome
