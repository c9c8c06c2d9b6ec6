use Rattle.std.proofs.Common.{◌≡◌, ◌⊎◌, true, cond, ◌||◌, None, Some, Err, Option, sym, subst, refl, ap, ◌∙◌}
use Rattle.std.specs.Bool.{⊤}
use Rattle.std.specs.Option.{MatchOption, option_map}
use Rattle.std.specs.Result.{IfErr, is_ok}
use Rattle.gno_num.specs.declared.faults.DiskFault.{DiskFault as Fault}
use Rattle.sack_history.specs.Calls.{IsCommitting}
use Rattle.sack_history.specs.declared.entry.Counted.TheVariants as counted
use Rattle.sack_history.specs.declared.holding.HeldClaim.{HeldClaim}
use Rattle.sack_state.specs.Claiming.{KeepsNone}
use Rattle.sack_state.specs.Committing.{CameByCommit, CommitsFrom}
use Rattle.sack_state.specs.Disks.{IsSackFault}
use Rattle.sack_state.specs.Holding.{are_broken, state_of}
use Rattle.sack_state.specs.SackCalls.{HandsBack, MatchCommitOnDisk}
use Rattle.sack_state.specs.SackView.{IsEarlier, Of, OfBoth, SackView, StandsAfter, StandsFor}
use Rattle.sack_state.proofs.CallFacts.{failed_cause, sack_sound}
use Rattle.sack_state.proofs.CallLemmas.{failed_sound, view_of}
use Rattle.sack_state.proofs.CommitCalls.{commit_back, commit_came, commit_cause, commit_sound, commit_stands, failed_commit_came, handed_back, told_of_commit, uncommitted}
use Rattle.sack_state.proofs.ReadCalls.{cause_weaker, not_broken_yet, taken_has, was_broken}
use Rattle.sack_state.proofs.sack.Sack.commit.Goals as goal

pub returns-in-Err-clause-stands : goal.returns-in-Err-clause-stands
returns-in-Err-clause-stands g c h stands =
    let i = c.self.inside in
    let d = g.met.D.Disk in
    let then = c.take_books-taken.new.held in
    let here = subst (StandsFor g.D.Disk h) (sym c.self.view_is) stands in
    let after = uncommitted g.D.Disk d.came_tells d.reads d.came_none d.came_more d.came_then d.came_later d.came_goes_on d.only_now i.place i.opened.value i.keeping then i.claim i.claim i.tickets i.entries c.saturating_add-self-inside.result c.args.prepared
    c.in-Err.fault c.in-Err.ensures.err c.refusal_of.result c.refusal_of.ensures c.committing_fault.result c.committing_fault.ensures refl c.saturating_add-self-inside.ensures h here in
    subst (λ (v : SackView _). StandsAfter g.D.Disk h (λ counts. Some (counted.Done c.args.prepared.job.metric c.args.prepared.job.upto)) v (view_of then i.place i.opened.value i.claim i.tickets c.saturating_add-self-inside.result) (IsCommitting c.args.prepared (Err c.committing_fault.result))) c.self.view_is after

pub returns-in-Err-clause-came : goal.returns-in-Err-clause-came
returns-in-Err-clause-came g c =
    let i = c.self.inside in
    let d = g.met.D.Disk in
    let then = c.take_books-taken.new.held in
    subst (λ (v : SackView _). OfBoth v (view_of then i.place i.opened.value i.claim i.tickets c.saturating_add-self-inside.result) (λ s t. CameByCommit g.D.Disk c.args.prepared s.disks t.disks)) c.self.view_is
    (failed_commit_came g.D.Disk d.came_tells d.reads d.came_none d.came_more d.came_then d.came_later d.came_goes_on d.only_now i.place i.opened.value i.keeping then i.claim i.claim i.tickets i.entries c.saturating_add-self-inside.result c.args.prepared
    c.in-Err.fault c.in-Err.ensures.err)

pub returns-in-Err-clause-back : goal.returns-in-Err-clause-back
returns-in-Err-clause-back g c = subst (HandsBack c.args.prepared) (sym c.committing_fault.ensures) (handed_back c.args.prepared c.refusal_of.result)

pub returns-in-Err-clause-cause : goal.returns-in-Err-clause-cause
returns-in-Err-clause-cause g c =
    let i = c.self.inside in
    let d = g.met.D.Disk in
    let then = c.take_books-taken.new.held in
    let told = failed_cause g.D.Disk d.came_none d.came_more d.came_then d.came_later i.place i.keeping then c.in-Err.fault c.in-Err.ensures.err c.refusal_of.result c.refusal_of.ensures in
    let Fault_told : Fault → Type 0 = λ f. MatchOption (option_map state_of i.keeping) ⊥ (λ s. MatchOption (option_map state_of then) ⊥ (λ t. IsSackFault g.D.Disk s.disks t.disks f)) in
    let Damage_told : Type 0 = MatchOption (option_map state_of i.keeping) ⊥ (λ s. (s.broken ≡ true) ⊎ KeepsNone g.D.Disk s.books) in
    subst (λ (v : SackView _). MatchCommitOnDisk c.committing_fault.result (λ f. OfBoth v (view_of then i.place i.opened.value i.claim i.tickets c.saturating_add-self-inside.result) (λ s t. IsSackFault g.D.Disk s.disks t.disks f)) (Of v (λ s. (s.broken ≡ true) ⊎ KeepsNone g.D.Disk s.books))) c.self.view_is
    (subst (λ e. MatchCommitOnDisk e Fault_told Damage_told) (sym c.committing_fault.ensures) (told_of_commit c.args.prepared c.refusal_of.result Fault_told Damage_told (cause_weaker c.refusal_of.result _ _ _ (was_broken i.keeping (λ s. KeepsNone g.D.Disk s.books)) told)))

pub returns-in-Err-clause-sound : goal.returns-in-Err-clause-sound
returns-in-Err-clause-sound g c earlier h stands legal =
    let i = c.self.inside in
    let d = g.met.D.Disk in
    let here = subst (StandsFor g.D.Disk h) (sym c.self.view_is) stands in
    let may = subst (λ (v : SackView _). IsEarlier g.D.Disk v.place v.opening earlier) (sym c.self.view_is) legal in
    subst (λ e. MatchCommitOnDisk e (λ f. ⊤) ⊥) (sym c.committing_fault.ensures) (told_of_commit c.args.prepared c.refusal_of.result (λ f. ⊤) ⊥
    (sack_sound c.in-Err.fault c.refusal_of.result c.refusal_of.ensures
    (failed_sound g.D.Disk d.came_tells d.reads d.came_later i.place i.opened.value i.keeping c.take_books-taken.new.held i.claim i.claim i.tickets i.tickets i.entries c.saturating_add-self-inside.result None
    (λ b own. Unit {0}) (λ failure. Unit {0}) (λ counts. None) c.in-Err.fault c.in-Err.ensures.err refl refl c.saturating_add-self-inside.ensures h here earlier may)))

pub returns-clause-stands : goal.returns-clause-stands
returns-clause-stands g c h stands =
    let i = c.self.inside in
    let d = g.met.D.Disk in
    let call = c.commit-result in
    let then = c.put_back.new.held in
    let left = c.claim_left-self-inside.result in
    let k = c.entries_after-self-inside.result in
    let anew = c.in-Ok.taken.1 in
    let held = c.claim_left-held.ensures ∙ not_broken_yet anew i.claim in
    let outcome = subst (λ (o : Option HeldClaim). CommitsFrom g.D.Disk o c.args.prepared c.in-Ok.taken.0 call.new.self call.result) held call.ensures in
    let here = subst (StandsFor g.D.Disk h) (sym c.self.view_is) stands in
    let broken : are_broken call.new.self ≡ c.is_broken.result = sym c.is_broken.ensures.value in
    let after = commit_stands g.D.Disk d.came_tells d.reads d.came_none d.came_more d.came_then d.came_later d.came_goes_on d.only_now i.place i.opened.value i.keeping then i.claim left i.tickets i.entries k c.args.prepared
    c.in-Ok.taken.0 call.new.self anew call.result c.in-Ok.ensures.ok c.in-Ok.ensures.of_place c.put_back.ensures outcome c.turn_is_from_scratch.ensures
    (c.claim_left-self-inside.ensures ∙ ap (λ b. cond (b || c.is_broken.result) None c.claim_left-held.result) c.is_ok.ensures.value ∙ ap (λ o. cond (is_ok call.result || c.is_broken.result) None o) held ∙ ap (λ b. cond (is_ok call.result || b) None (cond anew None i.claim)) (sym broken))
    c.entries_after-self-inside.ensures h here in
    subst (λ (v : SackView _). StandsAfter g.D.Disk h (λ counts. Some (counted.Done c.args.prepared.job.metric c.args.prepared.job.upto)) v (view_of then i.place i.opened.value left i.tickets k) (IsCommitting c.args.prepared call.result)) c.self.view_is after

pub returns-clause-came : goal.returns-clause-came
returns-clause-came g c =
    let i = c.self.inside in
    let d = g.met.D.Disk in
    let call = c.commit-result in
    let then = c.put_back.new.held in
    let left = c.claim_left-self-inside.result in
    let k = c.entries_after-self-inside.result in
    let anew = c.in-Ok.taken.1 in
    let held = c.claim_left-held.ensures ∙ not_broken_yet anew i.claim in
    let outcome = subst (λ (o : Option HeldClaim). CommitsFrom g.D.Disk o c.args.prepared c.in-Ok.taken.0 call.new.self call.result) held call.ensures in
    subst (λ (v : SackView _). OfBoth v (view_of then i.place i.opened.value left i.tickets k) (λ s t. CameByCommit g.D.Disk c.args.prepared s.disks t.disks)) c.self.view_is
    (commit_came g.D.Disk d.came_tells d.reads d.came_none d.came_more d.came_then d.came_later d.came_goes_on d.only_now i.place i.opened.value i.keeping then i.claim left i.tickets i.entries k c.args.prepared
    c.in-Ok.taken.0 call.new.self anew call.result c.in-Ok.ensures.ok c.in-Ok.ensures.of_place c.put_back.ensures outcome)

pub returns-clause-back : goal.returns-clause-back
returns-clause-back g c =
    let i = c.self.inside in
    let d = g.met.D.Disk in
    let call = c.commit-result in
    let then = c.put_back.new.held in
    let left = c.claim_left-self-inside.result in
    let k = c.entries_after-self-inside.result in
    let anew = c.in-Ok.taken.1 in
    let held = c.claim_left-held.ensures ∙ not_broken_yet anew i.claim in
    let outcome = subst (λ (o : Option HeldClaim). CommitsFrom g.D.Disk o c.args.prepared c.in-Ok.taken.0 call.new.self call.result) held call.ensures in
    commit_back g.D.Disk d.came_tells d.reads d.came_none d.came_more d.came_then d.came_later d.came_goes_on d.only_now i.place i.opened.value i.keeping then i.claim left i.tickets i.entries k c.args.prepared
    c.in-Ok.taken.0 call.new.self anew call.result c.in-Ok.ensures.ok c.in-Ok.ensures.of_place c.put_back.ensures outcome

pub returns-clause-cause : goal.returns-clause-cause
returns-clause-cause g c =
    let i = c.self.inside in
    let d = g.met.D.Disk in
    let call = c.commit-result in
    let then = c.put_back.new.held in
    let left = c.claim_left-self-inside.result in
    let k = c.entries_after-self-inside.result in
    let anew = c.in-Ok.taken.1 in
    let held = c.claim_left-held.ensures ∙ not_broken_yet anew i.claim in
    let outcome = subst (λ (o : Option HeldClaim). CommitsFrom g.D.Disk o c.args.prepared c.in-Ok.taken.0 call.new.self call.result) held call.ensures in
    subst (λ (v : SackView _). IfErr call.result (λ e. MatchCommitOnDisk e (λ f. OfBoth v (view_of then i.place i.opened.value left i.tickets k) (λ s t. IsSackFault g.D.Disk s.disks t.disks f)) (Of v (λ s. (s.broken ≡ true) ⊎ KeepsNone g.D.Disk s.books)))) c.self.view_is
    (commit_cause g.D.Disk d.came_tells d.reads d.came_none d.came_more d.came_then d.came_later d.came_goes_on d.only_now i.place i.opened.value i.keeping then i.claim left i.tickets i.entries k c.args.prepared
    c.in-Ok.taken.0 call.new.self anew call.result c.in-Ok.ensures.ok c.in-Ok.ensures.of_place c.put_back.ensures outcome)

pub returns-clause-sound : goal.returns-clause-sound
returns-clause-sound g c earlier h stands legal =
    let i = c.self.inside in
    let d = g.met.D.Disk in
    let call = c.commit-result in
    let then = c.put_back.new.held in
    let left = c.claim_left-self-inside.result in
    let k = c.entries_after-self-inside.result in
    let anew = c.in-Ok.taken.1 in
    let held = c.claim_left-held.ensures ∙ not_broken_yet anew i.claim in
    let outcome = subst (λ (o : Option HeldClaim). CommitsFrom g.D.Disk o c.args.prepared c.in-Ok.taken.0 call.new.self call.result) held call.ensures in
    let here = subst (StandsFor g.D.Disk h) (sym c.self.view_is) stands in
    let may = subst (λ (v : SackView _). IsEarlier g.D.Disk v.place v.opening earlier) (sym c.self.view_is) legal in
    let has = taken_has g.D.Disk d.came_tells d.reads i.place i.opened.value i.keeping i.claim i.tickets i.entries c.in-Ok.taken.0 anew c.in-Ok.ensures.ok earlier h here may in
    commit_sound g.D.Disk d.came_tells d.reads d.came_none d.came_more d.came_then d.came_later d.came_goes_on d.only_now i.place i.opened.value i.keeping then i.claim left i.tickets i.entries k c.args.prepared
    c.in-Ok.taken.0 call.new.self anew call.result c.in-Ok.ensures.ok c.in-Ok.ensures.of_place c.put_back.ensures outcome has.0 has.1
