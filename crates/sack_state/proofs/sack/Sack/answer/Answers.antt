use Rattle.std.proofs.Common.{◌≡◌, ◌⊎◌, true, cond, ◌||◌, None, Err, sym, subst, refl, ap, ◌∙◌}
use Rattle.std.specs.Bool.{⊤}
use Rattle.std.specs.Option.{MatchOption, option_map}
use Rattle.std.specs.Result.{IfErr}
use Rattle.gno_disk.specs.Phases.{AreUnwritten}
use Rattle.gno_num.specs.declared.faults.DiskFault.{DiskFault as Fault}
use Rattle.sack_history.specs.Calls.{IsAnswering}
use Rattle.sack_state.specs.Claiming.{KeepsNone}
use Rattle.sack_state.specs.Disks.{CameWithin, IsSackFault, sack_phases}
use Rattle.sack_state.specs.Holding.{are_broken, state_of}
use Rattle.sack_state.specs.SackCalls.{MatchAnswerOnDisk}
use Rattle.sack_state.specs.SackView.{IsEarlier, Of, OfBoth, SackView, StandsAfter, StandsFor}
use Rattle.sack_state.proofs.AnswerCalls.{answer_came, answer_cause, answer_reads, answer_sound, answer_stands, not_answered, told_of_answer}
use Rattle.sack_state.proofs.CallFacts.{failed_came, failed_cause, sack_sound}
use Rattle.sack_state.proofs.CallLemmas.{failed_sound, view_of}
use Rattle.sack_state.proofs.ReadCalls.{cause_weaker, failed_reads, taken_has, was_broken}
use Rattle.sack_state.proofs.sack.Sack.answer.Goals as goal

pub returns-in-Err-clause-stands : goal.returns-in-Err-clause-stands
returns-in-Err-clause-stands g c h stands =
    let i = c.self.inside in
    let d = g.met.D.Disk in
    let then = c.take_books-taken.new.held in
    let here = subst (StandsFor g.D.Disk h) (sym c.self.view_is) stands in
    let after = not_answered g.D.Disk d.came_tells d.reads d.came_none d.came_more d.came_then d.came_later d.came_goes_on d.only_now i.place i.opened.value i.keeping then i.claim i.claim i.tickets i.entries c.saturating_add-self-inside.result c.args.metric c.args.query.now
    c.in-Err.fault c.in-Err.ensures.err c.refusal_of.result c.refusal_of.ensures c.answering_fault.result c.answering_fault.ensures refl c.saturating_add-self-inside.ensures h here in
    subst (λ (v : SackView _). StandsAfter g.D.Disk h (λ counts. None) v (view_of then i.place i.opened.value i.claim i.tickets c.saturating_add-self-inside.result) (IsAnswering c.args.metric c.args.query.now (Err c.answering_fault.result))) c.self.view_is after

pub returns-in-Err-clause-came : goal.returns-in-Err-clause-came
returns-in-Err-clause-came g c =
    let i = c.self.inside in
    let d = g.met.D.Disk in
    subst (λ (v : SackView _). OfBoth v (view_of c.take_books-taken.new.held i.place i.opened.value i.claim i.tickets c.saturating_add-self-inside.result) (λ s t. CameWithin g.D.Disk 2 2 1 s.disks t.disks)) c.self.view_is
    (failed_came g.D.Disk d.came_none d.came_more d.came_then d.came_later i.place i.keeping c.take_books-taken.new.held c.in-Err.fault c.in-Err.ensures.err 0 0 0)

pub returns-in-Err-clause-reads : goal.returns-in-Err-clause-reads
returns-in-Err-clause-reads g c =
    let i = c.self.inside in
    let d = g.met.D.Disk in
    subst (λ (v : SackView _). OfBoth v (view_of c.take_books-taken.new.held i.place i.opened.value i.claim i.tickets c.saturating_add-self-inside.result) (λ s t. AreUnwritten g.D.Disk (sack_phases s.disks t.disks))) c.self.view_is
    (failed_reads g.D.Disk d.came_goes_on i.place i.keeping c.take_books-taken.new.held c.in-Err.fault c.in-Err.ensures.err)

pub returns-in-Err-clause-cause : goal.returns-in-Err-clause-cause
returns-in-Err-clause-cause g c =
    let i = c.self.inside in
    let d = g.met.D.Disk in
    let then = c.take_books-taken.new.held in
    let told = failed_cause g.D.Disk d.came_none d.came_more d.came_then d.came_later i.place i.keeping then c.in-Err.fault c.in-Err.ensures.err c.refusal_of.result c.refusal_of.ensures in
    let Fault_told : Fault → Type 0 = λ f. MatchOption (option_map state_of i.keeping) ⊥ (λ s. MatchOption (option_map state_of then) ⊥ (λ t. IsSackFault g.D.Disk s.disks t.disks f)) in
    let Damage_told : Type 0 = MatchOption (option_map state_of i.keeping) ⊥ (λ s. (s.broken ≡ true) ⊎ KeepsNone g.D.Disk s.books) in
    subst (λ (v : SackView _). MatchAnswerOnDisk c.answering_fault.result (λ f. OfBoth v (view_of then i.place i.opened.value i.claim i.tickets c.saturating_add-self-inside.result) (λ s t. IsSackFault g.D.Disk s.disks t.disks f)) (Of v (λ s. (s.broken ≡ true) ⊎ KeepsNone g.D.Disk s.books))) c.self.view_is
    (subst (λ e. MatchAnswerOnDisk e Fault_told Damage_told) (sym c.answering_fault.ensures) (told_of_answer c.refusal_of.result Fault_told Damage_told (cause_weaker c.refusal_of.result _ _ _ (was_broken i.keeping (λ s. KeepsNone g.D.Disk s.books)) told)))

pub returns-in-Err-clause-sound : goal.returns-in-Err-clause-sound
returns-in-Err-clause-sound g c earlier h stands legal =
    let i = c.self.inside in
    let d = g.met.D.Disk in
    let here = subst (StandsFor g.D.Disk h) (sym c.self.view_is) stands in
    let may = subst (λ (v : SackView _). IsEarlier g.D.Disk v.place v.opening earlier) (sym c.self.view_is) legal in
    subst (λ e. MatchAnswerOnDisk e (λ f. ⊤) ⊥) (sym c.answering_fault.ensures) (told_of_answer c.refusal_of.result (λ f. ⊤) ⊥
    (sack_sound c.in-Err.fault c.refusal_of.result c.refusal_of.ensures
    (failed_sound g.D.Disk d.came_tells d.reads d.came_later i.place i.opened.value i.keeping c.take_books-taken.new.held i.claim i.claim i.tickets i.tickets i.entries c.saturating_add-self-inside.result None
    (λ b own. Unit {0}) (λ failure. Unit {0}) (λ counts. None) c.in-Err.fault c.in-Err.ensures.err refl refl c.saturating_add-self-inside.ensures h here earlier may)))

pub returns-clause-stands : goal.returns-clause-stands
returns-clause-stands g c h stands =
    let i = c.self.inside in
    let d = g.met.D.Disk in
    let call = c.answer-result in
    let then = c.put_back.new.held in
    let left = c.claim_left-self-inside.result in
    let k = c.entries_after-self-inside.result in
    let here = subst (StandsFor g.D.Disk h) (sym c.self.view_is) stands in
    let broken : are_broken call.new.self ≡ c.is_broken.result = sym c.is_broken.ensures.value in
    let after = answer_stands g.D.Disk d.came_tells d.reads d.came_none d.came_more d.came_then d.came_later d.came_goes_on d.only_now i.place i.opened.value i.keeping then i.claim left i.tickets i.entries k c.args.metric c.args.query.now
    c.in-Ok.taken.0 call.new.self c.in-Ok.taken.1 call.result c.in-Ok.ensures.ok c.in-Ok.ensures.of_place c.put_back.ensures call.ensures
    (c.claim_left-self-inside.ensures ∙ ap (λ b. cond (c.in-Ok.taken.1 || b) None i.claim) (sym broken)) c.entries_after-self-inside.ensures h here in
    subst (λ (v : SackView _). StandsAfter g.D.Disk h (λ counts. None) v (view_of then i.place i.opened.value left i.tickets k) (IsAnswering c.args.metric c.args.query.now call.result)) c.self.view_is after

pub returns-clause-came : goal.returns-clause-came
returns-clause-came g c =
    let i = c.self.inside in
    let d = g.met.D.Disk in
    let call = c.answer-result in
    let then = c.put_back.new.held in
    let left = c.claim_left-self-inside.result in
    let k = c.entries_after-self-inside.result in
    subst (λ (v : SackView _). OfBoth v (view_of then i.place i.opened.value left i.tickets k) (λ s t. CameWithin g.D.Disk 2 2 1 s.disks t.disks)) c.self.view_is
    (answer_came g.D.Disk d.came_tells d.reads d.came_none d.came_more d.came_then d.came_later d.came_goes_on d.only_now i.place i.opened.value i.keeping then i.claim left i.tickets i.entries k c.args.metric c.args.query.now
    c.in-Ok.taken.0 call.new.self c.in-Ok.taken.1 call.result c.in-Ok.ensures.ok c.in-Ok.ensures.of_place c.put_back.ensures call.ensures)

pub returns-clause-reads : goal.returns-clause-reads
returns-clause-reads g c =
    let i = c.self.inside in
    let d = g.met.D.Disk in
    let call = c.answer-result in
    let then = c.put_back.new.held in
    let left = c.claim_left-self-inside.result in
    let k = c.entries_after-self-inside.result in
    subst (λ (v : SackView _). OfBoth v (view_of then i.place i.opened.value left i.tickets k) (λ s t. AreUnwritten g.D.Disk (sack_phases s.disks t.disks))) c.self.view_is
    (answer_reads g.D.Disk d.came_tells d.reads d.came_none d.came_more d.came_then d.came_later d.came_goes_on d.only_now i.place i.opened.value i.keeping then i.claim left i.tickets i.entries k c.args.metric c.args.query.now
    c.in-Ok.taken.0 call.new.self c.in-Ok.taken.1 call.result c.in-Ok.ensures.ok c.in-Ok.ensures.of_place c.put_back.ensures call.ensures)

pub returns-clause-cause : goal.returns-clause-cause
returns-clause-cause g c =
    let i = c.self.inside in
    let d = g.met.D.Disk in
    let call = c.answer-result in
    let then = c.put_back.new.held in
    let left = c.claim_left-self-inside.result in
    let k = c.entries_after-self-inside.result in
    subst (λ (v : SackView _). IfErr call.result (λ e. MatchAnswerOnDisk e (λ f. OfBoth v (view_of then i.place i.opened.value left i.tickets k) (λ s t. IsSackFault g.D.Disk s.disks t.disks f)) (Of v (λ s. (s.broken ≡ true) ⊎ KeepsNone g.D.Disk s.books)))) c.self.view_is
    (answer_cause g.D.Disk d.came_tells d.reads d.came_none d.came_more d.came_then d.came_later d.came_goes_on d.only_now i.place i.opened.value i.keeping then i.claim left i.tickets i.entries k c.args.metric c.args.query.now
    c.in-Ok.taken.0 call.new.self c.in-Ok.taken.1 call.result c.in-Ok.ensures.ok c.in-Ok.ensures.of_place c.put_back.ensures call.ensures)

pub returns-clause-sound : goal.returns-clause-sound
returns-clause-sound g c earlier h stands legal =
    let i = c.self.inside in
    let d = g.met.D.Disk in
    let call = c.answer-result in
    let then = c.put_back.new.held in
    let left = c.claim_left-self-inside.result in
    let k = c.entries_after-self-inside.result in
    let here = subst (StandsFor g.D.Disk h) (sym c.self.view_is) stands in
    let may = subst (λ (v : SackView _). IsEarlier g.D.Disk v.place v.opening earlier) (sym c.self.view_is) legal in
    let has = taken_has g.D.Disk d.came_tells d.reads i.place i.opened.value i.keeping i.claim i.tickets i.entries c.in-Ok.taken.0 c.in-Ok.taken.1 c.in-Ok.ensures.ok earlier h here may in
    answer_sound g.D.Disk d.came_tells d.reads d.came_none d.came_more d.came_then d.came_later d.came_goes_on d.only_now i.place i.opened.value i.keeping then i.claim left i.tickets i.entries k c.args.metric c.args.query.now
    c.in-Ok.taken.0 call.new.self c.in-Ok.taken.1 call.result c.in-Ok.ensures.ok c.in-Ok.ensures.of_place c.put_back.ensures call.ensures has.0 has.1
