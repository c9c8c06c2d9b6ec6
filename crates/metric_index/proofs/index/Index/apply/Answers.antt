use Rattle.std.specs.Bool.{⊤}
use Rattle.std.specs.Result.{IfErr}
use Rattle.std.proofs.Common.{Err, sym, subst}
use Rattle.front_api.specs.Calls.{AppliesTo, IsApplied}
use Rattle.front_api.proofs.CallLemmas.{applied_follows}
use Rattle.metric_index.specs.BookCalls.{MatchDisk, written_by}
use Rattle.metric_index.specs.Holding.{disks_in}
use Rattle.metric_index.specs.IndexView.{AllCame, IndexView, IsFaultOf, StandsAfter, StandsFor}
use Rattle.metric_index.proofs.CallFacts.{applied_sound}
use Rattle.metric_index.proofs.FaultLemmas.{call_came, call_cause}
use Rattle.metric_index.proofs.IndexLemmas.{call_after, failed_after, failed_sound, view_of}
use Rattle.metric_index.proofs.index.Index.apply.Goals as goal

pub returns-in-Err-clause-stands : goal.returns-in-Err-clause-stands
returns-in-Err-clause-stands g c first h stands =
    let i = c.self.inside in
    let command = c.args.command.now in
    let k = c.saturating_add-self-inside.result in
    let here = subst (StandsFor g.D.Disk first h) (sym c.self.view_is) stands in
    let after = failed_after g.D.Disk g.met.D.Disk.came_tells g.met.D.Disk.reads g.met.D.Disk.only_now i.held i.sacks i.entries (λ m. written_by command) (AppliesTo command) c.take_book-taken.new.held c.in-Err.fault c.refusal_of.result k c.in-Err.ensures.err c.refusal_of.ensures c.saturating_add-self-inside.ensures first h here in
    subst (λ (v : IndexView _). StandsAfter g.D.Disk first h (λ m. written_by command) v (view_of c.take_book-taken.new.held i.sacks k) (λ own. IsApplied command first h own (Err c.refusal_of.result))) c.self.view_is after

pub returns-clause-stands : goal.returns-clause-stands
returns-clause-stands g c first h stands =
    let i = c.self.inside in
    let command = c.args.command.now in
    let k = c.entries_after-self-inside.result in
    let call = c.apply-result in
    let here = subst (StandsFor g.D.Disk first h) (sym c.self.view_is) stands in
    let after = call_after g.D.Disk g.met.D.Disk.came_tells g.met.D.Disk.reads g.met.D.Disk.only_now i.held i.sacks i.entries (AppliesTo command) (applied_follows command) (λ m. written_by command) c.in-Ok.taken.0 call.new.self call.result _
    call.ensures.does call.ensures.state call.ensures.leaves call.ensures.durable call.ensures.cause c.in-Ok.ensures.of_sacks c.put_back.new.held c.put_back.ensures k c.in-Ok.taken.1 c.in-Ok.ensures.ok c.entries_after-self-inside.ensures first h here in
    subst (λ (v : IndexView _). StandsAfter g.D.Disk first h (λ m. written_by command) v (view_of c.put_back.new.held i.sacks k) (λ own. IsApplied command first h own call.result)) c.self.view_is after

pub returns-clause-came : goal.returns-clause-came
returns-clause-came g c =
    let i = c.self.inside in
    let call = c.apply-result in
    subst (λ (v : IndexView _). AllCame g.D.Disk 6 v.disks (disks_in c.put_back.new.held)) c.self.view_is
    (call_came g.D.Disk g.met.D.Disk.came_then g.met.D.Disk.came_more g.met.D.Disk.came_later i.sacks i.held c.put_back.new.held c.in-Ok.taken.0 call.new.self c.in-Ok.taken.1 c.in-Ok.ensures.ok c.put_back.ensures call.ensures.leaves.came_first call.ensures.leaves.came_second)

pub returns-clause-cause : goal.returns-clause-cause
returns-clause-cause g c =
    let i = c.self.inside in
    let call = c.apply-result in
    subst (λ (v : IndexView _). IfErr call.result (λ e. MatchDisk e (IsFaultOf g.D.Disk v.disks (disks_in c.put_back.new.held)) ⊤)) c.self.view_is
    (call_cause g.D.Disk g.met.D.Disk.came_then g.met.D.Disk.came_more g.met.D.Disk.came_later i.sacks i.held c.put_back.new.held c.in-Ok.taken.0 call.new.self c.in-Ok.taken.1 c.in-Ok.ensures.ok c.put_back.ensures call.result _ call.ensures.cause)

pub returns-in-Err-clause-sound : goal.returns-in-Err-clause-sound
returns-in-Err-clause-sound g c first h stands =
    let i = c.self.inside in
    failed_sound g.D.Disk g.met.D.Disk.came_tells g.met.D.Disk.reads g.met.D.Disk.only_now i.held i.sacks i.entries c.take_book-taken.new.held c.in-Err.fault c.refusal_of.result c.in-Err.ensures.err c.refusal_of.ensures first h (subst (StandsFor g.D.Disk first h) (sym c.self.view_is) stands)

pub returns-clause-sound : goal.returns-clause-sound
returns-clause-sound g c first h stands =
    let call = c.apply-result in
    applied_sound c.args.command.now c.in-Ok.taken.0.maps _ call.result call.ensures.does
