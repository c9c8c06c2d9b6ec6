use Rattle.std.proofs.Common.{◌≡◌, ◌+◌, ◌≤◌, Some, refl}
use Rattle.archive_policy.specs.Policies.{ArchivePolicy}
use Rattle.front_api.specs.Calls.{IsSpentFor}
use Rattle.front_api.specs.Maps.{last_counter}
use Rattle.front_api.specs.Replies.{IsAcceptedMetric, IsRefusedMetric}
use Rattle.front_api.specs.declared.history.IndexCounted.TheVariants as counted
use Rattle.metric_index.proofs.CallFacts.{refused_early, refused_write, still_left}
use Rattle.metric_index.proofs.book.Book.begin.Goals as goal

pub returns-in-Err-clause-does : goal.returns-in-Err-clause-does
returns-in-Err-clause-does g c =
    let m = c.args.self.now.maps in
    refused_early _ _ _ (Some (counted.Draw (m.counter + 1))) c.in-Err.fault _ c.in-Err.ensures.err

pub returns-in-Err-clause-leaves : goal.returns-in-Err-clause-leaves
returns-in-Err-clause-leaves g c =
    still_left g.D.Disk g.met.D.Disk.only_now g.met.D.Disk.counts_now g.met.D.Disk.came_none g.met.D.Disk.came_more (Some (counted.Draw (c.args.self.now.maps.counter + 1))) c.args.self.now (c.is_broken-lasting.ensures.durable c.requires)

pub returns-in-Err-change-clause-does : goal.returns-in-Err-change-clause-does
returns-in-Err-change-clause-does g c =
    let m = c.args.self.now.maps in
    let p = c.args.policy.now in
    let n = c.args.name.now in
    let r = c.args.resource.now in
    let ok = c.in-Ok.ensures.ok in
    refused_write (IsRefusedMetric m p n r) (IsSpentFor m p n r) (λ w. (w ≡ counted.Draw (m.counter + 1)) × (m.counter + 1 ≤ last_counter) × ((got : ArchivePolicy) × IsAcceptedMetric m p n r got))
    (Some (counted.Draw (m.counter + 1))) (counted.Draw (m.counter + 1)) c.in-Err-change.fault _ _ refl (refl, ok.1, (c.in-Ok.drawn.1, ok.0)) c.in-Err-change.ensures.cause
