use Rattle.std.proofs.Common.{◌≡◌, ◌<◌, Some, length, rules}
use Rattle.bound_series.specs.Jobs.{place_in}
use Rattle.bound_series.proofs.Preparing.{present}
use Rattle.bound_series.proofs.job.Prepared.points.Goals as goal

pub returns-in-Some-clause-absent : goal.returns-in-Some-clause-absent
returns-in-Some-clause-absent c missing =
    let policy = c.args.self.now.job.policy in
    let inside : c.args.definition < length policy.definitions = search rules in
    let is : place_in policy.kinds c.args.kind ≡ Some c.in-Some.place = search rules in
    absurd (present policy.definitions policy.kinds c.args.definition c.args.kind c.in-Some.place inside is missing)
