use Rattle.std.proofs.Common.{◌≡◌, refl, arith}
use Rattle.front_api.specs.Calls.{named, spent, starved}
use Rattle.front_api.specs.Maps.{last_counter}
use Rattle.metric_index.specs.Catalog.{maps_in}
use Rattle.metric_index.proofs.CallFacts.{begun_by_name}
use Rattle.metric_index.proofs.catalog.Catalog.begin.Goals as goal

pub returns-in-Err-clause-err : goal.returns-in-Err-clause-err
returns-in-Err-clause-err c =
    let refused = c.in-Err.ensures.err in
    named c.in-Err.fault (begun_by_name (maps_in c.args.self.now) c.args.policy.now c.args.name.now c.args.resource.now c.in-Err.fault refused) refused

pub returns-then-self-ge-LAST_COUNTER-clause-err : goal.returns-then-self-ge-LAST_COUNTER-clause-err
returns-then-self-ge-LAST_COUNTER-clause-err c =
    let last : c.args.self.now.counter ≡ last_counter = omega (arith, c.requires.counter, c.if-self-ge-LAST_COUNTER.true) in
    spent last_counter (refl, last, (c.in-Ok.got.now, c.in-Ok.ensures.ok))

pub returns-in-Err-copy-clause-err : goal.returns-in-Err-copy-clause-err
returns-in-Err-copy-clause-err c = starved
