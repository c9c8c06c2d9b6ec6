use Rattle.std.proofs.Common.{None}
use Rattle.rest_api.proofs.DoingLemmas.{tells_as}
use Rattle.rest_api.proofs.HandlingLemmas.{handles_found, handles_no_memory, handles_no_method, handles_no_route}
use Rattle.rest_api.proofs.handling.handle.Goals as goal

pub returns-in-Found-clause-handles : goal.returns-in-Found-clause-handles
returns-in-Found-clause-handles g c =
    handles_found g.F.Histories.stands c.args.method.now c.args.target.now c.args.body.now c.args.front.now c.on_found.new.front c.in-Found.route c.in-Found.method c.in-Found.query.now
    c.on_found.result c.in-Found.ensures.exact c.on_found.ensures.does

pub returns-in-NoRoute-clause-handles : goal.returns-in-NoRoute-clause-handles
returns-in-NoRoute-clause-handles g c =
    handles_no_route g.F.Histories.stands c.args.method.now c.args.target.now c.args.body.now c.args.front.now c.of_error.result c.in-NoRoute.ensures.exact
    (tells_as _ _ None _ c.of-error.ensures c.of_error.ensures.told)

pub returns-in-NoMethod-clause-handles : goal.returns-in-NoMethod-clause-handles
returns-in-NoMethod-clause-handles g c =
    handles_no_method g.F.Histories.stands c.args.method.now c.args.target.now c.args.body.now c.args.front.now c.no_method.result c.in-NoMethod.allow.now c.in-NoMethod.ensures.exact
    c.no_method.ensures

pub returns-in-Memory-clause-handles : goal.returns-in-Memory-clause-handles
returns-in-Memory-clause-handles g c =
    handles_no_memory g.F.Histories.stands c.args.method.now c.args.target.now c.args.body.now c.args.front.now c.no_memory.result c.no_memory.ensures
