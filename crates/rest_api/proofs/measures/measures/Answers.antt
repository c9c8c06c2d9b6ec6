use Rattle.std.proofs.Common.{None, refl}
use Rattle.front_api.specs.Seen.{LeadsTo}
use Rattle.rest_api.specs.Measures.{OnMeasures}
use Rattle.rest_api.proofs.DoingLemmas.{either, reads_measures, refuses_measures, tells_as}
use Rattle.rest_api.proofs.MeasuresLemmas.{reads_query, refuses_query}
use Rattle.rest_routes.specs.declared.method.Method.{Method}
use Rattle.rest_api.proofs.measures.measures.Goals as goal

pub returns-in-Ok-clause-does : goal.returns-in-Ok-clause-does
returns-in-Ok-clause-does g c =
    rw c.in-Post.is (reads_measures g.F.Histories.stands _ _ _ _ _ _ c.in-Ok.batch c.in-Ok.ensures.exact c.post_of.ensures.does)

pub returns-in-Err-clause-does : goal.returns-in-Err-clause-does
returns-in-Err-clause-does g c =
    rw c.in-Post.is (refuses_measures g.F.Histories.stands _ _ None _ _ c.in-Err.fault c.in-Err.ensures.exact (tells_as _ _ None _ c.into.ensures c.of_error.ensures.told))

pub returns-in-Ok-read_query : goal.returns-in-Ok-read_query
returns-in-Ok-read_query g c =
    let reads = reads_query g.F.Histories.stands c.args.front.now c.rows_of.new.front c.args.query.now _ c.rows_of.result c.in-Ok-read_query.asked c.in-Ok-read_query.ensures.ok c.rows_of.ensures.does in
    record {
      does = either _ _ _ (λ (m : Method). LeadsTo g.F.Histories.stands c.args.front.now c.rows_of.new.front (OnMeasures c.args.id m c.args.query.now c.args.body.now c.rows_of.result)) c.in-Get.is reads reads;
      same = c.rows_of.ensures.same;
    }

pub returns-in-Err-read_query : goal.returns-in-Err-read_query
returns-in-Err-read_query g c =
    let answer = c.of_error-in-Err-read_query.result in
    let refuses = refuses_query g.F.Histories.stands c.args.front.now c.args.query.now _ answer c.in-Err-read_query.fault c.in-Err-read_query.ensures.bad
    (tells_as _ _ None _ c.into-in-Err-read_query.ensures c.of_error-in-Err-read_query.ensures.told) in
    record {
      does = either _ _ _ (λ (m : Method). LeadsTo g.F.Histories.stands c.args.front.now c.args.front.now (OnMeasures c.args.id m c.args.query.now c.args.body.now answer)) c.in-Get.is refuses refuses;
      same = (refl, refl, refl);
    }
