use Rattle.std.proofs.Common.{None}
use Rattle.rest_api.proofs.DoingLemmas.{tells_as}
use Rattle.rest_api.proofs.MeasuresLemmas.{reads_not_refreshed, reads_refreshed}
use Rattle.rest_api.proofs.measures.read_rows.Goals as goal

pub returns-in-Ok-clause-does : goal.returns-in-Ok-clause-does
returns-in-Ok-clause-does g c =
    reads_refreshed g.F.Histories.stands c.args.front.now c.refresh.new.self c.answer_rows-in-Ok.new.front c.args.asked.now c.args.metric c.answer_rows-in-Ok.result c.in-Ok.field-0
    c.if-not-asked.false c.in-Ok.ensures.refreshes c.answer_rows-in-Ok.ensures.does

pub returns-in-Err-clause-does : goal.returns-in-Err-clause-does
returns-in-Err-clause-does g c =
    reads_not_refreshed g.F.Histories.stands c.args.front.now c.refresh.new.self c.args.asked.now c.args.metric c.of_error.result c.in-Err.fault
    c.if-not-asked.false c.in-Err.ensures.refreshes (tells_as _ _ None _ c.into.ensures c.of_error.ensures.told)
