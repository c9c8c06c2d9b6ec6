use Rattle.std.proofs.Common.{List, Some, subst}
use Rattle.front_api.specs.Seen.{LeadsTo}
use Rattle.rest_api.specs.Measures.{BatchEntry, PostsAll}
use Rattle.rest_api.proofs.DoingLemmas.{reads_measures, refuses_measures, tells_as}
use Rattle.rest_api.proofs.measures.batch.Goals as goal

pub returns-in-Ok-clause-does : goal.returns-in-Ok-clause-does
returns-in-Ok-clause-does g c =
    reads_measures g.F.Histories.stands _ _ _ _ _ _ c.in-Ok.entries.items c.in-Ok.ensures.exact
    (subst (λ (l : List BatchEntry). LeadsTo g.F.Histories.stands c.args.front.now c.post_all.new.front (PostsAll l c.post_all.result)) c.deref.ensures.value c.post_all.ensures.does)

pub returns-in-Err-clause-does : goal.returns-in-Err-clause-does
returns-in-Err-clause-does g c =
    refuses_measures g.F.Histories.stands _ _ (Some 0) _ _ c.in-Err.fault c.in-Err.ensures.exact (tells_as _ _ (Some 0) _ c.into.ensures c.of_error.ensures.told)
