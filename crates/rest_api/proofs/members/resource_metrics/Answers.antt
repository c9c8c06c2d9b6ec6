use Rattle.std.proofs.Common.{List, Some, subst}
use Rattle.control_docs.specs.Resource.{NamedPolicy}
use Rattle.front_api.specs.Seen.{LeadsTo}
use Rattle.rest_api.specs.Members.{AddsMembers, OnResourceMetrics, WithResource}
use Rattle.rest_api.proofs.DoingLemmas.{either, reads_document, refuses_document, tells_as}
use Rattle.rest_routes.specs.declared.method.Method.{Method}
use Rattle.rest_api.proofs.members.resource_metrics.Goals as goal

pub returns-in-Ok-clause-does : goal.returns-in-Ok-clause-does
returns-in-Ok-clause-does g c =
    rw c.in-Post.is (reads_document g.F.Histories.stands _ _ _ _ _ _ c.in-Ok.members.items c.in-Ok.ensures.ok
    (subst (λ (l : List NamedPolicy). LeadsTo g.F.Histories.stands c.args.front.now c.add_to.new.front (WithResource (Some 0) c.args.id (λ resource. AddsMembers resource l) c.add_to.result))
    c.deref.ensures.value c.add_to.ensures.does))

pub returns-in-Err-clause-does : goal.returns-in-Err-clause-does
returns-in-Err-clause-does g c =
    rw c.in-Post.is (refuses_document g.F.Histories.stands _ _ (Some 0) _ _ c.in-Err.fault c.in-Err.ensures.err (tells_as _ _ (Some 0) _ c.into.ensures c.of_error.ensures.told))

pub returns-in-Get : goal.returns-in-Get
returns-in-Get g c =
    let does = c.tell_its_metrics.ensures.does in
    record {
      does = either _ _ _ (λ (m : Method). LeadsTo g.F.Histories.stands c.args.front.now c.tell_its_metrics.new.front (OnResourceMetrics c.args.id m c.args.body.now c.tell_its_metrics.result)) c.in-Get.is does does;
      same = c.tell_its_metrics.ensures.same;
    }
