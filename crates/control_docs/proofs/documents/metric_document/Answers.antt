use Rattle.control_docs.proofs.DocumentLemmas.{metric_same}
use Rattle.control_docs.proofs.AppendLemmas.{handed}
use Rattle.control_docs.proofs.documents.metric_document.Goals as goal

pub returns-clause-ok : goal.returns-clause-ok
returns-clause-ok c =
    handed c.args.out.now.items c.in_ok-extend_from_slice.ensures.items c.deref.ensures.value c.in_ok-push_metric.ensures c.in_ok-text.ensures.items (metric_same c.args.id c.args.policy.now c.args.name.now c.args.unit.now c.args.resource)
