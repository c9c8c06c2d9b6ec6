use Rattle.control_docs.proofs.DocumentLemmas.{resource_same}
use Rattle.control_docs.proofs.AppendLemmas.{handed}
use Rattle.control_docs.proofs.documents.resource_document.Goals as goal

pub returns-clause-ok : goal.returns-clause-ok
returns-clause-ok c =
    handed c.args.out.now.items c.in_ok-extend_from_slice.ensures.items c.deref.ensures.value c.in_ok-push_resource.ensures c.in_ok-text.ensures.items (resource_same c.args.id c.args.metrics.now)
