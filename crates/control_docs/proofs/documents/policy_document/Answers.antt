use Rattle.control_docs.proofs.DocumentLemmas.{policy_same}
use Rattle.control_docs.proofs.AppendLemmas.{handed}
use Rattle.control_docs.proofs.documents.policy_document.Goals as goal

pub returns-clause-ok : goal.returns-clause-ok
returns-clause-ok c =
    handed c.args.out.now.items c.in_ok-extend_from_slice.ensures.items c.deref.ensures.value c.in_ok-push_policy.ensures c.in_ok-text.ensures.items (policy_same c.args.policy.now)
