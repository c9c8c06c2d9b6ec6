use Rattle.control_docs.specs.Documents.{policy_value}
use Rattle.control_docs.specs.Texts.{policy_text}
use Rattle.control_docs.proofs.DocumentLemmas.{list_same, policy_same}
use Rattle.control_docs.proofs.AppendLemmas.{handed}
use Rattle.control_docs.proofs.documents.policy_list.Goals as goal

pub returns-clause-ok : goal.returns-clause-ok
returns-clause-ok c =
    handed c.args.out.now.items c.in_ok-extend_from_slice.ensures.items c.deref.ensures.value c.in_ok-push_policies.ensures c.in_ok-text.ensures.items (list_same policy_value policy_text policy_same c.args.policies.now)
