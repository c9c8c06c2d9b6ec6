use Rattle.control_docs.proofs.DocumentLemmas.{rule_same}
use Rattle.control_docs.proofs.AppendLemmas.{handed}
use Rattle.control_docs.proofs.documents.rule_document.Goals as goal

pub returns-clause-ok : goal.returns-clause-ok
returns-clause-ok c =
    handed c.args.out.now.items c.in_ok-extend_from_slice.ensures.items c.deref.ensures.value c.in_ok-push_rule.ensures c.in_ok-text.ensures.items (rule_same c.args.rule.now)
