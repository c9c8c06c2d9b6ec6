use Rattle.control_docs.specs.Documents.{rule_value}
use Rattle.control_docs.specs.Texts.{rule_text}
use Rattle.control_docs.proofs.DocumentLemmas.{list_same, rule_same}
use Rattle.control_docs.proofs.AppendLemmas.{handed}
use Rattle.control_docs.proofs.documents.rule_list.Goals as goal

pub returns-clause-ok : goal.returns-clause-ok
returns-clause-ok c =
    handed c.args.out.now.items c.in_ok-extend_from_slice.ensures.items c.deref.ensures.value c.in_ok-push_rules.ensures c.in_ok-text.ensures.items (list_same rule_value rule_text rule_same c.args.rules.now)
