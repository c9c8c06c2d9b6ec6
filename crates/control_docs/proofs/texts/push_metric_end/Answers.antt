use Rattle.std.proofs.Common.{◌++◌, codes}
use Rattle.control_docs.proofs.AppendLemmas.{appended4}
use Rattle.control_docs.specs.Texts.{name_text, resource_id_text}
use Rattle.control_docs.proofs.texts.push_metric_end.Goals as goal

pub returns : goal.returns
returns c =
    appended4 c.args.text.now.items (codes ",\"resource_id\":") (resource_id_text c.args.resource) (codes ",\"unit\":" ++ name_text c.args.unit.now) (codes "}") c.in_ok-push_word.ensures c.in_ok-push_id_or_null.ensures c.in_ok-push_optional_member.ensures c.in_ok-push.ensures.items
