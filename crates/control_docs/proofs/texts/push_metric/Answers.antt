use Rattle.std.proofs.Common.{◌++◌, codes}
use Rattle.json.specs.Print.{quoted}
use Rattle.control_docs.specs.Documents.{id_text}
use Rattle.control_docs.proofs.AppendLemmas.{appended4}
use Rattle.control_docs.specs.Texts.{in_quotes, metric_end_text, name_text}
use Rattle.control_docs.proofs.texts.push_metric.Goals as goal

pub returns : goal.returns
returns c =
    appended4 c.args.text.now.items (codes "{\"archive_policy_name\":" ++ quoted c.args.policy.now) (codes ",\"id\":" ++ in_quotes (id_text c.args.id.0)) (codes ",\"name\":" ++ name_text c.args.name.now) (metric_end_text c.args.unit.now c.args.resource) c.in_ok-push_member.ensures c.in_ok-push_id_member.ensures c.in_ok-push_optional_member.ensures c.in_ok-push_metric_end.ensures
