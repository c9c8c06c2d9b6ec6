use Rattle.std.proofs.Common.{◌++◌, codes}
use Rattle.control_docs.specs.Documents.{id_text}
use Rattle.control_docs.proofs.AppendLemmas.{appended4}
use Rattle.control_docs.specs.Texts.{in_quotes, named_id_text, with_commas}
use Rattle.control_docs.proofs.texts.push_resource.Goals as goal

pub returns : goal.returns
returns c =
    appended4 c.args.text.now.items (codes "{\"id\":" ++ in_quotes (id_text c.args.id)) (codes ",\"metrics\":{") (with_commas named_id_text c.args.metrics.now) (codes "},\"type\":\"generic\"}") c.in_ok-push_id_member.ensures c.in_ok-push_word.ensures c.in_ok-push_named_ids.ensures c.in_ok-push_word-2.ensures
