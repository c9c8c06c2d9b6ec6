use Rattle.std.proofs.Common.{codes}
use Rattle.json.specs.Print.{quoted}
use Rattle.control_docs.proofs.AppendLemmas.{appended5}
use Rattle.control_docs.specs.Texts.{definition_text, with_commas}
use Rattle.control_docs.proofs.texts.push_policy_end.Goals as goal

pub returns : goal.returns
returns c =
    let p = c.args.policy.now in
    appended5 c.args.text.now.items (codes ",\"definition\":[") (with_commas definition_text p.definitions) (codes "],\"name\":") (quoted p.name) (codes "}") c.in_ok-push_word.ensures (rw c.definitions.ensures.value at c.in_ok-push_definitions.ensures) c.in_ok-push_word-2.ensures (rw c.name.ensures.value at c.in_ok-push_name.ensures) c.in_ok-push.ensures.items
