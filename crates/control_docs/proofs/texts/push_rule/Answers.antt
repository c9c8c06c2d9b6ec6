use Rattle.std.proofs.Common.{◌++◌, codes}
use Rattle.json.specs.Print.{quoted}
use Rattle.control_docs.proofs.AppendLemmas.{appended4}
use Rattle.control_docs.proofs.texts.push_rule.Goals as goal

pub returns : goal.returns
returns c =
    let r = c.args.rule.now in
    appended4 c.args.text.now.items (codes "{\"archive_policy_name\":" ++ quoted r.policy) (codes ",\"metric_pattern\":" ++ quoted r.pattern) (codes ",\"name\":" ++ quoted r.name) (codes "}") c.in_ok-push_member.ensures c.in_ok-push_member-2.ensures c.in_ok-push_member-3.ensures c.in_ok-push.ensures.items
