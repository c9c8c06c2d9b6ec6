use Rattle.std.proofs.Common.{codes, decimal}
use Rattle.control_docs.proofs.AppendLemmas.{appended5}
use Rattle.control_docs.specs.Texts.{kind_text, policy_end_text, with_commas}
use Rattle.control_docs.proofs.texts.push_policy.Goals as goal

pub returns : goal.returns
returns c =
    let p = c.args.policy.now in
    appended5 c.args.text.now.items (codes "{\"aggregation_methods\":[") (with_commas kind_text p.kinds) (codes "],\"back_window\":") (decimal p.back_window) (policy_end_text p) c.in_ok-push_word.ensures (rw c.kinds.ensures.value at c.in_ok-push_kinds.ensures) c.in_ok-push_word-2.ensures (rw c.back_window.ensures.value at c.in_ok-push_window.ensures) c.in_ok-push_policy_end.ensures
