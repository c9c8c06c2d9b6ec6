use Rattle.std.proofs.Common.{◌≡◌}
use Rattle.serde_json.specs.View.{items_view}
use Rattle.control_docs.specs.Member.{all_of, value_kind}
use Rattle.control_docs.proofs.ListLemmas.{rest_of, with_front}
use Rattle.control_docs.proofs.member.kinds_of.Given as goal

abbrev pub invariant-loop-item : goal.invariant-loop-item
invariant-loop-item l = with_front l.kinds.items (rest_of value_kind l.items l.item-index) ≡ all_of value_kind (items_view l.items)
