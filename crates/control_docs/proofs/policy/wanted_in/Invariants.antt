use Rattle.std.proofs.Common.{◌≡◌}
use Rattle.serde_json.specs.View.{items_view}
use Rattle.control_docs.specs.Member.{all_of}
use Rattle.control_docs.specs.Policy.{wanted_of}
use Rattle.control_docs.proofs.ListLemmas.{rest_of, with_front}
use Rattle.control_docs.proofs.policy.wanted_in.Given as goal

abbrev pub invariant-loop-item : goal.invariant-loop-item
invariant-loop-item l = with_front l.wanted.items (rest_of wanted_of l.items l.item-index) ≡ all_of wanted_of (items_view l.items)
