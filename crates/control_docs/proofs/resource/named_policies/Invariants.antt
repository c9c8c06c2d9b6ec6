use Rattle.std.proofs.Common.{◌≡◌}
use Rattle.serde_json.specs.View.{members_view}
use Rattle.control_docs.specs.Resource.{named_policies}
use Rattle.control_docs.proofs.ListLemmas.{with_front}
use Rattle.control_docs.proofs.resource.named_policies.Given as goal

abbrev pub invariant-loop-key : goal.invariant-loop-key
invariant-loop-key l =
    with_front l.metrics.items (named_policies (members_view l.key-iterator)) ≡ named_policies (members_view l.fn.members.entries)
