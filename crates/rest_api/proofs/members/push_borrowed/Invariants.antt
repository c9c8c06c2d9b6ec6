use Rattle.std.proofs.Common.{◌≡◌, ◌++◌, map, take}
use Rattle.std.specs.Borrow.{Bor}
use Rattle.control_docs.specs.Lists.{list_front}
use Rattle.front_api.specs.declared.command.MetricDoc.{MetricDoc}
use Rattle.rest_api.specs.Shown.{metric_shown}
use Rattle.rest_api.proofs.members.push_borrowed.Given as goal

abbrev pub invariant-loop-place : goal.invariant-loop-place
invariant-loop-place l = l.text.items ≡ l.fn.text.items ++ list_front (map (λ (doc : Bor MetricDoc). metric_shown doc.now) (take l.place l.docs))
