use Rattle.std.proofs.Common.{◌≡◌, ◌++◌, map, take}
use Rattle.control_docs.specs.Lists.{list_front}
use Rattle.rest_api.specs.Shown.{metric_shown}
use Rattle.rest_api.proofs.shown.push_metrics.Given as goal

abbrev pub invariant-loop-place : goal.invariant-loop-place
invariant-loop-place l = l.text.items ≡ l.fn.text.items ++ list_front (map metric_shown (take l.place l.docs))
