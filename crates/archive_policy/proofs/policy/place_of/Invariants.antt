use Rattle.std.proofs.Common.{◌≤◌, take}
use Rattle.std.specs.List.{All}
use Rattle.archive_policy.specs.declared.definition.Definition.{Definition}
use Rattle.archive_policy.proofs.policy.place_of.Given as goal

abbrev pub invariant-loop-place : goal.invariant-loop-place
invariant-loop-place l =
    All (λ (x : Definition). x.granularity ≤ l.fn.definition.granularity) (take l.place l.among)
