use Rattle.std.proofs.Common.{◌≢◌, take}
use Rattle.std.specs.List.{All}
use Rattle.archive_policy.specs.declared.kind.Kind.{Kind}
use Rattle.archive_policy.specs.Kinds.{kind_name}
use Rattle.archive_policy.proofs.kind.Kind.of_name.Given as goal

abbrev pub invariant-loop-kind : goal.invariant-loop-kind
invariant-loop-kind l = All (λ (kind : Kind). l.name ≢ kind_name kind) (take l.kind-index l.kind-items)
