use Rattle.std.proofs.Common.{◌≡◌, take}
use Rattle.std.specs.List.{filter}
use Rattle.archive_policy.specs.Kinds.{is_among}
use Rattle.archive_policy.proofs.policy.kinds_of.Given as goal

abbrev pub invariant-loop-kind : goal.invariant-loop-kind
invariant-loop-kind l = l.kept.items ≡ filter (is_among l.kinds) (take l.kind-index l.table)
