use Rattle.std.proofs.Common.{◌≡◌, take}
use Rattle.std.specs.List.{filter}
use Rattle.archive_policy.specs.Kinds.{all_kinds, kind_index}
use Rattle.gno_codec.specs.PolicyReading.{has_bit}
use Rattle.gno_codec.proofs.policy.kinds_with.Given as goal

abbrev pub invariant-loop-place : goal.invariant-loop-place
invariant-loop-place l = l.kinds.items ≡ filter (λ kind. has_bit l.bits (kind_index kind)) (take l.place all_kinds)
