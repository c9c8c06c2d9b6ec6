use Rattle.std.proofs.Common.{◌≡◌, take}
use Rattle.gno_codec.specs.Policy.{kind_bits}
use Rattle.gno_codec.proofs.policy.kind_bits.Given as goal

abbrev pub invariant-loop-kind : goal.invariant-loop-kind
invariant-loop-kind l = l.bits ≡ kind_bits (take l.kind-index l.kinds)
