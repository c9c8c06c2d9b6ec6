use Rattle.std.proofs.Common.{◌≡◌, take}
use Rattle.archive_policy.specs.Policies.{definitions_of}
use Rattle.archive_policy.proofs.policy.definitions_of.Given as goal

abbrev pub invariant-loop-w : goal.invariant-loop-w
invariant-loop-w l = l.definitions.items ≡ definitions_of (take l.w-index l.wanted)
