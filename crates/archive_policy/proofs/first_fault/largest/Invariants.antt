use Rattle.std.proofs.Common.{◌≡◌, map, take}
use Rattle.archive_policy.specs.Asked.{granularity_of, largest}
use Rattle.archive_policy.proofs.first_fault.largest.Given as goal

abbrev pub invariant-loop-w : goal.invariant-loop-w
invariant-loop-w l = l.coarse ≡ largest (map granularity_of (take l.w-index l.wanted))
