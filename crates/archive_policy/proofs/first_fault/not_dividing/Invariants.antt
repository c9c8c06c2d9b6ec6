use Rattle.std.proofs.Common.{◌≡◌, map, take}
use Rattle.std.specs.List.{filter}
use Rattle.archive_policy.specs.Asked.{granularity_of, leaves_rest, least}
use Rattle.archive_policy.proofs.first_fault.not_dividing.Given as goal

abbrev pub invariant-loop-w : goal.invariant-loop-w
invariant-loop-w l =
    l.fine ≡ least (filter (leaves_rest l.coarse) (map granularity_of (take l.w-index l.wanted)))
