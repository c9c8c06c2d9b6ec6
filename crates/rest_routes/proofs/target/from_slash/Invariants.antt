use Rattle.std.proofs.Common.{◌≡◌, length}
use Rattle.rest_routes.specs.Target.{from_slash}
use Rattle.rest_routes.proofs.target.from_slash.Given as goal

abbrev pub invariant-loop-rest : goal.invariant-loop-rest
invariant-loop-rest l = from_slash l.rest ≡ from_slash l.target

abbrev pub decreases-loop-rest : goal.decreases-loop-rest
decreases-loop-rest l = length l.rest
