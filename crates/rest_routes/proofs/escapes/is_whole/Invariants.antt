use Rattle.std.proofs.Common.{◌≡◌, is_some, length}
use Rattle.rest_routes.specs.Escapes.{unescaped}
use Rattle.rest_routes.proofs.escapes.is_whole.Given as goal

abbrev pub invariant-loop-rest : goal.invariant-loop-rest
invariant-loop-rest l = is_some (unescaped l.rest) ≡ is_some (unescaped l.text)

abbrev pub decreases-loop-rest : goal.decreases-loop-rest
decreases-loop-rest l = length l.rest
