use Rattle.std.proofs.Common.{◌≢◌}
use Rattle.std.proofs.lemmas.List.Elements.{recursion_from_All}
use Rattle.rest_routes.proofs.ParameterLemmas.{plain-unescaped}
use Rattle.rest_routes.proofs.laws.plain_parameter.Goals as goal

pub returns : goal.returns
returns c text h = plain-unescaped text (recursion_from_All (λ b. b ≢ 37) text h)
