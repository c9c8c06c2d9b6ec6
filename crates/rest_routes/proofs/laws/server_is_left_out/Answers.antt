use Rattle.std.proofs.Common.{◌≢◌, refl}
use Rattle.std.proofs.lemmas.List.Elements.{recursion_from_All}
use Rattle.rest_routes.proofs.TargetLemmas.{from_slash-front, from_slash-none}
use Rattle.rest_routes.proofs.laws.server_is_left_out.Goals as goal

pub returns : goal.returns
returns c = record {
  rest = λ server rest h. from_slash-front server rest (recursion_from_All (λ b. b ≢ 47) server h);
  root = λ server h. from_slash-none server (recursion_from_All (λ b. b ≢ 47) server h);
  kept = λ rest. refl;
}
