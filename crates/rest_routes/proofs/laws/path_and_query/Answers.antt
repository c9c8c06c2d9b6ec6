use Rattle.std.proofs.Common.{◌≢◌}
use Rattle.std.proofs.lemmas.List.Elements.{recursion_from_All}
use Rattle.rest_routes.proofs.TargetLemmas.{cut-path, cut-query, whole-path, no-query}
use Rattle.rest_routes.proofs.laws.path_and_query.Goals as goal

pub returns : goal.returns
returns c = record {
  path = λ path query h. cut-path path query (recursion_from_All (λ b. b ≢ 63) path h);
  query = λ path query h. cut-query path query (recursion_from_All (λ b. b ≢ 63) path h);
  whole = λ path h. whole-path path (recursion_from_All (λ b. b ≢ 63) path h);
  empty = λ path h. no-query path (recursion_from_All (λ b. b ≢ 63) path h);
}
