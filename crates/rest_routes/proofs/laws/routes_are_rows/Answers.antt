use Rattle.rest_routes.specs.Path.{segments}
use Rattle.rest_routes.proofs.RowLemmas.{HasRoute-of_segments, of_segments-HasRoute}
use Rattle.rest_routes.proofs.laws.routes_are_rows.Goals as goal

pub returns : goal.returns
returns c path raw = (HasRoute-of_segments (segments path) raw, of_segments-HasRoute (segments path) raw)
