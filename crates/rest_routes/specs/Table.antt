-- The rows that the router holds, as its `insert` puts them.
use Rattle.std.specs.Prelude.{ℕ, List, [], Result, Ok, Err, codes, Bool, false, not, is_some}
use Rattle.matchit.specs.Rows.{RowsOf}
use Rattle.matchit.specs.Order.{placed}
use Rattle.matchit.specs.Route.{Scan, parse_route}
use Rattle.matchit.specs.Router.{RouteOf, route_from, nearest}
use Rattle.matchit.specs.declared.error.InsertError.{InsertError}
use Rattle.rest_routes.specs.declared.kind.RouteKind.{RouteKind}
use Rattle.rest_routes.specs.declared.kind.RouteKind.TheVariants.{Policies, Policy, Rules, Rule, Metrics, Metric, Measures, BatchMeasures, Resources, Resource, ResourceMetrics, NamedMeasures}

-- rows of the router
abbrev pub RouteRows : Type 0
RouteRows = RowsOf (RouteOf RouteKind)

-- the rows with what was read of a route as one more
abbrev pub scan_with_row : Result Scan InsertError → RouteKind → RouteRows → RouteRows
scan_with_row (Ok s) kind rows = placed (s.pattern, route_from s kind) rows
scan_with_row (Err e) kind rows = rows

-- the rows with one more
abbrev pub with_row : List ℕ → RouteKind → RouteRows → RouteRows
with_row text kind rows = scan_with_row (parse_route text) kind rows

-- what was read of a route is well written, and no row stands in its way
abbrev pub free_scan : Result Scan InsertError → RouteRows → Bool
free_scan (Ok s) rows = not (is_some (nearest s.pattern rows))
free_scan (Err e) rows = false

-- the same of its text
abbrev pub is_free : List ℕ → RouteRows → Bool
is_free text rows = free_scan (parse_route text) rows

-- the routes of the REST interface, each added to those before it
abbrev pub table : RouteRows
table =
    with_row (codes "/v1/resource/generic/{id}/metric/{name}/measures") NamedMeasures
    (with_row (codes "/v1/resource/generic/{id}/metric") ResourceMetrics
    (with_row (codes "/v1/resource/generic/{id}") Resource
    (with_row (codes "/v1/resource/generic") Resources
    (with_row (codes "/v1/batch/metrics/measures") BatchMeasures
    (with_row (codes "/v1/metric/{id}/measures") Measures
    (with_row (codes "/v1/metric/{id}") Metric
    (with_row (codes "/v1/metric") Metrics
    (with_row (codes "/v1/archive_policy_rule/{name}") Rule
    (with_row (codes "/v1/archive_policy_rule") Rules
    (with_row (codes "/v1/archive_policy/{name}") Policy
    (with_row (codes "/v1/archive_policy") Policies [])))))))))))
