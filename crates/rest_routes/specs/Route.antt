-- Routes with their parameters.
use Rattle.std.specs.Prelude.{ℕ, Bool, true, false, List, [], get_or}
use Rattle.rest_routes.specs.declared.kind.RouteKind.{RouteKind}
use Rattle.rest_routes.specs.declared.kind.RouteKind.TheVariants as kind
use Rattle.rest_routes.specs.declared.route.Route.{Route}
use Rattle.rest_routes.specs.declared.route.Route.TheVariants.{Policies, Policy, Rules, Rule, Metrics, Metric, Measures, BatchMeasures, Resources, Resource, ResourceMetrics, NamedMeasures}
use Rattle.rest_routes.specs.Parameter.{name_in, id_in, metric_in}

-- the route of a kind whose parameters, from the left, stand for what these texts do
abbrev pub route_with : RouteKind → List (List ℕ) → Route
route_with kind.Policies ps = Policies
route_with kind.Policy ps = Policy (name_in (get_or ps 0 []))
route_with kind.Rules ps = Rules
route_with kind.Rule ps = Rule (name_in (get_or ps 0 []))
route_with kind.Metrics ps = Metrics
route_with kind.Metric ps = Metric (metric_in (get_or ps 0 []))
route_with kind.Measures ps = Measures (metric_in (get_or ps 0 []))
route_with kind.BatchMeasures ps = BatchMeasures
route_with kind.Resources ps = Resources
route_with kind.Resource ps = Resource (id_in (get_or ps 0 []))
route_with kind.ResourceMetrics ps = ResourceMetrics (id_in (get_or ps 0 []))
route_with kind.NamedMeasures ps = NamedMeasures (id_in (get_or ps 0 [])) (name_in (get_or ps 1 []))

-- a route has a parameter
abbrev pub has_parameter : Route → Bool
has_parameter Policies = false
has_parameter (Policy name) = true
has_parameter Rules = false
has_parameter (Rule name) = true
has_parameter Metrics = false
has_parameter (Metric id) = true
has_parameter (Measures id) = true
has_parameter BatchMeasures = false
has_parameter Resources = false
has_parameter (Resource id) = true
has_parameter (ResourceMetrics id) = true
has_parameter (NamedMeasures id name) = true
