-- What a request asks of the front, and what it is answered by the results.
use Rattle.std.specs.Prelude.{◌≡◌, ℕ, ◌==◌, ◌||◌, ◌⊎◌, Bool, true, false, MatchBool, List, length, None}
use Rattle.rest_api.specs.Commands.{OnMetric, OnMetrics, OnPolicies, OnPolicy, OnResource, OnResources, OnRule, OnRules}
use Rattle.rest_api.specs.Doing.{Doing, RefusesAtOnce, StarvesAtOnce}
use Rattle.rest_api.specs.Measures.{OnBatch, OnMeasures, OnNamedMeasures}
use Rattle.rest_api.specs.Members.{OnResourceMetrics}
use Rattle.rest_replies.specs.Error.{plain_error}
use Rattle.rest_replies.specs.ErrorBody.{error_text}
use Rattle.rest_replies.specs.Handled.{AnswersWith}
use Rattle.rest_replies.specs.declared.code.ErrorCode.TheVariants as is
use Rattle.rest_replies.specs.declared.status.HttpStatus.TheVariants.{MethodNotAllowed}
use Rattle.rest_routes.specs.Routes.{Routing, found, no_method, no_route, routing_of}
use Rattle.rest_routes.specs.declared.method.Method.{Method}
use Rattle.rest_routes.specs.declared.method.Method.TheVariants.{Get}
use Rattle.rest_routes.specs.declared.route.Route.{Route}
use Rattle.rest_routes.specs.declared.route.Route.TheVariants.{Policies, Policy, Rules, Rule, Metrics, Metric, Measures, BatchMeasures, Resources, Resource, ResourceMetrics, NamedMeasures}

-- the query of the request is read: that of GET on measures
abbrev pub has_query : Route → Method → Bool
has_query (Measures id) Get = true
has_query (NamedMeasures resource name) Get = true
has_query route method = false

-- what the route does
abbrev pub OnRoute : Route → Method → List ℕ → List ℕ → Doing
OnRoute Policies method query body = OnPolicies method body
OnRoute (Policy name) method query body = OnPolicy name method
OnRoute Rules method query body = OnRules method body
OnRoute (Rule name) method query body = OnRule name method
OnRoute Metrics method query body = OnMetrics method body
OnRoute (Metric id) method query body = OnMetric id method
OnRoute (Measures id) method query body = OnMeasures id method query body
OnRoute BatchMeasures method query body = OnBatch body
OnRoute Resources method query body = OnResources method body
OnRoute (Resource id) method query body = OnResource id method
OnRoute (ResourceMetrics id) method query body = OnResourceMetrics id method body
OnRoute (NamedMeasures resource name) method query body = OnNamedMeasures resource name method query body

-- a query that isn't empty is bad where none is read
abbrev pub OnFound : Route → Method → List ℕ → List ℕ → Doing
OnFound route method query body answer old new =
    MatchBool (has_query route method || (length query == 0))
    (OnRoute route method query body answer old new)
    (RefusesAtOnce (plain_error is.BadQuery) None answer old new)

-- the route lacks the method, and these are those that it has
abbrev pub LacksMethod : List ℕ → Doing
LacksMethod allow answer old new = (new ≡ old) × AnswersWith answer MethodNotAllowed allow (error_text is.NoMethod None None)

-- what a request does by what it asks for: the route counts first, then the method, the query, the body, the front
abbrev pub OnRouting : Routing → List ℕ → Doing
OnRouting (found route method query) body = OnFound route method query body
OnRouting no_route body = RefusesAtOnce (plain_error is.NoRoute) None
OnRouting (no_method allow) body = LacksMethod allow

-- What a request with this method, this target and this body asks of the front, and what it is answered by the results.
-- Where there was no memory before the front was called, that is the answer.
abbrev pub Handles : List ℕ → List ℕ → List ℕ → Doing
Handles method target body answer old new = OnRouting (routing_of method target) body answer old new ⊎ StarvesAtOnce answer old new
