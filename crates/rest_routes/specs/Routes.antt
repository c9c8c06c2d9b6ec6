-- What a request asks for.
use Rattle.std.specs.Prelude.{◌≡◌, ℕ, true, if◌then◌else◌, List, Option, None, Some}
use Rattle.std.specs.Str.{is_utf8}
use Rattle.rest_routes.specs.declared.method.Method.{Method}
use Rattle.rest_routes.specs.declared.route.Route.{Route}
use Rattle.rest_routes.specs.declared.routes.Routed.{Routed}
use Rattle.rest_routes.specs.declared.routes.Routed.TheVariants.{Found, NoRoute, NoMethod, Memory}
use Rattle.rest_routes.specs.Method.{methods_of, method_among, allow_text}
use Rattle.rest_routes.specs.Path.{RawRoute, raw_route_of}
use Rattle.rest_routes.specs.Route.{has_parameter, route_with}
use Rattle.rest_routes.specs.Target.{path_in, query_in, without_server}

-- a route with a method that it has and a query; or no route; or a route without the method, but
-- with these
pub data Routing : Type 0 where
  found : Route → Method → List ℕ → Routing
  no_route : Routing
  no_method : List ℕ → Routing

-- the route of a path, whose parameters aren't read yet; a path that isn't UTF-8 has none
abbrev pub route_at : List ℕ → Option RawRoute
route_at path = if is_utf8 path then raw_route_of path else None

-- a route that is there, and the method of it that the request names
abbrev pub with_method : RawRoute → List ℕ → Option Method → Routing
with_method raw query None = no_method (allow_text (methods_of raw.0))
with_method raw query (Some method) = found (route_with raw.0 raw.1) method query

-- the route first, then the method
abbrev pub with_route : Option RawRoute → List ℕ → List ℕ → Routing
with_route None method query = no_route
with_route (Some raw) method query = with_method raw query (method_among method (methods_of raw.0))

-- what a method and a target ask for
abbrev pub routing_of : List ℕ → List ℕ → Routing
routing_of method target =
    let local = without_server target in
    with_route (route_at (path_in local)) method (query_in local)

-- a route with a parameter is asked for
abbrev pub TakesMemory : Routing → Type 0
TakesMemory (found route method query) = has_parameter route ≡ true
TakesMemory no_route = ⊥
TakesMemory (no_method allow) = ⊥

-- the answer says this, or that there was no memory for the parameters of its route
abbrev pub Tells : Routed → Routing → Type 0
Tells (Found route method query) routing = routing ≡ found route method query.now
Tells NoRoute routing = routing ≡ no_route
Tells (NoMethod allow) routing = routing ≡ no_method allow.now
Tells Memory routing = TakesMemory routing
