-- The methods that routes have.
use Rattle.std.specs.Prelude.{ℕ, List, [], ◌∷◌, ◌++◌, Option, codes}
use Rattle.std.specs.List.{find}
use Rattle.std.specs.Str.{bytes_eq}
use Rattle.rest_routes.specs.declared.kind.RouteKind.{RouteKind}
use Rattle.rest_routes.specs.declared.kind.RouteKind.TheVariants.{Policies, Policy, Rules, Rule, Metrics, Metric, Measures, BatchMeasures, Resources, Resource, ResourceMetrics, NamedMeasures}
use Rattle.rest_routes.specs.declared.method.Method.{Method}
use Rattle.rest_routes.specs.declared.method.Method.TheVariants.{Get, Post, Delete}

-- how a request names a method
abbrev pub method_name : Method → List ℕ
method_name Get = codes "GET"
method_name Post = codes "POST"
method_name Delete = codes "DELETE"

-- the methods of each row of the table, in its order
abbrev pub methods_of : RouteKind → List Method
methods_of Policies = Get ∷ Post ∷ []
methods_of Policy = Get ∷ Delete ∷ []
methods_of Rules = Get ∷ Post ∷ []
methods_of Rule = Get ∷ Delete ∷ []
methods_of Metrics = Get ∷ Post ∷ []
methods_of Metric = Get ∷ Delete ∷ []
methods_of Measures = Get ∷ Post ∷ []
methods_of BatchMeasures = Post ∷ []
methods_of Resources = Get ∷ Post ∷ []
methods_of Resource = Get ∷ Delete ∷ []
methods_of ResourceMetrics = Get ∷ Post ∷ []
methods_of NamedMeasures = Get ∷ Post ∷ []

-- the one of these methods that has this name
abbrev pub method_among : List ℕ → List Method → Option Method
method_among name methods = find (λ method. bytes_eq name (method_name method)) methods

-- the names of methods, separated by a comma and a space
abbrev pub allow_text : List Method → List ℕ
allow_text [] = []
allow_text (method ∷ []) = method_name method
allow_text (method ∷ next ∷ methods) = method_name method ++ (codes ", " ++ allow_text (next ∷ methods))
