-- The table of routes: by segments, and as text.
use Rattle.std.specs.Prelude.{◌≡◌, ◌≢◌, ℕ, List, [], ◌∷◌, ◌++◌, codes, get_or, length, All}
use Rattle.rest_routes.specs.declared.kind.RouteKind.{RouteKind}
use Rattle.rest_routes.specs.declared.kind.RouteKind.TheVariants.{Policies, Policy, Rules, Rule, Metrics, Metric, Measures, BatchMeasures, Resources, Resource, ResourceMetrics, NamedMeasures}
use Rattle.rest_routes.specs.Path.{RawRoute}

-- Which segments have which route: a parameter is any segment that isn't empty, and the first segment
-- is what stands before the first slash.
pub data HasRoute : List (List ℕ) → RawRoute → Type 0 where
  policies : HasRoute ([] ∷ codes "v1" ∷ codes "archive_policy" ∷ []) (Policies, [])
  policy : (name : List ℕ) → name ≢ []
      → HasRoute ([] ∷ codes "v1" ∷ codes "archive_policy" ∷ name ∷ []) (Policy, name ∷ [])
  rules : HasRoute ([] ∷ codes "v1" ∷ codes "archive_policy_rule" ∷ []) (Rules, [])
  rule : (name : List ℕ) → name ≢ []
      → HasRoute ([] ∷ codes "v1" ∷ codes "archive_policy_rule" ∷ name ∷ []) (Rule, name ∷ [])
  metrics : HasRoute ([] ∷ codes "v1" ∷ codes "metric" ∷ []) (Metrics, [])
  metric : (id : List ℕ) → id ≢ []
      → HasRoute ([] ∷ codes "v1" ∷ codes "metric" ∷ id ∷ []) (Metric, id ∷ [])
  measures : (id : List ℕ) → id ≢ []
      → HasRoute ([] ∷ codes "v1" ∷ codes "metric" ∷ id ∷ codes "measures" ∷ []) (Measures, id ∷ [])
  batch_measures : HasRoute ([] ∷ codes "v1" ∷ codes "batch" ∷ codes "metrics" ∷ codes "measures" ∷ []) (BatchMeasures, [])
  resources : HasRoute ([] ∷ codes "v1" ∷ codes "resource" ∷ codes "generic" ∷ []) (Resources, [])
  resource : (id : List ℕ) → id ≢ []
      → HasRoute ([] ∷ codes "v1" ∷ codes "resource" ∷ codes "generic" ∷ id ∷ []) (Resource, id ∷ [])
  resource_metrics : (id : List ℕ) → id ≢ []
      → HasRoute ([] ∷ codes "v1" ∷ codes "resource" ∷ codes "generic" ∷ id ∷ codes "metric" ∷ []) (ResourceMetrics, id ∷ [])
  named_measures : (id name : List ℕ) → id ≢ [] → name ≢ []
      → HasRoute ([] ∷ codes "v1" ∷ codes "resource" ∷ codes "generic" ∷ id ∷ codes "metric" ∷ name ∷ codes "measures" ∷ []) (NamedMeasures, id ∷ name ∷ [])

-- what may stand for a parameter in a path: bytes other than `/`, one or more
pub record IsParameter (s : List ℕ) : Type 0 where
  pub some : s ≢ []
  pub no_slash : All (λ b. b ≢ 47) s

-- how many parameters the routes of a kind have
abbrev pub parameter_count : RouteKind → ℕ
parameter_count Policies = 0
parameter_count Policy = 1
parameter_count Rules = 0
parameter_count Rule = 1
parameter_count Metrics = 0
parameter_count Metric = 1
parameter_count Measures = 1
parameter_count BatchMeasures = 0
parameter_count Resources = 0
parameter_count Resource = 1
parameter_count ResourceMetrics = 1
parameter_count NamedMeasures = 2

-- the path of a kind with these parameters
abbrev pub path_text : RouteKind → List (List ℕ) → List ℕ
path_text Policies ps = codes "/v1/archive_policy"
path_text Policy ps = codes "/v1/archive_policy/" ++ get_or ps 0 []
path_text Rules ps = codes "/v1/archive_policy_rule"
path_text Rule ps = codes "/v1/archive_policy_rule/" ++ get_or ps 0 []
path_text Metrics ps = codes "/v1/metric"
path_text Metric ps = codes "/v1/metric/" ++ get_or ps 0 []
path_text Measures ps = codes "/v1/metric/" ++ (get_or ps 0 [] ++ codes "/measures")
path_text BatchMeasures ps = codes "/v1/batch/metrics/measures"
path_text Resources ps = codes "/v1/resource/generic"
path_text Resource ps = codes "/v1/resource/generic/" ++ get_or ps 0 []
path_text ResourceMetrics ps = codes "/v1/resource/generic/" ++ (get_or ps 0 [] ++ codes "/metric")
path_text NamedMeasures ps =
    codes "/v1/resource/generic/" ++ (get_or ps 0 [] ++ (codes "/metric/" ++ (get_or ps 1 [] ++ codes "/measures")))

-- a kind with as many parameters as it has
pub record IsRawRoute (raw : RawRoute) : Type 0 where
  pub count : length raw.1 ≡ parameter_count raw.0
  pub parameters : All IsParameter raw.1
