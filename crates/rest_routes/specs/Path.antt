-- The route of a path, computed from its segments. `Written` has the table that this must agree with.
use Rattle.std.specs.Prelude.{ℕ, List, [], ◌∷◌, Option, Some, None, Bool, cond, ◌==◌, codes, nat_eq, get_or}
use Rattle.std.specs.Cmp.Lexicographic.{pointwise}
use Rattle.rest_routes.specs.declared.kind.RouteKind.{RouteKind}
use Rattle.rest_routes.specs.declared.kind.RouteKind.TheVariants.{Policies, Policy, Rules, Rule, Metrics, Metric, Measures, BatchMeasures, Resources, Resource, ResourceMetrics, NamedMeasures}

-- the kind of a route, and its parameters from the left as they stand in the path
abbrev pub RawRoute : Type 0
RawRoute = RouteKind × List (List ℕ)

-- the parts with one more byte in front
abbrev pub longer : ℕ → List (List ℕ) → List (List ℕ)
longer b [] = (b ∷ []) ∷ []
longer b (s ∷ ss) = (b ∷ s) ∷ ss

-- the parts of a path between its slashes: one more than there are slashes
abbrev pub segments : List ℕ → List (List ℕ)
segments [] = [] ∷ []
segments (b ∷ rest) = cond (b == 47) ([] ∷ segments rest) (longer b (segments rest))

-- the segment is this word
abbrev pub is_word : List ℕ → List ℕ → Bool
is_word word segment = pointwise nat_eq word segment

-- an empty parameter has no route
abbrev pub unless_empty : List ℕ → Option RawRoute → Option RawRoute
unless_empty [] found = None
unless_empty (b ∷ s) found = found

-- nothing follows
abbrev pub ending : List (List ℕ) → RawRoute → Option RawRoute
ending [] found = Some found
ending (s ∷ ss) found = None

-- all of a kind, or one by its name
abbrev pub all_or_one : RouteKind → RouteKind → List (List ℕ) → Option RawRoute
all_or_one all one [] = Some (all, [])
all_or_one all one (name ∷ rest) = unless_empty name (ending rest (one, name ∷ []))

-- below `/v1/metric/{id}`
abbrev pub of_one_metric : List ℕ → List (List ℕ) → Option RawRoute
of_one_metric id [] = Some (Metric, id ∷ [])
of_one_metric id (last ∷ rest) = cond (is_word (codes "measures") last) (ending rest (Measures, id ∷ [])) None

-- below `/v1/metric`
abbrev pub of_metric : List (List ℕ) → Option RawRoute
of_metric [] = Some (Metrics, [])
of_metric (id ∷ rest) = unless_empty id (of_one_metric id rest)

-- below `/v1/batch/metrics`
abbrev pub of_batch_metrics : List (List ℕ) → Option RawRoute
of_batch_metrics [] = None
of_batch_metrics (last ∷ rest) = cond (is_word (codes "measures") last) (ending rest (BatchMeasures, [])) None

-- below `/v1/batch`
abbrev pub of_batch : List (List ℕ) → Option RawRoute
of_batch [] = None
of_batch (part ∷ rest) = cond (is_word (codes "metrics") part) (of_batch_metrics rest) None

-- below `/v1/resource/generic/{id}/metric/{name}`
abbrev pub of_named_metric : List ℕ → List ℕ → List (List ℕ) → Option RawRoute
of_named_metric id name [] = None
of_named_metric id name (last ∷ rest) =
    cond (is_word (codes "measures") last) (ending rest (NamedMeasures, id ∷ name ∷ [])) None

-- below `/v1/resource/generic/{id}/metric`
abbrev pub of_its_metrics : List ℕ → List (List ℕ) → Option RawRoute
of_its_metrics id [] = Some (ResourceMetrics, id ∷ [])
of_its_metrics id (name ∷ rest) = unless_empty name (of_named_metric id name rest)

-- below `/v1/resource/generic/{id}`
abbrev pub of_one_resource : List ℕ → List (List ℕ) → Option RawRoute
of_one_resource id [] = Some (Resource, id ∷ [])
of_one_resource id (part ∷ rest) = cond (is_word (codes "metric") part) (of_its_metrics id rest) None

-- below `/v1/resource/generic`
abbrev pub of_generic : List (List ℕ) → Option RawRoute
of_generic [] = Some (Resources, [])
of_generic (id ∷ rest) = unless_empty id (of_one_resource id rest)

-- below `/v1/resource`
abbrev pub of_resource : List (List ℕ) → Option RawRoute
of_resource [] = None
of_resource (kind ∷ rest) = cond (is_word (codes "generic") kind) (of_generic rest) None

-- below `/v1`
abbrev pub of_v1 : List (List ℕ) → Option RawRoute
of_v1 [] = None
of_v1 (head ∷ rest) =
    cond (is_word (codes "archive_policy") head) (all_or_one Policies Policy rest)
    (cond (is_word (codes "archive_policy_rule") head) (all_or_one Rules Rule rest)
    (cond (is_word (codes "batch") head) (of_batch rest)
    (cond (is_word (codes "metric") head) (of_metric rest)
    (cond (is_word (codes "resource") head) (of_resource rest) None))))

-- below `/`
abbrev pub of_root : List (List ℕ) → Option RawRoute
of_root [] = None
of_root (version ∷ rest) = cond (is_word (codes "v1") version) (of_v1 rest) None

-- a path begins with a slash, so its first segment is empty
abbrev pub of_segments : List (List ℕ) → Option RawRoute
of_segments [] = None
of_segments ([] ∷ rest) = of_root rest
of_segments ((b ∷ s) ∷ rest) = None

-- the route of a path, if it has one
abbrev pub raw_route_of : List ℕ → Option RawRoute
raw_route_of path = of_segments (segments path)

-- the parameters of a path whose kind is known
abbrev pub parameters_of : RouteKind → List (List ℕ) → List (List ℕ)
parameters_of Policies ss = []
parameters_of Policy ss = get_or ss 3 [] ∷ []
parameters_of Rules ss = []
parameters_of Rule ss = get_or ss 3 [] ∷ []
parameters_of Metrics ss = []
parameters_of Metric ss = get_or ss 3 [] ∷ []
parameters_of Measures ss = get_or ss 3 [] ∷ []
parameters_of BatchMeasures ss = []
parameters_of Resources ss = []
parameters_of Resource ss = get_or ss 4 [] ∷ []
parameters_of ResourceMetrics ss = get_or ss 4 [] ∷ []
parameters_of NamedMeasures ss = get_or ss 4 [] ∷ get_or ss 6 [] ∷ []
