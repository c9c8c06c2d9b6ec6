-- Laws of paths: how the table writes them, and which have no route.
use Rattle.std.proofs.Common.{◌≡◌, ◌≢◌, ℕ, List, [], ◌∷◌, ◌++◌, length, drop, Option, Some, None, Bool, true, false, refl, sym, ap, ◌∙◌, arith, ◌==◌, ◌&&◌, not, codes, append-nil}
use Rattle.std.specs.List.{AllByRecursion}
use Rattle.std.proofs.lemmas.Bool.Decides.{nat_tests}
use Rattle.std.proofs.lemmas.List.Elements.{recursion_from_All}
use Rattle.matchit.specs.Seek.{slash}
use Rattle.rest_routes.specs.Path.{RawRoute, longer, segments, all_or_one, of_metric, of_its_metrics, of_generic, of_segments, raw_route_of}
use Rattle.rest_routes.specs.Written.{HasRoute, policies, policy, rules, rule, metrics, metric, measures, batch_measures, resources, resource, resource_metrics, named_measures, IsParameter, IsRawRoute, parameter_count, path_text}
use Rattle.rest_routes.specs.declared.kind.RouteKind.{RouteKind}
use Rattle.rest_routes.specs.declared.kind.RouteKind.TheVariants.{Policies, Policy, Rules, Rule, Metrics, Metric, Measures, BatchMeasures, Resources, Resource, ResourceMetrics, NamedMeasures}
use Rattle.rest_routes.proofs.Pieces.{joined, is_empty}
use Rattle.rest_routes.proofs.RowLemmas.{HasRoute-of_segments, present}

-- ---- a path and its segments

-- there is a first segment
segments-cons : (path : List ℕ) → (s : List ℕ) × (ss : List (List ℕ)) × (segments path ≡ s ∷ ss)
segments-cons [] = ([], [], refl)
segments-cons (b ∷ path) = by (b == 47) refl (segments-cons path)
  where
    by : (v : Bool) → (b == 47) ≡ v → (s : List ℕ) × (ss : List (List ℕ)) × (segments path ≡ s ∷ ss)
        → (s : List ℕ) × (ss : List (List ℕ)) × (segments (b ∷ path) ≡ s ∷ ss)
    by true e p = ([], segments path, rw e refl)
    by false e p = (b ∷ p.0, p.1, rw e (ap (λ z. longer b z) p.2))

longer-joined : (b : ℕ) (ss : List (List ℕ)) (path : List ℕ) → joined ss ≡ slash ∷ path → joined (longer b ss) ≡ slash ∷ b ∷ path
longer-joined b [] path e = cc
longer-joined b (s ∷ ss) path e =
    let rest : s ++ joined ss ≡ path = cc in
    ap (λ z. slash ∷ b ∷ z) rest

-- the segments, with a slash in front of each, are the path with a slash in front
joined-segments : (path : List ℕ) → joined (segments path) ≡ slash ∷ path
joined-segments [] = refl
joined-segments (b ∷ path) = by (b == 47) refl (joined-segments path)
  where
    by : (v : Bool) → (b == 47) ≡ v → joined (segments path) ≡ slash ∷ path → joined (segments (b ∷ path)) ≡ slash ∷ b ∷ path
    by true e ih =
        let same : b ≡ slash = grind (arith, nat_tests) in
        rw (e, same) (ap (λ z. slash ∷ z) ih)
    by false e ih = rw e (longer-joined b (segments path) path ih)

longer-append : (b : ℕ) (s : List ℕ) (ss ts : List (List ℕ)) (whole : List (List ℕ)) → whole ≡ s ∷ ss → longer b (whole ++ ts) ≡ longer b whole ++ ts
longer-append b s ss ts whole e = rw e refl

-- the segments on both sides of a slash
pub segments-append : (front rest : List ℕ) → segments (front ++ 47 ∷ rest) ≡ segments front ++ segments rest
segments-append [] rest = refl
segments-append (b ∷ front) rest = by (b == 47) refl (segments-append front rest) (segments-cons front)
  where
    by : (v : Bool) → (b == 47) ≡ v → segments (front ++ 47 ∷ rest) ≡ segments front ++ segments rest
        → (s : List ℕ) × (ss : List (List ℕ)) × (segments front ≡ s ∷ ss)
        → segments (b ∷ (front ++ 47 ∷ rest)) ≡ segments (b ∷ front) ++ segments rest
    by true e ih p = rw e (ap (λ z. [] ∷ z) ih)
    by false e ih p = rw e (ap (λ z. longer b z) ih ∙ longer-append b p.0 p.1 (segments rest) (segments front) p.2)

-- ---- what has a route is written so

path_text-HasRoute : (ss : List (List ℕ)) (raw : RawRoute) → HasRoute ss raw → joined ss ≡ slash ∷ path_text raw.0 raw.1
path_text-HasRoute _ _ policies = refl
path_text-HasRoute _ _ (policy name n) = ap (λ z. slash ∷ (codes "/v1/archive_policy/" ++ z)) (append-nil name)
path_text-HasRoute _ _ rules = refl
path_text-HasRoute _ _ (rule name n) = ap (λ z. slash ∷ (codes "/v1/archive_policy_rule/" ++ z)) (append-nil name)
path_text-HasRoute _ _ metrics = refl
path_text-HasRoute _ _ (metric id n) = ap (λ z. slash ∷ (codes "/v1/metric/" ++ z)) (append-nil id)
path_text-HasRoute _ _ (measures id n) = refl
path_text-HasRoute _ _ batch_measures = refl
path_text-HasRoute _ _ resources = refl
path_text-HasRoute _ _ (resource id n) = ap (λ z. slash ∷ (codes "/v1/resource/generic/" ++ z)) (append-nil id)
path_text-HasRoute _ _ (resource_metrics id n) = refl
path_text-HasRoute _ _ (named_measures id name n m) = refl

pub only-rows : (path : List ℕ) (raw : RawRoute) → raw_route_of path ≡ Some raw → path ≡ path_text raw.0 raw.1
only-rows path raw e =
    let both_ways : slash ∷ path ≡ slash ∷ path_text raw.0 raw.1 =
    sym (joined-segments path) ∙ path_text-HasRoute (segments path) raw (HasRoute-of_segments (segments path) raw e) in
    cc

-- ---- what is written so has a route

abbrev Plain : List ℕ → Type 0
Plain s = AllByRecursion (λ b. b ≢ 47) s

front : (s rest : List ℕ) → Plain s → segments (s ++ 47 ∷ rest) ≡ s ∷ segments rest
front [] rest h = refl
front (b ∷ s) rest h =
    let n : b ≢ 47 = h.0 in
    let e : (b == 47) ≡ false = grind (arith, nat_tests) in
    rw e (ap (λ z. longer b z) (front s rest h.1))

whole : (s : List ℕ) → Plain s → segments s ≡ s ∷ []
whole [] h = refl
whole (b ∷ s) h =
    let n : b ≢ 47 = h.0 in
    let e : (b == 47) ≡ false = grind (arith, nat_tests) in
    rw e (ap (λ z. longer b z) (whole s h.1))

one-there : (all one : RouteKind) (s : List ℕ) → s ≢ [] → Plain s → all_or_one all one (segments s) ≡ Some (one, s ∷ [])
one-there all one s n h = ap (λ z. all_or_one all one z) (whole s h) ∙ present s _ n

metric-there : (s : List ℕ) → s ≢ [] → Plain s → of_metric (segments s) ≡ Some (Metric, s ∷ [])
metric-there s n h = ap of_metric (whole s h) ∙ present s _ n

measures-there : (s : List ℕ) → s ≢ [] → Plain s → of_metric (segments (s ++ codes "/measures")) ≡ Some (Measures, s ∷ [])
measures-there s n h = ap of_metric (front s (codes "measures") h) ∙ present s _ n

resource-there : (s : List ℕ) → s ≢ [] → Plain s → of_generic (segments s) ≡ Some (Resource, s ∷ [])
resource-there s n h = ap of_generic (whole s h) ∙ present s _ n

its-there : (s : List ℕ) → s ≢ [] → Plain s → of_generic (segments (s ++ codes "/metric")) ≡ Some (ResourceMetrics, s ∷ [])
its-there s n h = ap of_generic (front s (codes "metric") h) ∙ present s _ n

metric-slash : (x : List ℕ) → codes "/metric/" ++ x ≡ 47 ∷ (codes "metric" ++ (47 ∷ x))
metric-slash x = refl

named-there : (s t : List ℕ) → s ≢ [] → Plain s → t ≢ [] → Plain t
    → of_generic (segments (s ++ (codes "/metric/" ++ (t ++ codes "/measures")))) ≡ Some (NamedMeasures, s ∷ t ∷ [])
named-there s t n h m k =
    let more = t ++ codes "/measures" in
    ap (λ z. of_generic (segments (s ++ z))) (metric-slash more)
    ∙ ap of_generic (front s (codes "metric" ++ (47 ∷ more)) h)
    ∙ present s _ n
    ∙ ap (λ z. of_its_metrics s z) (front t (codes "measures") k)
    ∙ present t _ m

plain : (s : List ℕ) → IsParameter s → Plain s
plain s h = recursion_from_All (λ b. b ≢ 47) s h.no_slash

rows : (kind : RouteKind) (ps : List (List ℕ)) → length ps ≡ parameter_count kind → AllByRecursion IsParameter ps
    → raw_route_of (path_text kind ps) ≡ Some (kind, ps)
rows Policies [] n h = refl
rows Policy (s ∷ []) n h = one-there Policies Policy s h.0.some (plain s h.0)
rows Rules [] n h = refl
rows Rule (s ∷ []) n h = one-there Rules Rule s h.0.some (plain s h.0)
rows Metrics [] n h = refl
rows Metric (s ∷ []) n h = metric-there s h.0.some (plain s h.0)
rows Measures (s ∷ []) n h = measures-there s h.0.some (plain s h.0)
rows BatchMeasures [] n h = refl
rows Resources [] n h = refl
rows Resource (s ∷ []) n h = resource-there s h.0.some (plain s h.0)
rows ResourceMetrics (s ∷ []) n h = its-there s h.0.some (plain s h.0)
rows NamedMeasures (s ∷ t ∷ []) n h = named-there s t h.0.some (plain s h.0) h.1.0.some (plain t h.1.0)
rows Policies (s ∷ ps) n h = absurd (omega arith)
rows Policy [] n h = absurd (omega arith)
rows Policy (s ∷ t ∷ ps) n h = absurd (omega arith)
rows Rules (s ∷ ps) n h = absurd (omega arith)
rows Rule [] n h = absurd (omega arith)
rows Rule (s ∷ t ∷ ps) n h = absurd (omega arith)
rows Metrics (s ∷ ps) n h = absurd (omega arith)
rows Metric [] n h = absurd (omega arith)
rows Metric (s ∷ t ∷ ps) n h = absurd (omega arith)
rows Measures [] n h = absurd (omega arith)
rows Measures (s ∷ t ∷ ps) n h = absurd (omega arith)
rows BatchMeasures (s ∷ ps) n h = absurd (omega arith)
rows Resources (s ∷ ps) n h = absurd (omega arith)
rows Resource [] n h = absurd (omega arith)
rows Resource (s ∷ t ∷ ps) n h = absurd (omega arith)
rows ResourceMetrics [] n h = absurd (omega arith)
rows ResourceMetrics (s ∷ t ∷ ps) n h = absurd (omega arith)
rows NamedMeasures [] n h = absurd (omega arith)
rows NamedMeasures (s ∷ []) n h = absurd (omega arith)
rows NamedMeasures (s ∷ t ∷ u ∷ ps) n h = absurd (omega arith)

pub every-row : (raw : RawRoute) → IsRawRoute raw → raw_route_of (path_text raw.0 raw.1) ≡ Some raw
every-row (kind, ps) h = rows kind ps h.count (recursion_from_All IsParameter ps h.parameters)

-- ---- empty segments

abbrev full : List (List ℕ) → Bool
full [] = true
full (s ∷ ss) = not (is_empty s) && full ss

filled : (s : List ℕ) → s ≢ [] → is_empty s ≡ false
filled [] n = absurd (n refl)
filled (b ∷ s) n = refl

-- no segment but the first is empty
full-HasRoute : (ss : List (List ℕ)) (raw : RawRoute) → HasRoute ss raw → full (drop 1 ss) ≡ true
full-HasRoute _ _ policies = refl
full-HasRoute _ _ (policy name n) = rw (filled name n) refl
full-HasRoute _ _ rules = refl
full-HasRoute _ _ (rule name n) = rw (filled name n) refl
full-HasRoute _ _ metrics = refl
full-HasRoute _ _ (metric id n) = rw (filled id n) refl
full-HasRoute _ _ (measures id n) = rw (filled id n) refl
full-HasRoute _ _ batch_measures = refl
full-HasRoute _ _ resources = refl
full-HasRoute _ _ (resource id n) = rw (filled id n) refl
full-HasRoute _ _ (resource_metrics id n) = rw (filled id n) refl
full-HasRoute _ _ (named_measures id name n m) = rw (filled id n, filled name m) refl

not-full : (ss more : List (List ℕ)) → full (ss ++ [] ∷ more) ≡ false
not-full [] more = refl
not-full ([] ∷ ss) more = refl
not-full ((b ∷ s) ∷ ss) more = not-full ss more

none-behind : (s : List ℕ) (ss more whole : List (List ℕ)) → whole ≡ s ∷ (ss ++ [] ∷ more) → of_segments whole ≡ None
none-behind s ss more whole e = by (of_segments whole) refl
  where
    by : (x : Option RawRoute) → of_segments whole ≡ x → x ≡ None
    by None q = refl
    by (Some raw) q =
        let is_full : full (drop 1 whole) ≡ true = full-HasRoute whole raw (HasRoute-of_segments whole raw q) in
        let isnt : full (drop 1 whole) ≡ false = ap (λ z. full (drop 1 z)) e ∙ not-full ss more in
        cc

-- a path with a slash behind it
pub none-trailing : (path : List ℕ) → raw_route_of (path ++ 47 ∷ []) ≡ None
none-trailing path =
    let p = segments-cons path in
    none-behind p.0 p.1 [] (segments (path ++ 47 ∷ [])) (segments-append path [] ∙ ap (λ z. z ++ [] ∷ []) p.2)

-- a path with two slashes, one behind the other
pub none-doubled : (path rest : List ℕ) → raw_route_of (path ++ 47 ∷ 47 ∷ rest) ≡ None
none-doubled path rest =
    let p = segments-cons path in
    none-behind p.0 p.1 (segments rest) (segments (path ++ 47 ∷ 47 ∷ rest)) (segments-append path (47 ∷ rest) ∙ ap (λ z. z ++ [] ∷ segments rest) p.2)
