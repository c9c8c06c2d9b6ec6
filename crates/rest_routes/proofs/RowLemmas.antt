-- The route that is computed from segments is the one that the table gives them.
use Rattle.std.proofs.Common.{◌≡◌, ◌≢◌, ℕ, List, [], ◌∷◌, Option, Some, None, Bool, true, false, cond, refl, sym, ◌∙◌, subst, codes}
use Rattle.rest_routes.specs.declared.kind.RouteKind.TheVariants.{Policies, Policy, Rules, Rule, Measures, BatchMeasures, NamedMeasures, Metric, Resource, ResourceMetrics}
use Rattle.rest_routes.specs.Path.{RawRoute, is_word, unless_empty, all_or_one, of_metric, of_batch_metrics, of_batch, of_named_metric, of_its_metrics, of_one_resource, of_generic, of_resource, of_v1, of_segments, parameters_of}
use Rattle.rest_routes.specs.Written.{HasRoute, policies, policy, rules, rule, metrics, metric, measures, batch_measures, resources, resource, resource_metrics, named_measures}
use Rattle.rest_routes.proofs.RouterLaw.{word-is}

-- ---- from what is computed to the table

-- what is found is a route of these segments
abbrev Finds : List (List ℕ) → Option RawRoute → Type 0
Finds ss None = Unit {0}
Finds ss (Some raw) = HasRoute ss raw

finds-else : (front : List ℕ → List (List ℕ)) (w s : List ℕ) (x y : Option RawRoute) → Finds (front w) x → Finds (front s) y → Finds (front s) (cond (is_word w s) x y)
finds-else front w s x y a b = by (is_word w s) refl
  where
    by : (v : Bool) → is_word w s ≡ v → Finds (front s) (cond v x y)
    by true e = subst (λ z. Finds (front z) x) (word-is w s e) a
    by false e = b

some-byte : (b : ℕ) (s : List ℕ) → b ∷ s ≢ []
some-byte b s e = cc

finds-policy : (rest : List (List ℕ)) → Finds ([] ∷ codes "v1" ∷ codes "archive_policy" ∷ rest) (all_or_one Policies Policy rest)
finds-policy [] = policies
finds-policy ([] ∷ rest) = tt
finds-policy ((b ∷ s) ∷ []) = policy (b ∷ s) (some-byte b s)
finds-policy ((b ∷ s) ∷ t ∷ rest) = tt

finds-rule : (rest : List (List ℕ)) → Finds ([] ∷ codes "v1" ∷ codes "archive_policy_rule" ∷ rest) (all_or_one Rules Rule rest)
finds-rule [] = rules
finds-rule ([] ∷ rest) = tt
finds-rule ((b ∷ s) ∷ []) = rule (b ∷ s) (some-byte b s)
finds-rule ((b ∷ s) ∷ t ∷ rest) = tt

finds-metric : (rest : List (List ℕ)) → Finds ([] ∷ codes "v1" ∷ codes "metric" ∷ rest) (of_metric rest)
finds-metric [] = metrics
finds-metric ([] ∷ rest) = tt
finds-metric ((b ∷ s) ∷ []) = metric (b ∷ s) (some-byte b s)
finds-metric ((b ∷ s) ∷ t ∷ []) =
    finds-else (λ w. [] ∷ codes "v1" ∷ codes "metric" ∷ (b ∷ s) ∷ w ∷ []) (codes "measures") t (Some (Measures, (b ∷ s) ∷ [])) None
    (measures (b ∷ s) (some-byte b s)) tt
finds-metric ((b ∷ s) ∷ t ∷ u ∷ rest) =
    finds-else (λ w. [] ∷ codes "v1" ∷ codes "metric" ∷ (b ∷ s) ∷ w ∷ u ∷ rest) (codes "measures") t None None tt tt

finds-batch : (rest : List (List ℕ)) → Finds ([] ∷ codes "v1" ∷ codes "batch" ∷ rest) (of_batch rest)
finds-batch [] = tt
finds-batch (s ∷ rest) =
    finds-else (λ w. [] ∷ codes "v1" ∷ codes "batch" ∷ w ∷ rest) (codes "metrics") s (of_batch_metrics rest) None (inner rest) tt
  where
    inner : (rest : List (List ℕ)) → Finds ([] ∷ codes "v1" ∷ codes "batch" ∷ codes "metrics" ∷ rest) (of_batch_metrics rest)
    inner [] = tt
    inner (t ∷ []) =
        finds-else (λ w. [] ∷ codes "v1" ∷ codes "batch" ∷ codes "metrics" ∷ w ∷ []) (codes "measures") t (Some (BatchMeasures, [])) None batch_measures tt
    inner (t ∷ u ∷ rest) =
        finds-else (λ w. [] ∷ codes "v1" ∷ codes "batch" ∷ codes "metrics" ∷ w ∷ u ∷ rest) (codes "measures") t None None tt tt

abbrev below_generic : List (List ℕ) → List (List ℕ)
below_generic rest = [] ∷ codes "v1" ∷ codes "resource" ∷ codes "generic" ∷ rest

finds-named : (s t : List ℕ) → s ≢ [] → t ≢ [] → (rest : List (List ℕ))
    → Finds (below_generic (s ∷ codes "metric" ∷ t ∷ rest)) (of_named_metric s t rest)
finds-named s t m n [] = tt
finds-named s t m n (u ∷ []) =
    finds-else (λ w. below_generic (s ∷ codes "metric" ∷ t ∷ w ∷ [])) (codes "measures") u (Some (NamedMeasures, s ∷ t ∷ [])) None
    (named_measures s t m n) tt
finds-named s t m n (u ∷ v ∷ rest) =
    finds-else (λ w. below_generic (s ∷ codes "metric" ∷ t ∷ w ∷ v ∷ rest)) (codes "measures") u None None tt tt

finds-its : (s : List ℕ) → s ≢ [] → (rest : List (List ℕ)) → Finds (below_generic (s ∷ codes "metric" ∷ rest)) (of_its_metrics s rest)
finds-its s m [] = resource_metrics s m
finds-its s m ([] ∷ rest) = tt
finds-its s m ((b ∷ t) ∷ rest) = finds-named s (b ∷ t) m (some-byte b t) rest

finds-generic : (rest : List (List ℕ)) → Finds (below_generic rest) (of_generic rest)
finds-generic [] = resources
finds-generic ([] ∷ rest) = tt
finds-generic ((b ∷ s) ∷ []) = resource (b ∷ s) (some-byte b s)
finds-generic ((b ∷ s) ∷ t ∷ rest) =
    finds-else (λ w. below_generic ((b ∷ s) ∷ w ∷ rest)) (codes "metric") t (of_its_metrics (b ∷ s) rest) None (finds-its (b ∷ s) (some-byte b s) rest) tt

finds-resource : (rest : List (List ℕ)) → Finds ([] ∷ codes "v1" ∷ codes "resource" ∷ rest) (of_resource rest)
finds-resource [] = tt
finds-resource (s ∷ rest) =
    finds-else (λ w. [] ∷ codes "v1" ∷ codes "resource" ∷ w ∷ rest) (codes "generic") s (of_generic rest) None (finds-generic rest) tt

finds-v1 : (rest : List (List ℕ)) → Finds ([] ∷ codes "v1" ∷ rest) (of_v1 rest)
finds-v1 [] = tt
finds-v1 (s ∷ rest) =
    let front = λ (w : List ℕ). [] ∷ codes "v1" ∷ w ∷ rest in
    finds-else front (codes "archive_policy") s _ _ (finds-policy rest)
    (finds-else front (codes "archive_policy_rule") s _ _ (finds-rule rest)
    (finds-else front (codes "batch") s _ _ (finds-batch rest)
    (finds-else front (codes "metric") s _ _ (finds-metric rest)
    (finds-else front (codes "resource") s _ None (finds-resource rest) tt))))

finds : (ss : List (List ℕ)) → Finds ss (of_segments ss)
finds [] = tt
finds ([] ∷ []) = tt
finds ([] ∷ v ∷ rest) = finds-else (λ w. [] ∷ w ∷ rest) (codes "v1") v (of_v1 rest) None (finds-v1 rest) tt
finds ((b ∷ s) ∷ ss) = tt

pub HasRoute-of_segments : (ss : List (List ℕ)) (raw : RawRoute) → of_segments ss ≡ Some raw → HasRoute ss raw
HasRoute-of_segments ss raw e = subst (λ z. Finds ss z) e (finds ss)

-- ---- from the table to what is computed

pub present : (s : List ℕ) (x : Option RawRoute) → s ≢ [] → unless_empty s x ≡ x
present [] x n = absurd (n refl)
present (b ∷ s) x n = refl

pub of_segments-HasRoute : (ss : List (List ℕ)) (raw : RawRoute) → HasRoute ss raw → of_segments ss ≡ Some raw
of_segments-HasRoute _ _ policies = refl
of_segments-HasRoute _ _ (policy name n) = present name (Some (Policy, name ∷ [])) n
of_segments-HasRoute _ _ rules = refl
of_segments-HasRoute _ _ (rule name n) = present name (Some (Rule, name ∷ [])) n
of_segments-HasRoute _ _ metrics = refl
of_segments-HasRoute _ _ (metric id n) = present id (Some (Metric, id ∷ [])) n
of_segments-HasRoute _ _ (measures id n) = present id (Some (Measures, id ∷ [])) n
of_segments-HasRoute _ _ batch_measures = refl
of_segments-HasRoute _ _ resources = refl
of_segments-HasRoute _ _ (resource id n) = present id (Some (Resource, id ∷ [])) n
of_segments-HasRoute _ _ (resource_metrics id n) = present id (Some (ResourceMetrics, id ∷ [])) n
of_segments-HasRoute _ _ (named_measures id name n m) =
    present id (of_one_resource id (codes "metric" ∷ name ∷ codes "measures" ∷ [])) n
    ∙ present name (Some (NamedMeasures, id ∷ name ∷ [])) m

pub one-route : (ss : List (List ℕ)) (a b : RawRoute) → HasRoute ss a → HasRoute ss b → a ≡ b
one-route ss a b h k =
    let same : Some a ≡ Some b = sym (of_segments-HasRoute ss a h) ∙ of_segments-HasRoute ss b k in
    cc

-- ---- what follows for each row

-- the parameters stand at fixed segments
pub parameters-HasRoute : (ss : List (List ℕ)) (raw : RawRoute) → HasRoute ss raw → raw.1 ≡ parameters_of raw.0 ss
parameters-HasRoute _ _ policies = refl
parameters-HasRoute _ _ (policy name n) = refl
parameters-HasRoute _ _ rules = refl
parameters-HasRoute _ _ (rule name n) = refl
parameters-HasRoute _ _ metrics = refl
parameters-HasRoute _ _ (metric id n) = refl
parameters-HasRoute _ _ (measures id n) = refl
parameters-HasRoute _ _ batch_measures = refl
parameters-HasRoute _ _ resources = refl
parameters-HasRoute _ _ (resource id n) = refl
parameters-HasRoute _ _ (resource_metrics id n) = refl
parameters-HasRoute _ _ (named_measures id name n m) = refl
