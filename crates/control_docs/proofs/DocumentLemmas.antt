-- The documents are the compact text of their values.
use Rattle.std.proofs.Common.{◌≡◌, ◌==◌, ℕ, suc, ◌*◌, List, [], ◌∷◌, ◌++◌, map, length, Option, Some, None, true, false, refl, sym, ap, ◌∙◌, append_assoc, append-nil, arith, codes}
use Rattle.std.proofs.lemmas.Bool.Decides.{nat_tests}
use Rattle.std.specs.List.{flat_map}
use Rattle.std.specs.Fmt.{decimal}
use Rattle.json.specs.Print.{escape_byte, quoted}
use Rattle.serde_json.specs.Data.{Data, array}
use Rattle.serde_json.specs.View.{items_of}
use Rattle.serde_json.specs.Written.{compact_text, items_text, members_text}
use Rattle.archive_policy.specs.declared.definition.Definition.{Definition}
use Rattle.archive_policy.specs.declared.kind.Kind.{Kind}
use Rattle.archive_policy.specs.Policies.{ArchivePolicy}
use Rattle.policy_rules.specs.declared.rule.Rule.{Rule}
use Rattle.gno_time.specs.Text.{span_text_of}
use Rattle.series_model.specs.declared.metric.MetricId.{MetricId}
use Rattle.control_docs.specs.Documents.{definition_value, id_text, id_value, kind_value, metric_value, named_ids, policy_value, resource_value, rule_value, text_value}
use Rattle.control_docs.specs.Lists.{list_front, separator}
use Rattle.control_docs.specs.Texts.{definition_text, in_quotes, kind_text, metric_text, name_text, named_id_text, policy_text, resource_id_text, resource_text, rule_text, with_commas}
use Rattle.control_docs.proofs.AppendLemmas.{flat_map-more}
use Rattle.control_docs.proofs.PlainLemmas.{escape-kind_name, plain-id_text, plain-span_text, quoted-plain}

-- ---- lists

module _ {A : Type 0} (value : A → Data) (text : A → List ℕ) (same : (x : A) → text x ≡ compact_text (value x)) where
  items_behind : (xs : List A) → flat_map (λ x. 44 ∷ text x) xs ++ 93 ∷ [] ≡ items_text true (items_of (map value xs))
  items_behind [] = refl
  items_behind (x ∷ xs) =
      append_assoc (44 ∷ text x) (flat_map (λ y. 44 ∷ text y) xs) (93 ∷ []) ∙ ap (λ t. 44 ∷ t ++ (flat_map (λ y. 44 ∷ text y) xs ++ 93 ∷ [])) (same x) ∙ ap (λ t. 44 ∷ compact_text (value x) ++ t) (items_behind xs)

  pub items_same : (xs : List A) → with_commas text xs ++ 93 ∷ [] ≡ items_text false (items_of (map value xs))
  items_same [] = refl
  items_same (x ∷ xs) =
      append_assoc (text x) (flat_map (λ y. 44 ∷ text y) xs) (93 ∷ []) ∙ ap (λ t. t ++ (flat_map (λ y. 44 ∷ text y) xs ++ 93 ∷ [])) (same x) ∙ ap (λ t. compact_text (value x) ++ t) (items_behind xs)

  pub list_same : (xs : List A) → 91 ∷ with_commas text xs ++ 93 ∷ [] ≡ compact_text (array (items_of (map value xs)))
  list_same xs = ap (λ t. 91 ∷ t) (items_same xs)

-- ---- lists written one document after another

pub list_next : (ds : List Data) (d : Data) → list_front (ds ++ d ∷ []) ≡ list_front ds ++ separator (length ds) ++ compact_text d
list_next [] d = append-nil (91 ∷ compact_text d)
list_next (first ∷ ds) d =
    ap (λ t. 91 ∷ compact_text first ++ t) (flat_map-more (λ e. 44 ∷ compact_text e) ds (d ∷ []) ∙ ap (λ t. flat_map (λ e. 44 ∷ compact_text e) ds ++ t) (append-nil (44 ∷ compact_text d)))
    ∙ regrouped (91 ∷ compact_text first) (flat_map (λ e. 44 ∷ compact_text e) ds) (44 ∷ []) (compact_text d)
    ∙ ap (λ s. list_front (first ∷ ds) ++ s ++ compact_text d) (sym (separator_behind (length ds)))
  where
    separator_behind : (n : ℕ) → separator (suc n) ≡ 44 ∷ []
    separator_behind n = let some : (suc n == 0) ≡ false = grind (arith, nat_tests) in rw some refl

    regrouped : (a b c d : List ℕ) → a ++ (b ++ (c ++ d)) ≡ ((a ++ b) ++ c) ++ d
    regrouped a b c d = simp append_assoc

map-same : (ds : List Data) → map (λ d. d) ds ≡ ds
map-same [] = refl
map-same (d ∷ ds) = ap (λ more. d ∷ more) (map-same ds)

pub list_whole : (ds : List Data) → list_front ds ++ 93 ∷ [] ≡ compact_text (array (items_of ds))
list_whole ds = list_same (λ d. d) compact_text (λ d. refl) ds ∙ ap (λ more. compact_text (array (items_of more))) (map-same ds)

-- ---- pieces, however they are grouped

pieces7 : (a b c d e f g : List ℕ) → (a ++ b ++ c ++ d ++ (e ++ f ++ g)) ≡ a ++ (b ++ (c ++ (d ++ (e ++ (f ++ g)))))
pieces7 a b c d e f g = simp append_assoc

pieces9 : (a b c d e f g h i : List ℕ) → (a ++ b ++ c ++ d ++ (e ++ f ++ g ++ h ++ i)) ≡ a ++ (b ++ (c ++ (d ++ (e ++ (f ++ (g ++ (h ++ i)))))))
pieces9 a b c d e f g h i = simp append_assoc

pieces11 : (a b c d e f g h i j k : List ℕ) → ((a ++ b) ++ (c ++ d) ++ (e ++ f) ++ (g ++ h ++ (i ++ j) ++ k)) ≡ a ++ (b ++ (c ++ (d ++ (e ++ (f ++ (g ++ (h ++ (i ++ (j ++ k)))))))))
pieces11 a b c d e f g h i j k = simp append_assoc

-- ---- policies

kind_same : (kind : Kind) → kind_text kind ≡ compact_text (kind_value kind)
kind_same kind = ap (λ name. 34 ∷ name ++ 34 ∷ []) (sym (escape-kind_name kind))

id_same : (id : ℕ) → in_quotes (id_text id) ≡ quoted (id_text id)
id_same id = quoted-plain (id_text id) (plain-id_text id)

span_same : (nanos : ℕ) → in_quotes (span_text_of nanos) ≡ quoted (span_text_of nanos)
span_same nanos = quoted-plain (span_text_of nanos) (plain-span_text nanos)

-- a definition, of the texts of its spans and its points
abbrev definition_layout : List ℕ → List ℕ → List ℕ → List ℕ
definition_layout granularity points timespan =
    codes "{\"granularity\":" ++ (granularity ++ (codes ",\"points\":" ++ (points ++ (codes ",\"timespan\":" ++ (timespan ++ codes "}")))))

definition_laid : (granularity points timespan : List ℕ) → (codes "{\"granularity\":" ++ granularity ++ codes ",\"points\":" ++ points ++ (codes ",\"timespan\":" ++ timespan ++ codes "}")) ≡ definition_layout granularity points timespan
definition_laid granularity points timespan =
    pieces7 (codes "{\"granularity\":") granularity (codes ",\"points\":") points (codes ",\"timespan\":") timespan (codes "}")

definition_same : (d : Definition) → definition_text d ≡ compact_text (definition_value d)
unfolding escape_byte
definition_same d =
    let fine = in_quotes (span_text_of d.granularity) in
    let points = decimal d.points in
    let whole = span_text_of (d.granularity * d.points) in
    definition_laid fine points (in_quotes whole) ∙ ap (λ q. definition_layout q points (in_quotes whole)) (span_same d.granularity) ∙ ap (definition_layout (quoted (span_text_of d.granularity)) points) (span_same (d.granularity * d.points))

-- a policy, of the texts behind its keys; those of lists have their closing bracket
abbrev policy_layout : List ℕ → List ℕ → List ℕ → List ℕ → List ℕ
policy_layout kinds window definitions name =
    codes "{\"aggregation_methods\":[" ++ (kinds ++ (codes ",\"back_window\":" ++ (window ++ (codes ",\"definition\":[" ++ (definitions ++ (codes ",\"name\":" ++ (name ++ codes "}")))))))

policy_laid : (kinds window definitions name : List ℕ) → (codes "{\"aggregation_methods\":[" ++ kinds ++ codes "],\"back_window\":" ++ window ++ (codes ",\"definition\":[" ++ definitions ++ codes "],\"name\":" ++ name ++ codes "}")) ≡ policy_layout (kinds ++ 93 ∷ []) window (definitions ++ 93 ∷ []) name
policy_laid kinds window definitions name =
    pieces9 (codes "{\"aggregation_methods\":[") kinds (codes "],\"back_window\":") window (codes ",\"definition\":[") definitions (codes "],\"name\":") name (codes "}")
    ∙ ap (λ ks. codes "{\"aggregation_methods\":[" ++ ks) (sym (append_assoc kinds (93 ∷ []) (codes ",\"back_window\":" ++ (window ++ (codes ",\"definition\":[" ++ (definitions ++ (codes "],\"name\":" ++ (name ++ codes "}"))))))))
    ∙ ap (λ ds. codes "{\"aggregation_methods\":[" ++ ((kinds ++ 93 ∷ []) ++ (codes ",\"back_window\":" ++ (window ++ (codes ",\"definition\":[" ++ ds))))) (sym (append_assoc definitions (93 ∷ []) (codes ",\"name\":" ++ (name ++ codes "}"))))

pub policy_same : (p : ArchivePolicy) → policy_text p ≡ compact_text (policy_value p)
unfolding escape_byte
policy_same p =
    let window = decimal p.back_window in
    policy_laid (with_commas kind_text p.kinds) window (with_commas definition_text p.definitions) (quoted p.name)
    ∙ ap (λ ks. policy_layout ks window (with_commas definition_text p.definitions ++ 93 ∷ []) (quoted p.name)) (items_same kind_value kind_text kind_same p.kinds)
    ∙ ap (λ ds. policy_layout (items_text false (items_of (map kind_value p.kinds))) window ds (quoted p.name)) (items_same definition_value definition_text definition_same p.definitions)

-- ---- rules

pub rule_same : (r : Rule) → rule_text r ≡ compact_text (rule_value r)
unfolding escape_byte
rule_same r = simp append_assoc

-- ---- metrics

name_same : (name : Option (List ℕ)) → name_text name ≡ compact_text (text_value name)
name_same None = refl
name_same (Some name) = refl

resource_id_same : (id : Option ℕ) → resource_id_text id ≡ compact_text (id_value id)
resource_id_same None = refl
resource_id_same (Some id) = id_same id

-- a metric, of the texts behind its keys
abbrev metric_layout : List ℕ → List ℕ → List ℕ → List ℕ → List ℕ → List ℕ
metric_layout policy id name resource unit =
    codes "{\"archive_policy_name\":" ++ (policy ++ (codes ",\"id\":" ++ (id ++ (codes ",\"name\":" ++ (name ++ (codes ",\"resource_id\":" ++ (resource ++ (codes ",\"unit\":" ++ (unit ++ codes "}")))))))))

metric_laid : (policy id name resource unit : List ℕ) → ((codes "{\"archive_policy_name\":" ++ policy) ++ (codes ",\"id\":" ++ id) ++ (codes ",\"name\":" ++ name) ++ (codes ",\"resource_id\":" ++ resource ++ (codes ",\"unit\":" ++ unit) ++ codes "}")) ≡ metric_layout policy id name resource unit
metric_laid policy id name resource unit =
    pieces11 (codes "{\"archive_policy_name\":") policy (codes ",\"id\":") id (codes ",\"name\":") name (codes ",\"resource_id\":") resource (codes ",\"unit\":") unit (codes "}")

pub metric_same : (id : MetricId) (policy : List ℕ) (name unit : Option (List ℕ)) (resource : Option ℕ) → metric_text id policy name unit resource ≡ compact_text (metric_value id policy name unit resource)
unfolding escape_byte
metric_same id policy name unit resource =
    metric_laid (quoted policy) (in_quotes (id_text id.0)) (name_text name) (resource_id_text resource) (name_text unit)
    ∙ ap (λ q. metric_layout (quoted policy) q (name_text name) (resource_id_text resource) (name_text unit)) (id_same id.0)
    ∙ ap (λ q. metric_layout (quoted policy) (quoted (id_text id.0)) q (resource_id_text resource) (name_text unit)) (name_same name)
    ∙ ap (λ q. metric_layout (quoted policy) (quoted (id_text id.0)) (compact_text (text_value name)) q (name_text unit)) (resource_id_same resource)
    ∙ ap (metric_layout (quoted policy) (quoted (id_text id.0)) (compact_text (text_value name)) (compact_text (id_value resource))) (name_same unit)

-- ---- resources

named_id_same : (metric : List ℕ × MetricId) → named_id_text metric ≡ quoted metric.0 ++ 58 ∷ quoted (id_text metric.1.0)
named_id_same metric = ap (λ t. quoted metric.0 ++ 58 ∷ t) (id_same metric.1.0)

named_ids_behind : (metrics : List (List ℕ × MetricId)) → flat_map (λ x. 44 ∷ named_id_text x) metrics ++ 125 ∷ [] ≡ members_text true (named_ids metrics)
named_ids_behind [] = refl
named_ids_behind (m ∷ ms) =
    append_assoc (44 ∷ named_id_text m) (flat_map (λ x. 44 ∷ named_id_text x) ms) (125 ∷ []) ∙ ap (λ t. 44 ∷ t ++ (flat_map (λ x. 44 ∷ named_id_text x) ms ++ 125 ∷ [])) (named_id_same m)
    ∙ ap (λ t. 44 ∷ (quoted m.0 ++ 58 ∷ quoted (id_text m.1.0)) ++ t) (named_ids_behind ms) ∙ ap (λ t. 44 ∷ t) (append_assoc (quoted m.0) (58 ∷ quoted (id_text m.1.0)) (members_text true (named_ids ms)))

named_ids_same : (metrics : List (List ℕ × MetricId)) → with_commas named_id_text metrics ++ 125 ∷ [] ≡ members_text false (named_ids metrics)
named_ids_same [] = refl
named_ids_same (m ∷ ms) =
    append_assoc (named_id_text m) (flat_map (λ x. 44 ∷ named_id_text x) ms) (125 ∷ []) ∙ ap (λ t. t ++ (flat_map (λ x. 44 ∷ named_id_text x) ms ++ 125 ∷ [])) (named_id_same m)
    ∙ ap (λ t. (quoted m.0 ++ 58 ∷ quoted (id_text m.1.0)) ++ t) (named_ids_behind ms) ∙ append_assoc (quoted m.0) (58 ∷ quoted (id_text m.1.0)) (members_text true (named_ids ms))

-- a resource, of the texts behind its keys; that of its metrics has its closing brace
abbrev resource_layout : List ℕ → List ℕ → List ℕ
resource_layout id metrics = codes "{\"id\":" ++ (id ++ (codes ",\"metrics\":{" ++ (metrics ++ codes ",\"type\":\"generic\"}")))

resource_laid : (id metrics : List ℕ) → ((codes "{\"id\":" ++ id) ++ codes ",\"metrics\":{" ++ metrics ++ codes "},\"type\":\"generic\"}") ≡ resource_layout id (metrics ++ 125 ∷ [])
resource_laid id metrics = simp append_assoc

pub resource_same : (id : ℕ) (metrics : List (List ℕ × MetricId)) → resource_text id metrics ≡ compact_text (resource_value id metrics)
unfolding escape_byte
resource_same id metrics =
    resource_laid (in_quotes (id_text id)) (with_commas named_id_text metrics) ∙ ap (λ q. resource_layout q (with_commas named_id_text metrics ++ 125 ∷ [])) (id_same id) ∙ ap (resource_layout (quoted (id_text id))) (named_ids_same metrics)
