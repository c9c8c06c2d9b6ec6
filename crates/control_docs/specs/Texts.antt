-- The documents byte for byte, as they are written.
use Rattle.std.specs.Prelude.{ℕ, ◌*◌, List, [], ◌∷◌, ◌++◌, Option, Some, None, codes}
use Rattle.std.specs.List.{flat_map}
use Rattle.std.specs.Fmt.{decimal}
use Rattle.archive_policy.specs.declared.definition.Definition.{Definition}
use Rattle.archive_policy.specs.declared.kind.Kind.{Kind}
use Rattle.archive_policy.specs.Kinds.{kind_name}
use Rattle.archive_policy.specs.Policies.{ArchivePolicy}
use Rattle.policy_rules.specs.declared.rule.Rule.{Rule}
use Rattle.gno_time.specs.Text.{span_text_of}
use Rattle.series_model.specs.declared.metric.MetricId.{MetricId}
use Rattle.json.specs.Print.{quoted}
use Rattle.control_docs.specs.Documents.{id_text}

-- a text of plain bytes in double quotes
abbrev pub in_quotes : List ℕ → List ℕ
in_quotes text = 34 ∷ text ++ 34 ∷ []

-- texts with a comma between any two
abbrev pub with_commas : {A : Type 0} → (A → List ℕ) → List A → List ℕ
with_commas text [] = []
with_commas text (x ∷ xs) = text x ++ flat_map (λ y. 44 ∷ text y) xs

-- a name, or `null`
abbrev pub name_text : Option (List ℕ) → List ℕ
name_text None = codes "null"
name_text (Some name) = quoted name

-- an identifier, or `null`
abbrev pub resource_id_text : Option ℕ → List ℕ
resource_id_text None = codes "null"
resource_id_text (Some id) = in_quotes (id_text id)

abbrev pub kind_text : Kind → List ℕ
kind_text kind = in_quotes (kind_name kind)

-- the text behind the points
abbrev pub definition_end_text : ℕ → List ℕ
definition_end_text timespan = codes ",\"timespan\":" ++ in_quotes (span_text_of timespan) ++ codes "}"

abbrev pub definition_text : Definition → List ℕ
definition_text d =
    codes "{\"granularity\":" ++ in_quotes (span_text_of d.granularity) ++ codes ",\"points\":" ++ decimal d.points ++ definition_end_text (d.granularity * d.points)

-- the text behind the back window
abbrev pub policy_end_text : ArchivePolicy → List ℕ
policy_end_text p =
    codes ",\"definition\":[" ++ with_commas definition_text p.definitions ++ codes "],\"name\":" ++ quoted p.name ++ codes "}"

abbrev pub policy_text : ArchivePolicy → List ℕ
policy_text p =
    codes "{\"aggregation_methods\":[" ++ with_commas kind_text p.kinds ++ codes "],\"back_window\":" ++ decimal p.back_window ++ policy_end_text p

abbrev pub rule_text : Rule → List ℕ
rule_text r =
    (codes "{\"archive_policy_name\":" ++ quoted r.policy) ++ (codes ",\"metric_pattern\":" ++ quoted r.pattern) ++ (codes ",\"name\":" ++ quoted r.name) ++ codes "}"

-- the text behind the name
abbrev pub metric_end_text : Option (List ℕ) → Option ℕ → List ℕ
metric_end_text unit resource =
    codes ",\"resource_id\":" ++ resource_id_text resource ++ (codes ",\"unit\":" ++ name_text unit) ++ codes "}"

abbrev pub metric_text : MetricId → List ℕ → Option (List ℕ) → Option (List ℕ) → Option ℕ → List ℕ
metric_text id policy name unit resource =
    (codes "{\"archive_policy_name\":" ++ quoted policy) ++ (codes ",\"id\":" ++ in_quotes (id_text id.0)) ++ (codes ",\"name\":" ++ name_text name) ++ metric_end_text unit resource

-- a metric's name and its identifier
abbrev pub named_id_text : (List ℕ × MetricId) → List ℕ
named_id_text metric = quoted metric.0 ++ (codes ":" ++ in_quotes (id_text metric.1.0))

abbrev pub resource_text : ℕ → List (List ℕ × MetricId) → List ℕ
resource_text id metrics =
    (codes "{\"id\":" ++ in_quotes (id_text id)) ++ codes ",\"metrics\":{" ++ with_commas named_id_text metrics ++ codes "},\"type\":\"generic\"}"
