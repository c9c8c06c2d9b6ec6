-- The JSON values whose compact text the documents are, keys by rising name as such a value has them.
use Rattle.std.specs.Prelude.{ℕ, ◌*◌, List, [], ◌∷◌, map, Option, Some, None, codes}
use Rattle.std.specs.Int.{w128, to_be_bytes}
use Rattle.uuid.specs.Text.{hyphenated_text, lower}
use Rattle.archive_policy.specs.declared.definition.Definition.{Definition}
use Rattle.archive_policy.specs.declared.kind.Kind.{Kind}
use Rattle.archive_policy.specs.Kinds.{kind_name}
use Rattle.archive_policy.specs.Policies.{ArchivePolicy}
use Rattle.policy_rules.specs.declared.rule.Rule.{Rule}
use Rattle.gno_time.specs.Text.{span_text_of}
use Rattle.series_model.specs.declared.metric.MetricId.{MetricId}
use Rattle.serde_json.specs.Data.{unsigned, Data, null, number, string, array, object, Members, no_members, member}
use Rattle.serde_json.specs.View.{items_of}

-- an identifier, in lower case with hyphens
abbrev pub id_text : ℕ → List ℕ
id_text id = hyphenated_text lower (to_be_bytes w128 id)

-- a text, null where it is absent
abbrev pub text_value : Option (List ℕ) → Data
text_value None = null
text_value (Some text) = string text

-- an identifier, null where it is absent
abbrev pub id_value : Option ℕ → Data
id_value None = null
id_value (Some id) = string (id_text id)

-- a definition, with the time that its points take
abbrev pub definition_value : Definition → Data
definition_value d =
    object (member (codes "granularity") (string (span_text_of d.granularity)) (member (codes "points") (number (unsigned d.points)) (member (codes "timespan") (string (span_text_of (d.granularity * d.points))) no_members)))

abbrev pub kind_value : Kind → Data
kind_value kind = string (kind_name kind)

abbrev pub policy_value : ArchivePolicy → Data
policy_value p =
    object (member (codes "aggregation_methods") (array (items_of (map kind_value p.kinds))) (member (codes "back_window") (number (unsigned p.back_window)) (member (codes "definition") (array (items_of (map definition_value p.definitions))) (member (codes "name") (string p.name) no_members))))

abbrev pub rule_value : Rule → Data
rule_value r =
    object (member (codes "archive_policy_name") (string r.policy) (member (codes "metric_pattern") (string r.pattern) (member (codes "name") (string r.name) no_members)))

-- a metric: its identifier, its policy, and what it may have besides
abbrev pub metric_value : MetricId → List ℕ → Option (List ℕ) → Option (List ℕ) → Option ℕ → Data
metric_value id policy name unit resource =
    object (member (codes "archive_policy_name") (string policy) (member (codes "id") (string (id_text id.0)) (member (codes "name") (text_value name) (member (codes "resource_id") (id_value resource) (member (codes "unit") (text_value unit) no_members)))))

-- names with the identifiers of their metrics, in the order given
abbrev pub named_ids : List (List ℕ × MetricId) → Members
named_ids [] = no_members
named_ids (metric ∷ metrics) = member metric.0 (string (id_text metric.1.0)) (named_ids metrics)

-- a resource with its metrics
abbrev pub resource_value : ℕ → List (List ℕ × MetricId) → Data
resource_value id metrics =
    object (member (codes "id") (string (id_text id)) (member (codes "metrics") (object (named_ids metrics)) (member (codes "type") (string (codes "generic")) no_members)))
