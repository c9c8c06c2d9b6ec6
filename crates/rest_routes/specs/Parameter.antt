-- What a parameter of a path stands for.
use Rattle.std.specs.Prelude.{ℕ, nat_le, Bool, not, ◌&&◌, ◌==◌, if◌then◌else◌, List, length, Option, None, Some, option_map, option_and_then}
use Rattle.std.specs.Int.{w128, from_be_bytes}
use Rattle.std.specs.List.{list_all}
use Rattle.uuid.specs.Text.{parsed}
use Rattle.series_model.specs.declared.metric.MetricId.{MetricId}
use Rattle.rest_routes.specs.Escapes.{unescaped}

-- a byte may stand in a name
abbrev pub may_be_named : ℕ → Bool
may_be_named byte = nat_le 32 byte && (nat_le byte 126 && not (byte == 47))

-- a text may be a name
abbrev pub may_be_name : List ℕ → Bool
may_be_name text = nat_le 1 (length text) && (nat_le (length text) 255 && list_all may_be_named text)

-- the text, if it may be a name
abbrev pub as_name : List ℕ → Option (List ℕ)
as_name text = if may_be_name text then Some text else None

-- the name in a parameter
abbrev pub name_in : List ℕ → Option (List ℕ)
name_in parameter = option_and_then as_name (unescaped parameter)

-- the identifier that a text is in any of the forms of UUIDs, as a number
abbrev pub as_id : List ℕ → Option ℕ
as_id text = option_map (λ bytes. from_be_bytes w128 bytes) (parsed text)

-- the identifier in a parameter
abbrev pub id_in : List ℕ → Option ℕ
id_in parameter = option_and_then as_id (unescaped parameter)

-- the same, of a metric
abbrev pub metric_in : List ℕ → Option MetricId
metric_in parameter = option_map (λ id. record { 0 = id }) (id_in parameter)
