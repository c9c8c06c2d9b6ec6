-- What the body of a metric asks for.
use Rattle.std.specs.Prelude.{ℕ, List, Result, Ok, option_and_then, codes}
use Rattle.serde_json.specs.Data.{Data}
use Rattle.serde_json.specs.Find.{get}
use Rattle.control_docs.specs.declared.fault.ControlBodyFault.{ControlBodyFault}
use Rattle.control_docs.specs.declared.metric.MetricBody.{MetricBody}
use Rattle.control_docs.specs.declared.shape.Shape.TheVariants.{Metric}
use Rattle.control_docs.specs.Body.{read_by}
use Rattle.control_docs.specs.Fault.{◌>>=◌}
use Rattle.control_docs.specs.Member.{value_id, name_or_none, unless_null}

-- the metric that is asked for; each member may be absent or null
abbrev pub metric_asked : Data → Result MetricBody ControlBodyFault
metric_asked d =
    name_or_none (unless_null (get (codes "archive_policy_name") d)) >>= λ policy. name_or_none (unless_null (get (codes "name") d)) >>= λ name. name_or_none (unless_null (get (codes "unit") d)) >>= λ unit. Ok (record { policy = policy; name = name; unit = unit; resource = option_and_then value_id (get (codes "resource_id") d) })

-- what the body of a metric reads as
unfoldable pub metric_read : List ℕ → Result MetricBody ControlBodyFault
metric_read body = read_by Metric metric_asked body
