-- What the bodies of a resource and of its metrics ask for.
use Rattle.std.specs.Prelude.{ℕ, List, [], map, Option, option_and_then, Result, Ok, codes}
use Rattle.std.specs.Cmp.Lexicographic.{slice_cmp}
use Rattle.std.specs.List.Sorted.{IsStrictlySortedBy}
use Rattle.std.specs.Ordering.{nat_cmp}
use Rattle.serde_json.specs.Data.{Data, Members, no_members, member}
use Rattle.serde_json.specs.Find.{as_object, get}
use Rattle.control_docs.specs.declared.fault.ControlBodyFault.{ControlBodyFault}
use Rattle.control_docs.specs.declared.fault.ControlBodyFault.TheVariants.{BadBody}
use Rattle.control_docs.specs.declared.shape.Shape.TheVariants.{Resource, NamedMetrics}
use Rattle.control_docs.specs.Body.{read_by}
use Rattle.control_docs.specs.Fault.{◌>>=◌, found_or}
use Rattle.control_docs.specs.Member.{value_id, text_name, name_or_none, with_first}

-- the identifier of the resource that is asked for
abbrev pub resource_asked : Data → Result ℕ ControlBodyFault
resource_asked d = found_or BadBody (option_and_then value_id (get (codes "id") d))

-- what the body of a resource reads as
unfoldable pub resource_read : List ℕ → Result ℕ ControlBodyFault
resource_read body = read_by Resource resource_asked body

-- a metric's name, and that of its policy, which may be absent
abbrev pub NamedPolicy : Type 0
NamedPolicy = List ℕ × Option (List ℕ)

-- a member: a metric's name, and an object that may name a policy
abbrev pub named_policy : List ℕ → Data → Result NamedPolicy ControlBodyFault
named_policy key d = text_name key >>= λ name. name_or_none (get (codes "archive_policy_name") d) >>= λ policy. Ok (name, policy)

-- the metrics that are asked for, by rising name
abbrev pub named_policies : Members → Result (List NamedPolicy) ControlBodyFault
named_policies no_members = Ok []
named_policies (member key d ms) = named_policy key d >>= λ first. named_policies ms >>= with_first first

abbrev pub metrics_asked : Data → Result (List NamedPolicy) ControlBodyFault
metrics_asked d = found_or BadBody (as_object d) >>= named_policies

-- what the body of the metrics of a resource reads as
unfoldable pub metrics_read : List ℕ → Result (List NamedPolicy) ControlBodyFault
metrics_read body = read_by NamedMetrics metrics_asked body

-- the names of metrics rise, byte for byte
abbrev pub HaveRisingNames : List NamedPolicy → Type 0
HaveRisingNames metrics = IsStrictlySortedBy (slice_cmp nat_cmp) (map (λ (metric : NamedPolicy). metric.0) metrics)
