-- What a command is answered, by the maps: a reply, or a refusal by name.
use Rattle.std.specs.Prelude.{◌≡◌, ℕ, ◌||◌, not, Bool, if◌then◌else◌, List, [], ◌∷◌, map, filter, Option, Some, None, is_some, unwrap_or, All, ⊤}
use Rattle.std.specs.List.{fold}
use Rattle.std.specs.Option.{option_to_list}
use Rattle.archive_policy.specs.Policies.{ArchivePolicy}
use Rattle.policy_rules.specs.declared.rule.Rule.{Rule}
use Rattle.policy_rules.specs.Choice.{IsChosen}
use Rattle.policy_rules.specs.Matching.{Matches}
use Rattle.series_model.specs.declared.metric.MetricId.{MetricId}
use Rattle.front_api.specs.declared.command.Command.{Command}
use Rattle.front_api.specs.declared.command.Command.TheVariants as commands
use Rattle.front_api.specs.declared.command.MetricDoc.{MetricDoc}
use Rattle.front_api.specs.declared.command.ResourceDoc.{ResourceDoc}
use Rattle.front_api.specs.declared.command.Reply.{Reply}
use Rattle.front_api.specs.declared.command.Reply.TheVariants as replies
use Rattle.front_api.specs.declared.fault.ControlFault.{ControlFault}
use Rattle.front_api.specs.declared.fault.ControlFault.TheVariants as faults
use Rattle.front_api.specs.Tables.{found, has, name_cmp, put}
use Rattle.front_api.specs.Maps.{Maps, is_drawn, is_in, is_policy_in_use, is_resource_in_use, metric_in, metric_to, policy_to, resource_to, rule_to}

-- ---- documents

-- a metric of a resource as its document names it
abbrev pub member_of : MetricDoc → List ℕ × MetricId
member_of d = (unwrap_or d.name [], d.id)

-- members with one more, by rising name
abbrev pub with_member : List (List ℕ × MetricId) → MetricDoc → List (List ℕ × MetricId)
with_member members d = put (λ m. name_cmp m.0 (unwrap_or d.name [])) (member_of d) members

-- the metrics of a resource, by rising name
abbrev pub members : Maps → ℕ → List (List ℕ × MetricId)
members m resource = fold with_member [] (filter (is_in resource) m.metrics)

-- the document of a resource
abbrev pub resource_doc : Maps → ℕ → ResourceDoc
resource_doc m resource = record { id = resource; metrics = members m resource }

-- ---- the reply to an accepted command

abbrev pub reply_of : Maps → Command → Reply
reply_of m (commands.AddPolicy p) = replies.Policies (p ∷ [])
reply_of m (commands.GetPolicy name) = replies.Policies (option_to_list (found (policy_to name) m.policies))
reply_of m commands.ListPolicies = replies.Policies m.policies
reply_of m (commands.DropPolicy name) = replies.Done
reply_of m (commands.AddRule r) = replies.Rules (r ∷ [])
reply_of m (commands.GetRule name) = replies.Rules (option_to_list (found (rule_to name) m.rules))
reply_of m commands.ListRules = replies.Rules m.rules
reply_of m (commands.DropRule name) = replies.Done
reply_of m (commands.AddMetric policy name unit resource) = replies.Done
reply_of m (commands.GetMetric id) = replies.Metrics (option_to_list (found (metric_to id.0) m.metrics))
reply_of m commands.ListMetrics = replies.Metrics m.metrics
reply_of m (commands.DropMetric id) = replies.Done
reply_of m (commands.AddResource id) = replies.Resources (record { id = id; metrics = [] } ∷ [])
reply_of m (commands.GetResource id) = replies.Resources (resource_doc m id ∷ [])
reply_of m commands.ListResources = replies.Resources (map (resource_doc m) m.resources)
reply_of m (commands.DropResource id) = replies.Done
reply_of m (commands.FindMetric resource name) = replies.Metrics (option_to_list (metric_in m resource name))

-- ---- the refusal of a command by name

-- the first of two refusals
abbrev pub or_else : Option ControlFault → Option ControlFault → Option ControlFault
or_else (Some fault) other = Some fault
or_else None other = other

-- a refusal where a test holds
abbrev pub where_true : Bool → ControlFault → Option ControlFault
where_true b fault = if b then Some fault else None

-- there is no such key
abbrev pub unless : Bool → ControlFault → Option ControlFault
unless b fault = if b then None else Some fault

abbrev pub refusal_of : Maps → Command → Option ControlFault
refusal_of m (commands.AddPolicy p) = where_true (has (policy_to p.name) m.policies) faults.PolicyExists
refusal_of m (commands.GetPolicy name) = unless (has (policy_to name) m.policies) faults.PolicyUnknown
refusal_of m commands.ListPolicies = None
refusal_of m (commands.DropPolicy name) =
    or_else (unless (has (policy_to name) m.policies) faults.PolicyUnknown) (where_true (is_policy_in_use m name) faults.PolicyInUse)
refusal_of m (commands.AddRule r) =
    or_else (unless (has (policy_to r.policy) m.policies) faults.PolicyUnknown) (where_true (has (rule_to r.name) m.rules) faults.RuleExists)
refusal_of m (commands.GetRule name) = unless (has (rule_to name) m.rules) faults.RuleUnknown
refusal_of m commands.ListRules = None
refusal_of m (commands.DropRule name) = unless (has (rule_to name) m.rules) faults.RuleUnknown
refusal_of m (commands.AddMetric policy name unit resource) = None
refusal_of m (commands.GetMetric id) = unless (has (metric_to id.0) m.metrics) faults.MetricUnknown
refusal_of m commands.ListMetrics = None
refusal_of m (commands.DropMetric id) = unless (has (metric_to id.0) m.metrics) faults.MetricUnknown
refusal_of m (commands.AddResource id) = where_true (has (resource_to id) m.resources) faults.ResourceExists
refusal_of m (commands.GetResource id) = unless (has (resource_to id) m.resources) faults.ResourceUnknown
refusal_of m commands.ListResources = None
refusal_of m (commands.DropResource id) =
    or_else (unless (has (resource_to id) m.resources) faults.ResourceUnknown) (where_true (is_resource_in_use m id) faults.ResourceInUse)
refusal_of m (commands.FindMetric resource name) =
    or_else (unless (has (resource_to resource) m.resources) faults.ResourceUnknown) (unless (is_some (metric_in m resource name)) faults.MetricUnknown)

-- ---- a metric that is to be added

-- what is wrong with its resource, and with its name there
abbrev pub place_refusal : Maps → Option ℕ → Option (List ℕ) → Option ControlFault
place_refusal m None name = None
place_refusal m (Some resource) name =
    or_else (unless (has (resource_to resource) m.resources) faults.ResourceUnknown)
    (where_true (is_some (metric_in m resource (unwrap_or name []))) faults.NameTaken)

-- what is wrong with a metric of this policy, in this resource and under this name
abbrev pub metric_refusal : Maps → List ℕ → Option ℕ → Option (List ℕ) → Option ControlFault
metric_refusal m policy resource name =
    or_else (unless (has (policy_to policy) m.policies) faults.PolicyUnknown) (place_refusal m resource name)

-- what is wrong with a metric's document; its identifier must be one that was drawn and that no metric has
abbrev pub doc_refusal : Maps → MetricDoc → Option ControlFault
doc_refusal m doc =
    or_else (metric_refusal m doc.policy doc.resource doc.name)
    (where_true (has (metric_to doc.id.0) m.metrics || not (is_drawn m doc.id.0)) (faults.IdTaken doc.id))

-- the name of the policy of a new metric: the one given, or that of the rule chosen for the metric's name
abbrev pub GetsPolicy : List Rule → Option (List ℕ) → Option (List ℕ) → List ℕ → Type 0
GetsPolicy rules (Some given) name policy = policy ≡ given
GetsPolicy rules None None policy = ⊥
GetsPolicy rules None (Some name) policy = (i : ℕ) × (chosen : IsChosen rules name i) × (policy ≡ chosen.rule.policy)

-- it gets none: none is given, and it has no name, or no rule matches it
abbrev pub GetsNone : List Rule → Option (List ℕ) → Option (List ℕ) → Type 0
GetsNone rules (Some given) name = ⊥
GetsNone rules None None = ⊤
GetsNone rules None (Some name) = All (λ rule. ¬ Matches rule.pattern name) rules

-- a new metric of these words is refused by name, for this cause
pub data IsRefusedMetric (m : Maps) (policy : Option (List ℕ)) (name : Option (List ℕ)) (resource : Option ℕ) (fault : ControlFault) : Type 0 where
  no_rule : GetsNone m.rules policy name → fault ≡ faults.NoRule → IsRefusedMetric m policy name resource fault
  of_policy : (got : List ℕ) → GetsPolicy m.rules policy name got → metric_refusal m got resource name ≡ Some fault → IsRefusedMetric m policy name resource fault

-- a new metric of these words is accepted, and gets this policy
pub record IsAcceptedMetric (m : Maps) (policy : Option (List ℕ)) (name : Option (List ℕ)) (resource : Option ℕ) (got : ArchivePolicy) : Type 0 where
  pub named : GetsPolicy m.rules policy name got.name
  pub is : found (policy_to got.name) m.policies ≡ Some got
  pub place : place_refusal m resource name ≡ None
