-- The plain maps of an index, and what changes them.
use Rattle.std.specs.Prelude.{ℕ, ◌+◌, ◌*◌, ◌-◌, ◌^◌, ◌==◌, ◌&&◌, ◌||◌, nat_lt, nat_le, Bool, true, false, List, [], ◌∷◌, Option, Some, None, find}
use Rattle.std.specs.List.{list_any}
use Rattle.std.specs.Ordering.{nat_cmp}
use Rattle.std.specs.declared.cmp.Ordering.{Ordering}
use Rattle.archive_policy.specs.Policies.{ArchivePolicy}
use Rattle.policy_rules.specs.declared.rule.Rule.{Rule}
use Rattle.front_api.specs.declared.command.Command.{Command}
use Rattle.front_api.specs.declared.command.Command.TheVariants as commands
use Rattle.front_api.specs.declared.command.MetricDoc.{MetricDoc}
use Rattle.front_api.specs.declared.history.IndexCounted.{IndexCounted}
use Rattle.front_api.specs.declared.history.IndexCounted.TheVariants as counted
use Rattle.front_api.specs.Tables.{Rises, gone, name_cmp, put, same_name}

-- The plain state of an index: the store's number, the last counter drawn, the policies and rules by rising
-- name, and the metrics and resources by rising identifier.
pub record Maps : Type 0 where
  pub number : ℕ
  pub counter : ℕ
  pub policies : List ArchivePolicy
  pub rules : List Rule
  pub metrics : List MetricDoc
  pub resources : List ℕ

-- the maps of a new store of this number
abbrev pub new_maps : ℕ → Maps
new_maps number = record { number = number; counter = 0; policies = []; rules = []; metrics = []; resources = [] }

-- ---- how an item's key compares to one that is sought

abbrev pub policy_to : List ℕ → ArchivePolicy → Ordering
policy_to name p = name_cmp p.name name

abbrev pub rule_to : List ℕ → Rule → Ordering
rule_to name r = name_cmp r.name name

abbrev pub metric_to : ℕ → MetricDoc → Ordering
metric_to id d = nat_cmp d.id.0 id

abbrev pub resource_to : ℕ → ℕ → Ordering
resource_to id r = nat_cmp r id

-- ---- metrics of a resource

-- the metric is in this resource
abbrev pub is_number : ℕ → Option ℕ → Bool
is_number id None = false
is_number id (Some r) = r == id

abbrev pub is_in : ℕ → MetricDoc → Bool
is_in resource d = is_number resource d.resource

-- the metric has this name
abbrev pub is_text : List ℕ → Option (List ℕ) → Bool
is_text name None = false
is_text name (Some text) = same_name text name

abbrev pub is_named : List ℕ → MetricDoc → Bool
is_named name d = is_text name d.name

-- the metric of this name in a resource
abbrev pub metric_in : Maps → ℕ → List ℕ → Option MetricDoc
metric_in m resource name = find (λ d. is_in resource d && is_named name d) m.metrics

-- ---- use

-- a metric or a rule names the policy
abbrev pub is_policy_in_use : Maps → List ℕ → Bool
is_policy_in_use m name =
    list_any (λ d. same_name d.policy name) m.metrics || list_any (λ r. same_name r.policy name) m.rules

-- the resource has metrics
abbrev pub is_resource_in_use : Maps → ℕ → Bool
is_resource_in_use m resource = list_any (is_in resource) m.metrics

-- ---- identifiers

-- the last counter that can be drawn
abbrev pub last_counter : ℕ
last_counter = 2 ^ 56 - 1

-- what comes before the first identifier of a store: its number in the first four bytes, the version 8 in the
-- seventh and the variant in the ninth
abbrev pub id_base : ℕ → ℕ
id_base number = number * 2 ^ 96 + (2 ^ 79 + 2 ^ 63)

-- the identifier of a counter, which is its last seven bytes
abbrev pub id_of : ℕ → ℕ → ℕ
id_of number counter = id_base number + counter

-- the identifier was drawn
abbrev pub is_drawn : Maps → ℕ → Bool
is_drawn m id = nat_lt (id_base m.number) id && nat_le id (id_of m.number m.counter)

-- ---- what changes the maps

-- the command changes a key where it is accepted; a metric is added in another way
abbrev pub is_change : Command → Bool
is_change (commands.AddPolicy p) = true
is_change (commands.GetPolicy name) = false
is_change commands.ListPolicies = false
is_change (commands.DropPolicy name) = true
is_change (commands.AddRule r) = true
is_change (commands.GetRule name) = false
is_change commands.ListRules = false
is_change (commands.DropRule name) = true
is_change (commands.AddMetric policy name unit resource) = false
is_change (commands.GetMetric id) = false
is_change commands.ListMetrics = false
is_change (commands.DropMetric id) = true
is_change (commands.AddResource id) = true
is_change (commands.GetResource id) = false
is_change commands.ListResources = false
is_change (commands.DropResource id) = true
is_change (commands.FindMetric resource name) = false

-- the maps after an accepted command
abbrev pub after_command : Maps → Command → Maps
after_command m (commands.AddPolicy p) = record m { policies = put (policy_to p.name) p m.policies }
after_command m (commands.GetPolicy name) = m
after_command m commands.ListPolicies = m
after_command m (commands.DropPolicy name) = record m { policies = gone (policy_to name) m.policies }
after_command m (commands.AddRule r) = record m { rules = put (rule_to r.name) r m.rules }
after_command m (commands.GetRule name) = m
after_command m commands.ListRules = m
after_command m (commands.DropRule name) = record m { rules = gone (rule_to name) m.rules }
after_command m (commands.AddMetric policy name unit resource) = m
after_command m (commands.GetMetric id) = m
after_command m commands.ListMetrics = m
after_command m (commands.DropMetric id) = record m { metrics = gone (metric_to id.0) m.metrics }
after_command m (commands.AddResource id) = record m { resources = put (resource_to id) id m.resources }
after_command m (commands.GetResource id) = m
after_command m commands.ListResources = m
after_command m (commands.DropResource id) = record m { resources = gone (resource_to id) m.resources }
after_command m (commands.FindMetric resource name) = m

-- the maps after what counts
abbrev pub after_counted : Maps → IndexCounted → Maps
after_counted m (counted.Command command) = after_command m command
after_counted m (counted.Draw counter) = record m { counter = counter }
after_counted m (counted.Add doc) = record m { metrics = put (metric_to doc.id.0) doc m.metrics }

-- the maps after all of it, the first first
abbrev pub after_all : Maps → List IndexCounted → Maps
after_all m [] = m
after_all m (c ∷ cs) = after_all (after_counted m c) cs

-- in each map names or identifiers are distinct and rise
pub record AreSorted (m : Maps) : Type 0 where
  pub policies : Rises name_cmp (λ p. p.name) m.policies
  pub rules : Rises name_cmp (λ r. r.name) m.rules
  pub metrics : Rises nat_cmp (λ d. d.id.0) m.metrics
  pub resources : Rises nat_cmp (λ id. id) m.resources
