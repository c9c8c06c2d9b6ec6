-- What the maps and the histories keep, in the words of the subject.
use Rattle.std.specs.Prelude.{◌≡◌, ℕ, if◌then◌else◌, List, Some, None}
use Rattle.std.specs.Ordering.{nat_cmp, is_eq}
use Rattle.archive_policy.specs.Policies.{ArchivePolicy}
use Rattle.policy_rules.specs.declared.rule.Rule.{Rule}
use Rattle.front_api.specs.declared.command.MetricDoc.{MetricDoc}
use Rattle.front_api.specs.Maps.{metric_to, policy_to, resource_to, rule_to}
use Rattle.front_api.specs.Tables.{found, gone, name_cmp, put}

-- what a table of policies has at a name, once this policy was put in, or this name was dropped
pub record ChangesPolicies (policies : List ArchivePolicy) : Type 0 where
  pub added : (p : ArchivePolicy) (name : List ℕ) → found (policy_to name) (put (policy_to p.name) p policies) ≡ (if is_eq (name_cmp name p.name) then Some p else found (policy_to name) policies)
  pub dropped : (key name : List ℕ) → found (policy_to name) (gone (policy_to key) policies) ≡ (if is_eq (name_cmp name key) then None else found (policy_to name) policies)

-- the same of rules
pub record ChangesRules (rules : List Rule) : Type 0 where
  pub added : (r : Rule) (name : List ℕ) → found (rule_to name) (put (rule_to r.name) r rules) ≡ (if is_eq (name_cmp name r.name) then Some r else found (rule_to name) rules)
  pub dropped : (key name : List ℕ) → found (rule_to name) (gone (rule_to key) rules) ≡ (if is_eq (name_cmp name key) then None else found (rule_to name) rules)

-- of metrics
pub record ChangesMetrics (metrics : List MetricDoc) : Type 0 where
  pub added : (d : MetricDoc) (id : ℕ) → found (metric_to id) (put (metric_to d.id.0) d metrics) ≡ (if is_eq (nat_cmp id d.id.0) then Some d else found (metric_to id) metrics)
  pub dropped : (key id : ℕ) → found (metric_to id) (gone (metric_to key) metrics) ≡ (if is_eq (nat_cmp id key) then None else found (metric_to id) metrics)

-- and of resources
pub record ChangesResources (resources : List ℕ) : Type 0 where
  pub added : (r id : ℕ) → found (resource_to id) (put (resource_to r) r resources) ≡ (if is_eq (nat_cmp id r) then Some r else found (resource_to id) resources)
  pub dropped : (key id : ℕ) → found (resource_to id) (gone (resource_to key) resources) ≡ (if is_eq (nat_cmp id key) then None else found (resource_to id) resources)
