-- The records of the index's log.
use Rattle.std.specs.Prelude.{ℕ, ◌-◌, ◌^◌, ◌<◌, ◌≤◌, List, ◌∷◌, ◌++◌, Option, IfSome, IsSome}
use Rattle.byteorder.specs.Endian.{big_bytes}
use Rattle.archive_policy.specs.Names.{IsName}
use Rattle.archive_policy.specs.Policies.{IsArchivePolicy}
use Rattle.policy_rules.specs.declared.rule.Rule.{Rule}
use Rattle.gno_codec.specs.declared.item.IndexItem.{IndexItem}
use Rattle.gno_codec.specs.declared.item.IndexItem.TheVariants as items
use Rattle.gno_codec.specs.Policy.{name_bytes, optional_name_bytes, policy_bytes}
use Rattle.gno_codec.specs.Shelf.{optional_bytes}

-- a rule: its name, its pattern, and the name of its policy
abbrev pub rule_bytes : Rule → List ℕ
rule_bytes rule = name_bytes rule.name ++ name_bytes rule.pattern ++ name_bytes rule.policy

-- a metric: its identifier, its policy's name, its own name, its unit, and its resource
abbrev pub metric_bytes : ℕ → List ℕ → Option (List ℕ) → Option (List ℕ) → Option ℕ → List ℕ
metric_bytes id policy name unit resource =
    big_bytes 16 id ++ name_bytes policy ++ optional_name_bytes name ++ optional_name_bytes unit
    ++ optional_bytes (big_bytes 16) resource

-- the one spelling of a record
abbrev pub index_bytes : IndexItem → List ℕ
index_bytes (items.Store number counter) = 1 ∷ big_bytes 4 number ++ big_bytes 8 counter
index_bytes (items.AddPolicy policy) = 2 ∷ policy_bytes policy
index_bytes (items.DropPolicy name) = 3 ∷ name_bytes name
index_bytes (items.AddRule rule) = 4 ∷ rule_bytes rule
index_bytes (items.DropRule name) = 5 ∷ name_bytes name
index_bytes (items.Draw counter) = 6 ∷ big_bytes 8 counter
index_bytes (items.AddMetric id policy name unit resource) = 7 ∷ metric_bytes id.0 policy name unit resource
index_bytes (items.DropMetric id) = 8 ∷ big_bytes 16 id.0
index_bytes (items.AddResource id) = 9 ∷ big_bytes 16 id
index_bytes (items.DropResource id) = 10 ∷ big_bytes 16 id

-- the names of a rule
pub record IsRule (rule : Rule) : Type 0 where
  pub name : IsName rule.name
  pub pattern : IsName rule.pattern
  pub policy : IsName rule.policy

-- a metric that has a record: where it has a resource, it has a name
pub record IsMetric (metric : ℕ) (kept_by : List ℕ) (called measured_in : Option (List ℕ)) (belongs_to : Option ℕ) : Type 0 where
  pub id : metric < 2 ^ 128
  pub policy : IsName kept_by
  pub name : IfSome called IsName
  pub unit : IfSome measured_in IsName
  pub resource : IfSome belongs_to (λ id. id < 2 ^ 128)
  pub named : IsSome belongs_to → IsSome called

-- the store's number, and the counter that was drawn last
pub record IsStore (store drawn : ℕ) : Type 0 where
  pub number : store < 2 ^ 32
  pub counter : drawn ≤ 2 ^ 56 - 1

-- a counter that is drawn
pub record IsDraw (counter : ℕ) : Type 0 where
  pub first : 1 ≤ counter
  pub last : counter ≤ 2 ^ 56 - 1

-- what has a record
abbrev pub IsIndex : IndexItem → Type 0
IsIndex (items.Store number counter) = IsStore number counter
IsIndex (items.AddPolicy policy) = IsArchivePolicy policy
IsIndex (items.DropPolicy name) = IsName name
IsIndex (items.AddRule rule) = IsRule rule
IsIndex (items.DropRule name) = IsName name
IsIndex (items.Draw counter) = IsDraw counter
IsIndex (items.AddMetric id policy name unit resource) = IsMetric id.0 policy name unit resource
IsIndex (items.DropMetric id) = id.0 < 2 ^ 128
IsIndex (items.AddResource id) = id < 2 ^ 128
IsIndex (items.DropResource id) = id < 2 ^ 128

-- What the types leave open of a record: a counter is one of seven bytes, one that is drawn isn't 0, and
-- a metric with a resource has a name.
abbrev pub IsUsable : IndexItem → Type 0
IsUsable (items.Store number counter) = counter ≤ 2 ^ 56 - 1
IsUsable (items.AddPolicy policy) = Unit {0}
IsUsable (items.DropPolicy name) = Unit {0}
IsUsable (items.AddRule rule) = Unit {0}
IsUsable (items.DropRule name) = Unit {0}
IsUsable (items.Draw counter) = IsDraw counter
IsUsable (items.AddMetric id policy name unit resource) = IsSome resource → IsSome name
IsUsable (items.DropMetric id) = Unit {0}
IsUsable (items.AddResource id) = Unit {0}
IsUsable (items.DropResource id) = Unit {0}
