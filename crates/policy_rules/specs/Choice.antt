-- Which rule a name is given.
use Rattle.std.specs.Prelude.{◌≡◌, ℕ, ◌<◌, ◌≤◌, ◌⊎◌, List, length, Some, slice_get}
use Rattle.std.specs.Cmp.Lexicographic.{slice_cmp}
use Rattle.std.specs.Ordering.{nat_cmp}
use Rattle.std.specs.declared.cmp.Ordering.TheVariants.{Less}
use Rattle.policy_rules.specs.declared.rule.Rule.{Rule}
use Rattle.policy_rules.specs.Matching.{Matches}

-- a name is before another one, by bytes
abbrev pub IsNameBefore : List ℕ → List ℕ → Type 0
IsNameBefore name other = slice_cmp nat_cmp name other ≡ Less

-- a rule has the longer pattern, or as long a one and the lesser name
abbrev pub IsBetter : Rule → Rule → Type 0
IsBetter rule other =
    (length other.pattern < length rule.pattern)
    ⊎ ((length other.pattern ≡ length rule.pattern) × IsNameBefore rule.name other.name)

-- rules with patterns of one length and with one name
abbrev pub IsTied : Rule → Rule → Type 0
IsTied rule other = (length other.pattern ≡ length rule.pattern) × (rule.name ≡ other.name)

-- The rule at this place matches the name, and it is better than each other one that does, or tied with
-- it and the earlier one.
pub record IsChosen (rules : List Rule) (name : List ℕ) (i : ℕ) : Type 0 where
  pub rule : Rule
  pub is_there : slice_get rules i ≡ Some rule
  pub matches : Matches rule.pattern name
  pub first : (k : ℕ) (other : Rule) → slice_get rules k ≡ Some other → Matches other.pattern name → IsBetter rule other ⊎ (IsTied rule other × (i ≤ k))
