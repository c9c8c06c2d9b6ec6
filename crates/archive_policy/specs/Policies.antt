-- What a policy is.
use Rattle.std.specs.Prelude.{◌≡◌, ℕ, ◌*◌, ◌%◌, ◌^◌, ◌≤◌, nat_lt, if◌then◌else◌, List, [], ◌∷◌, map, length, All}
use Rattle.std.specs.List.{fold}
use Rattle.std.specs.List.Sorted.{IsStrictlyIncreasing}
use Rattle.archive_policy.specs.declared.definition.Definition.{Definition}
use Rattle.archive_policy.specs.declared.kind.Kind.{Kind}
use Rattle.archive_policy.specs.declared.wanted.Wanted.{Wanted}
use Rattle.archive_policy.specs.Asked.{definition_of, largest}
use Rattle.archive_policy.specs.Kinds.{AreInTableOrder, kinds_of}
use Rattle.archive_policy.specs.Names.{IsName}

-- a policy: its name, how many of the largest granularity late measures may be, and what it keeps
pub record ArchivePolicy : Type 0 where
  pub name : List ℕ
  pub back_window : ℕ
  pub definitions : List Definition
  pub kinds : List Kind

-- the granularities of definitions, in order
abbrev pub granularities : List Definition → List ℕ
granularities ds = map (λ d. d.granularity) ds

-- the largest granularity of definitions
abbrev pub largest_of : List Definition → ℕ
largest_of ds = largest (granularities ds)

-- from a millisecond to 30 days
pub record IsGranularity (nanos : ℕ) : Type 0 where
  pub shortest : 10 ^ 6 ≤ nanos
  pub longest : nanos ≤ 2592000 * 10 ^ 9

-- 1 to 1,000,000 points of a granularity, which don't take longer than the time that there is
pub record IsDefinition (d : Definition) : Type 0 where
  pub granularity : IsGranularity d.granularity
  pub some : 1 ≤ d.points
  pub few : d.points ≤ 1000000
  pub fits : d.granularity * d.points ≤ 9 * 10 ^ 18

-- 1 to 8 definitions by strictly rising granularity, each of which divides the largest
pub record AreDefinitions (ds : List Definition) : Type 0 where
  pub some : 1 ≤ length ds
  pub few : length ds ≤ 8
  pub each : All IsDefinition ds
  pub rising : IsStrictlyIncreasing (granularities ds)
  pub dividing : All (λ d. largest_of ds % d.granularity ≡ 0) ds

-- at least one kind, in table order without repeats
pub record AreKinds (kinds : List Kind) : Type 0 where
  pub some : 1 ≤ length kinds
  pub in_table_order : AreInTableOrder kinds

-- what is true of each policy
pub record IsArchivePolicy (p : ArchivePolicy) : Type 0 where
  pub name : IsName p.name
  pub back_window : p.back_window ≤ 1000
  pub definitions : AreDefinitions p.definitions
  pub kinds : AreKinds p.kinds

-- a definition put in its place by granularity
abbrev pub put : List Definition → Definition → List Definition
put [] d = d ∷ []
put (x ∷ ds) d = if nat_lt d.granularity x.granularity then d ∷ x ∷ ds else x ∷ put ds d

-- the definitions that are asked for, by rising granularity
abbrev pub definitions_of : List Wanted → List Definition
definitions_of wanted = fold put [] (map definition_of wanted)

-- the policy that is asked for
abbrev pub policy_of : List ℕ → ℕ → List Wanted → List Kind → ArchivePolicy
policy_of name back_window wanted kinds =
    record { name = name; back_window = back_window; definitions = definitions_of wanted; kinds = kinds_of kinds }
