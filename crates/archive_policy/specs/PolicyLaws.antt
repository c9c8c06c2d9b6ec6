-- What a policy has to do with what was asked for.
use Rattle.std.specs.Prelude.{◌≡◌, ◌↔◌, ℕ, List, map, Some, None}
use Rattle.std.specs.List.{Contains}
use Rattle.std.specs.List.Sorted.{IsPermutation}
use Rattle.archive_policy.specs.declared.definition.Definition.{Definition}
use Rattle.archive_policy.specs.declared.kind.Kind.{Kind}
use Rattle.archive_policy.specs.declared.wanted.Wanted.{Wanted}
use Rattle.archive_policy.specs.Asked.{definition_of}
use Rattle.archive_policy.specs.Policies.{ArchivePolicy, IsArchivePolicy}

-- A valid policy of this name and back window with the definitions that were asked for, each once,
-- and the kinds that were asked for and no others.
pub record IsAsked (text : List ℕ) (window : ℕ) (wanted : List Wanted) (given : List Kind) (p : ArchivePolicy) : Type 0 where
  pub valid : IsArchivePolicy p
  pub name : p.name ≡ text
  pub back_window : p.back_window ≡ window
  pub definitions : IsPermutation (map definition_of wanted) p.definitions
  pub kinds : (kind : Kind) → Contains p.kinds kind ↔ Contains given kind

-- a definition, asked for as it is kept
abbrev pub as_kept : Definition → Wanted
as_kept d = record { granularity = Some d.granularity; points = Some d.points; timespan = None }
