-- Names and policies in records.
use Rattle.std.specs.Prelude.{ℕ, ◌^◌, List, [], ◌∷◌, ◌++◌, length, Option, Some, None}
use Rattle.std.specs.List.{flat_map, sum_by}
use Rattle.byteorder.specs.Endian.{big_bytes}
use Rattle.archive_policy.specs.declared.definition.Definition.{Definition}
use Rattle.archive_policy.specs.declared.kind.Kind.{Kind}
use Rattle.archive_policy.specs.Kinds.{kind_index}
use Rattle.archive_policy.specs.Policies.{ArchivePolicy}

-- a name: its length in a byte, and its bytes
abbrev pub name_bytes : List ℕ → List ℕ
name_bytes name = big_bytes 1 (length name) ++ name

-- a name, or the length 0
abbrev pub optional_name_bytes : Option (List ℕ) → List ℕ
optional_name_bytes None = 0 ∷ []
optional_name_bytes (Some name) = name_bytes name

-- a granularity in eight bytes, and its points in four
abbrev pub definition_bytes : Definition → List ℕ
definition_bytes d = big_bytes 8 d.granularity ++ big_bytes 4 d.points

-- kinds as a number: the bit k, counted from the lowest, is the kind at the place k of the table
abbrev pub kind_bits : List Kind → ℕ
kind_bits kinds = sum_by (λ kind. 2 ^ kind_index kind) kinds

-- a policy: its name, its back window, how many definitions, the definitions, and the kinds
abbrev pub policy_bytes : ArchivePolicy → List ℕ
policy_bytes p =
    name_bytes p.name ++ big_bytes 2 p.back_window ++ big_bytes 1 (length p.definitions)
    ++ flat_map definition_bytes p.definitions ++ big_bytes 2 (kind_bits p.kinds)
