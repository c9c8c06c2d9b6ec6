-- Reading names and policies.
use Rattle.std.specs.Prelude.{ℕ, ◌*◌, ◌/◌, ◌%◌, ◌^◌, ◌==◌, nat_le, not, ◌&&◌, if◌then◌else◌, Bool, List, length, map, Option, Some, None, is_none}
use Rattle.std.specs.List.{filter, list_all}
use Rattle.archive_policy.specs.declared.definition.Definition.{Definition}
use Rattle.archive_policy.specs.declared.kind.Kind.{Kind}
use Rattle.archive_policy.specs.Faults.{first_fault}
use Rattle.archive_policy.specs.Kinds.{all_kinds, kind_index}
use Rattle.archive_policy.specs.Policies.{ArchivePolicy}
use Rattle.archive_policy.specs.PolicyLaws.{as_kept}
use Rattle.gno_codec.specs.Reading.{Reading, ◌>>=◌, done, bytes_at, number_at, tested, is_above, items_at, then_at}

-- a printable byte of ASCII other than `/` (47)
abbrev pub is_name_byte : ℕ → Bool
is_name_byte byte = nat_le 32 byte && (nat_le byte 126 && not (byte == 47))

-- so many bytes of a name
unfoldable pub text_at : ℕ → Reading (List ℕ)
text_at n = tested (list_all is_name_byte) (bytes_at n)

-- a name
unfoldable pub name_at : Reading (List ℕ)
name_at = do
  length ← tested (λ n. nat_le 1 n) (number_at 1)
  text_at length

-- a name, or none
unfoldable pub optional_name_at : Reading (Option (List ℕ))
optional_name_at = do
  length ← number_at 1
  if length == 0 then done None else then_at (text_at length) (λ name. done (Some name))

-- a span greater than the granularity of the definition before, where there is one
unfoldable pub granularity_after : Option Definition → Reading ℕ
granularity_after before =
    tested (λ n. nat_le (10 ^ 6) n && (nat_le n (9 * 10 ^ 18) && is_above (λ d. d.granularity) before n)) (number_at 8)

-- a definition, with a greater granularity than the one before it
unfoldable pub definition_after : Option Definition → Reading Definition
definition_after before = do
  granularity ← granularity_after before
  points ← number_at 4
  done (record { granularity = granularity; points = points })

-- the bit k of a number, counted from the lowest, is set
abbrev pub has_bit : ℕ → ℕ → Bool
has_bit number k = number / 2 ^ k % 2 == 1

-- the kinds whose bits are set, by table order
abbrev pub kinds_with : ℕ → List Kind
kinds_with bits = filter (λ kind. has_bit bits (kind_index kind)) all_kinds

-- a policy can be made of this back window, these definitions and these kinds
abbrev pub can_be_made : ArchivePolicy → Bool
can_be_made p = is_none (first_fault p.back_window (map as_kept p.definitions) p.kinds)

-- the fields of a policy
unfoldable pub policy_fields_at : Reading ArchivePolicy
policy_fields_at = do
  name ← name_at
  back_window ← number_at 2
  count ← number_at 1
  definitions ← items_at definition_after None count
  bits ← number_at 2
  done (record { name = name; back_window = back_window; definitions = definitions; kinds = kinds_with bits })

-- a policy that can be made; the place of one that can't is that of its first byte
unfoldable pub policy_at : Reading ArchivePolicy
policy_at = tested can_be_made policy_fields_at
