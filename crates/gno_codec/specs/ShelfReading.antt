-- Reading a record of the shelf's log.
use Rattle.std.specs.Prelude.{ℕ, ◌-◌, ◌*◌, ◌^◌, ◌==◌, nat_lt, nat_le, ◌&&◌, ◌||◌, if◌then◌else◌, Bool, true, List, Option, Some, None, Result, slice_get}
use Rattle.archive_policy.specs.declared.kind.Kind.{Kind}
use Rattle.archive_policy.specs.Kinds.{all_kinds, kind_index}
use Rattle.gno_codec.specs.declared.item.Block.{Block}
use Rattle.gno_codec.specs.declared.item.Change.{Change}
use Rattle.gno_codec.specs.declared.item.ShelfItem.{ShelfItem}
use Rattle.gno_codec.specs.declared.item.ShelfItem.TheVariants as items
use Rattle.gno_codec.specs.Reading.{Reading, ◌>>=◌, done, number_at, standing_for, tested, optional_at, items_at, by_kind, whole}
use Rattle.gno_codec.specs.IncomingReading.{stamp_at, measure_at}
use Rattle.gno_codec.specs.PolicyReading.{policy_at}

-- a last timestamp, or none for the greatest number of eight bytes
abbrev pub last_for : ℕ → Option (Option ℕ)
last_for n =
    if nat_lt n (9 * 10 ^ 18) then Some (Some n)
    else (if n == 2 ^ 64 - 1 then Some None
    else None)

unfoldable pub last_at : Reading (Option ℕ)
last_at = standing_for last_for (number_at 8)

-- a block of at least one byte
unfoldable pub block_at : Reading Block
block_at = do
  at ← number_at 8
  len ← tested (λ n. nat_le 1 n) (number_at 4)
  done (record { at = at; len = len })

-- where a split is stored; a place other than 0 has a length of at least 1
unfoldable pub stored_at : Reading (Option Block)
stored_at = do
  at ← number_at 8
  len ← tested (λ n. nat_le (if at == 0 then 0 else 1) n) (number_at 4)
  done (if len == 0 then None else Some (record { at = at; len = len }))

-- a kind, by its place in the table
unfoldable pub kind_at : Reading Kind
kind_at = standing_for (λ n. slice_get all_kinds n) (number_at 1)

-- the fields of a change
unfoldable pub change_at : Reading Change
change_at = do
  definition ← number_at 1
  kind ← kind_at
  key ← stamp_at
  block ← stored_at
  done (record { definition = definition; kind = kind; key = key; block = block })

-- a change comes behind another: by kind, then key
abbrev pub comes_behind_by_kind : Change → Change → Bool
comes_behind_by_kind c d =
    nat_lt (kind_index c.kind) (kind_index d.kind) || (kind_index c.kind == kind_index d.kind && nat_lt c.key d.key)

-- a change comes behind another: by definition, then kind, then key
abbrev pub comes_behind : Change → Change → Bool
comes_behind c d =
    nat_lt c.definition d.definition || (c.definition == d.definition && comes_behind_by_kind c d)

-- a change comes behind the one before it, where there is one
abbrev pub is_behind : Option Change → Change → Bool
is_behind None d = true
is_behind (Some c) d = comes_behind c d

-- a change behind the one before it; the place of one that isn't is that of its first byte
unfoldable pub change_after : Option Change → Reading Change
change_after before = tested (is_behind before) change_at

-- how many blocks, and the blocks
unfoldable pub blocks_at : Reading (List Block)
blocks_at = do
  count ← number_at 8
  items_at (λ _. block_at) None count

-- how many changes, and the changes
unfoldable pub changes_at : Reading (List Change)
changes_at = do
  count ← number_at 8
  items_at change_after None count

-- what follows the byte 1
unfoldable pub register_at : Reading ShelfItem
register_at = do
  metric ← number_at 16
  number ← number_at 8
  policy ← policy_at
  done (items.Register (record { 0 = metric }) number policy)

-- what follows the byte 2
unfoldable pub commit_at : Reading ShelfItem
commit_at = do
  metric ← number_at 16
  number ← number_at 8
  last ← last_at
  anchor ← optional_at measure_at
  chunks ← blocks_at
  changes ← changes_at
  done (items.Commit (record { metric = record { 0 = metric }; done = number; last = last; anchor = anchor; chunks = chunks; changes = changes }))

-- what follows the byte 3
unfoldable pub drop_at : Reading ShelfItem
drop_at = do
  metric ← number_at 16
  done (items.Drop (record { 0 = metric }))

-- by the first byte
unfoldable pub shelf_kinds : ℕ → Option (Reading ShelfItem)
shelf_kinds kind =
    if kind == 1 then Some register_at
    else (if kind == 2 then Some commit_at
    else (if kind == 3 then Some drop_at
    else None))

-- a record that is all of the bytes, or the place of its fault
unfoldable pub shelf_of : List ℕ → Result ShelfItem ℕ
shelf_of bytes = whole (by_kind shelf_kinds) bytes
