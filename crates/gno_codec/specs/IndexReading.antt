-- Reading a record of the index's log.
use Rattle.std.specs.Prelude.{ℕ, ◌-◌, ◌^◌, ◌==◌, nat_le, ◌&&◌, ◌||◌, if◌then◌else◌, Bool, List, Option, Some, None, is_some, is_none, Result}
use Rattle.gno_codec.specs.declared.item.IndexItem.{IndexItem}
use Rattle.gno_codec.specs.declared.item.IndexItem.TheVariants as items
use Rattle.gno_codec.specs.Reading.{Reading, ◌>>=◌, done, number_at, tested, optional_at, by_kind, whole}
use Rattle.gno_codec.specs.PolicyReading.{name_at, optional_name_at, policy_at}

-- what follows the byte 1
unfoldable pub store_at : Reading IndexItem
store_at = do
  number ← number_at 4
  counter ← tested (λ n. nat_le n (2 ^ 56 - 1)) (number_at 8)
  done (items.Store number counter)

-- what follows the byte 2
unfoldable pub add_policy_at : Reading IndexItem
add_policy_at = do
  policy ← policy_at
  done (items.AddPolicy policy)

-- what follows the byte 3
unfoldable pub drop_policy_at : Reading IndexItem
drop_policy_at = do
  name ← name_at
  done (items.DropPolicy name)

-- what follows the byte 4
unfoldable pub add_rule_at : Reading IndexItem
add_rule_at = do
  name ← name_at
  pattern ← name_at
  policy ← name_at
  done (items.AddRule (record { name = name; pattern = pattern; policy = policy }))

-- what follows the byte 5
unfoldable pub drop_rule_at : Reading IndexItem
drop_rule_at = do
  name ← name_at
  done (items.DropRule name)

-- what follows the byte 6
unfoldable pub draw_at : Reading IndexItem
draw_at = do
  counter ← tested (λ n. nat_le 1 n && nat_le n (2 ^ 56 - 1)) (number_at 8)
  done (items.Draw counter)

-- a resource, or none; there is none where the metric has no name
unfoldable pub resource_where : Bool → Reading (Option ℕ)
resource_where has_name = tested (λ r. is_none r || has_name) (optional_at (number_at 16))

-- what follows the byte 7
unfoldable pub add_metric_at : Reading IndexItem
add_metric_at = do
  id ← number_at 16
  policy ← name_at
  name ← optional_name_at
  unit ← optional_name_at
  resource ← resource_where (is_some name)
  done (items.AddMetric (record { 0 = id }) policy name unit resource)

-- what follows the byte 8
unfoldable pub drop_metric_at : Reading IndexItem
drop_metric_at = do
  id ← number_at 16
  done (items.DropMetric (record { 0 = id }))

-- what follows the byte 9
unfoldable pub add_resource_at : Reading IndexItem
add_resource_at = do
  id ← number_at 16
  done (items.AddResource id)

-- what follows the byte 10
unfoldable pub drop_resource_at : Reading IndexItem
drop_resource_at = do
  id ← number_at 16
  done (items.DropResource id)

-- by the first byte
unfoldable pub index_kinds : ℕ → Option (Reading IndexItem)
index_kinds kind =
    if kind == 1 then Some store_at
    else (if kind == 2 then Some add_policy_at
    else (if kind == 3 then Some drop_policy_at
    else (if kind == 4 then Some add_rule_at
    else (if kind == 5 then Some drop_rule_at
    else (if kind == 6 then Some draw_at
    else (if kind == 7 then Some add_metric_at
    else (if kind == 8 then Some drop_metric_at
    else (if kind == 9 then Some add_resource_at
    else (if kind == 10 then Some drop_resource_at
    else None)))))))))

-- a record that is all of the bytes, or the place of its fault
unfoldable pub index_of : List ℕ → Result IndexItem ℕ
index_of bytes = whole (by_kind index_kinds) bytes
