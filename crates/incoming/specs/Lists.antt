-- The posts of each metric, by where their marks stand.
use Rattle.std.specs.Prelude.{◌≡◌, ℕ, ◌+◌, ◌<◌, ◌≤◌, List, [], ◌∷◌, length, Bool, true, false, if◌then◌else◌, nat_le, slice_index_or, Option, None, Some, MatchOption, Vec, vec_len, vec_capacity}
use Rattle.std.specs.Ordering.{nat_cmp}
use Rattle.std.specs.BTreeMap.{BTreeMap, get}
use Rattle.std.specs.declared.alloc.Global.{Global}
use Rattle.incoming.specs.declared.mark.Mark.{Mark}

-- the items that there are, none where there is no vector
abbrev pub items_or_none : Option (Vec ℕ Global) → List ℕ
items_or_none None = []
items_or_none (Some list) = list.items

-- the list of a metric, empty where it has none
abbrev pub list_of : BTreeMap ℕ (Vec ℕ Global) → ℕ → List ℕ
list_of lists metric = items_or_none (get nat_cmp lists metric)

-- the metric has a list, with room for one item more
abbrev pub HasRoomAt : BTreeMap ℕ (Vec ℕ Global) → ℕ → Type 0
HasRoomAt lists metric = MatchOption (get nat_cmp lists metric) ⊥ (λ list. vec_len list < vec_capacity list)

-- where the marks that pass a test stand, the first of them at this place
abbrev pub places_where : (Mark → Bool) → ℕ → List Mark → List ℕ
places_where test at [] = []
places_where test at (mark ∷ marks) = if test mark then at ∷ places_where test (at + 1) marks else places_where test (at + 1) marks

-- the number of the mark at a place, 0 where there is none
abbrev pub number_at : List Mark → ℕ → ℕ
number_at marks at = (slice_index_or marks at (record { number = 0; metric = record { 0 = 0 } })).number

-- the mark at a place has at most this number
abbrev pub is_upto : List Mark → ℕ → ℕ → Bool
is_upto marks above at = nat_le (number_at marks at) above

-- before the first place all marks have at most this number, and from the second on none has
pub record IsBetween (marks : List Mark) (above : ℕ) (list : List ℕ) (from upto : ℕ) : Type 0 where
  pub front : (k d : ℕ) → k < from → is_upto marks above (slice_index_or list k d) ≡ true
  pub back : (k d : ℕ) → upto ≤ k → k < length list → is_upto marks above (slice_index_or list k d) ≡ false
