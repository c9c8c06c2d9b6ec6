-- The history of an index: what its calls have added, in order, and what it amounts to.
use Rattle.std.specs.Prelude.{◌≡◌, ◌+◌, ◌≤◌, Bool, true, false, if◌then◌else◌, List, [], ◌∷◌, ◌++◌, Some, None, ⊤}
use Rattle.std.specs.Option.{option_to_list}
use Rattle.front_api.specs.declared.history.IndexCounted.{IndexCounted}
use Rattle.front_api.specs.declared.history.IndexCounted.TheVariants as counted
use Rattle.front_api.specs.declared.history.IndexEntry.{IndexEntry}
use Rattle.front_api.specs.declared.history.IndexEntry.TheVariants as entries
use Rattle.front_api.specs.Maps.{Maps, after_all, after_counted, is_change, last_counter}
use Rattle.front_api.specs.Replies.{doc_refusal, refusal_of}

-- whether the next reopening found what was tried; where none follows, it isn't known to be there
abbrev pub is_found_next : List IndexEntry → Bool
is_found_next [] = false
is_found_next (entries.Counted c ∷ h) = is_found_next h
is_found_next (entries.Look ∷ h) = is_found_next h
is_found_next (entries.Fault tried before after ∷ h) = is_found_next h
is_found_next (entries.Reopened kept ∷ h) = kept

-- What counts of a history. What a fault tried stands at the fault's place, where the next reopening found it.
abbrev pub index_kept : List IndexEntry → List IndexCounted
index_kept [] = []
index_kept (entries.Counted c ∷ h) = c ∷ index_kept h
index_kept (entries.Look ∷ h) = index_kept h
index_kept (entries.Fault tried before after ∷ h) = (if is_found_next h then option_to_list tried else []) ++ index_kept h
index_kept (entries.Reopened kept ∷ h) = index_kept h

-- the maps that a history amounts to, where these were there before it
abbrev pub maps_of : Maps → List IndexEntry → Maps
maps_of first h = after_all first (index_kept h)

-- ---- what an index is after a history

-- its maps, what open faults tried, and whether a fault is open: no reopening stands behind it
pub record IndexState : Type 0 where
  pub maps : Maps
  pub tried : List IndexCounted
  pub is_open : Bool

-- with these maps and without a fault
abbrev pub at_rest : Maps → IndexState
at_rest m = record { maps = m; tried = []; is_open = false }

-- after one entry more
abbrev pub after_entry : IndexState → IndexEntry → IndexState
after_entry s (entries.Counted c) = record s { maps = after_counted s.maps c }
after_entry s entries.Look = s
after_entry s (entries.Fault attempt before after) = record { maps = s.maps; tried = s.tried ++ option_to_list attempt; is_open = true }
after_entry s (entries.Reopened true) = at_rest (after_all s.maps s.tried)
after_entry s (entries.Reopened false) = at_rest s.maps

-- after all of these
abbrev pub after_entries : IndexState → List IndexEntry → IndexState
after_entries s [] = s
after_entries s (e ∷ h) = after_entries (after_entry s e) h

-- after a history, where the index had these maps before it
abbrev pub state_of : Maps → List IndexEntry → IndexState
state_of first h = after_entries (at_rest first) h

-- ---- legal histories

-- what may count next
abbrev pub MayCount : Maps → IndexCounted → Type 0
MayCount m (counted.Command command) = (is_change command ≡ true) × (refusal_of m command ≡ None)
MayCount m (counted.Draw counter) = (counter ≡ m.counter + 1) × (counter ≤ last_counter)
MayCount m (counted.Add doc) = doc_refusal m doc ≡ None

-- one after another
abbrev pub MayAllCount : Maps → List IndexCounted → Type 0
MayAllCount m [] = ⊤
MayAllCount m (c ∷ cs) = MayCount m c × MayAllCount (after_counted m c) cs

-- Which entry may follow. While a fault is open only looks, faults and reopenings do, and a reopening does only
-- then. A fault tries what may count; where one is open it tries nothing. A reopening finds what was tried.
abbrev pub MayFollow : IndexState → IndexEntry → Type 0
MayFollow s (entries.Counted c) = (s.is_open ≡ false) × MayCount s.maps c
MayFollow s entries.Look = ⊤
MayFollow s (entries.Fault None before after) = ⊤
MayFollow s (entries.Fault (Some c) before after) = (s.is_open ≡ false) × MayCount s.maps c
MayFollow s (entries.Reopened true) = (s.is_open ≡ true) × ((c : IndexCounted) × (s.tried ≡ c ∷ []))
MayFollow s (entries.Reopened false) = s.is_open ≡ true

-- one after another
abbrev pub MayAllFollow : IndexState → List IndexEntry → Type 0
MayAllFollow s [] = ⊤
MayAllFollow s (e ∷ h) = MayFollow s e × MayAllFollow (after_entry s e) h

-- a history that an index can have had since these maps
abbrev pub IsLegalIndex : Maps → List IndexEntry → Type 0
IsLegalIndex first h = MayAllFollow (at_rest first) h
