-- What counts of a history.
use Rattle.std.specs.Prelude.{Bool, false, if◌then◌else◌, List, [], ◌∷◌, ◌++◌, map, option_to_list}
use Rattle.sack_history.specs.declared.entry.Counted.{Counted}
use Rattle.sack_history.specs.declared.entry.Entry.{Entry}
use Rattle.sack_history.specs.declared.entry.Entry.TheVariants as entries

-- entries that all count, such as those that a book was opened with
abbrev pub all_counted : List Counted → List Entry
all_counted counts = map entries.Counted counts

-- what the next reopening found, from an entry on, where `later` is what it found behind that entry
abbrev pub found_from : Entry → Bool → Bool
found_from (entries.Reopened kept) later = kept
found_from entry later = later

-- Whether the next reopening found what was tried before it. It isn't found where the book wasn't opened
-- again.
abbrev pub is_found : List Entry → Bool
is_found [] = false
is_found (entry ∷ rest) = found_from entry (is_found rest)

-- What counts of an entry: what was tried counts where the next reopening found it.
abbrev pub what_counts : Bool → Entry → List Counted
what_counts found (entries.Counted c) = c ∷ []
what_counts found (entries.Fault tried before after) = if found then option_to_list tried else []
what_counts found entry = []

-- What counts of a history, in order. What a fault tried stands in its place where the next reopening
-- found it, and is left out where it didn't.
abbrev pub kept : List Entry → List Counted
kept [] = []
kept (entry ∷ rest) = what_counts (is_found rest) entry ++ kept rest
