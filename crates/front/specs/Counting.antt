-- What the sacks of a store have together.
use Rattle.std.specs.Prelude.{ℕ, List, [], ◌∷◌, ◌++◌, length}
use Rattle.std.specs.List.{sum_by}
use Rattle.sack_history.specs.declared.entry.Counted.{Counted}
use Rattle.sack_history.specs.Entries.{all_counted, kept}
use Rattle.sack_history.specs.Lives.{live_ids, pending_posts}
use Rattle.front_api.specs.Seen.{OpensWith, SackBook, capped, entries_in}
use Rattle.front.specs.declared.counts.Counts.{Counts}

-- The lists of what counts in each sack, from before its opening until now: what each was opened with, and then what
-- counts of the entries that were seen of it.
pub data AreCountedIn : List SackBook → List (List Counted) → Type 0 where
  no_sack : AreCountedIn [] []
  one_more : (book : SackBook) (books : List SackBook) (opened : List Counted) (rest : List (List Counted))
      → OpensWith book.origin opened → AreCountedIn books rest
      → AreCountedIn (book ∷ books) (kept (all_counted opened ++ entries_in book.seen) ∷ rest)

-- how many metrics are live by these lists, one of each sack
abbrev pub live_metrics : List (List Counted) → ℕ
live_metrics lists = sum_by (λ counts. length (live_ids counts)) lists

-- and how many posts wait
abbrev pub waiting_posts : List (List Counted) → ℕ
waiting_posts lists = sum_by (λ counts. length (pending_posts counts)) lists

-- what is counted of them
abbrev pub counts_of : List (List Counted) → Counts
counts_of lists = record { metrics = capped (live_metrics lists); pending = capped (waiting_posts lists) }
