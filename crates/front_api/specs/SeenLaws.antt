-- What the laws on seen histories speak of.
use Rattle.std.specs.Prelude.{◌≡◌, ℕ, ◌+◌, Bool, true, false, List, filter, [], ◌∷◌, ◌++◌, length, None, Some, Result, IfErr, slice_get, ⊤}
use Rattle.series_model.specs.declared.metric.MetricId.{MetricId}
use Rattle.sack_history.specs.declared.entry.Counted.{Counted}
use Rattle.sack_history.specs.declared.entry.Counted.TheVariants as counted
use Rattle.sack_history.specs.declared.entry.Entry.{Entry}
use Rattle.sack_history.specs.declared.entry.Entry.TheVariants as entries
use Rattle.sack_history.specs.Entries.{all_counted}
use Rattle.front_api.specs.declared.history.IndexEntry.{IndexEntry}
use Rattle.front_api.specs.declared.history.IndexEntry.TheVariants as index_entries
use Rattle.front_api.specs.FaultWords.{FaultWords}
use Rattle.front_api.specs.Maps.{Maps}
use Rattle.front_api.specs.Seen.{OpensWith, SackBook, SeenBook, SeenBooks, entries_by, entries_in, sack_of}

-- ---- what is seen later

-- the same caller has seen more of a book: what it had seen, and then other entries
pub record BookGoesOn {O E : Type 0} (old new : SeenBook O E) : Type 0 where
  pub origin : new.origin ≡ old.origin
  pub failed : new.failed ≡ old.failed
  pub is_shared : new.is_shared ≡ old.is_shared
  pub caller : new.caller ≡ old.caller
  pub more : List (ℕ × E)
  pub seen : new.seen ≡ old.seen ++ more

-- the same of each of these sacks
abbrev pub EachGoesOn : List SackBook → List SackBook → Type 0
EachGoesOn [] [] = ⊤
EachGoesOn [] (new ∷ news) = ⊥
EachGoesOn (old ∷ olds) [] = ⊥
EachGoesOn (old ∷ olds) (new ∷ news) = BookGoesOn old new × EachGoesOn olds news

-- the same of all books
pub record BooksGoOn (old new : SeenBooks) : Type 0 where
  pub index : BookGoesOn old.index new.index
  pub sacks : EachGoesOn old.sacks new.sacks

-- ---- what holds of a history

-- this holds of the history that is seen of a sack, whatever entries the sack was opened with
abbrev pub OfHistory : (List Entry → Type 0) → SackBook → Type 0
OfHistory P book = (counts : List Counted) → OpensWith book.origin counts → P (all_counted counts ++ entries_in book.seen)

-- it holds of that of the sack of this number, which is there
abbrev pub OfSackHistory : ℕ → (List Entry → Type 0) → SeenBooks → Type 0
OfSackHistory sack P books = (book : SackBook) × (slice_get books.sacks sack ≡ Some book) × OfHistory P book

-- of that of a metric's sack
abbrev pub OfMetricHistory : MetricId → (List Entry → Type 0) → SeenBooks → Type 0
OfMetricHistory metric P books = OfSackHistory (sack_of metric (length books.sacks)) P books

-- of each of these
abbrev pub OfEachHistory : (List Entry → Type 0) → List SackBook → Type 0
OfEachHistory P [] = ⊤
OfEachHistory P (book ∷ books) = OfHistory P book × OfEachHistory P books

-- a list ends with this
abbrev pub EndsWith : {X : Type 0} → List X → X → Type 0
EndsWith {X} xs x = (front : List X) × (xs ≡ front ++ x ∷ [])

-- ---- turns

-- what counts is a turn
abbrev pub counts_turn : Counted → Bool
counts_turn (counted.Create metric policy) = false
counts_turn (counted.Post number metric measures) = false
counts_turn (counted.Done metric upto) = true
counts_turn (counted.Drop metric) = false

-- an entry is a turn
abbrev pub is_turn : Entry → Bool
is_turn (entries.Counted c) = counts_turn c
is_turn (entries.Claim ticket metric upto) = false
is_turn (entries.Release ticket) = false
is_turn (entries.Look metric) = false
is_turn (entries.Fault tried before after) = false
is_turn (entries.Reopened kept) = false

-- how many turns there are among the caller's own entries in a sack
abbrev pub own_turns : SackBook → ℕ
own_turns book = length (filter is_turn (entries_by book.caller book.seen))

-- and in all of these
abbrev pub turns_in : List SackBook → ℕ
turns_in [] = 0
turns_in (book ∷ books) = own_turns book + turns_in books

-- each of these sacks was opened with the entries of a legal history
abbrev pub WereOpened : List SackBook → Type 0
WereOpened [] = ⊤
WereOpened (book ∷ books) = ((counts : List Counted) × OpensWith book.origin counts) × WereOpened books

-- ---- faults

-- an entry of a sack is a fault, and one of the index
abbrev pub is_fault : Entry → Bool
is_fault (entries.Counted c) = false
is_fault (entries.Claim ticket metric upto) = false
is_fault (entries.Release ticket) = false
is_fault (entries.Look metric) = false
is_fault (entries.Fault tried before after) = true
is_fault (entries.Reopened kept) = false

abbrev pub is_index_fault : IndexEntry → Bool
is_index_fault (index_entries.Counted c) = false
is_index_fault index_entries.Look = false
is_index_fault (index_entries.Fault tried before after) = true
is_index_fault (index_entries.Reopened kept) = false

-- no entry that was seen of a book is a fault
abbrev pub SeesNoFault : {O E : Type 0} → (E → Bool) → SeenBook O E → Type 0
SeesNoFault is_one book = filter is_one (entries_in book.seen) ≡ []

-- the same of each of these sacks
abbrev pub EachSeesNoFault : List SackBook → Type 0
EachSeesNoFault [] = ⊤
EachSeesNoFault (book ∷ books) = SeesNoFault is_fault book × EachSeesNoFault books

-- the same of all books
pub record SeeNoFault (books : SeenBooks) : Type 0 where
  pub index : SeesNoFault is_index_fault books.index
  pub sacks : EachSeesNoFault books.sacks

-- all books were opened with a state that is told: the index with maps, each sack with the entries of a legal history
pub record WereAllOpened (books : SeenBooks) : Type 0 where
  pub first : Maps
  pub index : books.index.origin ≡ Some first
  pub sacks : WereOpened books.sacks

-- it isn't answered that a disk failed, or that bytes were damaged
pub record IsNoFault {F : Type 0} (words : FaultWords F) (fault : F) : Type 0 where
  pub no_disk : words.disk_fault fault ≡ None
  pub no_damage : words.is_damage fault ≡ false

abbrev pub TellsNoFault : {T F : Type 0} → FaultWords F → Result T F → Type 0
TellsNoFault words result = IfErr result (IsNoFault words)
