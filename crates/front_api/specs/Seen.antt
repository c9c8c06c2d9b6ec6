-- What a caller has seen of a store's books, and what entering one of them adds.
use Rattle.std.specs.Prelude.{◌≡◌, ℕ, ◌+◌, ◌-◌, ◌%◌, ◌^◌, ◌==◌, ◌&&◌, nat_lt, min, Bool, false, if◌then◌else◌, List, [], ◌∷◌, ◌++◌, length, map, Option, Some, Result, Err, IfErr, IfSome, MatchBool, slice_get, slice_set}
use Rattle.gno_num.specs.declared.faults.Counter.TheVariants as counter
use Rattle.gno_num.specs.declared.faults.Spent.{Spent}
use Rattle.gno_num.specs.Faults.{Rose}
use Rattle.series_model.specs.declared.metric.MetricId.{MetricId}
use Rattle.sack_history.specs.declared.entry.Counted.{Counted}
use Rattle.sack_history.specs.declared.entry.Entry.{Entry}
use Rattle.sack_history.specs.Entries.{all_counted, kept}
use Rattle.sack_history.specs.Legal.{IsLegal, IsLegalCount}
use Rattle.sack_history.specs.Lives.{pending_posts}
use Rattle.sack_history.specs.Scratch.{Durable, durable}
use Rattle.front_api.specs.declared.fault.ControlFault.{ControlFault}
use Rattle.front_api.specs.declared.history.IndexEntry.{IndexEntry}
use Rattle.front_api.specs.FaultWords.{FaultWords, control_words}
use Rattle.front_api.specs.IndexHistory.{IsLegalIndex}
use Rattle.front_api.specs.Maps.{Maps}

-- ---- what is seen

-- What a caller has seen of one book: the plain state at the book's opening, where it is told, how often its disks had
-- failed then, whether the book stands behind a lock, the caller's number, and the entries since the opening that the
-- caller has seen, each with the number of the caller that made it.
pub record SeenBook (O E : Type 0) : Type 0 where
  pub origin : Option O
  pub failed : ℕ
  pub is_shared : Bool
  pub caller : ℕ
  pub seen : List (ℕ × E)

-- of a sack: its origin is what its disks held
abbrev pub SackBook : Type 0
SackBook = SeenBook Durable Entry

-- of the index: its origin is the maps
abbrev pub IndexBook : Type 0
IndexBook = SeenBook Maps IndexEntry

-- what a caller has seen of the index and of each sack
pub record SeenBooks : Type 0 where
  pub index : IndexBook
  pub sacks : List SackBook

-- Whatever histories the value stands for before a call, after it there are some that it stands for, and that come of
-- those by the call.
abbrev pub LeadsTo : {X : Type 0} → (X → SeenBooks → Type 0) → X → X → (SeenBooks → SeenBooks → Type 0) → Type 0
LeadsTo stands before after Call = (old : SeenBooks) → stands before old → (new : SeenBooks) × stands after new × Call old new

-- one call, and then another one
abbrev pub Then : (SeenBooks → SeenBooks → Type 0) → (SeenBooks → SeenBooks → Type 0) → SeenBooks → SeenBooks → Type 0
Then Call Next old new = (mid : SeenBooks) × Call old mid × Next mid new

-- the sack in which a metric's entries stand, where there are so many
abbrev pub sack_of : MetricId → ℕ → ℕ
sack_of metric sacks = metric.0 % sacks

-- ---- entries and their callers

-- the entries alone, in order
abbrev pub entries_in : {E : Type 0} → List (ℕ × E) → List E
entries_in history = map (λ x. x.1) history

-- these entries, with their caller's number
abbrev pub marked : {E : Type 0} → ℕ → List E → List (ℕ × E)
marked caller entries = map (λ e. (caller, e)) entries

-- the entries that this caller made, in order
abbrev pub entries_by : {E : Type 0} → ℕ → List (ℕ × E) → List E
entries_by caller [] = []
entries_by caller (x ∷ xs) = if x.0 == caller then x.1 ∷ entries_by caller xs else entries_by caller xs

-- ---- entering a book once

-- A caller of a book sees the entries of others, none of them its own, and then adds these of its own, which are last.
-- Without a lock there are no others.
pub record SeesAndAdds {O E : Type 0} (others : List (ℕ × E)) (own : List E) (old new : SeenBook O E) : Type 0 where
  pub not_mine : entries_by old.caller others ≡ []
  pub alone : old.is_shared ≡ false → others ≡ []
  pub new_is : new ≡ record old { seen = (old.seen ++ others) ++ marked old.caller own }

-- a call enters a book once: `Says` is said of the entries since the opening, up to the call's own, and of these
pub record Enters {O E : Type 0} (Says : List E → List E → Type 0) (old new : SeenBook O E) : Type 0 where
  pub others : List (ℕ × E)
  pub own : List E
  pub adds : SeesAndAdds others own old new
  pub says : Says (entries_in (old.seen ++ others)) own

-- the answer where a lock's word has no room, which stands at the number of entries
abbrev pub no_room : ℕ → Spent
no_room entries = record { counter = counter.Word; at = entries }

-- whether a lock's word, at so many entries, has no room for so many more; a book without a lock has no word
abbrev pub lacks_room : Bool → ℕ → ℕ → Bool
lacks_room is_shared entries more = is_shared && nat_lt (2 ^ 63) (entries + more)

-- A turn at a book for which `room` is wanted behind so many entries. Where it lacks, the turn is refused and adds
-- nothing; else the call is made.
abbrev pub TakesTurn : {E T F : Type 0} → Bool → ℕ → ℕ → FaultWords F → Result T F → List E → Type 0 → Type 0
TakesTurn is_shared entries room words result own Call =
    MatchBool (lacks_room is_shared entries room) ((result ≡ Err (words.spent (no_room entries))) × (own ≡ [])) Call

-- the counts that a fault of a disk carries have risen
abbrev pub HasRisenIn : {T F : Type 0} → FaultWords F → Result T F → Type 0
HasRisenIn words result = IfErr result (λ fault. IfSome (words.disk_fault fault) (λ f. Rose f.before f.after))

-- it isn't answered that bytes were damaged
abbrev pub TellsNoDamage : {T F : Type 0} → FaultWords F → Result T F → Type 0
TellsNoDamage words result = IfErr result (λ fault. words.is_damage fault ≡ false)

-- ---- a sack

-- the entries that a sack can have been opened with: those of a legal history that amounts to its origin
pub record OpensWith (origin : Option Durable) (counts : List Counted) : Type 0 where
  pub legal : IsLegalCount counts
  pub amounts : origin ≡ Some (durable counts)

-- the room that a call on a sack wants: 4 entries, and one for each post that waits
abbrev pub sack_room : List Entry → ℕ
sack_room before = 4 + length (pending_posts (kept before))

-- What a call on the sack of this number says of the entries that it was opened with, of those since then, and of the
-- call's own: they are legal, one behind the other, `Call` is said of the last ones behind the others, unless the lock
-- refuses the turn, and no bytes were damaged.
pub record SaysOfSack {T F : Type 0} (sack : ℕ) (is_shared : Bool) (words : FaultWords F) (Call : Result T F → List Entry → List Entry → Type 0) (result : Result T F) (opening since own : List Entry) : Type 0 where
  pub legal : IsLegal sack ((opening ++ since) ++ own)
  pub turn : TakesTurn is_shared (length since) (sack_room (opening ++ since)) words result own (Call result (opening ++ since) own)
  pub sound : TellsNoDamage words result

-- a call enters the sack of this number, of which this was seen, whatever entries the sack was opened with
pub record EntersSackBook {T F : Type 0} (sack : ℕ) (words : FaultWords F) (Call : Result T F → List Entry → List Entry → Type 0) (result : Result T F) (old new : SackBook) : Type 0 where
  pub enters : Enters (λ since own. (counts : List Counted) → OpensWith old.origin counts → SaysOfSack sack old.is_shared words Call result (all_counted counts) since own) old new
  pub risen : HasRisenIn words result

-- a call enters the sack of this number, and no other book
pub record EntersSack {T F : Type 0} (sack : ℕ) (words : FaultWords F) (Call : Result T F → List Entry → List Entry → Type 0) (result : Result T F) (old new : SeenBooks) : Type 0 where
  pub before : SackBook
  pub after : SackBook
  pub found : slice_get old.sacks sack ≡ Some before
  pub book : EntersSackBook sack words Call result before after
  pub new_is : new ≡ record old { sacks = slice_set old.sacks sack after }

-- a call enters the sack of this metric, and no other book
abbrev pub EntersSackOf : {T F : Type 0} → MetricId → FaultWords F → (Result T F → List Entry → List Entry → Type 0) → Result T F → SeenBooks → SeenBooks → Type 0
EntersSackOf metric words Call result old new = EntersSack (sack_of metric (length old.sacks)) words Call result old new

-- ---- the index

-- the room that a call on the index wants
abbrev pub index_room : ℕ
index_room = 4

-- What a call on the index says of the maps at its opening, of the entries since then, and of the call's own.
pub record SaysOfIndex {T : Type 0} (is_shared : Bool) (Call : Maps → List IndexEntry → List IndexEntry → Result T ControlFault → Type 0) (result : Result T ControlFault) (first : Maps) (since own : List IndexEntry) : Type 0 where
  pub legal : IsLegalIndex first (since ++ own)
  pub turn : TakesTurn is_shared (length since) index_room control_words result own (Call first since own result)
  pub sound : TellsNoDamage control_words result

-- a call enters the index, and no other book
pub record EntersIndex {T : Type 0} (Call : Maps → List IndexEntry → List IndexEntry → Result T ControlFault → Type 0) (result : Result T ControlFault) (old new : SeenBooks) : Type 0 where
  pub after : IndexBook
  pub enters : Enters (λ since own. (first : Maps) → old.index.origin ≡ Some first → SaysOfIndex old.index.is_shared Call result first since own) old.index after
  pub risen : HasRisenIn control_words result
  pub new_is : new ≡ record old { index = after }

-- a count that ends at the last value of its type
abbrev pub capped : ℕ → ℕ
capped n = min n (2 ^ 64 - 1)
