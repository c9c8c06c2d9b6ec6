-- What contracts see of a front of one thread, and the histories that it stands for.
use Rattle.std.specs.Prelude.{◌≡◌, ℕ, ◌+◌, ◌≤◌, ◌&&◌, Bool, true, false, if◌then◌else◌, List, [], ◌∷◌, ◌++◌, length, replicate, Option, None, Some, IsSome, is_some, ⊤}
use Rattle.std.proofs.Common.{ap, refl, suc}
use Rattle.gno_disk.specs.declared.disk.Disk.{Ghosts}
use Rattle.log_pair.specs.declared.place.Place.{Place}
use Rattle.front_api.specs.Bench.{Duty}
use Rattle.front_api.specs.Maps.{Maps}
use Rattle.front_api.specs.Seen.{IndexBook, SackBook, SeenBooks, capped, entries_in, marked}
use Rattle.front_api.specs.declared.duty.LastClaim.TheVariants as last_claim
use Rattle.front_api.specs.declared.history.IndexEntry.{IndexEntry}
use Rattle.front_api.specs.declared.history.IndexEntry.TheVariants as entries
use Rattle.gno_num.specs.Faults.{Rose}
use Rattle.metric_index.specs.IndexView.{IndexView, StandsFor as IndexStandsFor, sum_of_faults}
use Rattle.sack_history.specs.Scratch.{Durable, durable}
use Rattle.sack_state.specs.declared.disks.Opening.{Opening}
use Rattle.sack_state.specs.Disks.{AreTold, TellAll, sack_faults}
use Rattle.sack_state.specs.SackHolding.{HoldsSack}
use Rattle.sack_state.specs.SackView.{SackView, StandsFor as SackStandsFor}
use Rattle.front.specs.declared.made.Made.{Made}
use Rattle.front.specs.Plan.{five}

-- its index, as it is and as it was when it was opened, its sacks, what it was made with, and what it has done as a bench
pub record SoloView (D : Type 0) : Type 0 where
  pub index : IndexView D
  pub opened : IndexView D
  pub sacks : List (SackView D)
  pub made : Made
  pub duty : Duty

-- the disks of a sack, in their order
abbrev pub disks_of_sack : {D : Type 0} → SackView D → List D
disks_of_sack {D} v = elim v.state as (λ s. List D) [ None ↦ [] | Some s ↦ five s.disks ]

-- and of all of these
abbrev pub disks_of_sacks : {D : Type 0} → List (SackView D) → List D
disks_of_sacks [] = []
disks_of_sacks (v ∷ sacks) = disks_of_sack v ++ disks_of_sacks sacks

-- its disks, in the order of the plan
abbrev pub disks_of_solo : {D : Type 0} → SoloView D → List D
disks_of_solo v = v.index.disks ++ disks_of_sacks v.sacks

-- no commit and no release was counted, and nothing was claimed on so many sacks
abbrev pub new_duty : ℕ → Duty
new_duty sacks = record { refusals = record { stale = 0; starved = 0; faults = 0 }; last_claims = replicate sacks last_claim.NoClaim }

-- ---- origins

-- whether each disk tells its bytes
abbrev pub do_tell : {D : Type 0} → Ghosts D → List D → Bool
do_tell g [] = true
do_tell g (d ∷ disks) = is_some (g.told d) && do_tell g disks

-- the origin of an index that was opened so: its maps, or none where a disk tells no bytes
abbrev pub index_origin : {D : Type 0} → Ghosts D → IndexView D → Option Maps
index_origin g opened = if do_tell g opened.disks then opened.maps else None

-- The origin of a sack that was opened so. A sack that was made has the state of no history; one that was found has the
-- state that its disks held, as they read when they were handed in. There is none where a disk tells no bytes, or where
-- they held no state.
pub data IsSackOrigin {D : Type 0} (g : Ghosts D) (place : Place) (opening : Opening D) (origin : Option Durable) : Type 0 where
  made : opening.is_new ≡ true → TellAll g opening.disks → origin ≡ Some (durable []) → IsSackOrigin g place opening origin
  found : (d : Durable) → opening.is_new ≡ false → AreTold g opening.disks (HoldsSack place d) → origin ≡ Some d → IsSackOrigin g place opening origin
  untold : (TellAll g opening.disks → ⊥) → origin ≡ None → IsSackOrigin g place opening origin
  none_held : opening.is_new ≡ false → ((d : Durable) → AreTold g opening.disks (HoldsSack place d) → ⊥) → origin ≡ None → IsSackOrigin g place opening origin

-- ---- histories

-- how often the disks of an index have failed, at most 2^64 - 1
abbrev pub index_faults : {D : Type 0} → Ghosts D → IndexView D → ℕ
index_faults g v = capped (sum_of_faults g v.disks)

-- The faults of an index's history are real: in each a disk failed, and the counts of faults rise from one to the next, and
-- are between these two.
abbrev pub AreRealFaults : ℕ → List IndexEntry → ℕ → Type 0
AreRealFaults low [] now = low ≤ now
AreRealFaults low (entries.Counted c ∷ h) now = AreRealFaults low h now
AreRealFaults low (entries.Look ∷ h) now = AreRealFaults low h now
AreRealFaults low (entries.Fault tried before after ∷ h) now = (low ≤ before) × Rose before after × AreRealFaults after h now
AreRealFaults low (entries.Reopened kept ∷ h) now = AreRealFaults low h now

-- The index stands for what is seen of it: it isn't shared, its entries are the caller's own, and its origin is that of
-- its opening, as is how often its disks had failed. Where the origin is told, the index stands for the entries behind
-- these maps, and their faults are real.
pub record IsIndexBook {D : Type 0} (g : Ghosts D) (opened now : IndexView D) (book : IndexBook) : Type 0 where
  pub alone : book.is_shared ≡ false
  pub own : book.seen ≡ marked book.caller (entries_in book.seen)
  pub origin : book.origin ≡ index_origin g opened
  pub failed : book.failed ≡ index_faults g opened
  pub stands : (first : Maps) → book.origin ≡ Some first → IndexStandsFor g first (entries_in book.seen) now
  pub real : (first : Maps) → book.origin ≡ Some first → AreRealFaults book.failed (entries_in book.seen) (index_faults g now)

-- The same of the sack of this number. Where its origin is told, it stands for the entries behind each list of what
-- counts that it may have been opened with.
pub record IsSackBook {D : Type 0} (g : Ghosts D) (sack : ℕ) (v : SackView D) (book : SackBook) : Type 0 where
  pub alone : book.is_shared ≡ false
  pub own : book.seen ≡ marked book.caller (entries_in book.seen)
  pub number : v.place.sack ≡ sack
  pub origin : IsSackOrigin g v.place v.opening book.origin
  pub failed : book.failed ≡ sack_faults g v.opening.disks
  pub stands : IsSome book.origin → SackStandsFor g (entries_in book.seen) v

-- the same of each of these sacks, the first having this number
abbrev pub AreSackBooks : {D : Type 0} → Ghosts D → ℕ → List (SackView D) → List SackBook → Type 0
AreSackBooks g sack [] [] = ⊤
AreSackBooks g sack [] (book ∷ books) = ⊥
AreSackBooks g sack (v ∷ sacks) [] = ⊥
AreSackBooks g sack (v ∷ sacks) (book ∷ books) = IsSackBook g sack v book × AreSackBooks g (sack + 1) sacks books

-- The front stands for what is seen of its books.
pub record StandsForBooks {D : Type 0} (g : Ghosts D) (v : SoloView D) (books : SeenBooks) : Type 0 where
  pub index : IsIndexBook g v.opened v.index books.index
  pub sacks : AreSackBooks g 0 v.sacks books.sacks

-- there is a book of each sack
pub as_many_books : {D : Type 0} (g : Ghosts D) (k : ℕ) (sacks : List (SackView D)) (books : List SackBook) → AreSackBooks g k sacks books → length books ≡ length sacks
as_many_books g k [] [] are = refl
as_many_books g k [] (b ∷ books) are = absurd are
as_many_books g k (v ∷ sacks) [] are = absurd are
as_many_books g k (v ∷ sacks) (b ∷ books) are = ap suc (as_many_books g (k + 1) sacks books are.1)
