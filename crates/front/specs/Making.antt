-- The sacks of a store, opened one after the other.
use Rattle.std.specs.Prelude.{◌≡◌, ℕ, ◌+◌, true, false, List, [], ◌∷◌, ◌++◌, length, reverse, Some, Result, Ok, Err, is_some, ⊤}
use Rattle.std.specs.List.{flat_map}
use Rattle.gno_disk.specs.declared.disk.Disk.{Ghosts}
use Rattle.gno_disk.specs.Phases.{AreUnwritten, phase}
use Rattle.gate_log.specs.LogView.{IsFault, MatchFault, MatchMountFault}
use Rattle.gate_log.specs.declared.fault.LogFault.{LogFault}
use Rattle.gate_log.specs.declared.fault.MountFault.{MountFault}
use Rattle.gno_codec.specs.Index.{index_bytes}
use Rattle.gno_codec.specs.declared.item.IndexItem.TheVariants as items
use Rattle.log_pair.specs.Choice.{TwoTold}
use Rattle.log_pair.specs.PairView.{IsMaking, both_faults}
use Rattle.front_api.specs.Maps.{Maps, new_maps}
use Rattle.metric_index.specs.IndexDamage.{HoldsNoIndex, IsDamagedIndex}
use Rattle.metric_index.specs.IndexLog.{HoldsIndex, index_place}
use Rattle.metric_index.specs.IndexView.{IndexView, StandsFor as IndexStandsFor}
use Rattle.sack_state.specs.declared.disks.SackDisks.{SackDisks}
use Rattle.sack_state.specs.Books.{IsUnmade, IsUnmounted}
use Rattle.sack_state.specs.Disks.{CameWithin, TellAll, sack_phases}
use Rattle.sack_state.specs.SackView.{Of, SackView, StandsFor}
use Rattle.front.specs.declared.fault.Unmade.{Unmade}
use Rattle.front.specs.declared.fault.Unmade.TheVariants as unmade
use Rattle.front.specs.Creating.{IsOnlyRead}
use Rattle.front.specs.Looking.{HaveStore, IsFree, LeavesOldOrNone}
use Rattle.front.specs.Plan.{StoreDisks, five, in_plan, sack_place}
use Rattle.front.specs.SoloView.{SoloView, disks_of_sacks}
use Rattle.front.specs.StoreFaults.{told_in_store}

-- the sack of this number of so many was made on these disks, and stands for no entries
pub record IsMadeSack {D : Type 0} (g : Ghosts D) (total sack : ℕ) (d : SackDisks D) (v : SackView D) : Type 0 where
  pub place : v.place ≡ sack_place total sack
  pub opening : v.opening ≡ record { disks = d; is_new = true }
  pub stands : TellAll g d → StandsFor g [] v
  pub came : Of v (λ s. CameWithin g 9 9 1 d s.disks)

-- it was mounted from them, and nothing was written
pub record IsMountedSack {D : Type 0} (g : Ghosts D) (total sack : ℕ) (d : SackDisks D) (v : SackView D) : Type 0 where
  pub place : v.place ≡ sack_place total sack
  pub opening : v.opening ≡ record { disks = d; is_new = false }
  pub stands : StandsFor g [] v
  pub unwritten : Of v (λ s. AreUnwritten g (sack_phases d s.disks))
  pub came : Of v (λ s. CameWithin g 2 2 1 d s.disks)

-- each sack was opened so, the first having this number
abbrev pub AreOpened : {D : Type 0} → (ℕ → SackDisks D → SackView D → Type 0) → ℕ → List (SackDisks D) → List (SackView D) → Type 0
AreOpened Opened sack [] [] = ⊤
AreOpened Opened sack [] (v ∷ sacks) = ⊥
AreOpened Opened sack (d ∷ disks) [] = ⊥
AreOpened Opened sack (d ∷ disks) (v ∷ sacks) = Opened sack d v × AreOpened Opened (sack + 1) disks sacks

-- The sacks from this number on were opened on these disks, which come in the opposite order of the plan: all of them, or
-- those before one whose opening failed; its disks were put back.
pub data OpensSacks {D F : Type 0} (Opened : ℕ → SackDisks D → SackView D → Type 0) (Unopened : ℕ → SackDisks D → SackDisks D → F → Type 0) (sack : ℕ) (disks : List (SackDisks D)) (left : List D) (old new : List (SackView D)) (result : Result (Unit {0}) F) : Type 0 where
  all : (sacks : List (SackView D)) → AreOpened Opened sack disks sacks → left ≡ [] → new ≡ old ++ sacks → result ≡ Ok tt → OpensSacks Opened Unopened sack disks left old new result
  some : (front rest : List (SackDisks D)) (one back : SackDisks D) (sacks : List (SackView D)) (fault : F)
      → disks ≡ front ++ one ∷ rest → AreOpened Opened sack front sacks → Unopened (sack + length front) one back fault
      → left ≡ reverse (flat_map five (back ∷ rest)) → new ≡ old ++ sacks → result ≡ Err fault
      → OpensSacks Opened Unopened sack disks left old new result

-- ---- the index

-- the records of a new index
abbrev pub new_records : ℕ → List (List ℕ)
new_records number = index_bytes (items.Store number 0) ∷ []

-- an index was made on these disks
pub record IsMadeIndex {D : Type 0} (g : Ghosts D) (total number : ℕ) (a b : D) (v : IndexView D) : Type 0 where
  pub first : D
  pub second : D
  pub disks : v.disks ≡ first ∷ second ∷ []
  pub sacks : v.sacks ≡ total
  pub maps : v.maps ≡ Some (new_maps number)
  pub stands : is_some (g.told a) ≡ true → is_some (g.told b) ≡ true → IndexStandsFor g (new_maps number) [] v
  pub making : IsMaking g (index_place total) (new_records number) a b first second
  pub came_a : g.came 9 a first
  pub came_b : g.came 5 b second

-- making it failed
pub record IsUnmadeIndex {D : Type 0} (g : Ghosts D) (total number : ℕ) (a b first second : D) (fault : LogFault) : Type 0 where
  pub making : IsMaking g (index_place total) (new_records number) a b first second
  pub came_a : g.came 9 a first
  pub came_b : g.came 5 b second
  pub cause : MatchFault fault (IsFault (both_faults g a b) (both_faults g first second)) ⊤

-- an index was mounted from these disks
pub record IsMountedIndex {D : Type 0} (g : Ghosts D) (total : ℕ) (a b : D) (v : IndexView D) : Type 0 where
  pub first : D
  pub second : D
  pub maps : Maps
  pub disks : v.disks ≡ first ∷ second ∷ []
  pub sacks : v.sacks ≡ total
  pub maps_are : v.maps ≡ Some maps
  pub held : TwoTold (g.told a) (g.told b) (HoldsIndex total maps)
  pub exact : TwoTold (g.told a) (g.told b) (λ x y. (m : Maps) → HoldsIndex total m x y → v.maps ≡ Some m)
  pub stands : is_some (g.told a) ≡ true → is_some (g.told b) ≡ true → IndexStandsFor g maps [] v
  pub unwritten : AreUnwritten g (phase a first ∷ phase b second ∷ [])
  pub came_a : g.came 2 a first
  pub came_b : g.came 2 b second

-- mounting it failed
pub record IsUnmountedIndex {D : Type 0} (g : Ghosts D) (total : ℕ) (a b first second : D) (fault : MountFault) : Type 0 where
  pub unwritten : AreUnwritten g (phase a first ∷ phase b second ∷ [])
  pub came_a : g.came 2 a first
  pub came_b : g.came 2 b second
  pub cause : MatchMountFault fault (IsFault (both_faults g a b) (both_faults g first second))
      (λ d. TwoTold (g.told a) (g.told b) (λ x y. IsDamagedIndex total x y d)) ⊤
  pub never : MatchMountFault fault (λ f. ⊤) (λ d. TwoTold (g.told a) (g.told b) (HoldsNoIndex total)) ⊤

-- ---- the store

-- The index's disks were looked at and have no log now.
pub record IsLooked {D : Type 0} (g : Ghosts D) (old new : D) : Type 0 where
  pub free : IsFree g old new
  pub leaves : LeavesOldOrNone g old new
  pub came : g.came 6 old new

-- The books of a store were made on these disks: the sacks, and then the index.
pub record AreMadeOn {D : Type 0} (g : Ghosts D) (total number : ℕ) (a b : D) (left : List (SackDisks D)) (v : SoloView D) : Type 0 where
  pub sacks : AreOpened (IsMadeSack g total) 0 left v.sacks
  pub index : IsMadeIndex g total number a b v.index
  pub opened : v.opened ≡ v.index

-- Why they weren't made, and which disks are given back.
pub data AreUnmadeOn {D : Type 0} (g : Ghosts D) (total number : ℕ) (a b : D) (left : List (SackDisks D)) (back : List D) (why : Unmade) : Type 0 where
  at_sack : (front rest : List (SackDisks D)) (one new : SackDisks D) (sacks : List (SackView D)) (fault : LogFault)
      → left ≡ front ++ one ∷ rest → AreOpened (IsMadeSack g total) 0 front sacks
      → IsUnmade g (sack_place total (length front)) one new fault → back ≡ a ∷ b ∷ (disks_of_sacks sacks ++ flat_map five (new ∷ rest))
      → why ≡ unmade.Failed fault → AreUnmadeOn g total number a b left back why
  at_index : (first second : D) (sacks : List (SackView D)) (fault : LogFault)
      → AreOpened (IsMadeSack g total) 0 left sacks
      → IsUnmadeIndex g total number a b first second fault → back ≡ first ∷ second ∷ disks_of_sacks sacks
      → why ≡ unmade.Failed fault → AreUnmadeOn g total number a b left back why

-- A store was made on these disks: those of the index were looked at, and then the books were made.
pub record IsCreatedOn {D : Type 0} (g : Ghosts D) (total number : ℕ) (old : StoreDisks D) (v : SoloView D) : Type 0 where
  pub index_a : D
  pub index_b : D
  pub looked_a : IsLooked g old.index_a index_a
  pub looked_b : IsLooked g old.index_b index_b
  pub books : AreMadeOn g total number index_a index_b old.sacks v

-- Why none was made, and which disks are given back: there was a store, or the look failed; or a book wasn't made.
pub data IsUncreatedOn {D : Type 0} (g : Ghosts D) (total number : ℕ) (old : StoreDisks D) (back : List D) (why : Unmade) : Type 0 where
  exists : (new : StoreDisks D) → back ≡ in_plan new → IsOnlyRead g old new → g.came 6 old.index_a new.index_a → g.came 6 old.index_b new.index_b
      → HaveStore g (in_plan old) → why ≡ unmade.Exists → IsUncreatedOn g total number old back why
  unlooked : (a b : D) (fault : LogFault) → back ≡ in_plan (record old { index_a = a; index_b = b })
      → LeavesOldOrNone g old.index_a a → LeavesOldOrNone g old.index_b b → g.came 6 old.index_a a → g.came 6 old.index_b b
      → MatchFault fault (IsFault (both_faults g old.index_a old.index_b) (both_faults g a b)) ⊤ → why ≡ unmade.Failed fault → IsUncreatedOn g total number old back why
  unmade_books : (a b : D) → IsLooked g old.index_a a → IsLooked g old.index_b b → AreUnmadeOn g total number a b old.sacks back why → IsUncreatedOn g total number old back why

-- A store was mounted from these disks: the index, and then the sacks.
pub record IsMountedOn {D : Type 0} (g : Ghosts D) (total : ℕ) (old : StoreDisks D) (v : SoloView D) : Type 0 where
  pub sacks : AreOpened (IsMountedSack g total) 0 old.sacks v.sacks
  pub index : IsMountedIndex g total old.index_a old.index_b v.index
  pub opened : v.opened ≡ v.index

-- Why none was mounted, and which disks are given back.
pub data IsUnmountedOn {D : Type 0} (g : Ghosts D) (total : ℕ) (old : StoreDisks D) (back : List D) (fault : MountFault) : Type 0 where
  at_index : (a b : D) → back ≡ in_plan (record old { index_a = a; index_b = b }) → IsUnmountedIndex g total old.index_a old.index_b a b fault → IsUnmountedOn g total old back fault
  at_sack : (index : IndexView D) (a b : D) (front rest : List (SackDisks D)) (one new : SackDisks D) (sacks : List (SackView D)) (on : MountFault)
      → IsMountedIndex g total old.index_a old.index_b index → index.disks ≡ a ∷ b ∷ []
      → old.sacks ≡ front ++ one ∷ rest → AreOpened (IsMountedSack g total) 0 front sacks
      → IsUnmounted g (sack_place total (length front)) one new on → back ≡ a ∷ b ∷ (disks_of_sacks sacks ++ flat_map five (new ∷ rest))
      → fault ≡ told_in_store (length front) on → IsUnmountedOn g total old back fault
