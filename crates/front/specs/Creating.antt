-- What a stop leaves while a store is made.
use Rattle.std.specs.Prelude.{◌≡◌, ◌⊎◌, ℕ, ◌+◌, List, [], ◌∷◌, ◌++◌, IsSome, ⊤}
use Rattle.gno_disk.specs.declared.disk.Disk.{Ghosts}
use Rattle.gno_disk.specs.Phases.{EachMoment, Phase, phase}
use Rattle.gate_log.specs.Steps.{IsUntouched}
use Rattle.sack_history.specs.Scratch.{durable}
use Rattle.sack_state.specs.declared.disks.SackDisks.{SackDisks}
use Rattle.sack_state.specs.Disks.{CameWithin, TellAll}
use Rattle.sack_state.specs.SackHolding.{HoldsSack}
use Rattle.front_api.specs.Maps.{new_maps}
use Rattle.metric_index.specs.IndexLog.{HoldsIndex}
use Rattle.front.specs.Looking.{HasNoStore, LeavesOldOrNone}
use Rattle.front.specs.Plan.{StoreDisks, sack_place}

-- ---- the order of the writes

-- A sack is made on its incoming disks, on its blocks, and on the disks of its shelf's log; of two disks the second is
-- worked on first.
abbrev pub sack_making : {D : Type 0} → SackDisks D → SackDisks D → List (Phase D)
sack_making old new =
    phase old.incoming_b new.incoming_b ∷ phase old.incoming_a new.incoming_a ∷ phase old.blocks new.blocks
    ∷ phase old.shelf_b new.shelf_b ∷ phase old.shelf_a new.shelf_a ∷ []

-- sack by sack
abbrev pub sacks_making : {D : Type 0} → List (SackDisks D) → List (SackDisks D) → List (Phase D)
sacks_making [] news = []
sacks_making (old ∷ olds) [] = []
sacks_making (old ∷ olds) (new ∷ news) = sack_making old new ++ sacks_making olds news

-- the index comes last, and of its disks the first one
abbrev pub store_making : {D : Type 0} → StoreDisks D → StoreDisks D → List (Phase D)
store_making old new = sacks_making old.sacks new.sacks ++ phase old.index_b new.index_b ∷ phase old.index_a new.index_a ∷ []

-- ---- what a stop leaves

-- The images, in the order of the writes, are those of sacks that hold nothing, the first having this number of so many.
abbrev pub AreOfEmptySacks : ℕ → ℕ → List (List ℕ) → Type 0
AreOfEmptySacks total sack [] = ⊤
AreOfEmptySacks total sack (b ∷ []) = ⊥
AreOfEmptySacks total sack (b ∷ a ∷ []) = ⊥
AreOfEmptySacks total sack (b ∷ a ∷ z ∷ []) = ⊥
AreOfEmptySacks total sack (b ∷ a ∷ z ∷ e ∷ []) = ⊥
AreOfEmptySacks total sack (b ∷ a ∷ z ∷ e ∷ c ∷ images) =
    HoldsSack (sack_place total sack) (durable []) a b z c e × AreOfEmptySacks total (sack + 1) images

-- The images, in the order of the writes, are of no store, or of the empty store: the disks of the index have no header
-- behind an open gate; or they hold the maps of a new store, and each sack holds nothing.
pub record AreNoneOrEmpty (sacks number : ℕ) (images : List (List ℕ)) : Type 0 where
  pub of_sacks : List (List ℕ)
  pub index_b : List ℕ
  pub index_a : List ℕ
  pub images_are : images ≡ of_sacks ++ index_b ∷ index_a ∷ []
  pub have : (HasNoStore index_a × HasNoStore index_b) ⊎ (HoldsIndex sacks (new_maps number) index_a index_b × AreOfEmptySacks sacks 0 of_sacks)

-- all disks of each of these sacks tell their bytes
abbrev pub AllTellAll : {D : Type 0} → Ghosts D → List (SackDisks D) → Type 0
AllTellAll g [] = ⊤
AllTellAll g (d ∷ disks) = TellAll g d × AllTellAll g disks

-- The disks of the index were looked at, and had no store then; no other disk was touched until then. From then on, where
-- all disks tell their bytes, a stop at any moment leaves no store, or the empty one.
pub record IsMakingStore {D : Type 0} (g : Ghosts D) (sacks number : ℕ) (old new : StoreDisks D) : Type 0 where
  pub index_a : D
  pub index_b : D
  pub looked_a : LeavesOldOrNone g old.index_a index_a
  pub looked_b : LeavesOldOrNone g old.index_b index_b
  pub moments : IsSome (g.told old.index_a) → IsSome (g.told old.index_b) → AllTellAll g old.sacks
      → EachMoment g (store_making (record old { index_a = index_a; index_b = index_b }) new) (AreNoneOrEmpty sacks number)

-- Or the look failed, or found a store: no disk but those of the index was touched, and a stop leaves what was there, or no
-- store.
pub record IsOnlyLooking {D : Type 0} (g : Ghosts D) (old new : StoreDisks D) : Type 0 where
  pub looked_a : LeavesOldOrNone g old.index_a new.index_a
  pub looked_b : LeavesOldOrNone g old.index_b new.index_b
  pub sacks : new.sacks ≡ old.sacks

-- it is one or the other
abbrev pub IsMakingOrLooking : {D : Type 0} → Ghosts D → ℕ → ℕ → StoreDisks D → StoreDisks D → Type 0
IsMakingOrLooking g sacks number old new = IsOnlyLooking g old new ⊎ IsMakingStore g sacks number old new

-- the disks of the index were synced and read, and no other disk was touched
pub record IsOnlyRead {D : Type 0} (g : Ghosts D) (old new : StoreDisks D) : Type 0 where
  pub index_a : IsUntouched g old.index_a new.index_a
  pub index_b : IsUntouched g old.index_b new.index_b
  pub sacks : new.sacks ≡ old.sacks

-- ---- how often the disks are changed

-- each sack came from its disks by at most so many changing calls on each incoming disk, on each disk of the shelf's log,
-- and on the blocks
abbrev pub SacksCame : {D : Type 0} → Ghosts D → ℕ → ℕ → ℕ → List (SackDisks D) → List (SackDisks D) → Type 0
SacksCame g incoming shelf blocks [] [] = ⊤
SacksCame g incoming shelf blocks [] (new ∷ news) = ⊥
SacksCame g incoming shelf blocks (old ∷ olds) [] = ⊥
SacksCame g incoming shelf blocks (old ∷ olds) (new ∷ news) = CameWithin g incoming shelf blocks old new × SacksCame g incoming shelf blocks olds news

-- the disks of a store came from these by at most so many changing calls on each disk of the index, and on those of the
-- sacks
pub record StoreCame {D : Type 0} (g : Ghosts D) (index incoming shelf blocks : ℕ) (old new : StoreDisks D) : Type 0 where
  pub index_a : g.came index old.index_a new.index_a
  pub index_b : g.came index old.index_b new.index_b
  pub sacks : SacksCame g incoming shelf blocks old.sacks new.sacks
