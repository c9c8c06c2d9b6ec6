-- The two books of a sack, on its five disks.
use Rattle.std.specs.Prelude.{◌≡◌, false, [], ⊤}
use Rattle.gno_disk.specs.declared.disk.Disk.{Ghosts}
use Rattle.gno_disk.specs.Phases.{AreUnwritten}
use Rattle.gate_log.specs.LogView.{IsFault, MatchFault, MatchMountFault}
use Rattle.gate_log.specs.declared.fault.LogFault.{LogFault}
use Rattle.gate_log.specs.declared.fault.MountFault.{MountFault}
use Rattle.log_pair.specs.declared.place.Place.{Place}
use Rattle.log_pair.specs.PairView.{IsMaking}
use Rattle.incoming.specs.IncomingView.{IsLastingIncoming}
use Rattle.incoming.specs.Posts.{incoming_place}
use Rattle.split_store.specs.Shelf.{shelf_place}
use Rattle.split_store.specs.ShelfView.{IsLastingShelf, IsMakingShelf}
use Rattle.sack_history.specs.Scratch.{Durable, durable}
use Rattle.sack_state.specs.declared.books.Books.{Books}
use Rattle.sack_state.specs.declared.disks.SackDisks.{SackDisks}
use Rattle.sack_state.specs.Disks.{AreTold, CameWithin, TellAll, sack_faults, sack_phases}
use Rattle.sack_state.specs.SackHolding.{HoldsNoSack, HoldsSack, IsDamagedSack}
use Rattle.sack_state.specs.SackView.{HasDurable}

-- the disks of the books
abbrev pub disks_of : {D : Type 0} → Books D → SackDisks D
disks_of b = record {
  incoming_a = b.incoming.first;
  incoming_b = b.incoming.second;
  shelf_a = b.shelf.first;
  shelf_b = b.shelf.second;
  blocks = b.shelf.blocks;
}

-- they are of the sack of this place
pub record AreOfPlace {D : Type 0} (place : Place) (b : Books D) : Type 0 where
  pub incoming : b.incoming.place ≡ incoming_place place
  pub shelf : b.shelf.place ≡ shelf_place place

-- no call on them has failed
pub record AreWhole {D : Type 0} (b : Books D) : Type 0 where
  pub incoming : b.incoming.broken ≡ false
  pub shelf : b.shelf.broken ≡ false

-- what a stop now leaves has their posts and their live metrics
pub record AreLasting {D : Type 0} (g : Ghosts D) (b : Books D) : Type 0 where
  pub incoming : IsLastingIncoming g b.incoming
  pub shelf : IsLastingShelf g b.shelf

-- Books that were mounted from these disks: nothing was written, and they have the durable state that the disks hold.
pub record AreMountedFrom {D : Type 0} (g : Ghosts D) (place : Place) (disks : SackDisks D) (b : Books D) : Type 0 where
  pub whole : AreWhole b
  pub of_place : AreOfPlace place b
  pub exact : (d : Durable) → AreTold g disks (HoldsSack place d) → HasDurable g b d
  pub lasting : AreLasting g b
  pub unwritten : AreUnwritten g (sack_phases disks (disks_of b))
  pub came : CameWithin g 2 2 1 disks (disks_of b)

-- While books are made, on disks of which no image has a log, a stop leaves no log or an empty one, and no shelf or the
-- empty one.
pub record AreMaking {D : Type 0} (g : Ghosts D) (place : Place) (old new : SackDisks D) : Type 0 where
  pub incoming : IsMaking g (incoming_place place) [] old.incoming_a old.incoming_b new.incoming_a new.incoming_b
  pub shelf : IsMakingShelf g place old.shelf_a old.shelf_b old.blocks new.shelf_a new.shelf_b new.blocks

-- Books that were made on these disks: they have the durable state of no history.
pub record AreMadeFrom {D : Type 0} (g : Ghosts D) (place : Place) (disks : SackDisks D) (b : Books D) : Type 0 where
  pub whole : AreWhole b
  pub of_place : AreOfPlace place b
  pub has : TellAll g disks → HasDurable g b (durable [])
  pub lasting : AreLasting g b
  pub making : AreMaking g place disks (disks_of b)
  pub came : CameWithin g 9 9 1 disks (disks_of b)

-- Making them failed, and the faults are those of all disks.
pub record IsUnmade {D : Type 0} (g : Ghosts D) (place : Place) (old new : SackDisks D) (fault : LogFault) : Type 0 where
  pub making : AreMaking g place old new
  pub came : CameWithin g 9 9 1 old new
  pub cause : MatchFault fault (IsFault (sack_faults g old) (sack_faults g new)) ⊤

-- Mounting failed: nothing was written, the faults are those of all disks, and damage comes only where the disks, if
-- they tell their bytes, hold no sack.
pub record IsUnmounted {D : Type 0} (g : Ghosts D) (place : Place) (old new : SackDisks D) (fault : MountFault) : Type 0 where
  pub unwritten : AreUnwritten g (sack_phases old new)
  pub came : CameWithin g 2 2 1 old new
  pub cause : MatchMountFault fault (IsFault (sack_faults g old) (sack_faults g new))
      (λ d. AreTold g old (λ a b z c e. ⊤) → AreTold g old (λ a b z c e. IsDamagedSack place a b z c e d)) ⊤
  pub never : MatchMountFault fault (λ f. ⊤) (λ d. AreTold g old (λ a b z c e. ⊤) → AreTold g old (HoldsNoSack place)) ⊤
