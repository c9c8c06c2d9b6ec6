-- How a sack keeps its disks.
use Rattle.std.specs.Prelude.{◌≡◌, ◌||◌, Bool, true, false, length, map, Option, Some}
use Rattle.gno_disk.specs.declared.disk.Disk.{Ghosts}
use Rattle.gate_log.specs.declared.fault.MountFault.{MountFault}
use Rattle.log_pair.specs.declared.place.Place.{Place}
use Rattle.sack_state.specs.declared.books.Books.{Books}
use Rattle.sack_state.specs.declared.holding.Keeping.{Keeping}
use Rattle.sack_state.specs.declared.holding.Keeping.TheVariants.{Mounted, Apart}
use Rattle.sack_state.specs.declared.holding.Remains.{Remains}
use Rattle.sack_state.specs.Books.{AreLasting, AreMountedFrom, AreOfPlace, AreWhole, IsUnmounted, disks_of}
use Rattle.sack_state.specs.SackView.{SackState, marks_waiting}

-- whether a call on one of the books has failed
abbrev pub are_broken : {D : Type 0} → Books D → Bool
are_broken b = b.incoming.broken || b.shelf.broken

-- what contracts see of what is held
abbrev pub state_of : {D : Type 0} → Keeping D → SackState D
state_of (Mounted b) = record { disks = disks_of b; books = b; broken = are_broken b }
state_of (Apart r) = record { disks = r.disks; books = r.books.value; broken = true }

-- the books are of the sack of this place, and the metrics and the number of posts that wait are what they knew
abbrev pub IsOfPlace : {D : Type 0} → Place → Keeping D → Type 0
IsOfPlace place (Mounted b) = AreOfPlace place b
IsOfPlace place (Apart r) = (r.metrics.items ≡ map (λ m. m.id) r.books.value.shelf.metrics) × (r.pending ≡ length (marks_waiting r.books.value))

-- The books that are held, which aren't broken; or books that were mounted anew from the disks.
pub data TakesBooks {D : Type 0} (g : Ghosts D) (place : Place) (old : Option (Keeping D)) (books : Books D) (anew : Bool) : Type 0 where
  as_they_were : old ≡ Some (Mounted books) → AreWhole books → AreLasting g books → anew ≡ false → TakesBooks g place old books anew
  mounted_anew : (k : Keeping D) → old ≡ Some k → (state_of k).broken ≡ true → AreMountedFrom g place (state_of k).disks books → anew ≡ true → TakesBooks g place old books anew

-- Mounting failed, and what is left is kept.
pub record StaysApart {D : Type 0} (g : Ghosts D) (place : Place) (old : Remains D) (new : Option (Keeping D)) (fault : MountFault) : Type 0 where
  pub now : Remains D
  pub new_is : new ≡ Some (Apart now)
  pub metrics : now.metrics ≡ old.metrics
  pub pending : now.pending ≡ old.pending
  pub books : now.books ≡ old.books
  pub unmounted : IsUnmounted g place old.disks now.disks fault

-- Mounting failed, or wasn't begun for want of memory: nothing was written, and what the books knew is still known.
pub record StaysBroken {D : Type 0} (g : Ghosts D) (place : Place) (old new : Option (Keeping D)) (fault : MountFault) : Type 0 where
  pub before : Keeping D
  pub now : Keeping D
  pub old_is : old ≡ Some before
  pub new_is : new ≡ Some now
  pub was_broken : (state_of before).broken ≡ true
  pub broken : (state_of now).broken ≡ true
  pub books : (state_of now).books ≡ (state_of before).books
  pub of_place : IsOfPlace place now
  pub unmounted : IsUnmounted g place (state_of before).disks (state_of now).disks fault
