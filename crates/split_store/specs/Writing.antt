-- Which pieces a commit tries to write.
use Rattle.std.specs.Prelude.{◌≡◌, ◌⊎◌, ℕ, ◌+◌, ◌^◌, nat_le, if◌then◌else◌, Bool, List, [], ◌∷◌, All, IfSome}
use Rattle.gno_disk.specs.Disk.{Only}
use Rattle.shelf_records.specs.Shelved.{slot}
use Rattle.gno_disk.specs.Moments.{LeavesOnly}
use Rattle.gno_disk.specs.Phases.{AtExit, EachMoment}
use Rattle.gno_disk.specs.declared.disk.Disk.{Ghosts}
use Rattle.log_pair.specs.PairView.{AreOldOrAdded, OfTwo, PairView, pair_phases}
use Rattle.block_slots.specs.declared.slots.Piece.{Piece}
use Rattle.shelf_records.specs.Slots.{IsWithin}
use Rattle.block_slots.specs.Slots.{FillsSlot, IsSpared, places_of, size_with}

-- whether a disk can reach the end of a piece's slot
abbrev pub reaches_end : Piece → Bool
reaches_end p = nat_le (p.at + slot) (2 ^ 60)

-- all pieces, or those up to the first whose slot no disk reaches
abbrev pub tried_of : List Piece → List Piece
tried_of [] = []
tried_of (p ∷ pieces) = if reaches_end p then p ∷ tried_of pieces else p ∷ []

-- Once the blocks are written, they are synced, each piece stands in its slot, which the disk reaches, and the disk is
-- as long as it was, or up to the last slot.
pub record AreWritten {D : Type 0} (g : Ghosts D) (pieces : List Piece) (old new : D) : Type 0 where
  pub stand : IfSome (g.told new) (λ bytes. All (FillsSlot bytes) pieces)
  pub durable : IfSome (g.told new) (λ bytes. Only bytes (g.may_leave new))
  pub size : g.size new ≡ size_with (g.size old) pieces
  pub within : All (λ p. IsWithin p.at) pieces

-- What a stop leaves of a commit, moment by moment: while the blocks are written, what stands beside the slots that are
-- tried is there; the log is touched only where all pieces were written and synced, and then it has its old records, or
-- them and this one.
pub record IsWritten {D : Type 0} (g : Ghosts D) (pieces : List Piece) (body : List ℕ) (old new : D) (p q : PairView D) : Type 0 where
  pub blocks : LeavesOnly g old new (IsSpared g (places_of (tried_of pieces)) old)
  pub log : (p ≡ q) ⊎ AreWritten g pieces old new
  pub moments : EachMoment g (pair_phases p q) (OfTwo (AreOldOrAdded p body))
  pub left : (images : List (List ℕ)) → AtExit g (pair_phases p q) images → OfTwo (AreOldOrAdded p body) images
