-- What calls say that take turns one after another.
use Rattle.std.specs.Prelude.{◌≡◌, ◌⊎◌, ℕ, ◌+◌, suc, Bool, true, false, List, [], ◌∷◌, ◌++◌, length, take, slice_get}
use Rattle.gno_disk.specs.declared.disk.Disk.{Ghosts}
use Rattle.gno_disk.specs.Phases.{AreUnwritten, EachMoment}
use Rattle.log_pair.specs.declared.place.Place.{Place}
use Rattle.sack_history.specs.declared.entry.Counted.{Counted}
use Rattle.sack_history.specs.declared.entry.Entry.{Entry}
use Rattle.sack_history.specs.declared.entry.Entry.TheVariants as entries
use Rattle.sack_history.specs.Entries.{all_counted, kept}
use Rattle.sack_state.specs.declared.disks.SackDisks.{SackDisks}
use Rattle.sack_state.specs.Disks.{OfFive, sack_phases}
use Rattle.sack_state.specs.SackHolding.{AreOldOrWritten}
use Rattle.sack_state.specs.SackView.{IsEarlier, OfBoth, SackState, SackView, StandsFor, capped}

-- A call takes turns one after another: at every moment of a turn, behind so many others, the images have P of that
-- number. The last one may have ended with a fault.
pub data AtTurns {D : Type 0} (g : Ghosts D) (P : ℕ → List ℕ → List ℕ → List ℕ → List ℕ → List ℕ → Type 0) (old : SackDisks D) : SackDisks D → ℕ → Type 0 where
  none : (new : SackDisks D) (turns : ℕ) → new ≡ old → turns ≡ 0 → AtTurns g P old new turns
  more : (new mid : SackDisks D) (turns before : ℕ) → AtTurns g P old mid before → EachMoment g (sack_phases mid new) (OfFive (P before)) → turns ≡ suc before → AtTurns g P old new turns

-- The same of a sack; where it was broken, from the end of its mounting on.
pub data AtAnyTurn {D : Type 0} (g : Ghosts D) (P : ℕ → List ℕ → List ℕ → List ℕ → List ℕ → List ℕ → Type 0) (old new : SackState D) : Type 0 where
  all_along : (turns : ℕ) → old.broken ≡ false → AtTurns g P old.disks new.disks turns → AtAnyTurn g P old new
  once_mounted : (mid : SackDisks D) (turns : ℕ) → old.broken ≡ true → AreUnwritten g (sack_phases old.disks mid) → AtTurns g P mid new.disks turns → AtAnyTurn g P old new
  unmounted : old.broken ≡ true → AreUnwritten g (sack_phases old.disks new.disks) → AtAnyTurn g P old new

-- the images hold what counted and the first so many of these turns, or that with the next one
abbrev pub AreWithTurns : Place → List Counted → List Counted → ℕ → List ℕ → List ℕ → List ℕ → List ℕ → List ℕ → Type 0
AreWithTurns place counts turns taken = AreOldOrWritten place (counts ++ take taken turns) (slice_get turns taken)

-- After a call with these own entries the sack stands for the list with them, and it has counted them. A broken sack
-- was mounted first, unless that failed; from then on (`mid` is the list until then), a stop at any moment leaves what
-- counted with the turns that were taken, or that with the turn that is written.
pub record StandsAfterTurns {D : Type 0} (g : Ghosts D) (h : List Entry) (turns : List Counted → List Counted) (old new : SackView D) (Call : List Entry → List Entry → Type 0) : Type 0 where
  pub own : List Entry
  pub stands : StandsFor g (h ++ own) new
  pub counted : new.entries ≡ capped (old.entries + length own)
  pub does : (earlier : List Counted) → IsEarlier g old.place old.opening earlier → Call (all_counted earlier ++ h) own
  pub mid : List Entry
  pub mid_is : (mid ≡ h) ⊎ ((found : Bool) × (mid ≡ h ++ entries.Reopened found ∷ []))
  pub moments : (earlier : List Counted) → IsEarlier g old.place old.opening earlier
      → OfBoth old new (AtAnyTurn g (AreWithTurns old.place (kept (all_counted earlier ++ mid)) (turns (kept (all_counted earlier ++ mid)))))
