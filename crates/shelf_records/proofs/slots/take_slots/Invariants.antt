use Rattle.std.proofs.Common.{◌≤◌, ◌<◌, ◌++◌, ℕ, List, get_or, take}
use Rattle.shelf_records.specs.Slots.{AreHeld, IsFirstFree}
use Rattle.shelf_records.proofs.slots.take_slots.Given as goal

abbrev pub invariant-loop-i : goal.invariant-loop-i
invariant-loop-i l =
    record {
      held : (slots : List ℕ) → AreHeld slots l.fn.used → AreHeld (take l.i l.places ++ slots) l.used;
      first : (slots : List ℕ) → AreHeld slots l.fn.used → (k d : ℕ) → k < l.i → IsFirstFree (take k l.places ++ slots) (get_or l.places k d);
      spare : l.fn.used.spare ≤ l.used.spare;
    }
