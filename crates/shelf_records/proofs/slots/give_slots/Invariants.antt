use Rattle.std.proofs.Common.{◌≤◌, ◌+◌, ◌++◌, ℕ, List, drop}
use Rattle.shelf_records.specs.Slots.{AreHeld}
use Rattle.shelf_records.proofs.slots.give_slots.Given as goal

abbrev pub invariant-loop-at : goal.invariant-loop-at
invariant-loop-at l =
    record {
      held : (slots : List ℕ) → AreHeld (l.places ++ slots) l.fn.used → AreHeld (drop l.at-index l.places ++ slots) l.used;
      spare : l.fn.used.spare ≤ l.used.spare + l.at-index;
    }
