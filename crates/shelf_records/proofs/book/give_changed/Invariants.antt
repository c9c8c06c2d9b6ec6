use Rattle.std.proofs.Common.{◌≤◌, ◌+◌, ◌++◌, ℕ, List, drop}
use Rattle.shelf_records.specs.Book.{changed_blocks, places_of}
use Rattle.shelf_records.specs.Slots.{AreHeld}
use Rattle.shelf_records.proofs.book.give_changed.Given as goal

abbrev pub invariant-loop-change : goal.invariant-loop-change
invariant-loop-change l =
    record {
      held : (slots : List ℕ) → AreHeld (places_of (changed_blocks l.filed l.changes) ++ slots) l.fn.used → AreHeld (places_of (changed_blocks l.filed (drop l.change-index l.changes)) ++ slots) l.used;
      spare : l.fn.used.spare ≤ l.used.spare + l.change-index;
    }
