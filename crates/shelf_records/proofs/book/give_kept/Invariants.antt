use Rattle.std.proofs.Common.{◌≤◌, ◌++◌, ℕ, List, drop, length}
use Rattle.shelf_records.specs.Book.{blocks_of_kept, places_of}
use Rattle.shelf_records.specs.Slots.{AreHeld}
use Rattle.shelf_records.proofs.book.give_kept.Given as goal

abbrev pub invariant-loop-place : goal.invariant-loop-place
invariant-loop-place l =
    record {
      held : (slots : List ℕ) → AreHeld (places_of (blocks_of_kept l.filed.kept) ++ slots) l.fn.used → AreHeld (places_of (blocks_of_kept (drop l.place l.filed.kept)) ++ slots) l.used;
      spare : length (blocks_of_kept (drop l.place l.filed.kept)) ≤ l.used.spare;
    }
