-- What a call on books that aren't broken leaves of a sack.
use Rattle.std.proofs.Common.{◌≡◌, inl, false, List, [], ◌∷◌, ◌++◌, Option, sym, ◌∙◌}
use Rattle.std.proofs.lemmas.Bool.{or_from}
use Rattle.gno_disk.specs.Phases.{EachMoment}
use Rattle.gno_disk.specs.declared.disk.Disk.{Ghosts}
use Rattle.log_pair.specs.declared.place.Place.{Place}
use Rattle.sack_history.specs.declared.entry.Counted.{Counted}
use Rattle.sack_history.specs.declared.entry.Entry.{Entry}
use Rattle.sack_history.specs.Entries.{kept}
use Rattle.sack_history.specs.Holding.{held_claim, is_broken, last_ticket}
use Rattle.sack_history.specs.Legal.{IsLegal}
use Rattle.sack_history.specs.Scratch.{durable}
use Rattle.sack_state.specs.declared.books.Books.{Books}
use Rattle.sack_state.specs.Books.{AreLasting, AreOfPlace, AreWhole, disks_of}
use Rattle.sack_state.specs.Disks.{OfFive, TellAll, sack_phases}
use Rattle.sack_state.specs.Holding.{are_broken}
use Rattle.sack_state.specs.SackHolding.{AreOldOrWritten}
use Rattle.sack_state.specs.SackView.{HasDurable, IsScratch, SackState, SackView}
use Rattle.sack_state.proofs.MountLemmas.{books_leave, remembers_of}

-- the state of a sack that holds these books
abbrev pub state_with : {D : Type 0} → Books D → SackState D
state_with b = record { disks = disks_of b; books = b; broken = are_broken b }

pub whole_books : {D : Type 0} (b : Books D) → AreWhole b → are_broken b ≡ false
whole_books b whole = or_from b.incoming.broken b.shelf.broken whole.incoming whole.shelf

-- one entry was added by a call on books that weren't broken
pub record IsDone {D : Type 0} (g : Ghosts D) (place : Place) (Own : List Entry → List Entry → Type 0) (written : List Counted → Option Counted) (old new : Books D) (w : SackView D) (e : Entry) (history : List Entry) : Type 0 where
  pub does : Own history (e ∷ [])
  pub scratch : IsScratch g w (state_with new) (history ++ e ∷ [])
  pub moments : EachMoment g (sack_phases (disks_of old) (disks_of new)) (OfFive (AreOldOrWritten place (kept history) (written (kept history))))

module _ {D : Type 0} (g : Ghosts D) (w : SackView D) where
  -- a sack whose books aren't broken and have the durable state
  pub settled : (b : Books D) (history : List Entry) → IsLegal w.place.sack history → is_broken history ≡ false → w.held ≡ held_claim history → w.tickets ≡ last_ticket history
      → HasDurable g b (durable (kept history)) → AreWhole b → AreLasting g b → AreOfPlace w.place b → TellAll g (disks_of b) → IsScratch g w (state_with b) history
  settled b history legal unbroken held tickets has whole lasting of_place tell = record {
    legal = legal;
    broken = whole_books b whole ∙ sym unbroken;
    held = held;
    tickets = tickets;
    remembers = remembers_of g b (durable (kept history)) has;
    has = λ e. has;
    tell = tell;
    images = λ x y z c e left_x left_y left_z left_c left_e. inl (books_leave g w.place b (durable (kept history)) of_place lasting has x y z c e left_x left_y left_z left_c left_e);
  }
