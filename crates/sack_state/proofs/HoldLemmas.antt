-- What a sack holds.
use Rattle.std.proofs.Common.{◌≡◌, ℕ, ◌≤◌, Bool, true, List, length, map, Option, Some, Result, Ok, Err, refl, sym, ap, subst, ◌∙◌}
use Rattle.std.specs.Result.{IfErr, IfOk}
use Rattle.gno_disk.specs.declared.disk.Disk.{Ghosts}
use Rattle.gate_log.specs.declared.fault.MountFault.{MountFault}
use Rattle.gate_log.specs.declared.fault.MountFault.TheVariants.{Memory as MountMemory}
use Rattle.log_pair.specs.declared.place.Place.{Place}
use Rattle.shelf_records.specs.Shelved.{Shelved}
use Rattle.sack_state.specs.declared.books.Books.{Books}
use Rattle.sack_state.specs.declared.disks.SackDisks.{SackDisks}
use Rattle.sack_state.specs.declared.holding.Keeping.{Keeping}
use Rattle.sack_state.specs.declared.holding.Keeping.TheVariants.{Mounted, Apart}
use Rattle.sack_state.specs.declared.holding.Remains.{Remains}
use Rattle.sack_state.specs.Books.{AreMountedFrom, AreOfPlace, IsUnmounted, disks_of}
use Rattle.sack_state.specs.Holding.{StaysApart, StaysBroken, TakesBooks, are_broken, mounted_anew, state_of}
use Rattle.sack_state.specs.SackView.{marks_waiting}
use Rattle.sack_state.proofs.DiskLemmas.{came_still}
use Rattle.sack_state.proofs.MomentLemmas.{still_sack}

module _ {D : Type 0} (g : Ghosts D) (place : Place) (old : Option (Keeping D)) (k : Keeping D) (is : old ≡ Some k) (broken : (state_of k).broken ≡ true) where
  pub taken_by : (disks : SackDisks D) → disks ≡ (state_of k).disks → (r : Result (Books D × Bool) MountFault) → IfOk r (λ t. AreMountedFrom g place disks t.0 × (t.1 ≡ true)) → IfOk r (λ t. TakesBooks g place old t.0 t.1)
  taken_by disks same (Ok t) has = mounted_anew k is broken (subst (λ d. AreMountedFrom g place d t.0) same has.0) has.1
  taken_by disks same (Err e) has = tt

  pub stays_by : {X : Type 0} (remains : Remains D) → remains.disks ≡ (state_of k).disks → remains.books.value ≡ (state_of k).books → remains.metrics.items ≡ map (λ (m : Shelved). m.id) (state_of k).books.shelf.metrics
      → remains.pending ≡ length (marks_waiting (state_of k).books)
      → (r : Result X MountFault) (new : Option (Keeping D)) → IfErr r (λ e. StaysApart g place remains new e) → IfErr r (StaysBroken g place old new)
  stays_by remains disks books metrics pending (Ok t) new has = tt
  stays_by remains disks books metrics pending (Err e) new has =
      let known = ap (λ s. s.value) has.books ∙ books in
      record {
        before = k;
        now = Apart has.now;
        old_is = is;
        new_is = has.new_is;
        was_broken = broken;
        broken = refl;
        books = known;
        of_place = (
          ap (λ v. v.items) has.metrics ∙ metrics ∙ ap (λ (b : Books D). map (λ (m : Shelved). m.id) b.shelf.metrics) (sym known),
          has.pending ∙ pending ∙ ap (λ (b : Books D). length (marks_waiting b)) (sym known),
        );
        unmounted = subst (λ d. IsUnmounted g place d has.now.disks e) disks has.unmounted;
      }

-- there was no memory for what is to be kept
pub stays_mounted : {D : Type 0} (g : Ghosts D) (only_now : (disk : D) (image : List ℕ) → g.left_since disk (g.moment disk) image → g.may_leave disk image) (came_none : (disk : D) → g.came 0 disk disk)
    (came_more : (m n : ℕ) (old new : D) → m ≤ n → g.came m old new → g.came n old new) (place : Place) (old new : Option (Keeping D)) (books : Books D) → old ≡ Some (Mounted books) → new ≡ Some (Mounted books) → are_broken books ≡ true → AreOfPlace place books
    → StaysBroken g place old new MountMemory
stays_mounted g only_now came_none came_more place old new books is new_is broken of_place = record {
  before = Mounted books;
  now = Mounted books;
  old_is = is;
  new_is = new_is;
  was_broken = broken;
  broken = broken;
  books = refl;
  of_place = of_place;
  unmounted = record {
    unwritten = still_sack g only_now (disks_of books);
    came = record {
      incoming_a = came_still g came_none came_more 2 books.incoming.first;
      incoming_b = came_still g came_none came_more 2 books.incoming.second;
      shelf_a = came_still g came_none came_more 2 books.shelf.first;
      shelf_b = came_still g came_none came_more 2 books.shelf.second;
      blocks_disk = came_still g came_none came_more 1 books.shelf.blocks;
    };
    cause = tt;
    never = tt;
  };
}
