-- What the index holds.
use Rattle.std.proofs.Common.{◌≡◌, ℕ, Bool, true, cond, [], ◌∷◌, Option, Some, None, Result, Ok, Err, sym, ap, ◌∙◌}
use Rattle.std.specs.Result.{IfErr, IfOk}
use Rattle.gno_disk.specs.declared.disk.Disk.{Ghosts}
use Rattle.gate_log.specs.declared.fault.MountFault.{MountFault}
use Rattle.metric_index.specs.declared.holding.Held.{Held}
use Rattle.metric_index.specs.declared.holding.Held.TheVariants.{Mounted, Apart}
use Rattle.metric_index.specs.BookView.{BookView}
use Rattle.metric_index.specs.Holding.{IsMountedFrom, StaysApart, TakesBook, disks_in, maps_known, mounted_anew}

module _ {D : Type 0} (g : Ghosts D) (old : Option (Held D)) (a b : D) (disks : disks_in old ≡ a ∷ b ∷ []) (broken : maps_known old ≡ None) where
  pub taken_by : (sacks : ℕ) (r : Result (BookView D × Bool) MountFault) → IfOk r (λ t. IsMountedFrom g sacks a b t.0 × (t.1 ≡ true)) → IfOk r (λ t. TakesBook g sacks old t.0 t.1)
  taken_by sacks (Ok t) has = mounted_anew a b disks broken has.0 has.1
  taken_by sacks (Err e) has = tt

  pub apart_by : {X : Type 0} (sacks : ℕ) (r : Result X MountFault) (new : Option (Held D)) → IfErr r (StaysApart g sacks (Some (Apart a b)) new) → IfErr r (StaysApart g sacks old new)
  apart_by sacks (Ok t) new has = tt
  apart_by sacks (Err e) new has = record {
    a = has.a;
    b = has.b;
    first = has.first;
    second = has.second;
    disks_are = disks ∙ has.disks_are;
    broken = broken;
    new_is = has.new_is;
    unwritten = has.unwritten;
    came_first = has.came_first;
    came_second = has.came_second;
    tells_first = has.tells_first;
    tells_second = has.tells_second;
    cause = has.cause;
    never = has.never;
  }

pub broken_book : {D : Type 0} (old : Option (Held D)) (book : BookView D) (a b : D) → old ≡ Some (Mounted book) → a ≡ book.first → b ≡ book.second → disks_in old ≡ a ∷ b ∷ []
broken_book old book a b is first second = ap disks_in is ∙ ap (λ x. x ∷ book.second ∷ []) (sym first) ∙ ap (λ y. a ∷ y ∷ []) (sym second)

pub broken_maps : {D : Type 0} (old : Option (Held D)) (book : BookView D) → old ≡ Some (Mounted book) → book.broken ≡ true → maps_known old ≡ None
broken_maps old book is broken = ap maps_known is ∙ ap (λ v. cond v None (Some book.maps)) broken
