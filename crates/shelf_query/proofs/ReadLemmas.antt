-- Reads of a shelf, one after another.
use Rattle.std.proofs.Common.{◌≡◌, ℕ, ◌+◌, ◌≤◌, List, refl, sym, ap, subst, ◌∙◌, arith}
use Rattle.std.specs.Option.{IfSome}
use Rattle.gno_num.specs.Faults.{Rose-from}
use Rattle.gno_disk.specs.Disk.{TimeGoesOn}
use Rattle.gno_disk.specs.declared.disk.Disk.{Ghosts}
use Rattle.gate_log.specs.LogView.{MatchMountFault}
use Rattle.gate_log.specs.declared.fault.MountFault.{MountFault}
use Rattle.gate_log.specs.declared.fault.MountFault.TheVariants.{DiskFault as MountDisk, Damaged as MountDamaged, Memory as MountMemory}
use Rattle.block_slots.proofs.Reading.{read_then}
use Rattle.shelf_records.specs.Shelved.{Shelved}
use Rattle.split_store.specs.ShelfView.{IsCause, IsOnlySeen, ShelfView, shelf_faults}
use Rattle.split_store.proofs.Seen.{not_touched, seen_kept}
use Rattle.shelf_query.specs.Reading.{IsReadCause}

module _ {D : Type 0} (g : Ghosts D) where
  -- nothing was read
  pub seen_none : (only_now : (disk : D) (image : List ℕ) → g.left_since disk (g.moment disk) image → g.may_leave disk image) (came_none : (disk : D) → g.came 0 disk disk) (v : ShelfView D) → IsOnlySeen g v v
  seen_none only_now came_none v = not_touched g only_now came_none v v refl

  -- what was read in two calls was only read
  pub seen_then : (came_then : (m n : ℕ) (old mid new : D) → g.came m old mid → g.came n mid new → g.came (m + n) old new)
      (goes_on : (n : ℕ) (old new : D) → g.came n old new → TimeGoesOn (g.moment old) (g.moment new) (g.left_since old) (g.left_since new))
      (old mid new : ShelfView D) → IsOnlySeen g old mid → IsOnlySeen g mid new → IsOnlySeen g old new
  seen_then came_then goes_on old mid new first second = record {
    place = second.place ∙ first.place;
    epoch = second.epoch ∙ first.epoch;
    metrics = second.metrics ∙ first.metrics;
    first = second.first ∙ first.first;
    second = second.second ∙ first.second;
    blocks = read_then g came_then goes_on old.blocks mid.blocks new.blocks first.blocks second.blocks;
  }

  more_faults : (came_later : (n : ℕ) (old new : D) → g.came n old new → g.faults old ≤ g.faults new) (old mid : ShelfView D) → IsOnlySeen g old mid → shelf_faults g old ≤ shelf_faults g mid
  more_faults came_later old mid seen =
      let later = came_later 0 old.blocks mid.blocks seen.blocks.came in
      omega (arith, later, ap g.faults seen.first, ap g.faults seen.second)

  -- why a later call failed is why both did
  pub cause_then : (came_later : (n : ℕ) (old new : D) → g.came n old new → g.faults old ≤ g.faults new) (P : List Shelved → List ℕ → ℕ → Type 0) (old mid new : ShelfView D) (e : MountFault) → IsOnlySeen g old mid
      → IsReadCause g (P mid.metrics) mid new e → IsReadCause g (P old.metrics) old new e
  cause_then came_later P old mid new (MountDisk f) seen why = record { rose = Rose-from (shelf_faults g old) (more_faults came_later old mid seen) why.rose; broken = why.broken }
  cause_then came_later P old mid new (MountDamaged d) seen why = record {
    disk = why.disk;
    at = subst (λ ms. IfSome (g.told old.blocks) (λ bytes. P ms bytes d.at)) seen.metrics (subst (λ o. IfSome o (λ bytes. P mid.metrics bytes d.at)) seen.blocks.told why.at);
    broken = why.broken;
    none = λ lives keeps. why.none lives (seen_kept g old mid seen lives keeps);
  }
  cause_then came_later P old mid new MountMemory seen why = why

  -- with its counts of the whole call
  pub cause_counted : (P : List ℕ → ℕ → Type 0) (old new : ShelfView D) (fault result : MountFault) (before after : ℕ) → before ≡ shelf_faults g old → after ≡ shelf_faults g new
      → MatchMountFault fault (λ f. result ≡ MountDisk (record { before = before; after = after })) (λ d. result ≡ MountDamaged d) (result ≡ MountMemory) → IsReadCause g P old new fault → IsCause g P old new result
  cause_counted P old new (MountDisk f) result before after from to is why =
      subst (IsCause g P old new) (sym is) (record { fault = record { before_is = from; after_is = to; rose = why.rose }; broken = why.broken })
  cause_counted P old new (MountDamaged d) result before after from to is why = subst (IsCause g P old new) (sym is) why
  cause_counted P old new MountMemory result before after from to is why = subst (IsCause g P old new) (sym is) why
