-- A query on the books of a sack: what was read of the shelf.
use Rattle.std.proofs.Common.{◌≡◌, inr, ℕ, ◌+◌, ◌-◌, ◌^◌, ◌≤◌, min, List, refl}
use Rattle.std.proofs.lemmas.Bool.{or_right}
use Rattle.gno_disk.specs.declared.disk.Disk.{Ghosts}
use Rattle.gate_log.specs.LogView.{MatchMountFault}
use Rattle.gate_log.specs.declared.fault.MountFault.{MountFault}
use Rattle.gate_log.specs.declared.fault.MountFault.TheVariants.{DiskFault as MountDisk, Damaged as MountDamaged, Memory as MountMemory}
use Rattle.split_store.specs.ShelfView.{IsCause, IsLastingShelf, IsOnlySeen, ShelfView}
use Rattle.sack_history.specs.declared.fault.SackFault.{SackFault}
use Rattle.sack_history.specs.declared.fault.SackFault.TheVariants as sack_fault
use Rattle.sack_state.specs.declared.books.Books.{Books}
use Rattle.sack_state.specs.Books.{AreWhole, disks_of}
use Rattle.sack_state.specs.Claiming.{AreOnlyRead, FailsRead, damaged, failed, starved}
use Rattle.sack_state.specs.Disks.{sack_faults}
use Rattle.sack_state.proofs.DiskLemmas.{no_less}
use Rattle.sack_state.proofs.ReadingLemmas.{untouched}
use Rattle.sack_state.proofs.RealLemmas.{rose_among_three}

module _ {D : Type 0} (g : Ghosts D) (only_now : (disk : D) (image : List ℕ) → g.left_since disk (g.moment disk) image → g.may_leave disk image) (came_none : (disk : D) → g.came 0 disk disk)
    (came_later : (n : ℕ) (old new : D) → g.came n old new → g.faults old ≤ g.faults new) (old : Books D) (shelf : ShelfView D) where
  -- the shelf alone was read
  pub shelf_read : IsOnlySeen g old.shelf shelf → AreOnlyRead g old (record { incoming = old.incoming; shelf = shelf })
  shelf_read seen = let u = untouched g only_now came_none came_later old in
      record { marks = refl; next = refl; posts = refl; place = refl; unwritten = u.unwritten; came_first = u.came_first; came_second = u.came_second; shelf = seen }

  pub shelf_unread : (P : List ℕ → ℕ → Type 0) (x : MountFault) (r : SackFault) (before after : ℕ) → AreWhole old → before ≡ sack_faults g (disks_of old) → after ≡ sack_faults g (disks_of (record { incoming = old.incoming; shelf = shelf }))
      → IsLastingShelf g shelf → IsCause g P old.shelf shelf x
      → MatchMountFault x (λ f. r ≡ sack_fault.DiskFault (record { before = before; after = after })) (λ d. r ≡ sack_fault.Damaged (record { disk = min (d.disk + 2) (2 ^ 16 - 1); at = d.at })) (r ≡ sack_fault.Memory)
      → FailsRead g old (record { incoming = old.incoming; shelf = shelf }) r
  shelf_unread P (MountDisk f) r before after whole before_is after_is lasting cause is = failed (record { before = before; after = after }) (or_right old.incoming.broken shelf.broken cause.broken) (record {
    before_is = before_is;
    after_is = after_is;
    rose = rose_among_three (g.faults old.incoming.first) (g.faults old.incoming.second) (g.faults old.incoming.first) (g.faults old.incoming.second) (g.faults old.shelf.first) (g.faults old.shelf.second) (g.faults old.shelf.blocks)
        (g.faults shelf.first) (g.faults shelf.second) (g.faults shelf.blocks) (no_less (g.faults old.incoming.first)) (no_less (g.faults old.incoming.second)) cause.fault.rose;
  }) is
  shelf_unread P (MountDamaged d) r before after whole before_is after_is lasting cause is =
      damaged (record { disk = min (d.disk + 2) (2 ^ 16 - 1); at = d.at }) (or_right old.incoming.broken shelf.broken cause.broken) (inr cause.none) is
  shelf_unread P MountMemory r before after whole before_is after_is lasting cause is =
      starved (record { incoming = whole.incoming; shelf = cause }) (λ was. record { incoming = was.incoming; shelf = lasting }) is
