-- How a shelf keeps what contracts see of it.
use Rattle.std.specs.Prelude.{◌≡◌, ◌||◌, [], false, All, IfSome, IsSome}
use Rattle.gno_disk.specs.Disk.{Only}
use Rattle.gno_disk.specs.declared.disk.Disk.{Ghosts}
use Rattle.shelf_records.specs.Shelved.{AreBlocks}
use Rattle.split_store.specs.declared.shelf.Shelf.TheInside.{Inside}
use Rattle.split_store.specs.Loading.{AreRecordsOf, IsSound}
use Rattle.split_store.specs.ShelfView.{ShelfView}

-- what contracts see
abbrev pub shelf_view : {D : Type 0} → Inside D → ShelfView D
shelf_view s = record {
  first = s.pair.first;
  second = s.pair.second;
  blocks = s.blocks;
  place = s.pair.place;
  epoch = s.pair.epoch;
  broken = s.pair.broken || s.damaged;
  metrics = s.book.metrics;
}

-- What holds while no call has failed: the book is that of the records, its metrics are sound, the blocks in use
-- stand on the disk of blocks, and that disk is synced.
pub record IsWhole {D : Type 0} (g : Ghosts D) (s : Inside D) : Type 0 where
  pub are : IfSome s.pair.records (AreRecordsOf (g.size s.blocks) s.book.metrics)
  pub sound : All IsSound s.book.metrics
  pub blocks : AreBlocks (g.size s.blocks) s.book.metrics
  pub synced : IfSome (g.told s.blocks) (λ bytes. Only bytes (g.may_leave s.blocks))

-- The place has the role 3. The book holds no slot beside those of the blocks in use. Where both disks of the log
-- tell their bytes, its records are told.
pub record KeepsShelf {D : Type 0} (g : Ghosts D) (s : Inside D) : Type 0 where
  pub role : s.pair.place.role ≡ 3
  pub told : IsSome (g.told s.pair.first) → IsSome (g.told s.pair.second) → IsSome s.pair.records
  pub free : s.book.taken ≡ []
  pub whole : (s.pair.broken || s.damaged) ≡ false → IsWhole g s
