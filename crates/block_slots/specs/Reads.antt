-- Reading a disk of blocks.
use Rattle.std.specs.Prelude.{◌≡◌}
use Rattle.gno_disk.specs.declared.disk.Disk.{Ghosts}
use Rattle.gno_disk.specs.Phases.{IsUnwritten, phase}
use Rattle.block_slots.specs.declared.slots.ReadFault.{ReadFault}
use Rattle.block_slots.specs.declared.slots.ReadFault.TheVariants.{Failed, Memory}

-- The disk was read and not written: its bytes are as they were, and a stop leaves nothing new.
pub record IsReadOnly {D : Type 0} (g : Ghosts D) (old new : D) : Type 0 where
  pub told : g.told new ≡ g.told old
  pub size : g.size new ≡ g.size old
  pub unwritten : IsUnwritten g (phase old new)
  pub came : g.came 0 old new

-- a fact of each kind of fault of a reading
abbrev pub MatchReadFault : ReadFault → Type 0 → Type 0 → Type 0
MatchReadFault Failed P Q = P
MatchReadFault Memory P Q = Q
