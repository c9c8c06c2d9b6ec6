-- Why blocks weren't read.
use Rattle.std.specs.Prelude.{ℕ}
use Rattle.shelf_blocks.specs.declared.fault.BlockFault.{BlockFault}
use Rattle.shelf_blocks.specs.declared.fault.BlockFault.TheVariants.{Failed, Damaged, Memory}

-- a fact of each kind of fault
abbrev pub MatchBlockFault : BlockFault → Type 0 → (ℕ → Type 0) → Type 0 → Type 0
MatchBlockFault Failed P Q R = P
MatchBlockFault (Damaged at) P Q R = Q at
MatchBlockFault Memory P Q R = R
