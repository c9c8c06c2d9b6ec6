use Rattle.std.proofs.Common.{arith}
use Rattle.command_line.proofs.DiskLemmas.{five_each}
use Rattle.command_line.proofs.laws.five_disks_a_sack.Goals as goal

pub returns : goal.returns
returns c front sacks = let five = five_each front 0 sacks in omega arith
