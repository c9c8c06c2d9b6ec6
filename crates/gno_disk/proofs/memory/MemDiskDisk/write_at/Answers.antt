use Rattle.std.proofs.Common.{refl, rules}
use Rattle.gno_disk.proofs.ByteLemmas.{written, written_size, unwritten, torn}
use Rattle.gno_disk.specs.Comings.{Came-change}
use Rattle.gno_disk.proofs.memory.MemDiskDisk.write_at.Goals as goal

pub returns-clause-made : goal.returns-clause-made
returns-clause-made c = search rules

pub returns-clause-counted : goal.returns-clause-counted
returns-clause-counted c = search rules

pub returns-clause-fuse : goal.returns-clause-fuse
returns-clause-fuse c = search rules

pub returns-clause-starved : goal.returns-clause-starved
returns-clause-starved c = search rules

pub returns-clause-later : goal.returns-clause-later
returns-clause-later c = search rules

pub returns-clause-unlisted : goal.returns-clause-unlisted
returns-clause-unlisted c = search rules

pub returns-clause-came : goal.returns-clause-came
returns-clause-came c =
    Came-change _ _ _ _ refl (returns-clause-made c) (returns-clause-counted c) (returns-clause-fuse c) (returns-clause-later c) (returns-clause-starved c) (returns-clause-unlisted c)

pub returns-clause-written : goal.returns-clause-written
returns-clause-written c =
    let count = returns-clause-counted c in written _ _ count.first c.args.at c.args.bytes.now _ (returns-clause-made c)

pub returns-clause-size : goal.returns-clause-size
returns-clause-size c =
    let count = returns-clause-counted c in written_size _ _ count.first c.args.at c.args.bytes.now _ c.requires (returns-clause-made c)

pub returns-clause-unchanged : goal.returns-clause-unchanged
returns-clause-unchanged c =
    let count = returns-clause-counted c in unwritten _ _ count.first c.args.at c.args.bytes.now _ (returns-clause-made c)

pub returns-clause-torn : goal.returns-clause-torn
returns-clause-torn c =
    let count = returns-clause-counted c in torn _ _ count.first c.args.at c.args.bytes.now _ (returns-clause-made c)
