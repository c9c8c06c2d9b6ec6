use Rattle.std.proofs.Common.{ap, length, refl, rules}
use Rattle.gno_disk.proofs.ByteLemmas.{sync_bytes}
use Rattle.gno_disk.specs.Comings.{Came-change}
use Rattle.gno_disk.proofs.memory.MemDiskDisk.sync.Goals as goal

pub returns-clause-made : goal.returns-clause-made
returns-clause-made c = search rules

pub returns-clause-counted : goal.returns-clause-counted
returns-clause-counted c = search rules

pub returns-clause-fuse : goal.returns-clause-fuse
returns-clause-fuse c = search rules

pub returns-clause-starved : goal.returns-clause-starved
returns-clause-starved c = search rules

pub returns-clause-later : goal.returns-clause-later
returns-clause-later c = search rules

pub returns-clause-unlisted : goal.returns-clause-unlisted
returns-clause-unlisted c = search rules

pub returns-clause-came : goal.returns-clause-came
returns-clause-came c =
    Came-change _ _ _ _ refl (returns-clause-made c) (returns-clause-counted c) (returns-clause-fuse c) (returns-clause-later c) (returns-clause-starved c) (returns-clause-unlisted c)

pub returns-clause-told : goal.returns-clause-told
returns-clause-told c =
    let count = returns-clause-counted c in sync_bytes _ _ count.first _ (returns-clause-made c)

pub returns-clause-size : goal.returns-clause-size
returns-clause-size c =
    let count = returns-clause-counted c in ap length (returns-clause-told c)
