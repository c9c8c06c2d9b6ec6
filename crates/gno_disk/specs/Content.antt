-- What a disk in memory holds, and how it came to.
use Rattle.std.specs.Prelude.{ℕ, List}
use Rattle.gno_disk.specs.Memory.{Step}

-- the bytes at first, and the calls made since
pub record ContentView : Type 0 where
  pub first : List ℕ
  pub steps : List Step
