-- What contracts see of the adapters over std's readers and writers.
use Rattle.std.specs.Prelude.{ℕ, List, Option}

-- an adapter: the bytes that its reader has left, or that its writer holds, where std tells them, and
-- how many calls failed
pub record StreamState : Type 0 where
  pub known : Option (List ℕ)
  pub faults : ℕ
