-- What contracts see of the objects in memory.
use Rattle.std.specs.Prelude.{ℕ, ◌+◌, ◌-◌, ◌^◌, min, List}

-- one more, up to the last value of a `u64`
abbrev pub one_more : ℕ → ℕ
one_more n = min (n + 1) (2 ^ 64 - 1)

-- a source: the bytes that it has left, how many calls it got, the numbers of the calls that are to
-- fail, and how many failed
pub record SourceState : Type 0 where
  pub left : List ℕ
  pub calls : ℕ
  pub planned : List ℕ
  pub faults : ℕ

-- a sink: the bytes that it has taken, how many it can take without more memory in all, how many
-- calls it got, the numbers of the calls that are to fail, and how many failed
pub record SinkState : Type 0 where
  pub taken : List ℕ
  pub capacity : ℕ
  pub calls : ℕ
  pub planned : List ℕ
  pub faults : ℕ
