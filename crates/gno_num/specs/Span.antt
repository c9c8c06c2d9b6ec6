-- What a span is.
use Rattle.std.specs.Prelude.{ℕ, ◌*◌, ◌≤◌, ◌^◌}

-- nanoseconds, from a millisecond on
pub record IsSpan (nanos : ℕ) : Type 0 where
  pub shortest : 10 ^ 6 ≤ nanos
  pub longest : nanos ≤ 9 * 10 ^ 18
