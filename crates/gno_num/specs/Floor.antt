-- Multiples of a span.
use Rattle.std.specs.Prelude.{ℕ, ◌*◌, ◌/◌}

-- the greatest multiple of a span not above a time
abbrev pub floor_of : ℕ → ℕ → ℕ
floor_of at span = at / span * span

-- where a split of 3,600 groups begins
abbrev pub split_key_of : ℕ → ℕ → ℕ
split_key_of at granularity = floor_of at (3600 * granularity)
