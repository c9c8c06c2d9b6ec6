-- How much is kept.
use Rattle.std.specs.Prelude.{◌≡◌, ℕ, ◌+◌, ◌-◌, ◌/◌, ◌%◌, ◌<◌, ◌≤◌}
use Rattle.gno_num.specs.Floor.{floor_of}
use Rattle.series_model.specs.Stored.{split_span}

-- how many buckets there are from the one that begins at a time to the one of a later time
abbrev pub bucket_count : ℕ → ℕ → ℕ → ℕ
bucket_count granularity from to = (floor_of to granularity - from) / granularity + 1

-- the split with this key has a time in its stretch
pub record HoldsTime (granularity key at : ℕ) : Type 0 where
  pub multiple : key % split_span granularity ≡ 0
  pub from : key ≤ at
  pub until : at < key + split_span granularity
