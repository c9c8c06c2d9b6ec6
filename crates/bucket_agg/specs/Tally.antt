-- What is kept of the values of a bucket.
use Rattle.std.specs.Prelude.{ℕ, ◌*◌, ◌<◌, ◌≤◌, ◌^◌, List, length, ℤ, unsigned_abs}
use Rattle.series_model.specs.Bucket.{total, least, greatest, first, last, distinct_count}

-- how many values there are, their sum, the least, the greatest, the first and the last of them, 0
-- where there is none, and how many different ones there are
pub record Summary : Type 0 where
  pub count : ℕ
  pub total : ℤ
  pub least : ℤ
  pub greatest : ℤ
  pub first : ℤ
  pub last : ℤ
  pub distinct : ℕ

-- the summary of values, in order of time
abbrev pub summary_of : List ℤ → Summary
summary_of values = record {
  count = length values;
  total = total values;
  least = least values;
  greatest = greatest values;
  first = first values;
  last = last values;
  distinct = distinct_count values;
}

-- the parts are small enough for fractions
pub record IsSmall (s : Summary) : Type 0 where
  pub count : s.count < 2 ^ 63
  pub total : unsigned_abs s.total ≤ s.count * (2 * 10 ^ 18)
  pub least : unsigned_abs s.least ≤ 2 * 10 ^ 18
  pub greatest : unsigned_abs s.greatest ≤ 2 * 10 ^ 18
  pub first : unsigned_abs s.first ≤ 2 * 10 ^ 18
  pub last : unsigned_abs s.last ≤ 2 * 10 ^ 18
  pub distinct : s.distinct ≤ s.count
