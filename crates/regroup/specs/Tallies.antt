-- The tallies of buckets.
use Rattle.std.specs.Prelude.{ℕ, List, ◌++◌, map, Option, Some, None}
use Rattle.std.specs.Option.{option_to_list}
use Rattle.bucket_agg.specs.Tally.{summary_of}
use Rattle.series_model.specs.declared.measure.Measure.{Measure}
use Rattle.series_model.specs.Bucket.{bucket, changes, changes_after}
use Rattle.series_model.specs.Points.{starts_of}
use Rattle.regroup.specs.declared.tallies.BucketTally.{BucketTally}

-- the changes of members behind another one, where there is one
abbrev pub changes_behind : Option Measure → List Measure → List Measure
changes_behind None members = changes members
changes_behind (Some before) members = changes_after before members

-- the tally of the bucket of these members that begins at a time: of its values and of its changes
abbrev pub bucket_tally : ℕ → List Measure → ℕ → BucketTally
bucket_tally granularity members start = record {
  start = start;
  values = summary_of (map (λ m. m.value) (bucket granularity start members));
  changes = summary_of (map (λ m. m.value) (bucket granularity start (changes members)));
}

-- the tallies of all buckets that these members are in, behind another member where there is one
abbrev pub tallies_behind : ℕ → Option Measure → List Measure → List BucketTally
tallies_behind granularity before members =
    map (bucket_tally granularity (option_to_list before ++ members)) (starts_of granularity (map (λ m. m.at) members))
