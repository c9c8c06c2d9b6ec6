-- What a turn and a cut leave of a tail.
use Rattle.std.specs.Prelude.{ℕ, min, nat_le, if◌then◌else◌, Bool, false, List, [], ◌∷◌, Option, Some, None}
use Rattle.std.specs.List.{filter, fold}
use Rattle.archive_policy.specs.Policies.{ArchivePolicy}
use Rattle.series_model.specs.declared.measure.Measure.{Measure}
use Rattle.series_model.specs.Accepted.{is_within}
use Rattle.series_model.specs.Series.{put, series_of_measures}
use Rattle.series_model.specs.Tail.{Tail, window_by, last_onto, last_time, members_from, members_before, members_of}

-- the earlier of two times, where there are such
abbrev pub earlier : Option ℕ → Option ℕ → Option ℕ
earlier None other = other
earlier (Some at) None = Some at
earlier (Some at) (Some other) = Some (min at other)

-- the least timestamp, where there is a measure
abbrev pub earliest : List Measure → Option ℕ
earliest [] = None
earliest (m ∷ measures) = earlier (Some m.at) (earliest measures)

-- the first of a series isn't after the anchor
abbrev pub reaches : Option Measure → List Measure → Bool
reaches None series = false
reaches (Some anchor) [] = false
reaches (Some anchor) (m ∷ series) = nat_le m.at anchor.at

-- a tail made of points and an anchor
abbrev pub tail_with : List Measure → Option Measure → Tail
tail_with points anchor = record { points = points; anchor = anchor; last = last_time points }

-- A tail with a series put in its place: where times are equal, its measures win. Where one isn't
-- after the anchor, the anchor first becomes a point.
abbrev pub with_series : Tail → List Measure → Tail
with_series tail series =
    if reaches tail.anchor series then tail_with (fold put (members_of tail) series) None
    else tail_with (fold put tail.points series) tail.anchor

-- the measures of a batch that its turn accepts, by the window of a tail
abbrev pub taken : ArchivePolicy → Tail → List Measure → List Measure
taken policy tail batch = filter (is_within (window_by policy tail.last)) batch

-- a tail after a batch's turn, without truncation
abbrev pub after_batch : ArchivePolicy → Tail → List Measure → Tail
after_batch policy tail batch = with_series tail (series_of_measures (taken policy tail batch))

-- a tail cut at a time: its points from there on, and the nearest before them
abbrev pub cut_at : ℕ → Tail → Tail
cut_at from tail = record {
  points = members_from from tail.points;
  anchor = last_onto tail.anchor (members_before from tail.points);
  last = tail.last;
}
