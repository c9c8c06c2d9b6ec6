-- What is kept of a series: its members from some time on, and the one before them.
use Rattle.std.specs.Prelude.{ℕ, nat_le, nat_lt, List, [], ◌∷◌, ◌++◌, Option, Some, None}
use Rattle.std.specs.Option.{option_map, option_to_list, unwrap_or}
use Rattle.std.specs.List.{filter}
use Rattle.archive_policy.specs.Policies.{ArchivePolicy, largest_of}
use Rattle.series_model.specs.declared.measure.Measure.{Measure}
use Rattle.series_model.specs.Accepted.{latest, window, is_within, accepted_onto}
use Rattle.series_model.specs.Series.{series_of_measures}

-- ---- acceptance by a policy

-- the window that stands after these accepted measures, where there is one
abbrev pub window_by : ArchivePolicy → Option ℕ → Option ℕ
window_by policy last = window (largest_of policy.definitions) policy.back_window last

-- the time from which on measures are accepted: the window, or the epoch where there is none
abbrev pub accepts_from : ArchivePolicy → Option ℕ → ℕ
accepts_from policy last = unwrap_or (window_by policy last) 0

-- the measures of a batch that its turn accepts, after these were accepted
abbrev pub newly_accepted : ArchivePolicy → List Measure → List Measure → List Measure
newly_accepted policy so_far batch = filter (is_within (window_by policy (latest so_far))) batch

-- the measures that are accepted after each of these batches had its turn behind those so far
abbrev pub accepted_after : ArchivePolicy → List Measure → List (List Measure) → List Measure
accepted_after policy so_far batches =
    accepted_onto (largest_of policy.definitions) policy.back_window so_far batches

-- the measures that a policy accepts of these batches, in the order of acceptance
abbrev pub accepted_under : ArchivePolicy → List (List Measure) → List Measure
accepted_under policy batches = accepted_after policy [] batches

-- ---- the tail of a series

-- the last of these measures, the given one where there is none
abbrev pub last_onto : Option Measure → List Measure → Option Measure
last_onto before [] = before
last_onto before (m ∷ measures) = last_onto (Some m) measures

-- the time of the last of these, where there is one
abbrev pub last_time : List Measure → Option ℕ
last_time measures = option_map (λ m. m.at) (last_onto None measures)

-- the members that aren't before a time
abbrev pub members_from : ℕ → List Measure → List Measure
members_from from series = filter (λ m. nat_le from m.at) series

-- the members before a time
abbrev pub members_before : ℕ → List Measure → List Measure
members_before from series = filter (λ m. nat_lt m.at from) series

-- the members of a series from some time on, the greatest earlier one (the anchor), where there is
-- one, and the greatest timestamp of all, where there is one
pub record Tail : Type 0 where
  pub points : List Measure
  pub anchor : Option Measure
  pub last : Option ℕ

-- the tail from a time on, by all measures that were accepted
abbrev pub tail_of : ℕ → List Measure → Tail
tail_of from accepted = record {
  points = members_from from (series_of_measures accepted);
  anchor = last_onto None (members_before from (series_of_measures accepted));
  last = latest accepted;
}

-- the members that a tail still has, the anchor among them
abbrev pub members_of : Tail → List Measure
members_of tail = option_to_list tail.anchor ++ tail.points

-- what is kept of a series: its tail from the window on
abbrev pub kept_window : ArchivePolicy → List Measure → Tail
kept_window policy accepted = tail_of (accepts_from policy (latest accepted)) accepted
