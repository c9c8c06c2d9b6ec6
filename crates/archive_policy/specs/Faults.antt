-- The faults of a policy that is asked for.
use Rattle.std.specs.Prelude.{◌≡◌, ◌≢◌, ℕ, ◌*◌, ◌%◌, ◌^◌, ◌<◌, ◌≤◌, ◌==◌, nat_lt, ◌⊎◌, if◌then◌else◌, List, [], map, length, slice_index, All, Any, Option, Some, None}
use Rattle.std.specs.List.{list_any, Contains}
use Rattle.std.specs.Option.{option_or, option_map}
use Rattle.archive_policy.specs.declared.kind.Kind.{Kind}
use Rattle.archive_policy.specs.declared.wanted.Wanted.{Wanted}
use Rattle.archive_policy.specs.declared.fault.PolicyFault.{PolicyFault}
use Rattle.archive_policy.specs.declared.fault.PolicyFault.TheVariants.{BackWindow, NoDefinition, TooMany, TooFew, ZeroPoints, SpanMismatch, GranularityRange, PointsRange, SameGranularity, NotDividing, NoAggregation, Memory}
use Rattle.archive_policy.specs.Asked.{given_count, granularity_of, points_of, has_too_few, has_no_points, has_mismatch, has_odd_granularity, has_many_points, has_same, largest, not_dividing}

-- ---- which fault is answered

-- what is wrong with the back window and the number of definitions
abbrev pub fault_of_counts : ℕ → ℕ → Option PolicyFault
fault_of_counts back_window count =
    if nat_lt 1000 back_window then Some BackWindow
    else (if count == 0 then Some NoDefinition
    else (if nat_lt 8 count then Some TooMany
    else None))

-- what is wrong with a definition by itself, each fault over the whole list
abbrev pub fault_of_each : List Wanted → Option PolicyFault
fault_of_each wanted =
    if list_any has_too_few wanted then Some TooFew
    else (if list_any has_no_points wanted then Some ZeroPoints
    else (if list_any has_mismatch wanted then Some SpanMismatch
    else (if list_any has_odd_granularity wanted then Some GranularityRange
    else (if list_any has_many_points wanted then Some PointsRange
    else None))))

-- what is wrong with the granularities among each other
abbrev pub fault_of_granularities : List ℕ → Option PolicyFault
fault_of_granularities gs =
    if has_same gs then Some SameGranularity
    else option_map (λ fine. NotDividing fine (largest gs)) (not_dividing gs)

-- what is wrong with the kinds
abbrev pub fault_of_kinds : List Kind → Option PolicyFault
fault_of_kinds kinds = if length kinds == 0 then Some NoAggregation else None

-- the first fault of a policy that is asked for, where there is one
unfoldable pub first_fault : ℕ → List Wanted → List Kind → Option PolicyFault
first_fault back_window wanted kinds =
    option_or (option_or (option_or (fault_of_counts back_window (length wanted)) (fault_of_each wanted)) (fault_of_granularities (map granularity_of wanted))) (fault_of_kinds kinds)

-- ---- when a fault holds, whatever else does

-- points and timespan are given, and the timespan isn't the granularity times the points
pub record IsMismatch (w : Wanted) : Type 0 where
  pub points : ℕ
  pub timespan : ℕ
  pub points_given : w.points ≡ Some points
  pub timespan_given : w.timespan ≡ Some timespan
  pub differs : granularity_of w * points ≢ timespan

-- `coarse` is the largest granularity, and `fine` the least that doesn't divide it
pub record IsNotDividing (granularities : List ℕ) (fine coarse : ℕ) : Type 0 where
  pub coarse_is_one : Contains granularities coarse
  pub largest : All (λ g. g ≤ coarse) granularities
  pub fine_is_one : Contains granularities fine
  pub leaves_rest : coarse % fine ≢ 0
  pub least : All (λ g. coarse % g ≢ 0 → fine ≤ g) granularities

-- two places have one granularity
abbrev pub HasSame : List ℕ → Type 0
HasSame gs = (i : ℕ) × (j : ℕ) × (i < j) × (j < length gs) × (slice_index gs i ≡ slice_index gs j)

-- the fault holds of what is asked for, over the whole list
abbrev pub Holds : ℕ → List Wanted → List Kind → PolicyFault → Type 0
Holds back_window wanted kinds BackWindow = 1000 < back_window
Holds back_window wanted kinds NoDefinition = wanted ≡ []
Holds back_window wanted kinds TooMany = 8 < length wanted
Holds back_window wanted kinds TooFew = Any (λ w. given_count w < 2) wanted
Holds back_window wanted kinds ZeroPoints = Any (λ w. points_of w ≡ 0) wanted
Holds back_window wanted kinds SpanMismatch = Any IsMismatch wanted
Holds back_window wanted kinds GranularityRange =
    Any (λ w. (granularity_of w < 10 ^ 6) ⊎ (2592000 * 10 ^ 9 < granularity_of w)) wanted
Holds back_window wanted kinds PointsRange =
    Any (λ w. (1000000 < points_of w) ⊎ (9 * 10 ^ 18 < granularity_of w * points_of w)) wanted
Holds back_window wanted kinds SameGranularity = HasSame (map granularity_of wanted)
Holds back_window wanted kinds (NotDividing fine coarse) = IsNotDividing (map granularity_of wanted) fine coarse
Holds back_window wanted kinds NoAggregation = kinds ≡ []
Holds back_window wanted kinds Memory = ⊥

-- the place of a fault in the order in which they are told
abbrev pub fault_place : PolicyFault → ℕ
fault_place BackWindow = 0
fault_place NoDefinition = 1
fault_place TooMany = 2
fault_place TooFew = 3
fault_place ZeroPoints = 4
fault_place SpanMismatch = 5
fault_place GranularityRange = 6
fault_place PointsRange = 7
fault_place SameGranularity = 8
fault_place (NotDividing fine coarse) = 9
fault_place NoAggregation = 10
fault_place Memory = 11

-- the fault holds, and none that is told before it does
pub record IsFirst (back_window : ℕ) (wanted : List Wanted) (kinds : List Kind) (fault : PolicyFault) : Type 0 where
  pub holds : Holds back_window wanted kinds fault
  pub first : (earlier : PolicyFault) → fault_place earlier < fault_place fault → ¬ Holds back_window wanted kinds earlier
