-- Buckets of a series, and their values.
use Rattle.std.specs.Prelude.{ℕ, ◌+◌, ◌*◌, nat_le, nat_lt, ◌&&◌, if◌then◌else◌, List, [], ◌∷◌, map, length, Option, Some, None, ℤ, pos, ◌+ℤ◌, ◌-ℤ◌}
use Rattle.std.specs.Int.{int_max, int_min}
use Rattle.std.specs.List.{filter, fold, list_any}
use Rattle.std.specs.Ordering.{int_eq}
use Rattle.gno_num.specs.Fraction.{Fraction}
use Rattle.archive_policy.specs.declared.kind.Kind.{Kind}
use Rattle.archive_policy.specs.declared.kind.Kind.TheVariants.{Mean, Min, Max, Sum, Count, First, Last, Nunique, RateMean, RateMin, RateMax, RateSum, RateCount, RateFirst, RateLast, RateNunique}
use Rattle.archive_policy.specs.Kinds.{is_rate}
use Rattle.series_model.specs.declared.measure.Measure.{Measure}

-- the members from a bucket's start on, before its end
abbrev pub bucket : ℕ → ℕ → List Measure → List Measure
bucket granularity start series =
    filter (λ m. nat_le start m.at && nat_lt m.at (start + granularity)) series

-- each of these members less the one before it; the first of them comes after `before`
abbrev pub changes_after : Measure → List Measure → List Measure
changes_after before [] = []
changes_after before (m ∷ series) =
    record { at = m.at; value = m.value -ℤ before.value } ∷ changes_after m series

-- each member but the first less the greatest earlier one
abbrev pub changes : List Measure → List Measure
changes [] = []
changes (m ∷ series) = changes_after m series

-- what a kind is taken of: the changes for a rate, else the members
abbrev pub members_for : Kind → List Measure → List Measure
members_for kind series = if is_rate kind then changes series else series

-- the sum of values
abbrev pub total : List ℤ → ℤ
total values = fold ◌+ℤ◌ (pos 0) values

-- the least of values, 0 where there is none
abbrev pub least : List ℤ → ℤ
least [] = pos 0
least (v ∷ values) = fold int_min v values

-- the greatest of values, 0 where there is none
abbrev pub greatest : List ℤ → ℤ
greatest [] = pos 0
greatest (v ∷ values) = fold int_max v values

-- the first of values, 0 where there is none
abbrev pub first : List ℤ → ℤ
first [] = pos 0
first (v ∷ values) = v

-- the last of values, 0 where there is none
abbrev pub last : List ℤ → ℤ
last [] = pos 0
last (v ∷ []) = v
last (v ∷ w ∷ values) = last (w ∷ values)

-- how many different values there are: each is counted where it stands last
abbrev pub distinct_count : List ℤ → ℕ
distinct_count [] = 0
distinct_count (v ∷ values) = (if list_any (λ w. int_eq w v) values then 0 else 1) + distinct_count values

-- a value over 1
abbrev pub whole : ℤ → Fraction
whole value = record { num = value; den = 1 }

-- a number in units of 10^-6, over 1
abbrev pub in_units : ℕ → Fraction
in_units count = whole (pos (count * 1000000))

-- what a kind makes of the values of a bucket, or of the changes, in order of time
abbrev pub fraction_of : Kind → List ℤ → Fraction
fraction_of Mean values = record { num = total values; den = length values }
fraction_of Min values = whole (least values)
fraction_of Max values = whole (greatest values)
fraction_of Sum values = whole (total values)
fraction_of Count values = in_units (length values)
fraction_of First values = whole (first values)
fraction_of Last values = whole (last values)
fraction_of Nunique values = in_units (distinct_count values)
fraction_of RateMean values = record { num = total values; den = length values }
fraction_of RateMin values = whole (least values)
fraction_of RateMax values = whole (greatest values)
fraction_of RateSum values = whole (total values)
fraction_of RateCount values = in_units (length values)
fraction_of RateFirst values = whole (first values)
fraction_of RateLast values = whole (last values)
fraction_of RateNunique values = in_units (distinct_count values)

-- the same; nothing where there is no value
abbrev pub value_of : Kind → List ℤ → Option Fraction
value_of kind [] = None
value_of kind (v ∷ values) = Some (fraction_of kind (v ∷ values))

-- The values of the bucket of this granularity that begins at this time. A rate is taken of the
-- changes of its members in place of their values, and the first member of all has no change.
abbrev pub values_in : Kind → ℕ → List Measure → ℕ → List ℤ
values_in kind granularity series start =
    map (λ m. m.value) (bucket granularity start (members_for kind series))

-- the value of the bucket of this granularity that begins at this time
abbrev pub value_at : Kind → ℕ → List Measure → ℕ → Option Fraction
value_at kind granularity series start = value_of kind (values_in kind granularity series start)
