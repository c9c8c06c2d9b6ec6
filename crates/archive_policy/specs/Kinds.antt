-- The table of the kinds of aggregation.
use Rattle.std.specs.Prelude.{ℕ, ◌==◌, nat_le, Bool, List, [], ◌∷◌, map, codes}
use Rattle.std.specs.List.{filter, list_any}
use Rattle.std.specs.List.Sorted.{IsStrictlyIncreasing}
use Rattle.archive_policy.specs.declared.kind.Kind.{Kind}
use Rattle.archive_policy.specs.declared.kind.Kind.TheVariants.{Mean, Min, Max, Sum, Count, First, Last, Nunique, RateMean, RateMin, RateMax, RateSum, RateCount, RateFirst, RateLast, RateNunique}

-- the kinds in table order
abbrev pub all_kinds : List Kind
all_kinds =
    Mean ∷ Min ∷ Max ∷ Sum ∷ Count ∷ First ∷ Last ∷ Nunique ∷ RateMean ∷ RateMin ∷ RateMax ∷ RateSum ∷ RateCount ∷ RateFirst ∷ RateLast ∷ RateNunique ∷ []

-- the name of a kind
abbrev pub kind_name : Kind → List ℕ
kind_name Mean = codes "mean"
kind_name Min = codes "min"
kind_name Max = codes "max"
kind_name Sum = codes "sum"
kind_name Count = codes "count"
kind_name First = codes "first"
kind_name Last = codes "last"
kind_name Nunique = codes "nunique"
kind_name RateMean = codes "rate:mean"
kind_name RateMin = codes "rate:min"
kind_name RateMax = codes "rate:max"
kind_name RateSum = codes "rate:sum"
kind_name RateCount = codes "rate:count"
kind_name RateFirst = codes "rate:first"
kind_name RateLast = codes "rate:last"
kind_name RateNunique = codes "rate:nunique"

-- the place of a kind in the table, counted from 0
abbrev pub kind_index : Kind → ℕ
kind_index Mean = 0
kind_index Min = 1
kind_index Max = 2
kind_index Sum = 3
kind_index Count = 4
kind_index First = 5
kind_index Last = 6
kind_index Nunique = 7
kind_index RateMean = 8
kind_index RateMin = 9
kind_index RateMax = 10
kind_index RateSum = 11
kind_index RateCount = 12
kind_index RateFirst = 13
kind_index RateLast = 14
kind_index RateNunique = 15

-- the kinds behind the first eight are rates: they are taken of the changes in place of the values
abbrev pub is_rate : Kind → Bool
is_rate kind = nat_le 8 (kind_index kind)

-- a kind is one of these
abbrev pub is_among : List Kind → Kind → Bool
is_among kinds kind = list_any (λ k. kind_index k == kind_index kind) kinds

-- the kinds of a list by table order, without repeats
abbrev pub kinds_of : List Kind → List Kind
kinds_of kinds = filter (is_among kinds) all_kinds

-- kinds stand in table order, without repeats
abbrev pub AreInTableOrder : List Kind → Type 0
AreInTableOrder kinds = IsStrictlyIncreasing (map kind_index kinds)
