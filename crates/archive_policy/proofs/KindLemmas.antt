-- Kinds, their places and their names.
use Rattle.std.proofs.lemmas.List.{length-map, get_or-map}
use Rattle.std.proofs.lemmas.List.Kept.{AllPairs-filter}
use Rattle.std.proofs.Common.{◌≡◌, ◌↔◌, ℕ, zero, suc, ◌+◌, ◌<◌, Bool, true, List, [], ◌∷◌, map, length, get_or, Option, Some, refl, sym, ap, ◌∙◌, arith}
use Rattle.std.specs.List.{AllPairs, Contains, slice_get, find, filter}
use Rattle.std.specs.List.Sorted.{IsStrictlyIncreasing}
use Rattle.std.specs.Cmp.Lexicographic.{pointwise}
use Rattle.std.specs.Prelude.{nat_eq}
use Rattle.std.proofs.lemmas.Bool.{eqb-true, eq-eqb}
use Rattle.std.proofs.lemmas.List.Folds.{Any-from_list_any, list_any-from_Any}
use Rattle.std.proofs.lemmas.Option.{same_Some, get_or_from_slice_get}
use Rattle.archive_policy.specs.declared.kind.Kind.{Kind}
use Rattle.archive_policy.specs.declared.kind.Kind.TheVariants.{Mean, Min, Max, Sum, Count, First, Last, Nunique, RateMean, RateMin, RateMax, RateSum, RateCount, RateFirst, RateLast, RateNunique}
use Rattle.archive_policy.specs.Kinds.{all_kinds, kind_index, kind_name, is_among}
use Rattle.archive_policy.proofs.Lists.{kept, kept_from}

-- the kind at a kind's place is that kind
pub at_place : (kind : Kind) → slice_get all_kinds (kind_index kind) ≡ Some kind
at_place Mean = refl
at_place Min = refl
at_place Max = refl
at_place Sum = refl
at_place Count = refl
at_place First = refl
at_place Last = refl
at_place Nunique = refl
at_place RateMean = refl
at_place RateMin = refl
at_place RateMax = refl
at_place RateSum = refl
at_place RateCount = refl
at_place RateFirst = refl
at_place RateLast = refl
at_place RateNunique = refl

-- no two kinds have one place
pub same_place : (a b : Kind) → kind_index a ≡ kind_index b → a ≡ b
same_place a b same = same_Some a b (sym (at_place a) ∙ ap (slice_get all_kinds) same ∙ at_place b)

-- there are sixteen places
pub place_below : (kind : Kind) → kind_index kind < 16
place_below Mean = omega arith
place_below Min = omega arith
place_below Max = omega arith
place_below Sum = omega arith
place_below Count = omega arith
place_below First = omega arith
place_below Last = omega arith
place_below Nunique = omega arith
place_below RateMean = omega arith
place_below RateMin = omega arith
place_below RateMax = omega arith
place_below RateSum = omega arith
place_below RateCount = omega arith
place_below RateFirst = omega arith
place_below RateLast = omega arith
place_below RateNunique = omega arith

-- the table has each kind
pub in_table : (kind : Kind) → Contains all_kinds kind
in_table kind = (kind_index kind, place_below kind, get_or_from_slice_get all_kinds (kind_index kind) kind kind (at_place kind))

-- kinds that stand at the places from n on
abbrev AreFrom : ℕ → List Kind → Type 0
AreFrom n [] = Unit {0}
AreFrom n (kind ∷ kinds) = (kind_index kind ≡ n) × AreFrom (n + 1) kinds

table_from : AreFrom 0 all_kinds
table_from = (refl, (refl, (refl, (refl, (refl, (refl, (refl, (refl, (refl, (refl, (refl, (refl, (refl, (refl, (refl, (refl, tt))))))))))))))))

place_from : (n : ℕ) (kinds : List Kind) (i : ℕ) (kind : Kind) → AreFrom n kinds → i < length kinds → kind_index (get_or kinds i kind) ≡ n + i
place_from n [] i kind from below = absurd (omega arith)
place_from n (k ∷ kinds) zero kind from below = omega (arith, from.0)
place_from n (k ∷ kinds) (suc i) kind from below = omega (arith, place_from (n + 1) kinds i kind from.1 (omega arith))

-- the place of what stands at a place
pub place_at : (i : ℕ) (kind : Kind) → i < 16 → kind_index (get_or all_kinds i kind) ≡ i
place_at i kind below = omega (arith, place_from 0 all_kinds i kind table_from below)

-- a kind stands at its place and no other
pub only_place : (i : ℕ) (kind : Kind) → i < 16 → slice_get all_kinds i ≡ Some kind → i ≡ kind_index kind
only_place i kind below is =
    sym (place_at i kind below) ∙ ap kind_index (get_or_from_slice_get all_kinds i kind kind is)

-- the kinds of the table that pass a test stand in table order
pub kept_in_order : (p : Kind → Bool) → IsStrictlyIncreasing (map kind_index (filter p all_kinds))
kept_in_order p k below =
    let R : Kind → Kind → Type 0 = λ a b. kind_index a < kind_index b in
    let pairs : AllPairs R all_kinds = λ i j d less inside. omega (arith, less, inside, place_at i d (omega (arith, less, inside)), place_at j d inside) in
    let ks = filter p all_kinds in
    let long : length (map kind_index ks) ≡ length ks = length-map ks kind_index in
    omega (
      arith,
      AllPairs-filter R p all_kinds pairs k (k + 1) Mean (omega arith) (omega (arith, below, long)),
      get_or-map kind_index ks k Mean 0 (omega (arith, below, long)),
      get_or-map kind_index ks (k + 1) Mean 0 (omega (arith, below, long)),
    )

-- ---- names

-- the kind with a name, as the table is searched for it
abbrev named : List ℕ → Option Kind
named name = find (λ kind. pointwise nat_eq (kind_name kind) name) all_kinds

named_own : (kind : Kind) → named (kind_name kind) ≡ Some kind
named_own Mean = refl
named_own Min = refl
named_own Max = refl
named_own Sum = refl
named_own Count = refl
named_own First = refl
named_own Last = refl
named_own Nunique = refl
named_own RateMean = refl
named_own RateMin = refl
named_own RateMax = refl
named_own RateSum = refl
named_own RateCount = refl
named_own RateFirst = refl
named_own RateLast = refl
named_own RateNunique = refl

-- no two kinds have one name
pub same_name : (a b : Kind) → kind_name a ≡ kind_name b → a ≡ b
same_name a b same = same_Some a b (sym (named_own a) ∙ ap named same ∙ named_own b)

-- ---- kinds among others

pub is_among-true : (kinds : List Kind) (kind : Kind) → is_among kinds kind ≡ true → Contains kinds kind
is_among-true kinds kind among =
    let any = Any-from_list_any (λ k. nat_eq (kind_index k) (kind_index kind)) kinds among in
    let same : any.1 ≡ kind = same_place any.1 kind (eqb-true (kind_index any.1) (kind_index kind) any.4) in
    (any.0, any.2, ap (get_or kinds any.0) (sym same) ∙ any.3 ∙ same)

pub is_among-from : (kinds : List Kind) (kind : Kind) → Contains kinds kind → is_among kinds kind ≡ true
is_among-from kinds kind c =
    list_any-from_Any (λ k. nat_eq (kind_index k) (kind_index kind)) kinds (c.0, kind, c.1, c.2, eq-eqb (kind_index kind) (kind_index kind) refl)

-- the kinds that are kept are those that are given
pub kept_kinds : (given : List Kind) (kind : Kind) → Contains (filter (is_among given) all_kinds) kind ↔ Contains given kind
kept_kinds given kind =
    (λ c. is_among-true given kind ((kept_from (is_among given) all_kinds kind c).1), λ c. kept (is_among given) all_kinds kind (in_table kind) (is_among-from given kind c))
