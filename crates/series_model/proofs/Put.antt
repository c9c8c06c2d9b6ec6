-- A map by time keeps the series.
use Rattle.std.proofs.Common.{◌≡◌, ℕ, ◌+◌, ◌<◌, Bool, true, false, cond, ltb, eqb, List, [], ◌∷◌, map, take, length, get_or, refl, sym, ap, ◌∙◌}
use Rattle.std.specs.Ordering.{nat_cmp, match_ordering}
use Rattle.std.specs.declared.cmp.Ordering.TheVariants.{Less, Equal, Greater}
use Rattle.std.specs.BTreeMap.{insert_entry}
use Rattle.std.proofs.lemmas.Bool.{eqb-true}
use Rattle.std.proofs.lemmas.List.Sums.{fold_more}
use Rattle.series_model.specs.declared.measure.Measure.{Measure}
use Rattle.series_model.specs.Series.{put, series_of_measures}

-- a measure under its time
abbrev pub keyed : Measure → ℕ × Measure
keyed m = (m.at, m)

-- an entry put in its place is a measure put in its place
pub keyed-put : (series : List Measure) (m : Measure) → insert_entry nat_cmp (map keyed series) m.at m ≡ map keyed (put series m)
keyed-put [] m = refl
keyed-put (x ∷ series) m = by (ltb m.at x.at) (eqb m.at x.at) (eqb-true m.at x.at) (keyed-put series m)
  where
    by : (lower same : Bool) → (same ≡ true → m.at ≡ x.at) → insert_entry nat_cmp (map keyed series) m.at m ≡ map keyed (put series m) → match_ordering (cond lower Less (cond same Equal Greater)) ((m.at, m) ∷ keyed x ∷ map keyed series) ((x.at, m) ∷ map keyed series) (keyed x ∷ insert_entry nat_cmp (map keyed series) m.at m) ≡ map keyed (cond lower (m ∷ x ∷ series) (cond same (m ∷ series) (x ∷ put series m)))
    by true same h rest = refl
    by false true h rest = ap (λ at. (at, m) ∷ map keyed series) (sym (h refl))
    by false false h rest = ap (λ entries. keyed x ∷ entries) rest

-- a loop's step
pub keyed-more : (xs : List Measure) (i : ℕ) (m : Measure) (before after : List (ℕ × Measure)) → i < length xs → m ≡ get_or xs i m → before ≡ map keyed (series_of_measures (take i xs)) → after ≡ insert_entry nat_cmp before m.at m → after ≡ map keyed (series_of_measures (take (i + 1) xs))
keyed-more xs i m before after below is so_far inserted =
    inserted ∙ ap (λ es. insert_entry nat_cmp es m.at m) so_far
    ∙ keyed-put (series_of_measures (take i xs)) m
    ∙ ap (λ x. map keyed (put (series_of_measures (take i xs)) x)) is
    ∙ ap (map keyed) (sym (fold_more put [] xs i m below))

-- the measures without their keys
pub values-keyed : (series : List Measure) → map (λ (e : ℕ × Measure). e.1) (map keyed series) ≡ series
values-keyed [] = refl
values-keyed (x ∷ series) = ap (λ rest. x ∷ rest) (values-keyed series)
