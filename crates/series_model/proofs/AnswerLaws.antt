-- An answer has the rows of the kept buckets, and no others.
use Rattle.std.proofs.Common.{◌≡◌, ℕ, ◌%◌, ◌≤◌, Bool, true, false, cond, leb, List, [], ◌∷◌, map, Some, None, refl, sym, ap, subst, ◌∙◌}
use Rattle.std.specs.List.{Contains}
use Rattle.std.specs.List.Sorted.{IsStrictlyIncreasing}
use Rattle.std.proofs.lemmas.Bool.{leb-true, le-leb}
use Rattle.std.proofs.lemmas.Option.{none-some}
use Rattle.archive_policy.specs.declared.kind.Kind.{Kind}
use Rattle.archive_policy.specs.declared.definition.Definition.{Definition}
use Rattle.archive_policy.specs.Kinds.{is_rate}
use Rattle.series_model.specs.declared.answer.Row.{Row}
use Rattle.series_model.specs.declared.measure.Measure.{Measure}
use Rattle.series_model.specs.declared.point.Point.{Point}
use Rattle.series_model.specs.Accepted.{later, latest}
use Rattle.series_model.specs.Answer.{IsAnswer, answer_of, row_of, oldest_point_of}
use Rattle.series_model.specs.Bucket.{bucket, changes, value_at, value_of}
use Rattle.series_model.specs.Points.{points_of, points_from, IsPoint, ArePoints}
use Rattle.series_model.specs.Series.{series_of_measures}
use Rattle.series_model.proofs.ByKey.{one_rising}
use Rattle.series_model.proofs.Members.{Contains-none, map_has, map_from}
use Rattle.series_model.proofs.PointLaws.{at_of, points_exact, points_filtered}
use Rattle.series_model.proofs.Rising.{rising_from_Rises, Rises_from_rising}
use Rattle.series_model.proofs.SeriesLaws.{Rises-series}

-- a series without members has no values
no_value : (kind : Kind) (g start : ℕ) → value_at kind g [] start ≡ None
no_value kind g start = by (is_rate kind)
  where
    by : (b : Bool) → value_of kind (map (λ (m : Measure). m.value) (bucket g start (cond b (changes []) []))) ≡ None
    by true = refl
    by false = refl

-- the times of rows are those of their points
pub times_of_rows : (g : ℕ) (points : List Point) → map (λ (r : Row). r.at) (map (row_of g) points) ≡ map at_of points
times_of_rows g [] = refl
times_of_rows g (p ∷ points) = ap (λ l. p.at ∷ l) (times_of_rows g points)

same_row : (g : ℕ) (p : Point) (row : Row) → row_of g p ≡ row → (p.at ≡ row.at) × (g ≡ row.granularity) × (p.value ≡ row.value)
same_row g p row is =
    (ap (λ (r : Row). r.at) is, ap (λ (r : Row). r.granularity) is, ap (λ (r : Row). r.value) is)

-- what is known of a row by its point
module _ (kind : Kind) (g from : ℕ) (series : List Measure) (points : List Point) (exact : ArePoints (λ p. IsPoint kind g series p × (leb from p.at ≡ true)) points) where
  row_found : (row : Row) → Contains (map (row_of g) points) row → (row.granularity ≡ g) × (row.at % g ≡ 0) × (from ≤ row.at) × (value_at kind g series row.at ≡ Some row.value)
  row_found row c =
      let there = map_from (row_of g) points row c in
      let p = there.0 in
      let parts = same_row g p row there.2 in
      let is = (exact.members p).0 there.1 in
      (sym parts.1, ap (λ at. at % g) (sym parts.0) ∙ is.0.multiple, subst (λ at. from ≤ at) parts.0 (leb-true from p.at is.1), ap (value_at kind g series) (sym parts.0) ∙ is.0.value ∙ ap Some parts.2)

  row_kept : (row : Row) → row.granularity ≡ g → row.at % g ≡ 0 → from ≤ row.at → value_at kind g series row.at ≡ Some row.value → Contains (map (row_of g) points) row
  row_kept row granularity multiple after value =
      let p : Point = record { at = row.at; value = row.value } in
      let there : Contains points p = (exact.members p).1 (record { multiple = multiple; value = value }, le-leb from row.at after) in
      let made : row_of g p ≡ row = ap (λ n. record { at = row.at; granularity = n; value = row.value }) (sym granularity) in
      subst (Contains (map (row_of g) points)) made (map_has (row_of g) points p there)

pub rows_exact : (kind : Kind) (d : Definition) (accepted : List Measure) → IsAnswer kind d accepted (answer_of kind d accepted)
rows_exact kind d [] = record {
  rising = rising_from_Rises [] tt;
  members = λ row. (λ c. absurd (Contains-none row c), λ r. absurd (none-some row.value (sym (no_value kind d.granularity row.at) ∙ r.value)));
}
rows_exact kind d (m ∷ measures) =
    let g = d.granularity in
    let last : ℕ = later m.at (latest measures) in
    let from = oldest_point_of last d in
    let series = series_of_measures (m ∷ measures) in
    let test : Point → Bool = λ p. leb from p.at in
    let points = points_from from (points_of kind g series) in
    let exact : ArePoints (λ p. IsPoint kind g series p × (leb from p.at ≡ true)) points =
    points_filtered (IsPoint kind g series) test (points_of kind g series) (points_exact kind g series (Rises-series (m ∷ measures))) in
    record {
      rising = subst IsStrictlyIncreasing (sym (times_of_rows g points)) exact.rising;
      members = λ row. (
        λ c. let r = row_found kind g from series points exact row c in record { granularity = r.0; multiple = r.1; kept = r.2; value = r.3 },
        λ r. row_kept kind g from series points exact row r.granularity r.multiple r.kept r.value,
      );
    }

-- there is one answer
pub answer_one : (kind : Kind) (d : Definition) (accepted : List Measure) (xs ys : List Row) → IsAnswer kind d accepted xs → IsAnswer kind d accepted ys → xs ≡ ys
answer_one kind d accepted xs ys h k =
    let at : Row → ℕ = λ r. r.at in
    one_rising at xs ys (Rises_from_rising (map at xs) h.rising) (Rises_from_rising (map at ys) k.rising) (λ r c. (k.members r).1 ((h.members r).0 c)) (λ r c. (h.members r).1 ((k.members r).0 c))
