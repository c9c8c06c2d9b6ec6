-- The lists of points of definitions and kinds.
use Rattle.std.proofs.Common.{◌≡◌, ℕ, zero, suc, ◌+◌, ◌*◌, ◌<◌, true, leb, List, [], ◌∷◌, ◌++◌, map, length, get_or, Option, Some, None, refl, ap, ◌∙◌, arith}
use Rattle.std.specs.List.{Contains, flat_map, slice_get}
use Rattle.std.proofs.Math.Nat.{suc-mul}
use Rattle.std.proofs.lemmas.Bool.{leb-true}
use Rattle.std.proofs.lemmas.List.{get_or-append-add, get_or-map, get_or_append_left, length-append, length-map}
use Rattle.std.proofs.lemmas.List.Elements.{Contains-get_or}
use Rattle.std.proofs.lemmas.Option.{same_Some, none-some, get_or_from_slice_get, slice_get_within}
use Rattle.gno_num.specs.Floor.{floor_of}
use Rattle.archive_policy.specs.declared.definition.Definition.{Definition}
use Rattle.archive_policy.specs.declared.kind.Kind.{Kind}
use Rattle.bound_series.specs.Jobs.{AreNew, regrouped}
use Rattle.bound_series.proofs.Preparing.{none_new}
use Rattle.series_model.specs.declared.measure.Measure.{Measure}
use Rattle.series_model.specs.declared.point.Point.{Point}
use Rattle.series_model.specs.Points.{points_of, points_from}
use Rattle.series_model.proofs.ByKey.{Rises-filter, filter_kept}
use Rattle.series_model.proofs.PointLaws.{at_of, Rises-points, point_found}
use Rattle.series_model.proofs.Rising.{Rises, rising_from_Rises, times}

-- ---- the places of lists

module _ (f : Definition → Kind → List Point) (kinds : List Kind) where
  abbrev lists : List Definition → List (List Point)
  lists ds = flat_map (λ d. map (f d) kinds) ds

  pub lists_count : (ds : List Definition) → length (lists ds) ≡ length ds * length kinds
  lists_count [] = omega arith
  lists_count (d ∷ ds) =
      length-append (map (f d) kinds) (lists ds) ∙ ap (λ n. n + length (lists ds)) (length-map kinds (f d))
      ∙ ap (λ n. length kinds + n) (lists_count ds) ∙ omega (arith, suc-mul (length ds) (length kinds))

  pub list_there : (ds : List Definition) (i k : ℕ) (d : Definition) (kind : Kind) → slice_get ds i ≡ Some d → slice_get kinds k ≡ Some kind → get_or (lists ds) (i * length kinds + k) [] ≡ f d kind
  list_there [] i k d kind is_d is_kind = absurd (none-some d is_d)
  list_there (x ∷ ds) zero k d kind is_d is_kind =
      let inside : k < length kinds = slice_get_within kinds k kind is_kind in
      ap (λ n. get_or (map (f x) kinds ++ lists ds) n []) (let at : 0 * length kinds + k ≡ k = omega arith in at)
      ∙ get_or_append_left (map (f x) kinds) (lists ds) [] k (omega (arith, inside, length-map kinds (f x)))
      ∙ get_or-map (f x) kinds k kind [] inside
      ∙ ap (f x) (get_or_from_slice_get kinds k kind kind is_kind)
      ∙ ap (λ y. f y kind) (same_Some x d is_d)
  list_there (x ∷ ds) (suc i) k d kind is_d is_kind =
      let at : suc i * length kinds + k ≡ length (map (f x) kinds) + (i * length kinds + k) = omega (arith, suc-mul i (length kinds), length-map kinds (f x)) in
      ap (λ n. get_or (map (f x) kinds ++ lists ds) n []) at
      ∙ get_or-append-add (map (f x) kinds) (lists ds) (i * length kinds + k) []
      ∙ list_there ds i k d kind is_d is_kind

-- ---- points from the bucket of a time on are new

module _ (kind : Kind) (g f : ℕ) (members : List Measure) (rises : Rises (times members)) where
  abbrev all : List Point
  all = points_of kind g members

  abbrev points : List Point
  points = points_from (floor_of f g) all

  kept : (k : ℕ) (d : Point) → k < length points → Contains all (get_or points k d) × (leb (floor_of f g) (get_or points k d).at ≡ true)
  kept k d below =
      filter_kept (λ (p : Point). leb (floor_of f g) p.at) all (get_or points k d) (Contains-get_or points k d below)

  regrouped_new : AreNew g (Some f) points
  regrouped_new = record {
    rising = rising_from_Rises (map at_of points) (Rises-filter at_of (λ (p : Point). leb (floor_of f g) p.at) all (Rises-points kind g members rises));
    multiples = λ k d below. (point_found kind g members (get_or points k d) (kept k d below).0).multiple;
    late = λ first is k d below. omega (arith, ap (λ t. floor_of t g) (same_Some f first is), leb-true (floor_of f g) (get_or points k d).at (kept k d below).1);
    none = λ is. cc;
  }

pub new_points : (kind : Kind) (g : ℕ) (members : List Measure) (from : Option ℕ) → Rises (times members) → AreNew g from (regrouped kind g members from)
new_points kind g members None rises = none_new g [] refl
new_points kind g members (Some f) rises = regrouped_new kind g f members rises
