-- The points from a start on, by the members from there on and the one before them.
use Rattle.std.proofs.Common.{◌≡◌, ℕ, ◌%◌, ◌<◌, ◌≤◌, true, leb, List, [], ◌∷◌, ◌++◌, map, Option, Some, None, sym, ap, subst, ◌∙◌, arith}
use Rattle.std.specs.List.{Contains, filter_map}
use Rattle.std.specs.Option.{option_map, option_to_list, IfSome, IsSomeAnd}
use Rattle.std.proofs.Math.Logic.{⊎_elim}
use Rattle.std.proofs.lemmas.Bool.{leb-true, le-leb}
use Rattle.std.proofs.lemmas.Option.{same_Some, none-some}
use Rattle.gno_num.specs.Floor.{floor_of}
use Rattle.gno_num.specs.Fraction.{Fraction}
use Rattle.archive_policy.specs.declared.kind.Kind.{Kind}
use Rattle.series_model.specs.declared.measure.Measure.{Measure}
use Rattle.series_model.specs.declared.point.Point.{Point}
use Rattle.series_model.specs.Bucket.{value_at}
use Rattle.series_model.specs.Points.{starts_of, point_at, points_of, points_from, IsPoint, ArePoints}
use Rattle.series_model.specs.Tail.{last_onto, members_from, members_before}
use Rattle.series_model.proofs.ByKey.{Rises-filter, filter_kept}
use Rattle.series_model.proofs.Members.{Contains-cases, filter_map-keeps, filter_map-kept, map_has, map_from}
use Rattle.series_model.proofs.PointLaws.{at_of, floor-mono, floor-multiple, floor-own, Rises-starts, starts_has, starts_from, bucket_member, rises_kept, points_exact, points_one, points_filtered}
use Rattle.series_model.proofs.Rising.{Rises, rising_from_Rises, times}
use Rattle.series_model.proofs.TailLaws.{Below, below_last, anchored, tail_members, Rises-tail, points_tail, before-keep, before-skip, before-none, from-keep, from-skip, from-all}

-- the parts of a point that is made
point_parts : (start : ℕ) (o : Option Fraction) (p : Point) → option_map (λ value. record { at = start; value = value }) o ≡ Some p → (start ≡ p.at) × (o ≡ Some p.value)
point_parts start None p is = absurd (none-some p is)
point_parts start (Some value) p is =
    let made : Point = record { at = start; value = value } in
    let same : made ≡ p = same_Some made p is in
    (ap (λ (q : Point). q.at) same, ap (λ (q : Point). Some q.value) same)

-- a member that isn't before a time isn't the anchor
among_late : (f : ℕ) (o : Option Measure) (late : List Measure) (m : Measure) → Below f o → f ≤ m.at → Contains (anchored o late) m → Contains late m
among_late f None late m b le c = c
among_late f (Some a) late m b le c =
    ⊎_elim (λ same. absurd (omega (arith, b, le, ap (λ (y : Measure). y.at) same))) (λ there. there) (Contains-cases a late m c)

-- a multiple is its own floor, where there is a granularity
pub own_floor : (f g : ℕ) → 0 < g → f % g ≡ 0 → floor_of f g ≡ f
own_floor f g positive multiple = floor-own f f g multiple (omega arith) (omega arith)

module _ (kind : Kind) (g f : ℕ) (all : List Measure) (multiple : f % g ≡ 0) (rising : Rises (times all)) where
  abbrev late : List Measure
  late = members_from f all

  abbrev kept : List Measure
  kept = tail_members f all

  abbrev made : List Point
  made = filter_map (point_at kind g kept) (starts_of g (times late))

  abbrev Q : Point → Type 0
  Q p = IsPoint kind g kept p × (leb f p.at ≡ true)

  found : (p : Point) → Contains made p → Q p
  found p c =
      let there = filter_map-kept (point_at kind g kept) (starts_of g (times late)) p c in
      let parts = point_parts there.0 (value_at kind g kept there.0) p there.2 in
      let time = starts_from g (times late) there.0 there.1 in
      let member = map_from (λ (m : Measure). m.at) late time.0 time.1 in
      let from : f ≤ member.0.at = leb-true f member.0.at (filter_kept (λ (m : Measure). leb f m.at) all member.0 member.1).1 in
      let inside = bucket_member kind g there.0 kept p.value parts.1 in
      let positive : 0 < g = omega (arith, inside.2, inside.3) in
      let up : f ≤ floor_of member.0.at g = omega (arith, own_floor f g positive multiple, floor-mono f member.0.at g from) in
      let at : floor_of member.0.at g ≡ p.at = ap (λ t. floor_of t g) member.2 ∙ time.2 ∙ parts.0 in (
        record {
          multiple = ap (λ t. t % g) (sym at) ∙ floor-multiple member.0.at g;
          value = ap (value_at kind g kept) (sym parts.0) ∙ parts.1;
        },
        le-leb f p.at (omega (arith, up, at)),
      )

  has : (p : Point) → Q p → Contains made p
  has p q =
      let m = bucket_member kind g p.at kept p.value q.0.value in
      let below : Below f (last_onto None (members_before f all)) = below_last f None all tt in
      let member : Contains late m.0 = among_late f (last_onto None (members_before f all)) late m.0 below (omega (arith, leb-true f p.at q.1, m.2)) m.1 in
      let start : Contains (starts_of g (times late)) p.at =
      subst (Contains (starts_of g (times late))) (floor-own p.at m.0.at g q.0.multiple m.2 m.3) (starts_has g m.0.at (times late) (map_has (λ (x : Measure). x.at) late m.0 member)) in
      filter_map-keeps (point_at kind g kept) (starts_of g (times late)) p.at p start (ap (option_map (λ value. record { at = p.at; value = value })) q.0.value)

  made_exact : ArePoints Q made
  made_exact = record {
    rising = rising_from_Rises (map at_of made) (rises_kept at_of (point_at kind g kept) (λ s p is. (point_parts s (value_at kind g kept s) p is).0) (starts_of g (times late)) (Rises-starts g (times late) (Rises-filter (λ (m : Measure). m.at) (λ (m : Measure). leb f m.at) all rising)));
    members = λ p. (found p, has p);
  }

  -- the points made of the late members alone are those of all members
  pub late_points : made ≡ points_from f (points_of kind g all)
  late_points =
      points_one Q made (points_from f (points_of kind g kept)) made_exact (points_filtered (IsPoint kind g kept) (λ p. leb f p.at) (points_of kind g kept) (points_exact kind g kept (Rises-tail f all rising)))
      ∙ points_tail kind g f f all (omega arith) rising

-- ---- where the members from a start on begin

-- an anchor that isn't before the start
pub late_all : (f : ℕ) (o : Option Measure) (points : List Measure) → Rises (times (anchored o points)) → IsSomeAnd o (λ m. f ≤ m.at) → (members_before f (anchored o points) ≡ []) × (members_from f (anchored o points) ≡ anchored o points)
late_all f None points rising late = absurd late
late_all f (Some a) points rising late =
    (before-skip f a points late ∙ before-none f a.at points late rising.0, from-keep f a points late ∙ ap (λ l. a ∷ l) (from-all f a.at points late rising.0))

below_of : (f : ℕ) (o : Option Measure) → IfSome o (λ m. m.at < f) → Below f o
below_of f None h = tt
below_of f (Some a) h = h

-- an anchor before the start, or none
pub early_before : (f : ℕ) (o : Option Measure) (points taken : List Measure) → IfSome o (λ m. m.at < f) → taken ≡ members_before f points → members_before f (anchored o points) ≡ option_to_list o ++ taken
early_before f None points taken early is = sym is
early_before f (Some a) points taken early is = before-keep f a points early ∙ ap (λ l. a ∷ l) (sym is)

pub early_from : (f : ℕ) (o : Option Measure) (points rest : List Measure) → IfSome o (λ m. m.at < f) → rest ≡ members_from f points → members_from f (anchored o points) ≡ rest
early_from f None points rest early is = sym is
early_from f (Some a) points rest early is = from-skip f a points early ∙ sym is

-- the member before the start is before it
pub early_last : (f : ℕ) (o : Option Measure) (points taken : List Measure) (b : Measure) → IfSome o (λ m. m.at < f) → taken ≡ members_before f points → last_onto o taken ≡ Some b → b.at < f
early_last f o points taken b early is last =
    let below : Below f (last_onto o taken) = subst (λ l. Below f (last_onto o l)) (sym is) (below_last f o points (below_of f o early)) in
    subst (Below f) last below
