use Rattle.std.proofs.Common.{◌≡◌, ℕ, ◌%◌, ◌<◌, ◌≤◌, ltb, List, ◌++◌, map, Option, Some, sym, ap, subst, ◌∙◌, arith, rules}
use Rattle.std.specs.List.{All}
use Rattle.std.specs.List.Sorted.{IsStrictlyIncreasing}
use Rattle.std.specs.Option.{IfSome}
use Rattle.std.proofs.lemmas.Result.{IfOk-weaker}
use Rattle.gno_num.specs.Floor.{floor_of, split_key_of}
use Rattle.series_model.specs.declared.point.Point.{Point}
use Rattle.series_model.specs.declared.point.Split.{Split}
use Rattle.series_model.specs.Stored.{split_span, splits_of}
use Rattle.series_model.proofs.ByKey.{Rises-filter}
use Rattle.series_model.proofs.PointLaws.{at_of, floor-multiple}
use Rattle.series_model.proofs.Rising.{Rises, rising_from_Rises, Rises_from_rising}
use Rattle.bound_series.specs.Jobs.{AreNew}
use Rattle.split_update.specs.Update.{AreSplits, IsInStretch, points_before, points_since, splits_from, splits_made}
use Rattle.split_update.proofs.Runs.{Each, Each-all, Each-append, Each-weaker, runs}
use Rattle.split_update.proofs.RunLaws.{Each-filter, formed}
use Rattle.split_update.proofs.Making.{Each-since, Rises-joined, Rises-since, each_early, each_inside, each_multiple, late_keys, since_cut}
use Rattle.split_update.proofs.Updating.{bucket_inside}
use Rattle.split_update.proofs.update.made_splits.Goals as goal

-- the points that the made splits are cut from
module _ (g at : ℕ) (from : Option ℕ) (points touched all : List Point) (positive : 0 < g) (is : from ≡ Some at) (new : AreNew g from points)
    (rising : IsStrictlyIncreasing (map at_of touched)) (inside : IfSome from (λ a. All (IsInStretch g (split_key_of a g)) touched)) (all_is : all ≡ points_before (floor_of at g) touched ++ points) where
  late : Each (λ t. floor_of at g ≤ t) points
  late = Each-all (λ t. floor_of at g ≤ t) points (new.late at is)

  here : All (IsInStretch g (split_key_of at g)) touched
  here = subst (λ o. IfSome o (λ a. All (IsInStretch g (split_key_of a g)) touched)) is inside

  pub rises : Rises (map at_of all)
  rises = subst (λ l. Rises (map at_of l)) (sym all_is)
      (Rises-joined (floor_of at g) (points_before (floor_of at g) touched) points (each_early (floor_of at g) touched) late (Rises-filter at_of (λ (p : Point). ltb p.at (floor_of at g)) touched (Rises_from_rising (map at_of touched) rising)) (Rises_from_rising (map at_of points) new.rising))

  pub multiples : Each (λ t. t % g ≡ 0) all
  multiples = subst (Each (λ t. t % g ≡ 0)) (sym all_is)
      (Each-append (λ t. t % g ≡ 0) (points_before (floor_of at g) touched) points (Each-filter (λ t. t % g ≡ 0) (λ (p : Point). ltb p.at (floor_of at g)) touched (each_multiple g (split_key_of at g) touched here)) (Each-all (λ t. t % g ≡ 0) points new.multiples))

  pub behind : Each (λ t. split_key_of at g ≤ t) all
  behind = subst (Each (λ t. split_key_of at g ≤ t)) (sym all_is)
      (Each-append (λ t. split_key_of at g ≤ t) (points_before (floor_of at g) touched) points (Each-filter (λ t. split_key_of at g ≤ t) (λ (p : Point). ltb p.at (floor_of at g)) touched (each_inside g (split_key_of at g) touched here))
      (Each-weaker (λ t. floor_of at g ≤ t) (λ t. split_key_of at g ≤ t) (λ t le. omega (arith, le, (bucket_inside at g positive).0)) points late))

-- the splits that are cut from those that are kept
module _ (g at : ℕ) (oldest from : Option ℕ) (points touched all kept : List Point) (positive : 0 < g) (is : from ≡ Some at) (new : AreNew g from points)
    (rising : IsStrictlyIncreasing (map at_of touched)) (inside : IfSome from (λ a. All (IsInStretch g (split_key_of a g)) touched)) (all_is : all ≡ points_before (floor_of at g) touched ++ points)
    (whole : IfSome oldest (λ k. k % split_span g ≡ 0)) (kept_is : kept ≡ points_since oldest all) where
  wide : 0 < split_span g
  wide = omega (arith, positive)

  pub kept_rises : Rises (map at_of kept)
  kept_rises = subst (λ l. Rises (map at_of l)) (sym kept_is) (Rises-since oldest all (rises g at from points touched all positive is new rising inside all_is))

  pub made_is : splits_of g kept ≡ splits_from oldest (splits_made g from points touched)
  made_is =
      ap (splits_of g) kept_is
      ∙ sym (since_cut g oldest all wide whole (runs g all wide (rises g at from points touched all positive is new rising inside all_is)))
      ∙ ap (λ l. splits_from oldest (splits_of g l)) all_is
      ∙ ap (λ o. splits_from oldest (splits_made g o points touched)) (sym is)

  pub made_formed : AreSplits g (splits_of g kept)
  made_formed = formed g wide kept kept_rises (runs g kept wide kept_rises) (subst (Each (λ t. t % g ≡ 0)) (sym kept_is) (Each-since (λ t. t % g ≡ 0) oldest all (multiples g at from points touched all positive is new rising inside all_is)))

  pub made_late : All (λ s. split_key_of at g ≤ s.key) (splits_of g kept)
  made_late = late_keys g (split_key_of at g) kept wide (floor-multiple at (split_span g)) (runs g kept wide kept_rises) (subst (Each (λ t. split_key_of at g ≤ t)) (sym kept_is) (Each-since (λ t. split_key_of at g ≤ t) oldest all (behind g at from points touched all positive is new rising inside all_is)))

pub points_since-requires : goal.points_since-requires
points_since-requires c =
    let g = c.args.granularity in
    let positive : 0 < g = omega (arith, c.requires.granularity.shortest) in
    let all_is : c.deref.result.now ≡ points_before (floor_of c.in-Some.from g) c.args.touched.now ++ c.args.points.now = search rules in
    rising_from_Rises (map at_of c.deref.result.now) (rises g c.in-Some.from c.args.from c.args.points.now c.args.touched.now c.deref.result.now positive c.in-Some.is c.requires.new c.requires.rising c.requires.touched all_is)

pub cut_splits-requires-clause-rising : goal.cut_splits-requires-clause-rising
cut_splits-requires-clause-rising c =
    let g = c.args.granularity in
    let positive : 0 < g = omega (arith, c.requires.granularity.shortest) in
    let all_is : c.deref.result.now ≡ points_before (floor_of c.in-Some.from g) c.args.touched.now ++ c.args.points.now = search rules in
    rising_from_Rises (map at_of c.points_since.result.now) (kept_rises g c.in-Some.from c.args.oldest c.args.from c.args.points.now c.args.touched.now c.deref.result.now c.points_since.result.now positive c.in-Some.is c.requires.new c.requires.rising c.requires.touched all_is c.requires.oldest c.points_since.ensures)

pub returns-clause-made : goal.returns-clause-made
returns-clause-made c =
    let g = c.args.granularity in
    let positive : 0 < g = omega (arith, c.requires.granularity.shortest) in
    let all_is : c.deref.result.now ≡ points_before (floor_of c.in-Some.from g) c.args.touched.now ++ c.args.points.now = search rules in
    IfOk-weaker c.cut_splits.result _ _
    (λ splits is. is ∙ made_is g c.in-Some.from c.args.oldest c.args.from c.args.points.now c.args.touched.now c.deref.result.now c.points_since.result.now positive c.in-Some.is c.requires.new c.requires.rising c.requires.touched all_is c.requires.oldest c.points_since.ensures)
    c.cut_splits.ensures

pub returns-clause-formed : goal.returns-clause-formed
returns-clause-formed c =
    let g = c.args.granularity in
    let positive : 0 < g = omega (arith, c.requires.granularity.shortest) in
    let all_is : c.deref.result.now ≡ points_before (floor_of c.in-Some.from g) c.args.touched.now ++ c.args.points.now = search rules in
    IfOk-weaker c.cut_splits.result _ _
    (λ splits is. subst (AreSplits g) (sym is) (made_formed g c.in-Some.from c.args.oldest c.args.from c.args.points.now c.args.touched.now c.deref.result.now c.points_since.result.now positive c.in-Some.is c.requires.new c.requires.rising c.requires.touched all_is c.requires.oldest c.points_since.ensures))
    c.cut_splits.ensures

pub returns-clause-late : goal.returns-clause-late
returns-clause-late c =
    let g = c.args.granularity in
    let positive : 0 < g = omega (arith, c.requires.granularity.shortest) in
    let all_is : c.deref.result.now ≡ points_before (floor_of c.in-Some.from g) c.args.touched.now ++ c.args.points.now = search rules in
    IfOk-weaker c.cut_splits.result _ _
    (λ splits is. subst (λ o. IfSome o (λ at. All (λ (s : Split). split_key_of at g ≤ s.key) splits.items)) (sym c.in-Some.is)
    (subst (All (λ (s : Split). split_key_of c.in-Some.from g ≤ s.key)) (sym is) (made_late g c.in-Some.from c.args.oldest c.args.from c.args.points.now c.args.touched.now c.deref.result.now c.points_since.result.now positive c.in-Some.is c.requires.new c.requires.rising c.requires.touched all_is c.requires.oldest c.points_since.ensures)))
    c.cut_splits.ensures
