-- What a turn leaves are splits again.
use Rattle.std.proofs.Common.{◌≡◌, ℕ, ◌+◌, ◌%◌, ◌<◌, ◌≤◌, Bool, leb, ltb, List, [], ◌∷◌, ◌++◌, map, Option, Some, None, refl, sym, subst, arith}
use Rattle.std.specs.List.{All, filter}
use Rattle.std.proofs.lemmas.List.Elements.{All-head, All-tail, All-filter}
use Rattle.gno_num.specs.Floor.{floor_of}
use Rattle.series_model.specs.declared.point.Point.{Point}
use Rattle.series_model.specs.declared.point.Split.{Split}
use Rattle.series_model.specs.Stored.{split_span, splits_of}
use Rattle.series_model.proofs.ByKey.{Rises-filter}
use Rattle.series_model.proofs.PointLaws.{at_of}
use Rattle.series_model.proofs.Rising.{Rises, rising_from_Rises, Rises_from_rising}
use Rattle.bound_series.specs.Jobs.{AreNew}
use Rattle.split_update.specs.Update.{AreSplits, IsWellFormed, points_after, points_before, points_in, splits_after, splits_from}
use Rattle.split_update.proofs.Runs.{Each, Each-all, Each-append, Each-weaker, runs}
use Rattle.split_update.proofs.RunLaws.{Each-filter, behind_split, formed, keys_of, split_each}
use Rattle.split_update.proofs.Making.{Rises-joined, each_early, each_multiple}
use Rattle.split_update.proofs.Updating.{after_anew, own_again}

-- the splits that a filter leaves
filtered : (g : ℕ) (test : Split → Bool) (splits : List Split) → AreSplits g splits → AreSplits g (filter test splits)
filtered g test splits are = record {
  each = All-filter test (IsWellFormed g) splits are.each;
  rising = rising_from_Rises (keys_of (filter test splits)) (Rises-filter (λ (s : Split). s.key) test splits (Rises_from_rising (keys_of splits) are.rising));
}

since_formed : (g : ℕ) (oldest : Option ℕ) (splits : List Split) → AreSplits g splits → AreSplits g (splits_from oldest splits)
since_formed g None splits are = are
since_formed g (Some k) splits are = filtered g (λ (s : Split). leb k s.key) splits are

module _ (g : ℕ) (wide : 0 < split_span g) where
  -- the points of splits rise
  points_rise : (splits : List Split) → All (IsWellFormed g) splits → Rises (keys_of splits) → Rises (map at_of (points_in splits))
  points_rise [] all rises = tt
  points_rise (s ∷ splits) all rises =
      let is = All-head (IsWellFormed g) s splits all in
      let others = All-tail (IsWellFormed g) s splits all in
      let end = s.key + split_span g in
      Rises-joined end s.points (points_in splits)
      (Each-weaker (λ t. (s.key ≤ t) × (t < end)) (λ t. t < end) (λ t inside. inside.1) s.points (split_each g wide s is))
      (behind_split g wide s.key splits is.key others rises.0)
      (Rises_from_rising (map at_of s.points) is.rising)
      (points_rise splits others rises.1)

  points_multiple : (splits : List Split) → All (IsWellFormed g) splits → Each (λ t. t % g ≡ 0) (points_in splits)
  points_multiple [] all = tt
  points_multiple (s ∷ splits) all =
      let is = All-head (IsWellFormed g) s splits all in
      Each-append (λ t. t % g ≡ 0) s.points (points_in splits) (each_multiple g s.key s.points is.placed) (points_multiple splits (All-tail (IsWellFormed g) s splits all))

  anew_formed : (from : Option ℕ) (points : List Point) (old : List Split) → AreSplits g old → AreNew g from points → AreSplits g (splits_of g (points_after g from points (points_in old)))
  anew_formed None points old are new = subst (AreSplits g) (sym (own_again g wide old are)) are
  anew_formed (Some at) points old are new =
      let f = floor_of at g in
      let front = points_before f (points_in old) in
      let late = Each-all (λ t. f ≤ t) points (new.late at refl) in
      let rises : Rises (map at_of (front ++ points)) =
      Rises-joined f front points (each_early f (points_in old)) late
      (Rises-filter at_of (λ (p : Point). ltb p.at f) (points_in old) (points_rise old are.each (Rises_from_rising (keys_of old) are.rising)))
      (Rises_from_rising (map at_of points) new.rising) in
      formed g wide (front ++ points) rises (runs g (front ++ points) wide rises)
      (Each-append (λ t. t % g ≡ 0) front points (Each-filter (λ t. t % g ≡ 0) (λ (p : Point). ltb p.at f) (points_in old) (points_multiple old are.each)) (Each-all (λ t. t % g ≡ 0) points new.multiples))

pub after_formed : (g : ℕ) (oldest from : Option ℕ) (points : List Point) (old : List Split) → 0 < g → AreSplits g old → AreNew g from points → AreSplits g (splits_after g oldest from points old)
after_formed g oldest from points old positive are new =
    subst (AreSplits g) (sym (after_anew g oldest from points old positive are (λ at is. Each-all (λ t. floor_of at g ≤ t) points (new.late at is))))
    (since_formed g oldest (splits_of g (points_after g from points (points_in old))) (anew_formed g (omega (arith, positive)) from points old are new))
