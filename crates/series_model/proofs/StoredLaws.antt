-- The stored splits have exactly the points of their stretches.
use Rattle.std.proofs.Common.{◌≡◌, ℕ, ◌+◌, ◌%◌, ◌<◌, ◌≤◌, Bool, true, leb, ltb, ◌&&◌, List, [], ◌∷◌, map, length, refl, sym, ap, subst, ◌∙◌, arith}
use Rattle.std.specs.List.{Contains, filter}
use Rattle.std.specs.List.Sorted.{IsStrictlyIncreasing}
use Rattle.std.proofs.lemmas.Bool.{leb-true, ltb-true, and_parts, and_from, le-leb, lt-ltb}
use Rattle.gno_num.specs.Floor.{floor_of}
use Rattle.archive_policy.specs.declared.kind.Kind.{Kind}
use Rattle.archive_policy.specs.declared.definition.Definition.{Definition}
use Rattle.series_model.specs.declared.measure.Measure.{Measure}
use Rattle.series_model.specs.declared.point.Point.{Point}
use Rattle.series_model.specs.declared.point.Split.{Split}
use Rattle.series_model.specs.Accepted.{later, latest}
use Rattle.series_model.specs.Answer.{oldest_point_of}
use Rattle.series_model.specs.Points.{starts_of, points_of, points_from, IsPoint, ArePoints}
use Rattle.series_model.specs.Series.{series_of_measures}
use Rattle.series_model.specs.Stored.{split_span, oldest_key_of, split_at, splits_of, stored_of, AreStoredSplits}
use Rattle.series_model.proofs.ByKey.{one_rising}
use Rattle.series_model.proofs.Members.{Contains-none, Contains-here, map_has, map_from}
use Rattle.series_model.proofs.PointLaws.{at_of, floor-le, floor-above, floor-mono, floor-multiple, floor-own, Rises-starts, starts_has, starts_from, bucket_member, points_exact, points_one, points_filtered, points_as}
use Rattle.series_model.proofs.Rising.{Rises, rising_from_Rises, Rises_from_rising}
use Rattle.series_model.proofs.SeriesLaws.{Rises-series}

-- a multiple is its own floor
floor-multiple_own : (s g : ℕ) → 0 < g → s % g ≡ 0 → floor_of s g ≡ s
floor-multiple_own s g positive multiple = floor-own s s g multiple (omega arith) (omega arith)

-- a list with a member isn't empty
some_in : {X : Type 0} (xs : List X) (x : X) → Contains xs x → 0 < length xs
some_in xs x c = omega (arith, c.1)

first_of : {X : Type 0} (xs : List X) → 0 < length xs → (x : X) × Contains xs x
first_of [] some = absurd (omega arith)
first_of (x ∷ xs) some = (x, Contains-here x xs x refl)

-- the keys of splits are those of their list
keys_of_splits : (g : ℕ) (points : List Point) (keys : List ℕ) → map (λ (s : Split). s.key) (map (split_at g points) keys) ≡ keys
keys_of_splits g points [] = refl
keys_of_splits g points (k ∷ keys) = ap (λ l. k ∷ l) (keys_of_splits g points keys)

-- the splits of points from a multiple on
module _ (kind : Kind) (g oldest : ℕ) (series : List Measure) (whole : 0 < split_span g → oldest % split_span g ≡ 0) (rising : Rises (map (λ (m : Measure). m.at) series)) where
  abbrev kept : List Point
  kept = points_from oldest (points_of kind g series)

  abbrev IsKept : Point → Type 0
  IsKept p = IsPoint kind g series p × (leb oldest p.at ≡ true)

  abbrev InStretch : ℕ → Point → Type 0
  InStretch key p = IsPoint kind g series p × (key ≤ p.at) × (p.at < key + split_span g)

  kept_exact : ArePoints IsKept kept
  kept_exact = points_filtered (IsPoint kind g series) (λ p. leb oldest p.at) (points_of kind g series) (points_exact kind g series rising)

  -- a granularity with a point isn't 0
  positive_of : (p : Point) → IsPoint kind g series p → 0 < g
  positive_of p is = let m = bucket_member kind g p.at series p.value is.value in omega (arith, m.2, m.3)

  -- the points of a stretch that isn't before the oldest key
  stretch : (key : ℕ) → oldest ≤ key → ArePoints (InStretch key) (split_at g kept key).points
  stretch key le =
      let test : Point → Bool = λ p. leb key p.at && ltb p.at (key + split_span g) in
      points_as (λ p. IsKept p × (test p ≡ true)) (InStretch key) (filter test kept)
      (λ p is. let parts = and_parts (leb key p.at) (ltb p.at (key + split_span g)) is.1 in (is.0.0, leb-true key p.at parts.0, ltb-true p.at (key + split_span g) parts.1))
      (λ p is. ((is.0, le-leb oldest p.at (omega (arith, le, is.1))), and_from (leb key p.at) (ltb p.at (key + split_span g)) (le-leb key p.at is.1) (lt-ltb p.at (key + split_span g) is.2)))
      (points_filtered IsKept test kept kept_exact)

  split_found : (split : Split) → Contains (splits_of g kept) split → (split.key % split_span g ≡ 0) × (oldest ≤ split.key) × ArePoints (InStretch split.key) split.points × (0 < length split.points)
  split_found split c =
      let there = map_from (split_at g kept) (starts_of (split_span g) (map at_of kept)) split c in
      let time = starts_from (split_span g) (map at_of kept) there.0 there.1 in
      let point = map_from at_of kept time.0 time.1 in
      let p = point.0 in
      let is = (kept_exact.members p).0 point.1 in
      let wide : 0 < split_span g = omega (arith, positive_of p is.0) in
      let floor : floor_of p.at (split_span g) ≡ there.0 = ap (λ at. floor_of at (split_span g)) point.2 ∙ time.2 in
      let low : oldest ≤ there.0 = omega (arith, floor, floor-multiple_own oldest (split_span g) wide (whole wide), floor-mono oldest p.at (split_span g) (leb-true oldest p.at is.1)) in
      let key : there.0 ≡ split.key = ap (λ (s : Split). s.key) there.2 in
      let in_stretch : InStretch there.0 p = (is.0, omega (arith, floor, floor-le p.at (split_span g)), omega (arith, floor, floor-above p.at (split_span g) wide)) in
      let Good : Split → Type 0 = λ (s : Split). (s.key % split_span g ≡ 0) × (oldest ≤ s.key) × ArePoints (InStretch s.key) s.points × (0 < length s.points) in
      subst Good there.2 (ap (λ k. k % split_span g) (sym floor) ∙ floor-multiple p.at (split_span g), low, stretch there.0 low, some_in (split_at g kept there.0).points p (((stretch there.0 low).members p).1 in_stretch))

  split_kept : (split : Split) → split.key % split_span g ≡ 0 → oldest ≤ split.key → ArePoints (InStretch split.key) split.points → 0 < length split.points → Contains (splits_of g kept) split
  split_kept split multiple low points some =
      let one = first_of split.points some in
      let p = one.0 in
      let is = (points.members p).0 one.1 in
      let there : Contains kept p = (kept_exact.members p).1 (is.0, le-leb oldest p.at (omega (arith, low, is.1))) in
      let start : Contains (starts_of (split_span g) (map at_of kept)) split.key =
      subst (Contains (starts_of (split_span g) (map at_of kept))) (floor-own split.key p.at (split_span g) multiple is.1 is.2) (starts_has (split_span g) p.at (map at_of kept) (map_has at_of kept p there)) in
      let same : (split_at g kept split.key).points ≡ split.points =
      points_one (InStretch split.key) (split_at g kept split.key).points split.points (stretch split.key low) points in
      let made : split_at g kept split.key ≡ split = ap (λ ps. record { key = split.key; points = ps }) same in
      subst (Contains (splits_of g kept)) made (map_has (split_at g kept) (starts_of (split_span g) (map at_of kept)) split.key start)

  pub splits_exact : (IsStrictlyIncreasing (map (λ (s : Split). s.key) (splits_of g kept)))
  splits_exact =
      subst IsStrictlyIncreasing (sym (keys_of_splits g kept (starts_of (split_span g) (map at_of kept)))) (rising_from_Rises (starts_of (split_span g) (map at_of kept)) (Rises-starts (split_span g) (map at_of kept) (Rises_from_rising (map at_of kept) kept_exact.rising)))

pub stored_exact : (kind : Kind) (d : Definition) (accepted : List Measure) → AreStoredSplits kind d accepted (stored_of kind d accepted)
stored_exact kind d [] = record {
  rising = rising_from_Rises [] tt;
  members = λ split. (
    λ c. absurd (Contains-none split c),
    λ s. let one = first_of split.points s.some in
        let is = (s.points.members one.0).0 one.1 in
        let m = bucket_member kind d.granularity one.0.at [] one.0.value is.0.value in
        absurd (Contains-none m.0 m.1),
  );
}
stored_exact kind d (m ∷ measures) =
    let g = d.granularity in
    let accepted : List Measure = m ∷ measures in
    let last : ℕ = later m.at (latest measures) in
    let oldest = oldest_key_of last d in
    let series = series_of_measures accepted in
    let rising = Rises-series accepted in
    let whole : 0 < split_span g → oldest % split_span g ≡ 0 = λ _. floor-multiple (oldest_point_of last d) (split_span g) in
    record {
      rising = splits_exact kind g oldest series whole rising;
      members = λ split. (
        λ c. let r = split_found kind g oldest series whole rising split c in record { key = r.0; kept = r.1; points = r.2; some = r.3 },
        λ s. split_kept kind g oldest series whole rising split s.key s.kept s.points s.some,
      );
    }

-- there is one such list
pub stored_one : (kind : Kind) (d : Definition) (accepted : List Measure) (xs ys : List Split) → AreStoredSplits kind d accepted xs → AreStoredSplits kind d accepted ys → xs ≡ ys
stored_one kind d accepted xs ys h k =
    let key : Split → ℕ = λ (s : Split). s.key in
    one_rising key xs ys (Rises_from_rising (map key xs) h.rising) (Rises_from_rising (map key ys) k.rising) (λ s c. (k.members s).1 ((h.members s).0 c)) (λ s c. (h.members s).1 ((k.members s).0 c))
