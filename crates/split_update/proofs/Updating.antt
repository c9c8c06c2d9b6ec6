-- What a turn leaves of splits is what all their points give, cut anew.
use Rattle.std.proofs.Common.{◌≡◌, ℕ, ◌+◌, ◌*◌, ◌/◌, ◌%◌, ◌<◌, ◌≤◌, Bool, true, leb, ltb, eqb, List, [], ◌∷◌, ◌++◌, Option, Some, None, refl, sym, ap, subst, ◌∙◌, append-nil, append_assoc, arith}
use Rattle.std.specs.List.{All, filter}
use Rattle.std.proofs.Math.Logic.{⊎_elim}
use Rattle.std.proofs.Math.Nat.{mul-mod_left, mul_assoc}
use Rattle.std.proofs.lemmas.Bool.{lt-ltb, le-ltb, ltb-true, eq-eqb, ne_eqb, cases_lt, cases_eq}
use Rattle.std.proofs.lemmas.List.Elements.{All-head, All-tail, All-weaker, All-filter, filter-append, filter_passes}
use Rattle.gno_num.specs.Floor.{floor_of, split_key_of}
use Rattle.series_model.specs.declared.point.Point.{Point}
use Rattle.series_model.specs.declared.point.Split.{Split}
use Rattle.series_model.specs.Stored.{split_span, splits_of}
use Rattle.series_model.proofs.ByKey.{filter-keep, filter-skip, Rises-filter}
use Rattle.series_model.proofs.PointLaws.{floor-le, floor-above, floor-mono, floor-multiple, floor-own}
use Rattle.series_model.proofs.Rising.{Above, Above-lower, Rises, Rises_from_rising}
use Rattle.split_update.specs.Update.{AreSplits, IsWellFormed, points_after, points_before, points_beside, points_in, splits_after, splits_before, splits_from}
use Rattle.split_update.proofs.Runs.{Each, Each-append, Each-weaker}
use Rattle.split_update.proofs.RunLaws.{Each-filter, before_all, before_none, behind_split, front_again, keys_of, multiple_gap, split_again, split_each}

-- a key is a multiple of the granularity
pub key_multiple : (at g : ℕ) → split_key_of at g % g ≡ 0
key_multiple at g = ap (λ n. n % g) (sym (mul_assoc (at / split_span g) 3600 g)) ∙ mul-mod_left (at / split_span g * 3600) g

-- the bucket of a time is in the split that holds it
pub bucket_inside : (at g : ℕ) → 0 < g → (split_key_of at g ≤ floor_of at g) × (floor_of at g < split_key_of at g + split_span g)
bucket_inside at g positive =
    let key = split_key_of at g in
    let self = floor-own key key g (key_multiple at g) (omega arith) (omega (arith, positive)) in
    (omega (arith, self, floor-mono key at g (floor-le at (split_span g))), omega (arith, floor-le at g, floor-above at (split_span g) (omega (arith, positive))))

-- splits are those of their points
pub own_again : (g : ℕ) → 0 < split_span g → (splits : List Split) → AreSplits g splits → splits_of g (points_in splits) ≡ splits
own_again g wide splits are = again splits are.each (Rises_from_rising (keys_of splits) are.rising)
  where
    again : (ss : List Split) → All (IsWellFormed g) ss → Rises (keys_of ss) → splits_of g (points_in ss) ≡ ss
    again [] all rises = refl
    again (s ∷ ss) all rises =
        let is = All-head (IsWellFormed g) s ss all in
        let others = All-tail (IsWellFormed g) s ss all in
        split_again g wide s s.points (points_in ss) refl is (behind_split g wide s.key ss is.key others rises.0) ∙ ap (λ l. s ∷ l) (again ss others rises.1)

from-append : (oldest : Option ℕ) (xs ys : List Split) → splits_from oldest (xs ++ ys) ≡ splits_from oldest xs ++ splits_from oldest ys
from-append None xs ys = refl
from-append (Some k) xs ys = filter-append (λ (s : Split). leb k s.key) xs ys

before-append : (f : ℕ) (xs ys : List Point) → points_before f (xs ++ ys) ≡ points_before f xs ++ points_before f ys
before-append f xs ys = filter-append (λ (q : Point). ltb q.at f) xs ys

module _ (g from : ℕ) (positive : 0 < g) where
  abbrev key : ℕ
  key = split_key_of from g

  abbrev bucket : ℕ
  bucket = floor_of from g

  abbrev is_before : Split → Bool
  is_before s = ltb s.key key

  abbrev is_beside : Split → Bool
  is_beside s = eqb s.key key

  wide : 0 < split_span g
  wide = omega (arith, positive)

  whole : key % split_span g ≡ 0
  whole = floor-multiple from (split_span g)

  -- behind the split that holds the time nothing is before the bucket, and no split is that one
  none_later : (splits : List Split) → All (IsWellFormed g) splits → Above key (keys_of splits) → (filter is_before splits ≡ []) × (filter is_beside splits ≡ []) × (points_before bucket (points_in splits) ≡ [])
  none_later [] all above = (refl, refl, refl)
  none_later (s ∷ splits) all above =
      let rest = none_later splits (All-tail (IsWellFormed g) s splits all) above.1 in
      let late : Each (λ t. key + split_span g ≤ t) (points_in (s ∷ splits)) = behind_split g wide key (s ∷ splits) whole all above in (
        filter-skip is_before s splits (le-ltb s.key key (omega (arith, above.0))) ∙ rest.0,
        filter-skip is_beside s splits (ne_eqb s.key key (λ same. absurd (omega (arith, above.0, same)))) ∙ rest.1,
        before_none bucket (points_in (s ∷ splits)) (Each-weaker (λ t. key + split_span g ≤ t) (λ t. bucket ≤ t) (λ t le. omega (arith, le, (bucket_inside from g positive).1)) (points_in (s ∷ splits)) late),
      )

  -- the old points before the bucket are those of the splits before, and of the one that holds it
  points_early : (splits : List Split) → All (IsWellFormed g) splits → Rises (keys_of splits) → points_before bucket (points_in splits) ≡ points_in (splits_before g from splits) ++ points_before bucket (points_beside g from splits)
  points_early [] all rises = refl
  points_early (s ∷ splits) all rises =
      let is = All-head (IsWellFormed g) s splits all in
      let others = All-tail (IsWellFormed g) s splits all in
      let halves = before-append bucket s.points (points_in splits) in
      let inside = bucket_inside from g positive in
      ⊎_elim
      (λ early.
      let gap = multiple_gap s.key key (split_span g) wide is.key whole early in
      let all_early : points_before bucket s.points ≡ s.points = before_all bucket s.points (Each-weaker (λ t. (s.key ≤ t) × (t < s.key + split_span g)) (λ t. t < bucket) (λ t in_s. omega (arith, in_s.1, gap, inside.0)) s.points (split_each g wide s is)) in
      halves ∙ ap (λ l. l ++ points_before bucket (points_in splits)) all_early
      ∙ ap (λ l. s.points ++ l) (points_early splits others rises.1)
      ∙ sym (append_assoc s.points (points_in (filter is_before splits)) (points_before bucket (points_in (filter is_beside splits))))
      ∙ ap (λ l. points_in l ++ points_before bucket (points_in (filter is_beside splits))) (sym (filter-keep is_before s splits (lt-ltb s.key key early)))
      ∙ ap (λ l. points_in (filter is_before (s ∷ splits)) ++ points_before bucket (points_in l)) (sym (filter-skip is_beside s splits (ne_eqb s.key key (λ same. absurd (omega (arith, early, same)))))))
      (λ late. ⊎_elim
      (λ same.
      let none = none_later splits others (Above-lower key s.key (keys_of splits) (omega (arith, same)) rises.0) in
      let only : filter is_beside (s ∷ splits) ≡ s ∷ [] = filter-keep is_beside s splits (eq-eqb s.key key same) ∙ ap (λ l. s ∷ l) none.1 in
      halves ∙ ap (λ l. points_before bucket s.points ++ l) none.2 ∙ append-nil (points_before bucket s.points)
      ∙ ap (points_before bucket) (sym (append-nil s.points))
      ∙ ap (λ l. points_before bucket (points_in l)) (sym only)
      ∙ ap (λ l. points_in l ++ points_before bucket (points_in (filter is_beside (s ∷ splits)))) (sym (filter-skip is_before s splits (le-ltb s.key key late) ∙ none.0)))
      (λ apart.
      let none = none_later (s ∷ splits) all (omega (arith, late, apart), Above-lower key s.key (keys_of splits) late rises.0) in
      none.2 ∙ ap (λ l. points_before bucket (points_in l)) (sym none.1) ∙ ap (λ l. points_in l ++ points_before bucket (points_in (filter is_beside (s ∷ splits)))) (sym none.0))
      (cases_eq s.key key))
      (cases_lt s.key key)

  early_keys : (splits : List Split) → All (λ s. s.key < key) (filter is_before splits)
  early_keys splits = All-weaker (λ s. is_before s ≡ true) (λ s. s.key < key) (λ s is. ltb-true s.key key is) (filter is_before splits) (filter_passes is_before splits)

  -- the kept splits and the made ones are all points, cut anew
  cut_anew : (old : List Split) (points : List Point) → AreSplits g old → Each (λ t. bucket ≤ t) points
      → splits_of g (points_before bucket (points_in old) ++ points) ≡ splits_before g from old ++ splits_of g (points_before bucket (points_beside g from old) ++ points)
  cut_anew old points are late =
      let inside = bucket_inside from g positive in
      let beside = points_before bucket (points_beside g from old) in
      let rises = Rises_from_rising (keys_of old) are.rising in
      let behind : Each (λ t. key ≤ t) (beside ++ points) =
      Each-append (λ t. key ≤ t) beside points
      (Each-filter (λ t. key ≤ t) (λ (q : Point). ltb q.at bucket) (points_beside g from old) (beside_late old are.each))
      (Each-weaker (λ t. bucket ≤ t) (λ t. key ≤ t) (λ t le. omega (arith, le, inside.0)) points late) in
      ap (λ l. splits_of g (l ++ points)) (points_early old are.each rises)
      ∙ ap (splits_of g) (append_assoc (points_in (filter is_before old)) beside points)
      ∙ front_again g wide (filter is_before old) (beside ++ points) key whole (All-filter is_before (IsWellFormed g) old are.each) (Rises-filter (λ (s : Split). s.key) is_before old rises) (early_keys old) behind
    where
      beside_late : (splits : List Split) → All (IsWellFormed g) splits → Each (λ t. key ≤ t) (points_in (filter is_beside splits))
      beside_late [] all = tt
      beside_late (s ∷ splits) all =
          let is = All-head (IsWellFormed g) s splits all in
          ⊎_elim
          (λ same. subst (λ l. Each (λ t. key ≤ t) (points_in l)) (sym (filter-keep is_beside s splits (eq-eqb s.key key same)))
          (Each-append (λ t. key ≤ t) s.points (points_in (filter is_beside splits))
          (Each-weaker (λ t. (s.key ≤ t) × (t < s.key + split_span g)) (λ t. key ≤ t) (λ t in_s. omega (arith, in_s.0, same)) s.points (split_each g wide s is))
          (beside_late splits (All-tail (IsWellFormed g) s splits all))))
          (λ apart. subst (λ l. Each (λ t. key ≤ t) (points_in l)) (sym (filter-skip is_beside s splits (ne_eqb s.key key apart))) (beside_late splits (All-tail (IsWellFormed g) s splits all)))
          (cases_eq s.key key)

-- What a turn leaves is what all points give that then stand, cut anew and from the oldest key on.
pub after_anew : (g : ℕ) (oldest from : Option ℕ) (points : List Point) (old : List Split) → 0 < g → AreSplits g old → ((at : ℕ) → from ≡ Some at → Each (λ t. floor_of at g ≤ t) points)
    → splits_after g oldest from points old ≡ splits_from oldest (splits_of g (points_after g from points (points_in old)))
after_anew g oldest None points old positive are late =
    ap (λ l. splits_from oldest old ++ l) (from_nothing oldest) ∙ append-nil (splits_from oldest old)
    ∙ ap (splits_from oldest) (sym (own_again g (omega (arith, positive)) old are))
  where
    from_nothing : (o : Option ℕ) → splits_from o [] ≡ []
    from_nothing None = refl
    from_nothing (Some k) = refl
after_anew g oldest (Some from) points old positive are late =
    sym (from-append oldest (splits_before g from old) (splits_of g (points_before (floor_of from g) (points_beside g from old) ++ points)))
    ∙ ap (splits_from oldest) (sym (cut_anew g from positive old points are (late from refl)))
