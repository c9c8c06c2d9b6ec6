-- Points stretch by stretch, and the rows of them that a query wants.
use Rattle.std.proofs.Common.{◌≡◌, inl, inr, ℕ, ◌+◌, ◌*◌, ◌/◌, ◌%◌, ◌<◌, ◌≤◌, Bool, true, false, cond, leb, ltb, eqb, ◌&&◌, List, [], ◌∷◌, ◌++◌, map, Option, Some, None, refl, sym, ap, subst, ◌∙◌, append_assoc, arith}
use Rattle.std.specs.List.{All, Contains, filter}
use Rattle.std.specs.List.Sorted.{IsStrictlyIncreasing}
use Rattle.std.proofs.Math.Logic.{⊎_elim}
use Rattle.std.proofs.Math.Nat.{add-mul, mul-mod_left}
use Rattle.std.proofs.Math.Bool.{and_assoc}
use Rattle.std.proofs.lemmas.Bool.{and_from, and_left, and_parts, and_right, eq-eqb, eqb-true, leb-true, ltb-true, le-leb, lt-leb, lt-ltb, le-ltb, cases_lt}
use Rattle.std.proofs.lemmas.List.{map-append}
use Rattle.std.proofs.lemmas.List.Elements.{All-head, All-tail, filter-append}
use Rattle.gno_num.specs.Floor.{floor_of}
use Rattle.archive_policy.specs.declared.definition.Definition.{Definition}
use Rattle.series_model.specs.declared.answer.Row.{Row}
use Rattle.series_model.specs.declared.point.Point.{Point}
use Rattle.series_model.specs.declared.point.Split.{Split}
use Rattle.series_model.specs.declared.query.Query.{Query}
use Rattle.series_model.specs.Answer.{oldest_point_of, row_of}
use Rattle.series_model.specs.Points.{points_from, starts_of}
use Rattle.series_model.specs.Query.{is_from, is_until, is_wanted, rows_wanted}
use Rattle.series_model.specs.Stored.{oldest_key_of, split_at, split_span, splits_of}
use Rattle.series_model.proofs.ByKey.{filter-keep, filter-skip, filter_within}
use Rattle.series_model.proofs.Members.{Contains-cases, Contains-here, Contains-none, Contains-there, map_has}
use Rattle.series_model.proofs.PointLaws.{at_of, floor-le, floor-mono, floor-own, starts_has}
use Rattle.series_model.proofs.Rising.{Above, Rises, Rises_from_rising}
use Rattle.split_update.specs.Update.{points_before}
use Rattle.shelf_blocks.specs.Turns.{points_found}
use Rattle.split_store.specs.ShelfView.{split_with}

-- ---- lists that are filtered twice

module _ {X : Type 0} (p q : X → Bool) where
  -- what one refuses of all that the other lets through
  both_none : ((x : X) → q x ≡ true → p x ≡ false) → (xs : List X) → filter p (filter q xs) ≡ []
  both_none apart [] = refl
  both_none apart (x ∷ xs) = by (q x) refl (both_none apart xs)
    where
      by : (t : Bool) → q x ≡ t → filter p (filter q xs) ≡ [] → filter p (filter q (x ∷ xs)) ≡ []
      by true e rest = ap (filter p) (filter-keep q x xs e) ∙ filter-skip p x (filter q xs) (apart x e) ∙ rest
      by false e rest = ap (filter p) (filter-skip q x xs e) ∙ rest

  -- what the other refuses is nothing that this one lets through
  both_same : (P : X → Type 0) → ((x : X) → P x → p x ≡ true → q x ≡ true) → (xs : List X) → All P xs → filter p (filter q xs) ≡ filter p xs
  both_same P within [] all = refl
  both_same P within (x ∷ xs) all = by (q x) refl (p x) refl (both_same P within xs (All-tail P x xs all))
    where
      by : (t : Bool) → q x ≡ t → (s : Bool) → p x ≡ s → filter p (filter q xs) ≡ filter p xs → filter p (filter q (x ∷ xs)) ≡ filter p (x ∷ xs)
      by true e true f rest = ap (filter p) (filter-keep q x xs e) ∙ filter-keep p x (filter q xs) f ∙ ap (λ l. x ∷ l) rest ∙ sym (filter-keep p x xs f)
      by true e false f rest = ap (filter p) (filter-keep q x xs e) ∙ filter-skip p x (filter q xs) f ∙ rest ∙ sym (filter-skip p x xs f)
      by false e true f rest = absurd (let w : false ≡ true = sym e ∙ within x (All-head P x xs all) f in cc)
      by false e false f rest = ap (filter p) (filter-skip q x xs e) ∙ rest ∙ sym (filter-skip p x xs f)

none_left : {X : Type 0} (p : X → Bool) (xs : List X) → ((x : X) → Contains xs x → p x ≡ false) → filter p xs ≡ []
none_left p [] none = refl
none_left p (x ∷ xs) none = filter-skip p x xs (none x (Contains-here x xs x refl)) ∙ none_left p xs (λ y c. none y (Contains-there x xs y c))

-- ---- stretches

-- a point is in the stretch of this length from a time on
abbrev stretch : ℕ → ℕ → Point → Bool
stretch from n p = leb from p.at && ltb p.at (from + n)

none_before : (k at : ℕ) (points : List Point) → k ≤ at → Above at (map at_of points) → points_before k points ≡ []
none_before k at [] le above = refl
none_before k at (p ∷ points) le above =
    filter-skip (λ (q : Point). ltb q.at k) p points (le-ltb p.at k (omega (arith, le, above.0))) ∙ none_before k at points le above.1

-- the points before a later time are those before and those of the stretch between
before_more : (k n : ℕ) (points : List Point) → Rises (map at_of points) → points_before (k + n) points ≡ points_before k points ++ filter (stretch k n) points
before_more k n [] rises = refl
before_more k n (p ∷ points) rises =
    let rest = before_more k n points rises.1 in
    ⊎_elim (λ early. early_one rest early) (λ from. ⊎_elim (λ near. inside rest from near) (λ far. beyond rest from far) (cases_lt p.at (k + n))) (cases_lt p.at k)
  where
    soon : Point → Bool
    soon q = ltb q.at k

    late : Point → Bool
    late q = ltb q.at (k + n)

    Rest : Type 0
    Rest = points_before (k + n) points ≡ points_before k points ++ filter (stretch k n) points

    Whole : Type 0
    Whole = points_before (k + n) (p ∷ points) ≡ points_before k (p ∷ points) ++ filter (stretch k n) (p ∷ points)

    early_one : Rest → p.at < k → Whole
    early_one rest early =
        filter-keep late p points (lt-ltb p.at (k + n) (omega (arith, early)))
        ∙ ap (λ l. p ∷ l) rest
        ∙ ap (λ l. p ∷ (points_before k points ++ l)) (sym (filter-skip (stretch k n) p points (and_left (leb k p.at) (ltb p.at (k + n)) (lt-leb k p.at early))))
        ∙ ap (λ l. l ++ filter (stretch k n) (p ∷ points)) (sym (filter-keep soon p points (lt-ltb p.at k early)))

    inside : Rest → k ≤ p.at → p.at < k + n → Whole
    inside rest from near =
        filter-keep late p points (lt-ltb p.at (k + n) near)
        ∙ ap (λ l. p ∷ l) (rest ∙ ap (λ l. l ++ filter (stretch k n) points) (none_before k p.at points from rises.0))
        ∙ sym (filter-keep (stretch k n) p points (and_from (leb k p.at) (ltb p.at (k + n)) (le-leb k p.at from) (lt-ltb p.at (k + n) near)))
        ∙ ap (λ l. l ++ filter (stretch k n) (p ∷ points)) (sym (filter-skip soon p points (le-ltb p.at k from) ∙ none_before k p.at points from rises.0))

    beyond : Rest → k ≤ p.at → k + n ≤ p.at → Whole
    beyond rest from far =
        filter-skip late p points (le-ltb p.at (k + n) far)
        ∙ rest
        ∙ ap (λ l. points_before k points ++ l) (sym (filter-skip (stretch k n) p points (and_right (leb k p.at) (ltb p.at (k + n)) (le-ltb p.at (k + n) far))))
        ∙ ap (λ l. l ++ filter (stretch k n) (p ∷ points)) (sym (filter-skip soon p points (le-ltb p.at k from)))

-- ---- the split of a stretch

module _ (g key : ℕ) (points : List Point) where
  abbrev cut : List ℕ → List Split
  cut starts = map (split_at g points) starts

  -- the split with a key among those that are cut at these starts
  data Looked (starts : List ℕ) : Type 0 where
    there : split_with key (cut starts) ≡ Some (split_at g points key) → Looked starts
    nowhere : split_with key (cut starts) ≡ None → (Contains starts key → ⊥) → Looked starts

  look : (starts : List ℕ) → Looked starts
  look [] = nowhere refl (Contains-none key)
  look (s ∷ starts) = by (eqb s key) refl (look starts)
    where
      by : (t : Bool) → eqb s key ≡ t → Looked starts → Looked (s ∷ starts)
      by true e rest =
          there (ap (λ t. cond t (Some (split_at g points s)) (split_with key (cut starts))) e ∙ ap (λ k. Some (split_at g points k)) (eqb-true s key e))
      by false e (there is) = there (ap (λ t. cond t (Some (split_at g points s)) (split_with key (cut starts))) e ∙ is)
      by false e (nowhere is none) =
          nowhere (ap (λ t. cond t (Some (split_at g points s)) (split_with key (cut starts))) e ∙ is)
          (λ has. elim (Contains-cases s starts key has) [
            | inl same ↦ (let w : false ≡ true = sym e ∙ eq-eqb s key same in absurd cc)
            | inr later ↦ none later
          ])

  -- a point of the stretch has its split
  has_start : key % split_span g ≡ 0 → (p : Point) → Contains points p → stretch key (split_span g) p ≡ true → Contains (starts_of (split_span g) (map at_of points)) key
  has_start whole p has in_it =
      let parts = and_parts (leb key p.at) (ltb p.at (key + split_span g)) in_it in
      subst (λ k. Contains (starts_of (split_span g) (map at_of points)) k)
      (floor-own key p.at (split_span g) whole (leb-true key p.at parts.0) (ltb-true p.at (key + split_span g) parts.1))
      (starts_has (split_span g) p.at (map at_of points) (map_has at_of points p has))

  -- what stands in the split of a stretch are the points of that stretch
  found_there : key % split_span g ≡ 0 → points_found (split_with key (splits_of g points)) ≡ filter (stretch key (split_span g)) points
  found_there whole = by (look (starts_of (split_span g) (map at_of points)))
    where
      outside : (Contains (starts_of (split_span g) (map at_of points)) key → ⊥) → (p : Point) → Contains points p → (t : Bool) → stretch key (split_span g) p ≡ t → stretch key (split_span g) p ≡ false
      outside none p has true e = absurd (none (has_start whole p has e))
      outside none p has false e = e

      by : Looked (starts_of (split_span g) (map at_of points)) → points_found (split_with key (splits_of g points)) ≡ filter (stretch key (split_span g)) points
      by (there is) = ap points_found is
      by (nowhere is none) = ap points_found is ∙ sym (none_left (stretch key (split_span g)) points (λ p has. outside none p has (stretch key (split_span g) p) refl))

-- the same, where no split before an older key is stored
found_since : (g key oldest : ℕ) (points : List Point) → key % split_span g ≡ 0 → oldest ≤ key → points_found (split_with key (splits_of g (points_from oldest points))) ≡ filter (stretch key (split_span g)) points
found_since g key oldest points whole le =
    found_there g key (points_from oldest points) whole
    ∙ filter_within (stretch key (split_span g)) (λ (p : Point). leb oldest p.at)
    (λ p in_it. let from = leb-true key p.at (and_parts (leb key p.at) (ltb p.at (key + split_span g)) in_it).0 in le-leb oldest p.at (omega (arith, le, from))) points

-- ---- rows

-- a multiple of a length, and some lengths more
pub whole_key : (first n i : ℕ) → (first / n * n + i * n) % n ≡ 0
whole_key first n i = ap (λ m. m % n) (sym (add-mul (first / n) i n)) ∙ mul-mod_left (first / n + i) n

module _ (query : Query) (g oldest : ℕ) where
  abbrev rows : List Point → List Row
  rows points = rows_wanted query g oldest points

  rows_parts : (xs ys : List Point) → rows (xs ++ ys) ≡ rows xs ++ rows ys
  rows_parts xs ys =
      ap (map (row_of g)) (filter-append (is_wanted query g oldest) xs ys) ∙ map-append (row_of g) (filter (is_wanted query g oldest) xs) (filter (is_wanted query g oldest) ys)

  -- the first time that is wanted isn't before the oldest point
  pub first_late : (first : ℕ) → ((at : ℕ) → leb first at ≡ (leb oldest at && is_from query.start g at)) → oldest ≤ first
  first_late first is = leb-true oldest first (and_parts (leb oldest first) (is_from query.start g first) (sym (is first) ∙ le-leb first first (omega arith))).0

  -- no point before the first time is wanted
  pub rows_begin : (first begin : ℕ) (points : List Point) → ((at : ℕ) → leb first at ≡ (leb oldest at && is_from query.start g at)) → begin ≤ first → rows (points_before begin points) ≡ []
  rows_begin first begin points is le =
      ap (map (row_of g)) (both_none (is_wanted query g oldest) (λ (p : Point). ltb p.at begin) unwanted points)
    where
      unwanted : (p : Point) → ltb p.at begin ≡ true → is_wanted query g oldest p ≡ false
      unwanted p early =
          let less = ltb-true p.at begin early in
          sym (ap (λ b. b && is_until query.stop p.at) (is p.at) ∙ and_assoc (leb oldest p.at) (is_from query.start g p.at) (is_until query.stop p.at))
          ∙ ap (λ b. b && is_until query.stop p.at) (lt-leb first p.at (omega (arith, less, le)))

  -- and none from the end on
  pub rows_end : (last end upto : ℕ) (points : List Point) → ((at : ℕ) → at ≤ last → is_until query.stop at ≡ true → at < end) → end ≤ upto → All (λ (p : Point). p.at ≤ last) points → rows (points_before upto points) ≡ rows points
  rows_end last end upto points before le all =
      ap (map (row_of g)) (both_same (is_wanted query g oldest) (λ (p : Point). ltb p.at upto) (λ p. p.at ≤ last) soon points all)
    where
      soon : (p : Point) → p.at ≤ last → is_wanted query g oldest p ≡ true → ltb p.at upto ≡ true
      soon p early wanted =
          let parts = and_parts (leb oldest p.at) (is_from query.start g p.at && is_until query.stop p.at) wanted in
          let until = (and_parts (is_from query.start g p.at) (is_until query.stop p.at) parts.1).1 in
          let less = before p.at early until in
          lt-ltb p.at upto (omega (arith, less, le))

  -- those of one more stretch
  pub rows_more : (key length begin i least : ℕ) (points : List Point) (split : Option Split) (old so_far new : List Row) → IsStrictlyIncreasing (map (λ (p : Point). p.at) points) → length ≡ split_span g → key ≡ begin + i * length → key % length ≡ 0 → least ≤ key
      → split ≡ split_with key (splits_of g (points_from least points)) → so_far ≡ old ++ rows (points_before (begin + i * length) points) → new ≡ so_far ++ rows (points_found split)
      → new ≡ old ++ rows (points_before (begin + (i + 1) * length) points)
  rows_more key length begin i least points split old so_far new rising long at whole late found was is =
      let n = split_span g in
      let own : points_found split ≡ filter (stretch key n) points = ap points_found found ∙ found_since g key least points (subst (λ m. key % m ≡ 0) long whole) late in
      let more = before_more key length points (Rises_from_rising (map at_of points) rising) in
      let next : key + length ≡ begin + (i + 1) * length = omega (arith, at, add-mul i 1 length) in
      is
      ∙ ap (λ l. so_far ++ rows l) (own ∙ ap (λ m. filter (stretch key m) points) (sym long))
      ∙ ap (λ l. l ++ rows (filter (stretch key length) points)) (was ∙ ap (λ k. old ++ rows (points_before k points)) (sym at))
      ∙ append_assoc old (rows (points_before key points)) (rows (filter (stretch key length) points))
      ∙ ap (λ l. old ++ l) (sym (rows_parts (points_before key points) (filter (stretch key length) points)) ∙ ap rows (sym more) ∙ ap (λ k. rows (points_before k points)) next)

-- the stretch of the first time begins no later than that time
pub begin_early : (first n : ℕ) → first / n * n + 0 * n ≤ first
begin_early first n = omega (arith, floor-le first n)

-- no stretch from the first time on begins before the oldest key
pub late_key : (first last oldest length i key : ℕ) (d : Definition) → oldest ≡ oldest_point_of last d → length ≡ split_span d.granularity → oldest ≤ first → key ≡ first / length * length + i * length → oldest_key_of last d ≤ key
late_key first last oldest length i key d is long le at =
    let from : floor_of oldest length ≤ floor_of first length = floor-mono oldest first length le in
    let own : oldest_key_of last d ≡ floor_of oldest length = sym (ap (λ o. floor_of o length) is ∙ ap (floor_of (oldest_point_of last d)) long) in
    omega (arith, own, from, at)
