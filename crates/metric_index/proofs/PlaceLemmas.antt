-- A binary search in a table by rising key finds the key's place.
use Rattle.std.proofs.Common.{◌≡◌, ℕ, zero, suc, ◌<◌, ◌≤◌, false, cond, List, [], ◌∷◌, ◌++◌, length, get_or, map, take, drop, Option, Some, None, Result, Ok, Err, refl, sym, ap, subst, ◌∙◌, arith, add-one}
use Rattle.std.specs.List.{AllByRecursion, insert, remove, slice_get}
use Rattle.std.specs.List.Sorted.{IsBinarySearchResult, IsNonDecreasingBy, IsSearchInRange, IsStrictlySortedBy}
use Rattle.std.specs.Ordering.{is_lt, is_eq, is_gt, ordering_index, ordering_reverse}
use Rattle.std.specs.Cmp.{IsTotalOrder}
use Rattle.std.specs.declared.cmp.Ordering.{Ordering}
use Rattle.std.specs.declared.cmp.Ordering.TheVariants.{Less, Equal, Greater}
use Rattle.std.proofs.lemmas.List.Sorted.{searchable_from_sorted}
use Rattle.front_api.specs.Tables.{Rises, above, below, found, gone, put}
use Rattle.metric_index.specs.Places.{BelongsAt, IsPlace, StandsAt}

-- ---- one item in front

module _ {X : Type 0} (order : X → Ordering) where
  -- the parts of a table by a key
  record Parts (xs lower upper : List X) (sought : Option X) : Type 0 where
    lower_is : below order xs ≡ lower
    upper_is : above order xs ≡ upper
    found_is : found order xs ≡ sought

  less_front : (x : X) (xs lower upper : List X) (sought : Option X) → order x ≡ Less → Parts xs lower upper sought → Parts (x ∷ xs) (x ∷ lower) upper sought
  less_front x xs lower upper sought e p = record {
    lower_is = ap (λ v. cond (is_lt v) (x ∷ below order xs) (below order xs)) e ∙ ap (λ (l : List X). x ∷ l) p.lower_is;
    upper_is = ap (λ v. cond (is_gt v) (x ∷ above order xs) (above order xs)) e ∙ p.upper_is;
    found_is = ap (λ v. cond (is_eq v) (Some x) (found order xs)) e ∙ p.found_is;
  }

  equal_front : (x : X) (xs lower upper : List X) (sought : Option X) → order x ≡ Equal → Parts xs lower upper sought → Parts (x ∷ xs) lower upper (Some x)
  equal_front x xs lower upper sought e p = record {
    lower_is = ap (λ v. cond (is_lt v) (x ∷ below order xs) (below order xs)) e ∙ p.lower_is;
    upper_is = ap (λ v. cond (is_gt v) (x ∷ above order xs) (above order xs)) e ∙ p.upper_is;
    found_is = ap (λ v. cond (is_eq v) (Some x) (found order xs)) e;
  }

  greater_front : (x : X) (xs lower upper : List X) (sought : Option X) → order x ≡ Greater → Parts xs lower upper sought → Parts (x ∷ xs) lower (x ∷ upper) sought
  greater_front x xs lower upper sought e p = record {
    lower_is = ap (λ v. cond (is_lt v) (x ∷ below order xs) (below order xs)) e ∙ p.lower_is;
    upper_is = ap (λ v. cond (is_gt v) (x ∷ above order xs) (above order xs)) e ∙ ap (λ (l : List X). x ∷ l) p.upper_is;
    found_is = ap (λ v. cond (is_eq v) (Some x) (found order xs)) e ∙ p.found_is;
  }

  no_parts : Parts [] [] [] None
  no_parts = record { lower_is = refl; upper_is = refl; found_is = refl }

  -- where the key isn't there
  belongs : (xs : List X) (i : ℕ) → i ≤ length xs → ((k : ℕ) (d : X) → k < i → order (get_or xs k d) ≡ Less) → ((k : ℕ) (d : X) → i ≤ k → k < length xs → order (get_or xs k d) ≡ Greater)
      → Parts xs (take i xs) (drop i xs) None
  belongs [] zero le lower upper = no_parts
  belongs [] (suc i) le lower upper = absurd (omega arith)
  belongs (x ∷ xs) zero le lower upper =
      greater_front x xs [] xs None (upper 0 x (omega arith) (omega arith)) (belongs xs zero (omega arith) (λ k d lt. absurd (omega arith)) (λ k d ge lt. upper (suc k) d (omega arith) (omega arith)))
  belongs (x ∷ xs) (suc i) le lower upper =
      less_front x xs (take i xs) (drop i xs) None (lower 0 x (omega arith)) (belongs xs i (omega arith) (λ k d lt. lower (suc k) d (omega arith)) (λ k d ge lt. upper (suc k) d (omega arith) (omega arith)))

-- ---- in order

module _ {X K : Type 0} (cmp : K → K → Ordering) (o : IsTotalOrder cmp) (key : X → K) where
  abbrev to : K → X → Ordering
  to k x = cmp (key x) k

  sorted_parts : (x : X) (xs : List X) → Rises cmp key (x ∷ xs) → AllByRecursion (λ q. cmp (key x) q ≡ Less) (map key xs) × Rises cmp key xs
  unfolding IsStrictlySortedBy
  sorted_parts x xs s = s

  -- what stands behind one with the key is above it
  behind_equal : (k : K) (x : X) (xs : List X) → to k x ≡ Equal → AllByRecursion (λ q. cmp (key x) q ≡ Less) (map key xs) → Parts (to k) xs [] xs None
  behind_equal k x [] e all = no_parts (to k)
  behind_equal k x (y ∷ xs) e all =
      let greater : to k y ≡ Greater = o.antisymm (key y) k ∙ ap ordering_reverse (sym (o.congr (key x) k (key y) e) ∙ all.0) in
      greater_front (to k) y xs [] xs None greater (behind_equal k x xs e all.1)

  at_index : (P : K → Type 0) (xs : List X) (i : ℕ) (d : X) → AllByRecursion P (map key xs) → i < length xs → P (key (get_or xs i d))
  at_index P [] i d all lt = absurd (omega arith)
  at_index P (x ∷ xs) zero d all lt = all.0
  at_index P (x ∷ xs) (suc i) d all lt = at_index P xs i d all.1 (omega arith)

  stands : (k : K) (xs : List X) (i : ℕ) → Rises cmp key xs → i < length xs → ((d : X) → to k (get_or xs i d) ≡ Equal) → Parts (to k) xs (take i xs) (drop (suc i) xs) (slice_get xs i)
  stands k [] i s lt at = absurd (omega arith)
  stands k (x ∷ xs) zero s lt at =
      let e : to k x ≡ Equal = at x in
      equal_front (to k) x xs [] xs None e (behind_equal k x xs e (sorted_parts x xs s).0)
  stands k (x ∷ xs) (suc i) s lt at =
      let q = key (get_or xs i x) in
      let lower : cmp (key x) q ≡ Less = at_index (λ q. cmp (key x) q ≡ Less) xs i x (sorted_parts x xs s).0 (omega arith) in
      let less : to k x ≡ Less = o.antisymm (key x) k ∙ ap ordering_reverse (sym (o.congr q k (key x) (at x))) ∙ sym (o.antisymm (key x) q) ∙ lower in
      less_front (to k) x xs (take i xs) (drop (suc i) xs) (slice_get xs i) less (stands k xs i (sorted_parts x xs s).1 (omega arith) at)

  adjacent : (xs : List X) (k : ℕ) (d : X) → Rises cmp key xs → suc k < length xs → is_lt (cmp (key (get_or xs (suc k) d)) (key (get_or xs k d))) ≡ false
  adjacent [] k d s lt = absurd (omega arith)
  adjacent (x ∷ []) k d s lt = absurd (omega arith)
  adjacent (x ∷ y ∷ xs) zero d s lt = ap is_lt (o.antisymm (key y) (key x) ∙ ap ordering_reverse (sorted_parts x (y ∷ xs) s).0.0)
  adjacent (x ∷ y ∷ xs) (suc k) d s lt = adjacent (y ∷ xs) k d (sorted_parts x (y ∷ xs) s).1 (omega arith)

  rises_to : (k : K) (xs : List X) → Rises cmp key xs → IsNonDecreasingBy (λ y. ordering_index (to k y)) xs
  rises_to k xs s = searchable_from_sorted o key xs k (λ i d le lt. subst (λ j. is_lt (cmp (key (get_or xs j d)) (key (get_or xs i d))) ≡ false) (sym (add-one i)) (adjacent xs i d s (omega arith)))

  pub place_found : (k : K) (xs : List X) (r : Result ℕ ℕ) → Rises cmp key xs → IsSearchInRange r (length xs) → IsBinarySearchResult (to k) xs r → IsPlace (to k) xs r
  place_found k xs (Ok i) s lt at =
      let p = stands k xs i s lt at in
      record { inside = lt; lower = p.lower_is; upper = p.upper_is; is = p.found_is }
  place_found k xs (Err i) s le parted =
      let point = parted (rises_to k xs s) in
      let p = belongs (to k) xs i le (λ j d lt. point.0 j d (omega arith) lt) (λ j d ge lt. point.1 j d ge lt) in
      record { inside = le; lower = p.lower_is; upper = p.upper_is; none = p.found_is }

-- ---- edits at a place

pub put_at : {X : Type 0} (order : X → Ordering) (xs : List X) (i : ℕ) (x : X) → BelongsAt order xs i → insert xs i x ≡ put order x xs
put_at order xs i x b = ap (λ (l : List _). l ++ x ∷ drop i xs) (sym b.lower) ∙ ap (λ (u : List _). below order xs ++ x ∷ u) (sym b.upper)

pub gone_at : {X : Type 0} (order : X → Ordering) (xs : List X) (i : ℕ) → StandsAt order xs i → remove xs i ≡ gone order xs
gone_at order xs i s = ap (λ (l : List _). l ++ drop (suc i) xs) (sym s.lower) ∙ ap (λ (u : List _). below order xs ++ u) (sym s.upper)
