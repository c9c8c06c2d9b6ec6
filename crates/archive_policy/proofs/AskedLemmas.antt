-- The largest of granularities, the least, and one more of them.
use Rattle.std.proofs.Common.{◌≡◌, ◌≢◌, ℕ, zero, suc, ◌+◌, ◌-◌, ◌%◌, ◌<◌, ◌≤◌, ◌||◌, drop, max, min, Bool, true, false, cond, List, [], ◌∷◌, ◌++◌, map, take, take_all, length, get_or, Option, Some, None, eqb, refl, sym, ap, subst, ◌∙◌, arith, append-nil}
use Rattle.std.proofs.lemmas.List.Elements.{filter-append}
use Rattle.std.proofs.Math.Logic.{⊎_elim}
use Rattle.std.proofs.lemmas.Bool.{cases_lt, eqb-true, eqb-false, eq-eqb, ne_eqb, not-true, not-false, not_from_false, both_ways, or_cases, or_left, or_right, false_from_ne_true}
use Rattle.std.proofs.lemmas.Option.{same_Some, none-some}
use Rattle.std.proofs.lemmas.List.Elements.{All-nil, All-cons, All-weaker, All-contains}
use Rattle.std.proofs.lemmas.List.Folds.{Any-from_list_any, list_any_at}
use Rattle.std.proofs.lemmas.List.Kept.{AllPairs-from_increasing}
use Rattle.std.proofs.lemmas.List.Sorted.{IsPermutation-sym, Contains-permutation, length_permutation}
use Rattle.std.specs.List.{All, Contains, filter, list_any, slice_index}
use Rattle.std.specs.List.Sorted.{IsPermutation, IsStrictlyIncreasing}
use Rattle.archive_policy.specs.declared.wanted.Wanted.{Wanted}
use Rattle.archive_policy.specs.Asked.{granularity_of, largest, lesser, least, leaves_rest, not_dividing, has_same}
use Rattle.archive_policy.specs.Faults.{HasSame, IsNotDividing}
use Rattle.archive_policy.proofs.Lists.{map_more, list_any-map, Contains-here, Contains-there, kept, kept_from, read_any}

-- one granularity more
pub largest-push : (gs : List ℕ) (g : ℕ) → largest (gs ++ g ∷ []) ≡ max g (largest gs)
largest-push [] g = refl
largest-push (x ∷ gs) g = rw (largest-push gs g) (omega arith)

-- a loop's step
pub largest_more : (xs : List Wanted) (i : ℕ) (w : Wanted) → i < length xs → w ≡ get_or xs i w → largest (map granularity_of (take (i + 1) xs)) ≡ max (granularity_of w) (largest (map granularity_of (take i xs)))
largest_more xs i w below is =
    ap largest (map_more granularity_of xs i w below is) ∙ largest-push (map granularity_of (take i xs)) (granularity_of w)

-- the order in which two granularities join others doesn't matter
lesser_swap : (x y : ℕ) (o : Option ℕ) → lesser x (Some (lesser y o)) ≡ lesser y (Some (lesser x o))
lesser_swap x y None = omega arith
lesser_swap x y (Some z) = omega arith

pub least-push : (gs : List ℕ) (g : ℕ) → least (gs ++ g ∷ []) ≡ Some (lesser g (least gs))
least-push [] g = refl
least-push (x ∷ gs) g = rw (least-push gs g) (ap Some (lesser_swap x g (least gs)))

-- what is kept of one granularity more
kept_more : (p : ℕ → Bool) (xs : List Wanted) (i : ℕ) (w : Wanted) → i < length xs → w ≡ get_or xs i w → filter p (map granularity_of (take (i + 1) xs)) ≡ filter p (map granularity_of (take i xs)) ++ cond (p (granularity_of w)) (granularity_of w ∷ []) []
kept_more p xs i w below is =
    ap (filter p) (map_more granularity_of xs i w below is) ∙ filter-append p (map granularity_of (take i xs)) (granularity_of w ∷ [])

-- a loop's step at a granularity that passes the test
pub least_more : (p : ℕ → Bool) (xs : List Wanted) (i : ℕ) (w : Wanted) → i < length xs → w ≡ get_or xs i w → p (granularity_of w) ≡ true → least (filter p (map granularity_of (take (i + 1) xs))) ≡ Some (lesser (granularity_of w) (least (filter p (map granularity_of (take i xs)))))
least_more p xs i w below is passes =
    rw (kept_more p xs i w below is, passes) (least-push (filter p (map granularity_of (take i xs))) (granularity_of w))

-- a loop's step at another one
pub least_same : (p : ℕ → Bool) (xs : List Wanted) (i : ℕ) (w : Wanted) → i < length xs → w ≡ get_or xs i w → p (granularity_of w) ≡ false → least (filter p (map granularity_of (take (i + 1) xs))) ≡ least (filter p (map granularity_of (take i xs)))
least_same p xs i w below is fails = rw (kept_more p xs i w below is, fails, append-nil) refl

-- ---- what the largest and the least are

pub largest_bound : (gs : List ℕ) → All (λ g. g ≤ largest gs) gs
largest_bound [] = All-nil (λ g. g ≤ 0)
largest_bound (g ∷ gs) =
    let P : ℕ → Type 0 = λ x. x ≤ max g (largest gs) in
    All-cons P g gs (omega arith) (All-weaker (λ x. x ≤ largest gs) P (λ x le. omega arith) gs (largest_bound gs))

pub largest_in : (gs : List ℕ) → 0 < length gs → Contains gs (largest gs)
largest_in [] some = absurd (omega arith)
largest_in (g ∷ []) some = Contains-here g [] (max g 0) (omega arith)
largest_in (g ∷ h ∷ gs) some =
    ⊎_elim
    (λ less. let e : largest (h ∷ gs) ≡ max g (largest (h ∷ gs)) = omega (arith, less) in let P : ℕ → Type 0 = λ x. Contains (g ∷ h ∷ gs) x in subst P e (Contains-there g (h ∷ gs) _ (largest_in (h ∷ gs) (omega arith))))
    (λ ge. Contains-here g (h ∷ gs) _ (omega (arith, ge)))
    (cases_lt g (largest (h ∷ gs)))

-- a bound that is reached is the largest
pub largest_only : (gs : List ℕ) (g : ℕ) → Contains gs g → All (λ x. x ≤ g) gs → g ≡ largest gs
largest_only gs g c bound =
    let P : ℕ → Type 0 = λ x. x ≤ largest gs in
    let Q : ℕ → Type 0 = λ x. x ≤ g in
    let some : 0 < length gs = omega (arith, c.1) in
    let low : g ≤ largest gs = All-contains P gs g (largest_bound gs) c in
    let high : largest gs ≤ g = All-contains Q gs (largest gs) bound (largest_in gs some) in
    omega (arith, low, high)

pub largest_permutation : (xs ys : List ℕ) → 0 < length xs → IsPermutation xs ys → largest ys ≡ largest xs
largest_permutation xs ys some h =
    let long : length ys ≡ length xs = length_permutation xs ys h in
    let P : ℕ → Type 0 = λ x. x ≤ largest xs in
    let Q : ℕ → Type 0 = λ x. x ≤ largest ys in
    let low : largest xs ≤ largest ys =
    All-contains Q ys (largest xs) (largest_bound ys) (Contains-permutation xs ys (largest xs) h (largest_in xs some)) in
    let high : largest ys ≤ largest xs =
    All-contains P xs (largest ys) (largest_bound xs) (Contains-permutation ys xs (largest ys) (IsPermutation-sym xs ys h) (largest_in ys (omega arith))) in
    omega (arith, low, high)

-- the last of rising granularities is the largest
pub last_largest : (gs : List ℕ) → IsStrictlyIncreasing gs → 0 < length gs → slice_index gs (length gs - 1) ≡ largest gs
last_largest gs rising some =
    let last = length gs - 1 in
    let c : Contains gs (get_or gs last 0) = (last, omega arith, read_any gs last (get_or gs last 0) 0 (omega arith)) in
    largest_only gs (get_or gs last 0) c (λ k d below. ⊎_elim (λ less. omega (arith, AllPairs-from_increasing gs rising k last d less (omega arith), read_any gs last d 0 (omega arith))) (λ ge. let same : k ≡ last = omega (arith, ge, below) in omega (arith, ap (λ j. get_or gs j d) same, read_any gs last d 0 (omega arith))) (cases_lt k last))

pub least_none : (gs : List ℕ) → least gs ≡ None → (g : ℕ) → Contains gs g → ⊥
least_none [] none g c = omega (arith, c.1)
least_none (x ∷ gs) none g c = cc

-- the lesser one is one of both
least_at : (x : ℕ) (gs : List ℕ) (o : Option ℕ) → least gs ≡ o → ((g : ℕ) → o ≡ Some g → Contains gs g × All (λ y. g ≤ y) gs) → (o ≡ None → (g : ℕ) → Contains gs g → ⊥) → Contains (x ∷ gs) (lesser x o) × All (λ y. lesser x o ≤ y) (x ∷ gs)
least_at x gs None is known none =
    (Contains-here x gs x refl, All-cons (λ y. x ≤ y) x gs (omega arith) (λ k d below. absurd (none refl (get_or gs k d) (k, below, read_any gs k (get_or gs k d) d below))))
least_at x gs (Some g) is known none =
    let r = known g refl in
    let P : ℕ → Type 0 = λ y. min x g ≤ y in
    let all = All-cons P x gs (omega arith) (All-weaker (λ y. g ≤ y) P (λ y le. omega arith) gs r.1) in
    let Q : ℕ → Type 0 = λ y. Contains (x ∷ gs) y in (
      ⊎_elim
          (λ less. let e : x ≡ min x g = omega (arith, less) in Contains-here x gs (min x g) e)
          (λ ge. let e : g ≡ min x g = omega (arith, ge) in subst Q e (Contains-there x gs g r.0))
          (cases_lt x g),
      all,
    )

-- the least of granularities is one of them, and none is less
pub least_is : (gs : List ℕ) (g : ℕ) → least gs ≡ Some g → Contains gs g × All (λ x. g ≤ x) gs
least_is [] g is = absurd (none-some g is)
least_is (x ∷ gs) g is =
    let P : ℕ → Type 0 = λ y. Contains (x ∷ gs) y × All (λ z. y ≤ z) (x ∷ gs) in
    subst P (same_Some (lesser x (least gs)) g is) (least_at x gs (least gs) refl (least_is gs) (least_none gs))

-- ---- granularities that don't divide the largest

leaves : (coarse fine : ℕ) → leaves_rest coarse fine ≡ true → coarse % fine ≢ 0
leaves coarse fine h = eqb-false (coarse % fine) 0 (not-true _ h)

leaves_from : (coarse fine : ℕ) → coarse % fine ≢ 0 → leaves_rest coarse fine ≡ true
leaves_from coarse fine h = not_from_false _ (ne_eqb (coarse % fine) 0 h)

pub not_dividing-some : (gs : List ℕ) (fine : ℕ) → not_dividing gs ≡ Some fine → IsNotDividing gs fine (largest gs)
not_dividing-some gs fine is =
    let coarse = largest gs in
    let p = leaves_rest coarse in
    let r = least_is (filter p gs) fine is in
    let c = kept_from p gs fine r.0 in record {
      coarse_is_one = largest_in gs (omega (arith, c.0.1));
      largest = largest_bound gs;
      fine_is_one = c.0;
      leaves_rest = leaves coarse fine c.1;
      least = λ k d below rest. let g = get_or gs k d in let P : ℕ → Type 0 = λ x. fine ≤ x in let one : Contains gs g = (k, below, read_any gs k g d below) in All-contains P (filter p gs) g r.1 (kept p gs g one (leaves_from coarse g rest));
    }

pub not_dividing-none : (gs : List ℕ) → not_dividing gs ≡ None → (fine coarse : ℕ) → IsNotDividing gs fine coarse → ⊥
not_dividing-none gs none fine coarse h =
    let same : coarse ≡ largest gs = largest_only gs coarse h.coarse_is_one h.largest in
    let P : ℕ → Type 0 = λ c. c % fine ≢ 0 in
    least_none (filter (leaves_rest (largest gs)) gs) none fine (kept (leaves_rest (largest gs)) gs fine h.fine_is_one (leaves_from (largest gs) fine (subst P same h.leaves_rest)))

-- where there is none, each divides the largest
pub all_divide : (gs : List ℕ) → not_dividing gs ≡ None → All (λ g. largest gs % g ≡ 0) gs
all_divide gs none k d below =
    let g = get_or gs k d in
    let p = leaves_rest (largest gs) in
    let one : Contains gs g = (k, below, read_any gs k g d below) in
    let fails : p g ≡ false =
    false_from_ne_true (p g) (λ passes. least_none (filter p gs) none g (kept p gs g one passes)) in
    eqb-true (largest gs % g) 0 (not-false _ fails)

-- ---- granularities that stand twice

pub has_same-true : (gs : List ℕ) → has_same gs ≡ true → HasSame gs
has_same-true [] h = absurd (both_ways false refl h)
has_same-true (g ∷ gs) h =
    ⊎_elim
    (λ here. let a = Any-from_list_any (λ other. eqb other g) gs here in (0, suc a.0, omega arith, omega (arith, a.2), sym (read_any gs a.0 0 a.1 a.2 ∙ a.3 ∙ eqb-true a.1 g a.4)))
    (λ there. let r = has_same-true gs there in (suc r.0, suc r.1, omega (arith, r.2), omega (arith, r.3), r.4))
    (or_cases (list_any (λ other. eqb other g) gs) (has_same gs) h)

pub has_same-from : (gs : List ℕ) → HasSame gs → has_same gs ≡ true
has_same-from [] h = absurd (omega (arith, h.3))
has_same-from (g ∷ gs) h = by h.0 h.1 h.2 h.3 h.4 (has_same-from gs)
  where
    by : (i j : ℕ) → i < j → j < length (g ∷ gs) → slice_index (g ∷ gs) i ≡ slice_index (g ∷ gs) j → (HasSame gs → has_same gs ≡ true) → has_same (g ∷ gs) ≡ true
    by zero zero less below same rest = absurd (omega arith)
    by zero (suc j) less below same rest =
        or_left (list_any (λ other. eqb other g) gs) (has_same gs) (list_any_at (λ other. eqb other g) gs j 0 (omega arith) (eq-eqb (get_or gs j 0) g (sym same)))
    by (suc i) zero less below same rest = absurd (omega arith)
    by (suc i) (suc j) less below same rest =
        or_right (list_any (λ other. eqb other g) gs) (has_same gs) (rest (i, j, omega arith, omega arith, same))

-- a recursion's step
pub has_same_step : (xs : List Wanted) (w : Wanted) → 1 ≤ length xs → w ≡ get_or xs 0 w → let rest = take (length xs - 1) (drop 1 xs) in has_same (map granularity_of xs) ≡ (list_any (λ x. eqb (granularity_of x) (granularity_of w)) rest || has_same (map granularity_of rest))
has_same_step [] w some is = absurd (omega arith)
has_same_step (x ∷ xs) w some is =
    let others : take (length (x ∷ xs) - 1) xs ≡ xs = take_all (length (x ∷ xs) - 1) xs (omega arith) in
    rw others (ap (λ here. here || has_same (map granularity_of xs)) (list_any-map (λ other. eqb other (granularity_of x)) granularity_of xs ∙ ap (λ (y : Wanted). list_any (λ v. eqb (granularity_of v) (granularity_of y)) xs) (sym is)))
