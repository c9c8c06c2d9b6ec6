-- Ranges in another order: what is disjoint stays so.
use Rattle.std.proofs.Common.{◌≡◌, ◌∙◌, ℕ, ◌+◌, ◌<◌, ◌≤◌, inl, inr, suc, zero, leb, ltb, cond, List, [], ◌∷◌, length, get_or, take, drop, zero-add, refl, sym, ap, subst, ⊎_elim, arith}
use Rattle.std.specs.List.{All, AllPairs, Any, sum_by}
use Rattle.std.specs.List.Sorted.{IsPermutation}
use Rattle.std.proofs.lemmas.Bool.{cases_lt, le-leb, lt-leb, lt-ltb, le-ltb}
use Rattle.std.proofs.lemmas.List.{get_or-take, get_or-drop, length-take, length-drop}
use Rattle.std.proofs.lemmas.List.Elements.{All-head, All-tail}
use Rattle.std.proofs.lemmas.List.Sums.{sum_by-append, sum_by-take-drop}
use Rattle.std.proofs.lemmas.List.Sorted.{All-permutation, Contains-permutation, sum_by-IsPermutation}
use Rattle.extent_map.specs.Ranges.{AreDisjoint, LiesIn, LiesOutside}
use Rattle.extent_map.specs.Extents.{IsLastEnd}
use Rattle.extent_map.proofs.RangeLemmas.{pairs-head, pairs-tail}

-- 1 where the range holds the place, else 0
abbrev pub inside : ℕ → ℕ × ℕ → ℕ
inside p r = cond (leb r.0 p) (cond (ltb p (r.0 + r.1)) 1 0) 0

in_one : (p : ℕ) (r : ℕ × ℕ) → LiesIn p r → inside p r ≡ 1
in_one p r h = rw (le-leb r.0 p h.0, lt-ltb p (r.0 + r.1) h.1)

out_none : (p : ℕ) (r : ℕ × ℕ) → LiesOutside p r → inside p r ≡ 0
out_none p r h =
    ⊎_elim
    (λ before. rw (lt-leb r.0 p before))
    (λ from. rw (le-leb r.0 p from, le-ltb p (r.0 + r.1) (⊎_elim (λ before. absurd (omega arith)) (λ behind. behind) h)))
    (cases_lt p r.0)

sum_cons : (p : ℕ) (x : ℕ × ℕ) (xs : List (ℕ × ℕ)) → sum_by (inside p) (x ∷ xs) ≡ inside p x + sum_by (inside p) xs
sum_cons p x xs = sum_by-append (inside p) (x ∷ []) xs ∙ ap (λ n. n + sum_by (inside p) xs) (zero-add (inside p x))

none_inside : (p : ℕ) (xs : List (ℕ × ℕ)) → All (LiesOutside p) xs → sum_by (inside p) xs ≡ 0
none_inside p [] h = refl
none_inside p (x ∷ xs) h =
    omega (arith, sum_cons p x xs, out_none p x (All-head (LiesOutside p) x xs h), none_inside p xs (All-tail (LiesOutside p) x xs h))

once : (p : ℕ) (xs : List (ℕ × ℕ)) → AllPairs AreDisjoint xs → sum_by (inside p) xs ≤ 1
once p [] apart = omega arith
once p (x ∷ xs) apart =
    ⊎_elim
    (λ before. omega (arith, sum_cons p x xs, out_none p x (inl before), once p xs (pairs-tail AreDisjoint x xs apart)))
    (λ from.
    ⊎_elim
    (λ within.
    omega (
      arith,
      sum_cons p x xs,
      in_one p x (from, within),
      none_inside p xs (λ k d h.
          ⊎_elim
          (λ first. inl (omega arith))
          (λ last. inr (omega arith))
          (pairs-head AreDisjoint x xs apart k d h)),
    ))
    (λ behind. omega (arith, sum_cons p x xs, out_none p x (inr behind), once p xs (pairs-tail AreDisjoint x xs apart)))
    (cases_lt p (x.0 + x.1)))
    (cases_lt p x.0)

at_least : (p : ℕ) (xs : List (ℕ × ℕ)) (k : ℕ) (d : ℕ × ℕ) → k < length xs → LiesIn p (get_or xs k d) → 1 ≤ sum_by (inside p) xs
at_least p [] k d short here = absurd (omega arith)
at_least p (x ∷ xs) zero d short here = omega (arith, sum_cons p x xs, in_one p x here)
at_least p (x ∷ xs) (suc k) d short here = omega (arith, sum_cons p x xs, at_least p xs k d (omega arith) here)

twice : (p : ℕ) (xs : List (ℕ × ℕ)) (i j : ℕ) (d : ℕ × ℕ) → i < j → j < length xs → LiesIn p (get_or xs i d) → LiesIn p (get_or xs j d) → 2 ≤ sum_by (inside p) xs
twice p xs i j d rise short here there =
    let first = at_least p (take j xs) i d (omega (arith, length-take j xs)) (subst (LiesIn p) (sym (get_or-take j xs i d rise)) here) in
    let same : get_or xs j d ≡ get_or (drop j xs) 0 d = ap (λ k. get_or xs k d) (let e : j ≡ j + 0 = omega arith in e) ∙ sym (get_or-drop j xs 0 d) in
    let last = at_least p (drop j xs) 0 d (omega (arith, length-drop j xs)) (subst (LiesIn p) same there) in
    omega (arith, first, last, sum_by-take-drop (inside p) xs j)

-- disjoint ranges are disjoint in any order
pub disjoint_permutation : (xs ys : List (ℕ × ℕ)) → IsPermutation xs ys → All (λ (r : ℕ × ℕ). 1 ≤ r.1) xs → AllPairs AreDisjoint xs → AllPairs AreDisjoint ys
disjoint_permutation xs ys moves filled apart i j d rise short =
    let a = get_or ys i d in
    let b = get_or ys j d in
    let some = All-permutation (λ (r : ℕ × ℕ). 1 ≤ r.1) xs ys moves filled in
    let rich : 1 ≤ a.1 = some i d (omega arith) in
    let full : 1 ≤ b.1 = some j d short in
    ⊎_elim
    (λ under.
    ⊎_elim
    (λ over.
    ⊎_elim
    (λ low. absurd (omega (arith, twice b.0 ys i j d rise short (omega arith, under) (omega arith, omega arith), once b.0 xs apart, sum_by-IsPermutation (inside b.0) xs ys moves)))
    (λ high. absurd (omega (arith, twice a.0 ys i j d rise short (omega arith, omega arith) (high, over), once a.0 xs apart, sum_by-IsPermutation (inside a.0) xs ys moves)))
    (cases_lt a.0 b.0))
    (λ last. inr last)
    (cases_lt a.0 (b.0 + b.1)))
    (λ first. inl first)
    (cases_lt b.0 (a.0 + a.1))

-- what some element has, one of them has in any order
pub any_permutation : (P : ℕ × ℕ → Type 0) (xs ys : List (ℕ × ℕ)) → IsPermutation xs ys → Any P xs → Any P ys
any_permutation P xs ys moves w =
    let there = Contains-permutation xs ys w.1 moves (w.0, w.2, w.3) in
    (there.0, w.1, there.1, there.2, w.4)

pub last_permutation : (xs ys : List (ℕ × ℕ)) (end : ℕ) → IsPermutation xs ys → IsLastEnd xs end → IsLastEnd ys end
last_permutation xs ys end moves last =
    record {
      all = All-permutation (λ (r : ℕ × ℕ). r.0 + r.1 ≤ end) xs ys moves last.all;
      one = ⊎_elim (λ none. inl none) (λ some. inr (any_permutation (λ (r : ℕ × ℕ). r.0 + r.1 ≡ end) xs ys moves some)) last.one;
    }
