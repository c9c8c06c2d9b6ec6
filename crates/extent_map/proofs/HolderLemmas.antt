-- Places outside of every range, and ranges that hold a place.
use Rattle.std.proofs.Common.{◌≡◌, ℕ, ◌+◌, ◌<◌, ◌≤◌, inl, inr, List, ◌∷◌, ◌++◌, Some, get_or, take, drop, subst, ⊎_elim, arith}
use Rattle.std.specs.List.{All, AllPairs, slice_get}
use Rattle.std.proofs.lemmas.Bool.{cases_lt}
use Rattle.std.proofs.lemmas.List.Elements.{All-append, All-cons, All-head, All-same}
use Rattle.extent_map.specs.Ranges.{EndsBefore, LiesIn, LiesOutside}
use Rattle.extent_map.proofs.RangeLemmas.{split_got, pairs-right, pairs-head}
use Rattle.extent_map.proofs.JoinLemmas.{Misses, drop_got}

-- all ranges in front end by the place, and those behind begin behind it
pub outside_between : (xs : List (ℕ × ℕ)) (i at place : ℕ) (x : ℕ × ℕ) → AllPairs EndsBefore xs → All (λ (r : ℕ × ℕ). r.0 + r.1 < at + 1) (take i xs) → at ≤ place → slice_get xs i ≡ Some x → place ≤ x.0 + x.1 → LiesOutside place x → All (LiesOutside place) xs
outside_between xs i at place x apart before low got high this =
    let split = split_got xs i x got in
    let apart' = subst (AllPairs EndsBefore) split apart in
    All-same (LiesOutside place) xs (take i xs ++ x ∷ drop (i + 1) xs) split
    (All-append (LiesOutside place) (take i xs) (x ∷ drop (i + 1) xs)
    (λ k d h. inr (omega (arith, before k d h)))
    (All-cons (LiesOutside place) x (drop (i + 1) xs) this
    (λ k d h. inl (omega (arith, pairs-head EndsBefore x (drop (i + 1) xs) (pairs-right EndsBefore (take i xs) (x ∷ drop (i + 1) xs) apart') k d h)))))

-- a range all of whose places are outside of others overlaps none of them
pub misses_outside : (xs : List (ℕ × ℕ)) (at len : ℕ) → 0 < len → All (λ (r : ℕ × ℕ). 0 < r.1) xs → ((p : ℕ) → LiesIn p (at, len) → All (LiesOutside p) xs) → All (Misses at len) xs
misses_outside xs at len filled each outside k d h =
    let r = get_or xs k d in
    let some : 0 < r.1 = each k d h in
    ⊎_elim
    (λ low.
    ⊎_elim
    (λ high.
    ⊎_elim
    (λ inside. absurd (⊎_elim (λ (e : r.0 < r.0). omega arith) (λ (e : r.0 + r.1 ≤ r.0). omega arith) (outside r.0 (omega arith, high) k d h)))
    (λ here. absurd (⊎_elim (λ (e : at < r.0). omega arith) (λ (e : r.0 + r.1 ≤ at). omega arith) (outside at (omega arith, omega arith) k d h)))
    (cases_lt at r.0))
    (λ late. inr late)
    (cases_lt r.0 (at + len)))
    (λ early. inl early)
    (cases_lt at (r.0 + r.1))

-- what holds of the ranges from an index on holds of the one there
pub first_of : (P : ℕ × ℕ → Type 0) (xs : List (ℕ × ℕ)) (i : ℕ) (x : ℕ × ℕ) → All P (drop i xs) → slice_get xs i ≡ Some x → P x
first_of P xs i x all got = All-head P x (drop (i + 1) xs) (subst (All P) (drop_got xs i x got) all)
