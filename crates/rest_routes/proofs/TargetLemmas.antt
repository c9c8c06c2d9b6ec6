-- Where a target is cut.
use Rattle.std.proofs.Common.{◌≡◌, ◌≢◌, ℕ, ◌+◌, ◌≤◌, List, [], ◌∷◌, ◌++◌, length, take, drop, Some, None, Bool, true, false, cond, ltb, refl, ap, ◌∙◌, arith, ◌==◌, codes}
use Rattle.std.specs.List.{AllByRecursion, position, position_or_len}
use Rattle.std.proofs.lemmas.Bool.Decides.{nat_tests}
use Rattle.std.proofs.lemmas.List.{take_all, drop_all}
use Rattle.std.proofs.Math.Seq.{take-append_seam, drop-append-add}
use Rattle.rest_routes.specs.Target.{from_slash, is_mark, path_in, query_in}

pub position-some : {X : Type 0} (p : X → Bool) (xs : List X) (i : ℕ) → position p xs ≡ Some i → position_or_len p xs ≡ i
position-some p xs i e = by (ltb (position_or_len p xs) (length xs)) e
  where
    by : (v : Bool) → cond v (Some (position_or_len p xs)) None ≡ Some i → position_or_len p xs ≡ i
    by true e = cc
    by false e = cc

pub position-none : {X : Type 0} (p : X → Bool) (xs : List X) → position p xs ≡ None → length xs ≤ position_or_len p xs
position-none p xs e = by (ltb (position_or_len p xs) (length xs)) refl e
  where
    by : (v : Bool) → ltb (position_or_len p xs) (length xs) ≡ v → cond v (Some (position_or_len p xs)) None ≡ None → length xs ≤ position_or_len p xs
    by true f e = cc
    by false f e = grind (arith, nat_tests)

-- what stands in front of the first slash is left out
pub from_slash-front : (front rest : List ℕ) → AllByRecursion (λ b. b ≢ 47) front → from_slash (front ++ 47 ∷ rest) ≡ 47 ∷ rest
from_slash-front [] rest h = refl
from_slash-front (b ∷ front) rest h =
    let n : b ≢ 47 = h.0 in
    let e : (b == 47) ≡ false = grind (arith, nat_tests) in
    rw e (from_slash-front front rest h.1)

pub from_slash-none : (text : List ℕ) → AllByRecursion (λ b. b ≢ 47) text → from_slash text ≡ codes "/"
from_slash-none [] h = refl
from_slash-none (b ∷ text) h =
    let n : b ≢ 47 = h.0 in
    let e : (b == 47) ≡ false = grind (arith, nat_tests) in
    rw e (from_slash-none text h.1)

-- the first mark stands behind what has none
first-mark : (path query : List ℕ) → AllByRecursion (λ b. b ≢ 63) path → position_or_len is_mark (path ++ 63 ∷ query) ≡ length path
first-mark [] query h = refl
first-mark (b ∷ path) query h =
    let n : b ≢ 63 = h.0 in
    let e : (b == 63) ≡ false = grind (arith, nat_tests) in
    rw e (omega (arith, first-mark path query h.1))

no-mark : (path : List ℕ) → AllByRecursion (λ b. b ≢ 63) path → position_or_len is_mark path ≡ length path
no-mark [] h = refl
no-mark (b ∷ path) h =
    let n : b ≢ 63 = h.0 in
    let e : (b == 63) ≡ false = grind (arith, nat_tests) in
    rw e (omega (arith, no-mark path h.1))

-- a text is cut at its first mark
pub cut-path : (path query : List ℕ) → AllByRecursion (λ b. b ≢ 63) path → path_in (path ++ 63 ∷ query) ≡ path
cut-path path query h =
    ap (λ n. take n (path ++ 63 ∷ query)) (first-mark path query h) ∙ take-append_seam path (63 ∷ query)

pub cut-query : (path query : List ℕ) → AllByRecursion (λ b. b ≢ 63) path → query_in (path ++ 63 ∷ query) ≡ query
cut-query path query h =
    ap (λ n. drop (n + 1) (path ++ 63 ∷ query)) (first-mark path query h) ∙ drop-append-add path (63 ∷ query) 1

pub whole-path : (path : List ℕ) → AllByRecursion (λ b. b ≢ 63) path → path_in path ≡ path
whole-path path h = ap (λ n. take n path) (no-mark path h) ∙ take_all (length path) path (omega arith)

pub no-query : (path : List ℕ) → AllByRecursion (λ b. b ≢ 63) path → query_in path ≡ []
no-query path h = ap (λ n. drop (n + 1) path) (no-mark path h) ∙ drop_all (length path + 1) path (omega arith)
