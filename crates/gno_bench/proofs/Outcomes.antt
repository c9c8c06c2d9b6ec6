-- Outcomes grow by one thing at a time.
use Rattle.std.proofs.Common.{◌≡◌, ℕ, ◌+◌, ◌<◌, ◌≤◌, Option, Some, None, List, [], length, take, get_or, is_some, refl, ap, arith, add-zero}
use Rattle.std.specs.Prelude.{unwrap_or}
use Rattle.std.proofs.Math.Nat.{mod-add-mod}
use Rattle.std.proofs.lemmas.List.{get_or-map, length-map, length-take}
use Rattle.std.proofs.lemmas.List.Sums.{count_by_more_no, count_by_more_yes, sum_by_more, count_by-le-length}
use Rattle.std.specs.declared.vec.Vec.{Vec}
use Rattle.std.specs.declared.alloc.Global.{Global}
use Rattle.gno_bench.specs.Outcome.{told_by, told_with, texts_of}

-- one thing more
pub told_step : {X : Type 0} (f : X → Option ℕ) (xs : List X) (i : ℕ) (d : X) (o : Option ℕ) → i < length xs → f (get_or xs i d) ≡ o
    → told_by f (take (i + 1) xs) ≡ told_with (told_by f (take i xs)) o
told_step f xs i d None lt e =
    let a = count_by_more_no (λ x. is_some (f x)) xs i d lt (ap is_some e) in
    let b = sum_by_more (λ x. unwrap_or (f x) 0) xs i d lt in
    let c : unwrap_or (f (get_or xs i d)) 0 ≡ 0 = ap (λ o. unwrap_or o 0) e in
    rw (a, b, c, add-zero) refl
told_step f xs i d (Some n) lt e =
    let a = count_by_more_yes (λ x. is_some (f x)) xs i d lt (ap is_some e) in
    let b = sum_by_more (λ x. unwrap_or (f x) 0) xs i d lt in
    let c : unwrap_or (f (get_or xs i d)) 0 ≡ n = ap (λ o. unwrap_or o 0) e in
    rw (a, b, c, mod-add-mod) refl

-- one text more
pub text_step : (f : List ℕ → Option ℕ) (texts : List (Vec ℕ Global)) (i : ℕ) (d : Vec ℕ Global) (o : Option ℕ) → i < length texts → f (get_or texts i d).items ≡ o
    → told_by f (take (i + 1) (texts_of texts)) ≡ told_with (told_by f (take i (texts_of texts))) o
text_step f texts i d o lt e =
    let same = get_or-map (λ text. text.items) texts i d [] lt in
    let inside : i < length (texts_of texts) = rw length-map lt in
    let told : f (get_or (texts_of texts) i []) ≡ o = rw same e in
    told_step f (texts_of texts) i [] o inside told

-- as many at most as there are
pub told_at_most : {X : Type 0} (f : X → Option ℕ) (xs : List X) (i : ℕ) → (told_by f (take i xs)).count ≤ i
told_at_most f xs i =
    let counted = count_by-le-length (λ x. is_some (f x)) (take i xs) in
    omega (arith, counted, length-take i xs)
