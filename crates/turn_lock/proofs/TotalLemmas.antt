-- Counting by weights.
use Rattle.std.proofs.Common.{◌≡◌, List, [], ◌∷◌, length, refl, arith}
use Rattle.std.proofs.lemmas.List.Sums.{sum_by-cons}
use Rattle.std.specs.Prelude.{sum_by}

-- a list in which each weighs 1 weighs its length
pub sum_by-one : {E : Type 0} (xs : List E) → sum_by (λ _. 1) xs ≡ length xs
sum_by-one [] = refl
sum_by-one {E} (x ∷ xs) = let step = sum_by-cons (λ (_ : E). 1) x xs in let rest = sum_by-one xs in omega (arith, step, rest)
