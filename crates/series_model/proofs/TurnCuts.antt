-- Where a turn ends.
use Rattle.std.proofs.Common.{◌≡◌, ℕ, zero, suc, ◌-◌, ◌<◌, List, [], ◌∷◌, length, take, drop, get_or, refl, sym, ap, ◌∙◌, arith}
use Rattle.series_model.specs.History.{turn_ends}
use Rattle.series_model.specs.Turns.{last_number}

-- it stays the last with a number in front
pub last_number-cons : (x y : ℕ) (ys : List ℕ) → last_number (x ∷ y ∷ ys) ≡ last_number (y ∷ ys)
last_number-cons x y ys =
    let more : suc (suc (length ys)) - 1 ≡ suc (length ys) = omega arith in
    let fewer : length ys ≡ suc (length ys) - 1 = omega arith in
    ap (λ k. get_or (x ∷ y ∷ ys) k 0) more ∙ ap (λ k. get_or (y ∷ ys) k 0) fewer

-- a turn that takes so many posts beyond its first
turn_cut : (more x : ℕ) (xs : List ℕ) → turn_ends more (x ∷ xs) ≡ last_number (take (suc more) (x ∷ xs)) ∷ turn_ends 63 (drop (suc more) (x ∷ xs))
turn_cut zero x [] = refl
turn_cut (suc more) x [] = refl
turn_cut zero x (next ∷ xs) = refl
turn_cut (suc more) x (next ∷ xs) =
    turn_cut more next xs ∙ ap (λ end. end ∷ turn_ends 63 (drop (suc more) (next ∷ xs))) (sym (last_number-cons x next (take more xs)))

pub turn_of : (xs : List ℕ) → 0 < length xs → turn_ends 63 xs ≡ last_number (take 64 xs) ∷ turn_ends 63 (drop 64 xs)
turn_of [] h = absurd (omega arith)
turn_of (x ∷ xs) h = turn_cut 63 x xs
