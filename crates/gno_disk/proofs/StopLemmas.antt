-- The image that a number chooses.
use Rattle.std.proofs.Common.{◌≡◌, ℕ, ◌+◌, ◌*◌, ◌/◌, ◌%◌, ◌<◌, List, [], ◌∷◌, ◌++◌, length, slice_index, refl, ap, ◌∙◌, arith, add-one, below_more}
use Rattle.std.proofs.Math.Nat.{mod-add-mod}
use Rattle.std.proofs.lemmas.List.{get_or_append_left, get_or_push}
use Rattle.gno_disk.specs.Images.{State}
use Rattle.gno_disk.specs.Stop.{next_draw, drawn, after_place, before_turn}

-- a draw in numbers of 64 bits
pub next_draw-wraps : (x : ℕ) → (x * 6364136223846793005 % 18446744073709551616 + 1442695040888963407) % 18446744073709551616 ≡ next_draw x
unfolding next_draw
next_draw-wraps x = mod-add-mod (x * 6364136223846793005) 18446744073709551616 1442695040888963407

pub drawn-shifts : (x y : ℕ) → x ≡ y → x / 8589934592 ≡ drawn y
unfolding drawn
drawn-shifts x y e = ap (λ n. n / 8589934592) e

-- how the turns go on
pub before_turn-zero : (s : State) (x : ℕ) → before_turn s x 0 ≡ x
unfolding before_turn
before_turn-zero s x = refl

pub before_turn-next : (s : State) (x place : ℕ) → before_turn s x (place + 1) ≡ after_place s (before_turn s x place) place
unfolding before_turn
before_turn-next s x place = rw add-one refl

-- what holds of each byte holds of one more
pub each-push : (f : ℕ → ℕ) (image : List ℕ) (byte n : ℕ) → length image ≡ n → ((k : ℕ) → k < n → slice_index image k ≡ f k) → byte ≡ f n
    → (k : ℕ) → k < n + 1 → slice_index (image ++ byte ∷ []) k ≡ f k
each-push f image byte n size each here = below_more (λ k. slice_index (image ++ byte ∷ []) k ≡ f k) n
    (λ k lt. get_or_append_left image (byte ∷ []) 0 k (omega arith) ∙ each k lt)
    (get_or_push image byte 0 n size ∙ here)
