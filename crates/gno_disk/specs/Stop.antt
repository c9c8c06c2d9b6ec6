-- Which image a stop leaves by a number.
use Rattle.std.specs.Prelude.{◌≡◌, ℕ, zero, suc, ◌+◌, ◌-◌, ◌*◌, ◌/◌, ◌%◌, ◌^◌, ◌<◌, ◌==◌, if◌then◌else◌, List, length, slice_index}
use Rattle.gno_disk.specs.Memory.{Step}
use Rattle.gno_disk.specs.Images.{State, fresh, after_all, is_loose}

-- the state of the draws after one draw more
unfoldable pub next_draw : ℕ → ℕ
next_draw x = (x * 6364136223846793005 + 1442695040888963407) % 2 ^ 64

-- what was drawn, at the state after the draw
unfoldable pub drawn : ℕ → ℕ
drawn x = x / 2 ^ 33

-- a loose byte by a draw: what a read gives, 0, 1, or a byte of the draw
abbrev pub one_of_four : ℕ → ℕ → ℕ
one_of_four read draw =
    if draw % 4 == 0 then read else
    if draw % 4 == 1 then 0 else
    if draw % 4 == 2 then 1 else draw / 4 % 256

-- the state after a place had its turn, which draws where the place is loose
abbrev pub after_place : State → ℕ → ℕ → ℕ
after_place s x place = if is_loose s place then next_draw x else x

-- the state before a place has its turn: each place below had its own
unfoldable pub before_turn : State → ℕ → ℕ → ℕ
before_turn s x zero = x
before_turn s x (suc place) = after_place s (before_turn s x place) place

-- the byte of a place whose turn it is
abbrev pub byte_drawn : State → ℕ → ℕ → ℕ
byte_drawn s x place =
    if is_loose s place then one_of_four (slice_index s.bytes place) (drawn (next_draw x))
    else slice_index s.bytes place

-- The first draw gives the length, and then the places have their turns.
pub record IsDrawn (s : State) (choice : ℕ) (image : List ℕ) : Type 0 where
  pub size : length image ≡ s.least + drawn (next_draw choice) % (s.greatest - s.least + 1)
  pub each : (place : ℕ) → place < length image
      → slice_index image place ≡ byte_drawn s (before_turn s (next_draw choice) place) place

-- the image that a number other than 0 chooses, after these calls on a disk that held these bytes at first
abbrev pub IsImageChosen : List ℕ → List Step → ℕ → List ℕ → Type 0
IsImageChosen first steps choice image = IsDrawn (after_all (fresh first) steps) choice image
