-- What the calls of a disk do to the bytes that a read gives, and to what a stop may leave.
use Rattle.std.specs.Prelude.{◌≡◌, ◌⊎◌, ℕ, ◌+◌, ◌≤◌, min, max, List, ◌++◌, length, take, drop, Option, Some, None, ⊤}

-- new is old with these bytes at this place, and past the old end where they reach
abbrev pub Overwrites : ℕ → List ℕ → List ℕ → List ℕ → Type 0
Overwrites at bytes old new = new ≡ take at old ++ bytes ++ drop (at + length bytes) old

-- a write of n bytes that failed may have done any part: outside its range nothing changed
pub record Torn (at n : ℕ) (old new : List ℕ) : Type 0 where
  pub before : take at new ≡ take at old
  pub after : drop (at + n) new ≡ drop (at + n) old
  pub no_shorter : length old ≤ length new
  pub no_longer : length new ≤ max (length old) (at + n)

-- a cut that failed may have done any part
pub record PartCut (to : ℕ) (old new : List ℕ) : Type 0 where
  pub no_shorter : to ≤ length new
  pub front : take (length new) old ≡ new

-- Until a sync, a stop after a cut may leave any length between, and any bytes past the cut.
pub record LooseCut (to : ℕ) (old new : List ℕ) : Type 0 where
  pub front : take to new ≡ take to old
  pub no_shorter : min to (length old) ≤ length new
  pub no_longer : length new ≤ length old

-- a fact of the bytes before and after, where the disk tells them; whether it does stays
abbrev pub Told : (List ℕ → List ℕ → Type 0) → Option (List ℕ) → Option (List ℕ) → Type 0
Told step None None = ⊤
Told step None (Some new) = ⊥
Told step (Some old) None = ⊥
Told step (Some old) (Some new) = step old new

-- each image is an earlier one after a step
abbrev pub Follows : (List ℕ → List ℕ → Type 0) → (List ℕ → Type 0) → (List ℕ → Type 0) → Type 0
Follows step old new = (image : List ℕ) → new image → (before : List ℕ) × old before × step before image

-- each image is an earlier one
abbrev pub NoMore : (List ℕ → Type 0) → (List ℕ → Type 0) → Type 0
NoMore old new = (image : List ℕ) → new image → old image

-- no image comes or goes
pub record SameImages (old new : List ℕ → Type 0) : Type 0 where
  pub no_more : NoMore old new
  pub no_fewer : NoMore new old

-- these bytes are the one image
abbrev pub Only : List ℕ → (List ℕ → Type 0) → Type 0
Only bytes images = (image : List ℕ) → images image → image ≡ bytes

-- Time goes on: a stop since a moment might have left what it might have left before, or what it may leave now.
pub record Elapses (before now : ℕ) (past since : ℕ → List ℕ → Type 0) (may_leave : List ℕ → Type 0) : Type 0 where
  pub later : before ≤ now
  pub nothing_else : (t : ℕ) (image : List ℕ) → t ≤ before → since t image → past t image ⊎ may_leave image
  pub keeps : (t : ℕ) (image : List ℕ) → t ≤ before → past t image → since t image

-- The time of a disk goes on: since an earlier moment, a stop might have left what it might have
-- left before, or what it might have left since then, and nothing else.
pub record TimeGoesOn (before now : ℕ) (past since : ℕ → List ℕ → Type 0) : Type 0 where
  pub later : before ≤ now
  pub splits : (t : ℕ) (image : List ℕ) → t ≤ before → since t image → past t image ⊎ since before image
  pub keeps : (t : ℕ) (image : List ℕ) → t ≤ before → past t image → since t image
  pub more : (t : ℕ) (image : List ℕ) → t ≤ before → since before image → since t image
