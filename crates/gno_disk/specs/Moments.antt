-- What a stop at some moment since an earlier one might have left of a disk.
use Rattle.std.specs.Prelude.{◌⊎◌, ℕ, ◌≤◌, List}
use Rattle.gno_disk.specs.Disk.{TimeGoesOn}
use Rattle.gno_disk.specs.declared.disk.Disk.{Ghosts}

-- Each image that a stop at some moment since `old` might have left has P.
pub record LeavesOnly {D : Type 0} (g : Ghosts D) (old new : D) (P : List ℕ → Type 0) : Type 0 where
  pub later : g.moment old ≤ g.moment new
  pub each : (image : List ℕ) → g.left_since new (g.moment old) image → P image
  -- for what began earlier
  pub before : (t : ℕ) (image : List ℕ) → t ≤ g.moment old → g.left_since new t image → g.left_since old t image ⊎ P image

-- The time of a disk goes on from `old` to `new`.
abbrev pub GoesOn : {D : Type 0} → Ghosts D → D → D → Type 0
GoesOn g old new = TimeGoesOn (g.moment old) (g.moment new) (g.left_since old) (g.left_since new)
