-- What the steps of a log do to the bytes of its disk, and what a stop in them may leave.
use Rattle.std.specs.Prelude.{◌≡◌, ◌≢◌, ◌⊎◌, ℕ, ◌+◌, [], ◌∷◌, List, length, take, slice_index, Option, IfSome}
use Rattle.gate_log.specs.Records.{HasNoLog}
use Rattle.gno_disk.specs.Disk.{Overwrites, NoMore, Only}
use Rattle.gno_disk.specs.Moments.{LeavesOnly}
use Rattle.gno_disk.specs.declared.disk.Disk.{Ghosts}

-- the bytes before this place stay
abbrev pub KeepsBefore : ℕ → List ℕ → List ℕ → Type 0
KeepsBefore place old new = take place new ≡ take place old

-- nothing stands but one closed gate
pub record IsReady (bytes : List ℕ) : Type 0 where
  pub one : length bytes ≡ 1
  pub closed : slice_index bytes 0 ≢ 1

-- the first gate is closed
pub record IsShut (bytes : List ℕ) : Type 0 where
  pub closed : slice_index bytes 0 ≢ 1

-- where the bytes are told, a stop leaves them
abbrev pub IsSynced : Option (List ℕ) → (List ℕ → Type 0) → Type 0
IsSynced told images = IfSome told (λ bytes. Only bytes images)

-- a record in part: the gate and what stands before it are as they were, or the record stands behind any gate
abbrev pub PartOf : ℕ → List ℕ → List ℕ → List ℕ → Type 0
PartOf gate frame old new = KeepsBefore (gate + 1) old new ⊎ ((byte : ℕ) × Overwrites gate (byte ∷ frame) old new)

-- what was there, or no log
abbrev pub OldOrNone : List ℕ → List ℕ → Type 0
OldOrNone old new = (new ≡ old) ⊎ HasNoLog new

-- these bytes behind an open gate, in place of one gate
abbrev pub StandsFirst : List ℕ → List ℕ → Type 0
StandsFirst frame new = (gate : ℕ) × Overwrites 0 (1 ∷ frame) (gate ∷ []) new

-- what was there, or no log, or these bytes behind an open gate
abbrev pub OldOrNoneOr : List ℕ → List ℕ → List ℕ → Type 0
OldOrNoneOr frame old new = OldOrNone old new ⊎ StandsFirst frame new

-- a fact of each image that a stop since `old` might have left, where the bytes that it told are known
abbrev pub Leaves : {D : Type 0} → Ghosts D → (List ℕ → List ℕ → Type 0) → D → D → Type 0
Leaves g step old new = LeavesOnly g old new (λ image. IfSome (g.told old) (λ bytes. step bytes image))

-- no byte of the disk and no image has changed, but for images that are gone
pub record IsUntouched {D : Type 0} (g : Ghosts D) (old new : D) : Type 0 where
  pub same_bytes : g.told new ≡ g.told old
  pub same_size : g.size new ≡ g.size old
  pub no_more : NoMore (g.may_leave old) (g.may_leave new)
  pub leaves : LeavesOnly g old new (g.may_leave old)

-- A disk was synced and then remade. Until the sync a stop leaves an image that there was at first,
-- and after it one that the step allows.
pub record IsRemade {D : Type 0} (g : Ghosts D) (step : List ℕ → List ℕ → Type 0) (old new : D) : Type 0 where
  pub synced : D
  pub same_bytes : g.told synced ≡ g.told old
  pub until : LeavesOnly g old synced (g.may_leave old)
  pub since : Leaves g step synced new

-- the same, unless the sync failed
abbrev pub IsRemadeOrStill : {D : Type 0} → Ghosts D → (List ℕ → List ℕ → Type 0) → D → D → Type 0
IsRemadeOrStill g step old new = LeavesOnly g old new (g.may_leave old) ⊎ IsRemade g step old new
