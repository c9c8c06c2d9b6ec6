-- The five disks of a sack.
use Rattle.std.specs.Prelude.{◌≡◌, ℕ, ◌+◌, ◌-◌, ◌≤◌, ◌^◌, min, List, [], ◌∷◌, IsSome, Some}
use Rattle.gno_disk.specs.declared.disk.Disk.{Ghosts}
use Rattle.gno_disk.specs.Phases.{Phase, phase}
use Rattle.gno_num.specs.Faults.{Rose}
use Rattle.gno_num.specs.declared.faults.DiskFault.{DiskFault as Fault}
use Rattle.sack_state.specs.declared.disks.SackDisks.{SackDisks}

-- A call on a sack works on its incoming disks first, then on its blocks, and then on the disks of its shelf's log.
abbrev pub sack_phases : {D : Type 0} → SackDisks D → SackDisks D → List (Phase D)
sack_phases old new =
    phase old.incoming_a new.incoming_a ∷ phase old.incoming_b new.incoming_b ∷ phase old.blocks new.blocks
    ∷ phase old.shelf_a new.shelf_a ∷ phase old.shelf_b new.shelf_b ∷ []

-- the images are those of the two incoming disks, of the blocks, and of the two disks of the shelf's log, and have P
abbrev pub OfFive : (List ℕ → List ℕ → List ℕ → List ℕ → List ℕ → Type 0) → List (List ℕ) → Type 0
OfFive P [] = ⊥
OfFive P (a ∷ []) = ⊥
OfFive P (a ∷ b ∷ []) = ⊥
OfFive P (a ∷ b ∷ z ∷ []) = ⊥
OfFive P (a ∷ b ∷ z ∷ c ∷ []) = ⊥
OfFive P (a ∷ b ∷ z ∷ c ∷ e ∷ []) = P a b z c e
OfFive P (a ∷ b ∷ z ∷ c ∷ e ∷ f ∷ images) = ⊥

-- each choice of images that a stop now may leave has P
abbrev pub Leaves : {D : Type 0} → Ghosts D → SackDisks D → (List ℕ → List ℕ → List ℕ → List ℕ → List ℕ → Type 0) → Type 0
Leaves g disks P = (a b z c e : List ℕ)
    → g.may_leave disks.incoming_a a → g.may_leave disks.incoming_b b → g.may_leave disks.blocks z
    → g.may_leave disks.shelf_a c → g.may_leave disks.shelf_b e → P a b z c e

-- all disks tell their bytes
pub record TellAll {D : Type 0} (g : Ghosts D) (disks : SackDisks D) : Type 0 where
  pub incoming_a : IsSome (g.told disks.incoming_a)
  pub incoming_b : IsSome (g.told disks.incoming_b)
  pub blocks : IsSome (g.told disks.blocks)
  pub shelf_a : IsSome (g.told disks.shelf_a)
  pub shelf_b : IsSome (g.told disks.shelf_b)

-- all disks tell their bytes, and these have P
pub record AreTold {D : Type 0} (g : Ghosts D) (disks : SackDisks D) (P : List ℕ → List ℕ → List ℕ → List ℕ → List ℕ → Type 0) : Type 0 where
  pub a : List ℕ
  pub b : List ℕ
  pub z : List ℕ
  pub c : List ℕ
  pub e : List ℕ
  pub incoming_a : g.told disks.incoming_a ≡ Some a
  pub incoming_b : g.told disks.incoming_b ≡ Some b
  pub blocks : g.told disks.blocks ≡ Some z
  pub shelf_a : g.told disks.shelf_a ≡ Some c
  pub shelf_b : g.told disks.shelf_b ≡ Some e
  pub have : P a b z c e

-- how often the disks have failed, a number that ends at the last value of its type
abbrev pub sack_faults : {D : Type 0} → Ghosts D → SackDisks D → ℕ
sack_faults g disks =
    min (g.faults disks.incoming_a + g.faults disks.incoming_b + g.faults disks.shelf_a + g.faults disks.shelf_b + g.faults disks.blocks) (2 ^ 64 - 1)

-- A fault of a disk in a call: its counts are of all disks, from when the call began, or when its mounting ended, to
-- the call's end.
pub record IsSackFault {D : Type 0} (g : Ghosts D) (old new : SackDisks D) (f : Fault) : Type 0 where
  pub before : sack_faults g old ≤ f.before
  pub after : f.after ≡ sack_faults g new
  pub rose : Rose f.before f.after

-- the disks came from these by at most so many changing calls: on each incoming disk, on each disk of the shelf's log,
-- and on the blocks
pub record CameWithin {D : Type 0} (g : Ghosts D) (incoming shelf blocks : ℕ) (old new : SackDisks D) : Type 0 where
  pub incoming_a : g.came incoming old.incoming_a new.incoming_a
  pub incoming_b : g.came incoming old.incoming_b new.incoming_b
  pub shelf_a : g.came shelf old.shelf_a new.shelf_a
  pub shelf_b : g.came shelf old.shelf_b new.shelf_b
  pub blocks_disk : g.came blocks old.blocks new.blocks

-- a call works on the incoming disks alone, by at most so many changing calls on each
pub record OnIncoming {D : Type 0} (g : Ghosts D) (n : ℕ) (old new : SackDisks D) : Type 0 where
  pub incoming_a : g.came n old.incoming_a new.incoming_a
  pub incoming_b : g.came n old.incoming_b new.incoming_b
  pub shelf_a : new.shelf_a ≡ old.shelf_a
  pub shelf_b : new.shelf_b ≡ old.shelf_b
  pub blocks : new.blocks ≡ old.blocks

-- a call works on the disks of the shelf's log alone, by at most so many changing calls on each
pub record OnShelfLog {D : Type 0} (g : Ghosts D) (n : ℕ) (old new : SackDisks D) : Type 0 where
  pub incoming_a : new.incoming_a ≡ old.incoming_a
  pub incoming_b : new.incoming_b ≡ old.incoming_b
  pub shelf_a : g.came n old.shelf_a new.shelf_a
  pub shelf_b : g.came n old.shelf_b new.shelf_b
  pub blocks : new.blocks ≡ old.blocks
