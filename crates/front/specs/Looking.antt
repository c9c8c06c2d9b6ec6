-- A look for a store on the disks of its index.
use Rattle.std.specs.Prelude.{◌≡◌, ◌⊎◌, ℕ, ◌∷◌, [], ◌++◌, List, length, take, codes, IfSome, IsSome}
use Rattle.gno_disk.specs.declared.disk.Disk.{Ghosts}
use Rattle.gno_disk.specs.Disk.{Only}
use Rattle.gno_disk.specs.Moments.{LeavesOnly}
use Rattle.gate_log.specs.Records.{BeginsWith, HasNoLog}
use Rattle.log_pair.specs.PairView.{LeavesNoLog}
use Rattle.front.specs.declared.look.Found.{Found}
use Rattle.front.specs.declared.look.Found.TheVariants as found

-- a header of a log, of any book and epoch: the letters GNLG, the version 1, and 13 bytes
pub record IsWholeHeader (body : List ℕ) : Type 0 where
  pub length_is : length body ≡ 18
  pub begins : take 5 body ≡ codes "GNLG" ++ 1 ∷ []

-- The bytes have a store: a whole header stands behind an open gate.
abbrev pub HasStore : List ℕ → Type 0
HasStore bytes = (body : List ℕ) × IsWholeHeader body × BeginsWith body bytes

-- they have none: what stands behind an open gate, if it is whole, is no header
abbrev pub HasNoStore : List ℕ → Type 0
HasNoStore bytes = (body : List ℕ) → BeginsWith body bytes → IsWholeHeader body → ⊥

-- While a disk that tells its bytes is looked at, a stop leaves what was there, or no store.
abbrev pub LeavesOldOrNone : {D : Type 0} → Ghosts D → D → D → Type 0
LeavesOldOrNone g old new = IsSome (g.told old) → LeavesOnly g old new (λ image. g.may_leave old image ⊎ HasNoStore image)

-- A disk was looked at and had no store, and has no log now: where it tells its bytes, no image of it has one.
pub record IsFree {D : Type 0} (g : Ghosts D) (old new : D) : Type 0 where
  pub had_none : IfSome (g.told old) HasNoStore
  pub no_log : IsSome (g.told new) → LeavesNoLog g new

-- what stands at the beginning of these bytes
abbrev pub IsFound : Found → List ℕ → Type 0
IsFound found.Nothing bytes = HasNoLog bytes
IsFound found.Other bytes = HasNoStore bytes
IsFound found.Header bytes = HasStore bytes

-- The disk is synced, and this was found on it: where it tells its bytes, a stop leaves them.
abbrev pub IsReadyFor : {D : Type 0} → Ghosts D → Found → D → Type 0
IsReadyFor g what disk = IfSome (g.told disk) (λ bytes. IsFound what bytes × Only bytes (g.may_leave disk))

-- one of the first two disks tells its bytes as those of a store, or tells none
abbrev pub HaveStore : {D : Type 0} → Ghosts D → List D → Type 0
HaveStore g [] = ⊥
HaveStore g (a ∷ []) = ⊥
HaveStore g (a ∷ b ∷ disks) = IfSome (g.told a) HasStore ⊎ IfSome (g.told b) HasStore

-- what the first two disks tell is no store
abbrev pub HaveNoStore : {D : Type 0} → Ghosts D → List D → Type 0
HaveNoStore g [] = ⊥
HaveNoStore g (a ∷ []) = ⊥
HaveNoStore g (a ∷ b ∷ disks) = IfSome (g.told a) HasNoStore × IfSome (g.told b) HasNoStore
