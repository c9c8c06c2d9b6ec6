-- What contracts see of a log.
use Rattle.std.specs.Prelude.{◌≡◌, ◌⊎◌, ℕ, List, [], ◌∷◌, ◌++◌, Option, Some, None, IfSome, Bool, ⊤}
use Rattle.gno_num.specs.Faults.{Rose}
use Rattle.gno_num.specs.declared.faults.DiskFault.{DiskFault as Fault}
use Rattle.gate_log.specs.Records.{Holds}
use Rattle.gate_log.specs.Steps.{OldOrNone}
use Rattle.gno_disk.specs.declared.disk.Disk.{Ghosts}
use Rattle.gate_log.specs.declared.fault.LogFault.{LogFault}
use Rattle.gate_log.specs.declared.fault.LogFault.TheVariants.{DiskFault, Memory}
use Rattle.gno_num.specs.declared.faults.Damaged.{Damaged as Damage}
use Rattle.gate_log.specs.declared.fault.MountFault.{MountFault}
use Rattle.gate_log.specs.declared.fault.MountFault.TheVariants.{DiskFault as MountDisk, Damaged as MountDamaged, Memory as MountMemory}

-- its disk, the number of its records, the records where the disk tells its bytes, whether a call
-- has failed so that it has to be mounted again, how large a body is sure of its memory, and of how
-- many records, with how many bytes together, a log made anew is
pub record LogView (D : Type 0) : Type 0 where
  pub disk : D
  pub count : ℕ
  pub records : Option (List (List ℕ))
  pub broken : Bool
  pub spare : ℕ
  pub anew_records : ℕ
  pub anew_bytes : ℕ

-- where the records are told, the body has come to their end; whether they are told stays
abbrev pub Adds : Option (List (List ℕ)) → Option (List (List ℕ)) → List ℕ → Type 0
Adds None None body = ⊤
Adds None (Some new) body = ⊥
Adds (Some old) None body = ⊥
Adds (Some old) (Some new) body = new ≡ old ++ body ∷ []

-- a fault of the disk carries the counts before and after the call, and the count rose
pub record IsFault (before after : ℕ) (fault : Fault) : Type 0 where
  pub before_is : fault.before ≡ before
  pub after_is : fault.after ≡ after
  pub rose : Rose before after

-- a fact of each kind of fault
abbrev pub MatchFault : LogFault → (Fault → Type 0) → Type 0 → Type 0
MatchFault (DiskFault f) P Q = P f
MatchFault Memory P Q = Q

-- the image holds the records, where they are told
abbrev pub IsOfRecords : Option (List (List ℕ)) → List ℕ → Type 0
IsOfRecords records image = IfSome records (Holds image)

-- the image holds the records as they were or with the body at their end
abbrev pub IsOldOrAdded : Option (List (List ℕ)) → List ℕ → List ℕ → Type 0
IsOldOrAdded records body image = IfSome records (λ rs. Holds image rs ⊎ Holds image (rs ++ body ∷ []))

-- the image is the old one, or no log, or holds these records
abbrev pub IsOldOrMade : List (List ℕ) → List ℕ → List ℕ → Type 0
IsOldOrMade records old image = OldOrNone old image ⊎ Holds image records

-- each image that a stop now may leave holds the records
abbrev pub IsLasting : {D : Type 0} → Ghosts D → LogView D → Type 0
IsLasting g log = (image : List ℕ) → g.may_leave log.disk image → IsOfRecords log.records image

-- a fact of each kind of fault of a mounting
abbrev pub MatchMountFault : MountFault → (Fault → Type 0) → (Damage → Type 0) → Type 0 → Type 0
MatchMountFault (MountDisk f) P Q R = P f
MatchMountFault (MountDamaged d) P Q R = Q d
MatchMountFault MountMemory P Q R = R
