-- A disk in memory: what contracts see of it, and what a call leaves.
use Rattle.std.specs.Prelude.{◌≡◌, ◌⊎◌, ℕ, ◌+◌, ◌-◌, ◌≤◌, ◌^◌, min, Bool, if◌then◌else◌, List, [], ◌∷◌, ◌++◌, Contains, Option, Some, None, option_map}
use Rattle.gno_num.specs.Faults.{Rose}

-- a call that was made, with what it was given and whether it failed
pub data Step : Type 0 where
  has_read : Bool → Step
  wrote : ℕ → List ℕ → Bool → Step
  cut_to : ℕ → Bool → Step
  synced : Bool → Step

-- what it held at first, the calls made since, the number of the next call, the
-- numbers of the calls that are to fail, how many writes, cuts and syncs the fuse lets pass if
-- there is one, how often a call has failed, and how often for want of memory
pub record MemView : Type 0 where
  pub first : List ℕ
  pub steps : List Step
  pub number : ℕ
  pub fail : List ℕ
  pub fuse : Option ℕ
  pub faults : ℕ
  pub starved : ℕ

-- a count one higher, that stands still at the last value of its type
abbrev pub raised : ℕ → ℕ
raised count = min (count + 1) (2 ^ 64 - 1)

-- a fuse after one call more that it let pass
abbrev pub burnt : Option ℕ → Option ℕ
burnt fuse = option_map (λ calls. calls - 1) fuse

-- the next call is to fail: its number is listed, or the fuse lets nothing pass
abbrev pub IsPlanned : MemView → Type 0
IsPlanned disk = Contains disk.fail disk.number ⊎ (disk.fuse ≡ Some 0)

-- the call was made and is remembered
pub record IsMade (old new : MemView) (step : Step) : Type 0 where
  pub remembered : new.steps ≡ old.steps ++ step ∷ []
  pub starved : new.starved ≡ old.starved

-- there was no memory for the call, and it did nothing
pub record LacksMemory (old new : MemView) : Type 0 where
  pub steps : new.steps ≡ old.steps
  pub starved : new.starved ≡ raised old.starved

-- A call has its number, and counts if it failed. The rest stays as it was.
pub record IsNumbered (old new : MemView) (failed : Bool) : Type 0 where
  pub first : new.first ≡ old.first
  pub number : new.number ≡ raised old.number
  pub fail : new.fail ≡ old.fail
  pub faults : new.faults ≡ (if failed then raised old.faults else old.faults)

-- how many of these calls are writes, cuts and syncs
abbrev pub changes_of : List Step → ℕ
changes_of [] = 0
changes_of (has_read failed ∷ steps) = changes_of steps
changes_of (wrote at bytes failed ∷ steps) = changes_of steps + 1
changes_of (cut_to to failed ∷ steps) = changes_of steps + 1
changes_of (synced failed ∷ steps) = changes_of steps + 1

-- some call is listed to fail
abbrev pub IsListed : MemView → Type 0
IsListed disk = (number : ℕ) × Contains disk.fail number

-- why a call failed: it is listed, the fuse lets nothing pass, or there was no memory for it
abbrev pub HasFailed : MemView → MemView → Type 0
HasFailed old new = IsListed old ⊎ (new.fuse ≡ Some 0) ⊎ Rose old.starved new.starved

-- The new disk came from the old one by at most so many writes, cuts and syncs, and by any number
-- of reads. Each used the fuse at most once.
pub record Came (n : ℕ) (old new : MemView) : Type 0 where
  pub made : List Step
  pub first : new.first ≡ old.first
  pub steps : new.steps ≡ old.steps ++ made
  pub few : changes_of made ≤ n
  pub fail : new.fail ≡ old.fail
  pub fuse : (k : ℕ) → old.fuse ≡ Some k → (left : ℕ) × (new.fuse ≡ Some left) × (left ≤ k) × (k ≤ left + n)
  pub no_fuse : old.fuse ≡ None → new.fuse ≡ None
  pub faults : old.faults ≤ new.faults
  pub starved : old.starved ≤ new.starved
  pub failed : (new.faults ≡ old.faults) ⊎ HasFailed old new
