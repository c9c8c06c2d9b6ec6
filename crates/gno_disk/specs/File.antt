-- A disk over a file, which tells nothing.
use Rattle.std.specs.Prelude.{◌≡◌, ℕ, Bool, ◌+◌, ◌≤◌, List, length, Option, None, IfSome, is_some}
use Rattle.std.proofs.Common.{inl, refl, arith}
use Rattle.gno_disk.specs.Disk.{TimeGoesOn}

-- its length, how often it has failed, and whether each call fails from now on
pub record FileView : Type 0 where
  pub len : ℕ
  pub faults : ℕ
  pub failed : Bool

-- the bytes aren't told
abbrev pub no_bytes : FileView → Option (List ℕ)
no_bytes disk = None

-- nor is any image
abbrev pub no_image : FileView → List ℕ → Type 0
no_image disk image = ⊥

-- or one that there was
abbrev pub no_past : FileView → ℕ → List ℕ → Type 0
no_past disk since image = ⊥

-- nothing that is told is whole
pub nothing_whole : (disk : FileView) → IfSome (no_bytes disk) (λ bytes. length bytes ≡ disk.len)
nothing_whole disk = tt

pub nothing_reads : (disk : FileView) → IfSome (no_bytes disk) (no_image disk)
nothing_reads disk = tt

pub nothing_counts : (disk : FileView) (since : ℕ) (image : List ℕ) → since ≤ 0 → no_image disk image → no_past disk since image
nothing_counts disk since image le now = now

pub nothing_only : (disk : FileView) (image : List ℕ) → no_past disk 0 image → no_image disk image
nothing_only disk image past = past

-- of how it came from another, only that its faults have not become fewer
abbrev pub AnyCame : ℕ → FileView → FileView → Type 0
AnyCame n old new = old.faults ≤ new.faults

pub came_none : (disk : FileView) → AnyCame 0 disk disk
came_none disk = omega arith

pub came_then : (m n : ℕ) (old mid new : FileView) → AnyCame m old mid → AnyCame n mid new → AnyCame (m + n) old new
came_then m n old mid new first second = omega arith

pub came_more : (m n : ℕ) (old new : FileView) → m ≤ n → AnyCame m old new → AnyCame n old new
came_more m n old new le came = came

pub came_later : (n : ℕ) (old new : FileView) → AnyCame n old new → old.faults ≤ new.faults
came_later n old new came = came

pub came_goes_on : (n : ℕ) (old new : FileView) → AnyCame n old new → TimeGoesOn 0 0 (no_past old) (no_past new)
came_goes_on n old new came = record { later = omega arith; splits = λ t image le past. inl past; keeps = λ t image le past. past; more = λ t image le past. past }

pub came_tells : (n : ℕ) (old new : FileView) → AnyCame n old new → is_some (no_bytes new) ≡ is_some (no_bytes old)
came_tells n old new came = refl
