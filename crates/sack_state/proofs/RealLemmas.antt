-- Faults of a history that are real.
use Rattle.std.proofs.Common.{inl, inr, ℕ, ◌+◌, ◌-◌, ◌^◌, ◌≤◌, min, List, [], ◌∷◌, ◌++◌, Option, arith}
use Rattle.std.proofs.lemmas.Bool.{cases_lt}
use Rattle.gno_num.specs.Faults.{Rose}
use Rattle.gno_num.specs.declared.faults.DiskFault.{DiskFault as Fault}
use Rattle.sack_history.specs.declared.entry.Counted.{Counted}
use Rattle.sack_history.specs.declared.entry.Entry.{Entry}
use Rattle.sack_history.specs.declared.entry.Entry.TheVariants as entries
use Rattle.sack_history.specs.Failing.{HasRisen}
use Rattle.sack_state.specs.SackView.{AreReal, IsRealFault}

module _ (N : Type 0) where
  pub AreReal-lower : (low mid : ℕ) (h : List Entry) (now : ℕ) → low ≤ mid → AreReal N mid h now → AreReal N low h now
  AreReal-lower low mid [] now le real = omega (arith, le, real)
  AreReal-lower low mid (entries.Fault tried before after ∷ h) now le real = let lower = real.1 in (real.0, omega (arith, le, lower), real.2)
  AreReal-lower low mid (entries.Counted c ∷ h) now le real = AreReal-lower low mid h now le real
  AreReal-lower low mid (entries.Claim ticket metric upto ∷ h) now le real = AreReal-lower low mid h now le real
  AreReal-lower low mid (entries.Release ticket ∷ h) now le real = AreReal-lower low mid h now le real
  AreReal-lower low mid (entries.Look metric ∷ h) now le real = AreReal-lower low mid h now le real
  AreReal-lower low mid (entries.Reopened kept ∷ h) now le real = AreReal-lower low mid h now le real

  -- one list behind another
  pub AreReal-append : (low : ℕ) (h more : List Entry) (mid now : ℕ) → AreReal N low h mid → AreReal N mid more now → AreReal N low (h ++ more) now
  AreReal-append low [] more mid now real then = AreReal-lower low mid more now real then
  AreReal-append low (entries.Fault tried before after ∷ h) more mid now real then = (real.0, real.1, AreReal-append after h more mid now real.2 then)
  AreReal-append low (entries.Counted c ∷ h) more mid now real then = AreReal-append low h more mid now real then
  AreReal-append low (entries.Claim ticket metric upto ∷ h) more mid now real then = AreReal-append low h more mid now real then
  AreReal-append low (entries.Release ticket ∷ h) more mid now real then = AreReal-append low h more mid now real then
  AreReal-append low (entries.Look metric ∷ h) more mid now real then = AreReal-append low h more mid now real then
  AreReal-append low (entries.Reopened kept ∷ h) more mid now real then = AreReal-append low h more mid now real then

-- a count that rose
pub has_risen : (f : Fault) → Rose f.before f.after → f.before ≤ 2 ^ 64 - 1 → f.after ≤ 2 ^ 64 - 1 → HasRisen f
has_risen f rose before after = elim (cases_lt f.before f.after) [
  | inl lt ↦ inl lt
  | inr ge ↦ let r = rose.rose in inr (omega (arith, r, ge, before, after), omega (arith, r, ge, before, after))
]

pub real_of : (N : Type 0) (tried : Option Counted) (f : Fault) → HasRisen f → IsRealFault N tried f.before f.after
real_of N tried f (inl lt) = inl lt
real_of N tried f (inr last) = inr (inl last)

-- of two disks among five
pub rose_among : (x y u v p q r s t w : ℕ) → p ≤ s → q ≤ t → r ≤ w → Rose (min (x + y) (2 ^ 64 - 1)) (min (u + v) (2 ^ 64 - 1))
    → Rose (min (x + y + p + q + r) (2 ^ 64 - 1)) (min (u + v + s + t + w) (2 ^ 64 - 1))
rose_among x y u v p q r s t w first second third rose = let e = rose.rose in record { rose = omega (arith, first, second, third, e) }

-- of three disks among five
pub rose_among_three : (x y u v p q r s t w : ℕ) → x ≤ u → y ≤ v → Rose (min (p + q + r) (2 ^ 64 - 1)) (min (s + t + w) (2 ^ 64 - 1))
    → Rose (min (x + y + p + q + r) (2 ^ 64 - 1)) (min (u + v + s + t + w) (2 ^ 64 - 1))
rose_among_three x y u v p q r s t w first second rose = let e = rose.rose in record { rose = omega (arith, first, second, e) }
