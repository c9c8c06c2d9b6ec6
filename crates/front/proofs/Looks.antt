-- The look for a store.
use Rattle.std.proofs.Common.{◌≡◌, ◌⊎◌, ℕ, ◌<◌, ◌≤◌, ◌^◌, List, length, Option, Some, None, inl, inr, sym, subst, arith}
use Rattle.std.specs.Option.{IfSome, IsSome}
use Rattle.gno_disk.specs.Disk.{Only, Told}
use Rattle.gno_disk.specs.declared.disk.Disk.{Ghosts}
use Rattle.gno_disk.proofs.Moments.{LeavesOnly-start, LeavesOnly-then, LeavesOnly-weaker}
use Rattle.gno_num.specs.Faults.{Rose}
use Rattle.gate_log.specs.Records.{BeginsWith, HasNoLog}
use Rattle.gate_log.specs.Steps.{IsReady, IsRemadeOrStill, IsSynced, IsUntouched, OldOrNone}
use Rattle.gate_log.proofs.Bytes.{no_log-short}
use Rattle.gate_log.proofs.Exact.{BeginsWith-one}
use Rattle.log_pair.specs.PairView.{both_faults}
use Rattle.front.specs.Looking.{HasNoStore, IsFound, IsReadyFor, IsWholeHeader, LeavesOldOrNone}
use Rattle.front.specs.declared.look.Found.{Found}
use Rattle.front.specs.declared.look.Found.TheVariants as found

-- what isn't a log is no store
pub no_log_no_store : (bytes : List ℕ) → HasNoLog bytes → HasNoStore bytes
no_log_no_store bytes none = λ body begins header. none body begins

-- a first record that is no header is no store
pub other_no_store : (body bytes : List ℕ) → length body < 2 ^ 64 → BeginsWith body bytes → (IsWholeHeader body → ⊥) → HasNoStore bytes
other_no_store body bytes short begins isnt = λ other begins_too header.
    let few : length other < 2 ^ 64 = omega (arith, header.length_is) in
    isnt (subst IsWholeHeader (BeginsWith-one other body bytes few short begins_too begins) header)

-- a fact of the bytes that are told, and another one
pub told_both : (told : Option (List ℕ)) (P Q R : List ℕ → Type 0) → ((b : List ℕ) → P b → Q b → R b) → IfSome told P → IfSome told Q → IfSome told R
told_both None P Q R by p q = tt
told_both (Some b) P Q R by p q = by b p q

pub told_one : (told : Option (List ℕ)) (P R : List ℕ → Type 0) → ((b : List ℕ) → P b → R b) → IfSome told P → IfSome told R
told_one None P R by p = tt
told_one (Some b) P R by p = by b p

-- what was found on a disk that is synced since
pub ready_for : (what : Found) (old new : Option (List ℕ)) (images : List ℕ → Type 0) → new ≡ old → IfSome old (IsFound what) → IsSynced new images → IfSome new (λ bytes. IsFound what bytes × Only bytes images)
ready_for what old new images same is synced = told_both new (IsFound what) (λ bytes. Only bytes images) (λ bytes. IsFound what bytes × Only bytes images) (λ b p q. (p, q))
    (subst (λ (t : Option (List ℕ)). IfSome t (IsFound what)) (sym same) is) synced

-- no image of a disk without a log has one
pub only_free : (told : Option (List ℕ)) (images : List ℕ → Type 0) → IfSome told (λ bytes. HasNoLog bytes × Only bytes images) → IsSome told → (image : List ℕ) → images image → HasNoLog image
only_free None images ready some image has = cc
only_free (Some bytes) images ready some image has = subst HasNoLog (sym (ready.1 image has)) ready.0

pub made_free : (old new : Option (List ℕ)) (images : List ℕ → Type 0) → Told (λ _ bytes. IsReady bytes) old new → IsSynced new images → IsSome new → (image : List ℕ) → images image → HasNoLog image
made_free None None images ready synced some image has = cc
made_free None (Some new) images ready synced some image has = absurd ready
made_free (Some old) None images ready synced some image has = cc
made_free (Some old) (Some new) images ready synced some image has = subst HasNoLog (sym (synced image has)) (no_log-short new (omega (arith, ready.one)))

module _ {D : Type 0} (g : Ghosts D) where
  -- a disk that isn't touched leaves what was there
  pub still_leaves : (old new : D) → IsUntouched g old new → LeavesOldOrNone g old new
  still_leaves old new still some = LeavesOnly-weaker g old new (g.may_leave old) (λ image. g.may_leave old image ⊎ HasNoStore image) (λ image left. inl left) still.leaves

  pub same_leaves : (only_now : (disk : D) (image : List ℕ) → g.left_since disk (g.moment disk) image → g.may_leave disk image) (disk : D) → LeavesOldOrNone g disk disk
  same_leaves only_now disk some = LeavesOnly-start g disk (λ image. g.may_leave disk image ⊎ HasNoStore image) (λ image left. inl (only_now disk image left))

  -- a step from bytes that are no store leaves none
  step_none : (told : Option (List ℕ)) (image : List ℕ) → IsSome told → IfSome told HasNoStore → IfSome told (λ bytes. OldOrNone bytes image) → HasNoStore image
  step_none None image some none step = cc
  step_none (Some bytes) image some none (inl same) = subst HasNoStore (sym same) none
  step_none (Some bytes) image some none (inr gone) = no_log_no_store image gone

  -- a disk without a store that is made ready leaves what was there, or none
  pub remade_old_or_none : (old new : D) → IfSome (g.told old) HasNoStore → IsRemadeOrStill g OldOrNone old new → LeavesOldOrNone g old new
  remade_old_or_none old new none (inl still) some = LeavesOnly-weaker g old new (g.may_leave old) (λ image. g.may_leave old image ⊎ HasNoStore image) (λ image left. inl left) still
  remade_old_or_none old new none (inr remade) some = LeavesOnly-then g old remade.synced new (λ image. g.may_leave old image ⊎ HasNoStore image)
      (LeavesOnly-weaker g old remade.synced (g.may_leave old) (λ image. g.may_leave old image ⊎ HasNoStore image) (λ image left. inl left) remade.until)
      (LeavesOnly-weaker g remade.synced new (λ image. IfSome (g.told remade.synced) (λ bytes. OldOrNone bytes image)) (λ image. g.may_leave old image ⊎ HasNoStore image)
      (λ image step. inr (step_none (g.told old) image some none (subst (λ (t : Option (List ℕ)). IfSome t (λ bytes. OldOrNone bytes image)) remade.same_bytes step))) remade.since)

  -- first the disk is read, and then it is made ready
  pub leaves_further : (old mid new : D) → IsUntouched g old mid → LeavesOldOrNone g mid new → LeavesOldOrNone g old new
  leaves_further old mid new still later some =
      LeavesOnly-then g old mid new (λ image. g.may_leave old image ⊎ HasNoStore image) (still_leaves old mid still some)
      (LeavesOnly-weaker g mid new (λ image. g.may_leave mid image ⊎ HasNoStore image) (λ image. g.may_leave old image ⊎ HasNoStore image) as_old (later (subst (λ (t : Option (List ℕ)). IsSome t) (sym still.same_bytes) some)))
    where
      as_old : (image : List ℕ) → g.may_leave mid image ⊎ HasNoStore image → g.may_leave old image ⊎ HasNoStore image
      as_old image (inl left) = inl (still.no_more image left)
      as_old image (inr none) = inr none

  -- a count of one of two disks rose
  pub first_rose : (a b c d : D) → Rose (g.faults a) (g.faults c) → g.faults b ≤ g.faults d → Rose (both_faults g a b) (both_faults g c d)
  first_rose a b c d rose later = let h = rose.rose in record { rose = omega (arith, h, later) }

  pub second_rose : (a b c d : D) → g.faults a ≤ g.faults c → Rose (g.faults b) (g.faults d) → Rose (both_faults g a b) (both_faults g c d)
  second_rose a b c d later rose = let h = rose.rose in record { rose = omega (arith, h, later) }

  -- what isn't a header is no store
  pub ready_other : (what : Found) (disk : D) → what ≡ found.Other → IsReadyFor g what disk → IfSome (g.told disk) HasNoStore
  ready_other what disk is ready = told_one (g.told disk) (λ bytes. IsFound found.Other bytes × Only bytes (g.may_leave disk)) HasNoStore (λ b p. p.0)
      (subst (λ (w : Found). IfSome (g.told disk) (λ bytes. IsFound w bytes × Only bytes (g.may_leave disk))) is ready)
