-- What a call of a sack says of its disks, and of a mounting that failed.
use Rattle.std.proofs.Common.{◌≡◌, ℕ, ◌+◌, ◌≤◌, Bool, true, false, Option, Some, refl, sym, subst, ◌∙◌, arith}
use Rattle.std.specs.Bool.{⊤}
use Rattle.std.specs.Option.{MatchOption, option_map}
use Rattle.std.proofs.lemmas.Bool.{false≢true}
use Rattle.gno_num.specs.Faults.{Rose}
use Rattle.gno_num.specs.declared.faults.Damaged.{Damaged as Damage}
use Rattle.gno_num.specs.declared.faults.DiskFault.{DiskFault as Fault}
use Rattle.gno_disk.specs.declared.disk.Disk.{Ghosts}
use Rattle.gate_log.specs.LogView.{IsFault, MatchMountFault}
use Rattle.gate_log.specs.declared.fault.MountFault.{MountFault}
use Rattle.gate_log.specs.declared.fault.MountFault.TheVariants.{DiskFault as MountDisk, Damaged as MountDamaged, Memory as MountMemory}
use Rattle.log_pair.specs.declared.place.Place.{Place}
use Rattle.sack_history.specs.declared.fault.CreateFault.{CreateFault}
use Rattle.sack_history.specs.declared.fault.CreateFault.TheVariants as create_fault
use Rattle.sack_history.specs.declared.fault.SackFault.{SackFault}
use Rattle.sack_history.specs.declared.fault.SackFault.TheVariants as sack_fault
use Rattle.sack_history.specs.Failing.{Failure, create_failure, damage, no_memory, on_disk, sack_failure}
use Rattle.sack_state.specs.declared.books.Books.{Books}
use Rattle.sack_state.specs.declared.disks.SackDisks.{SackDisks}
use Rattle.sack_state.specs.declared.holding.Keeping.{Keeping}
use Rattle.sack_state.specs.declared.holding.Keeping.TheVariants.{Mounted}
use Rattle.sack_state.specs.Books.{disks_of}
use Rattle.sack_state.specs.Disks.{CameWithin, IsSackFault, sack_faults}
use Rattle.sack_state.specs.Holding.{StaysBroken, TakesBooks, as_they_were, mounted_anew, state_of}
use Rattle.sack_state.specs.SackCalls.{MatchCreateOnDisk, MatchOnDisk}
use Rattle.sack_state.specs.SackView.{SackState}
use Rattle.sack_state.proofs.DiskLemmas.{faults_later, no_less, within_then}
use Rattle.sack_state.proofs.DoneLemmas.{state_with}

-- ---- a failure of a mounting as a refusal

abbrev pub failure_of : MountFault → Failure
failure_of (MountDisk f) = on_disk f
failure_of (MountDamaged d) = damage d
failure_of MountMemory = no_memory

pub failure_is : (fault : MountFault) → MatchMountFault fault (λ f. failure_of fault ≡ on_disk f) (λ d. failure_of fault ≡ damage d) (failure_of fault ≡ no_memory)
failure_is (MountDisk f) = refl
failure_is (MountDamaged d) = refl
failure_is MountMemory = refl

pub refused_as : (fault : MountFault) (r : SackFault) → MatchMountFault fault (λ f. r ≡ sack_fault.DiskFault f) (λ d. r ≡ sack_fault.Damaged d) (r ≡ sack_fault.Memory) → r ≡ sack_failure (failure_of fault)
refused_as (MountDisk f) r is = is
refused_as (MountDamaged d) r is = is
refused_as MountMemory r is = is

pub created_as : (fault : MountFault) (r : CreateFault) → MatchMountFault fault (λ f. r ≡ create_fault.DiskFault f) (λ d. r ≡ create_fault.Damaged d) (r ≡ create_fault.Memory) → r ≡ create_failure (failure_of fault)
created_as (MountDisk f) r is = is
created_as (MountDamaged d) r is = is
created_as MountMemory r is = is

-- a fact of a failure that is a fault of a disk, and another one of damage
abbrev pub OnFailure : Failure → (Fault → Type 0) → Type 0 → Type 0
OnFailure no_memory P Q = ⊤
OnFailure (on_disk f) P Q = P f
OnFailure (damage d) P Q = Q

pub sack_told : (x : Failure) (P : Fault → Type 0) (Q : Type 0) → OnFailure x P Q → MatchOnDisk (sack_failure x) P Q
sack_told no_memory P Q h = h
sack_told (on_disk f) P Q h = h
sack_told (damage d) P Q h = h

pub create_told : (x : Failure) (P : Fault → Type 0) (Q : Type 0) → OnFailure x P Q → MatchCreateOnDisk (create_failure x) P Q
create_told no_memory P Q h = h
create_told (on_disk f) P Q h = h
create_told (damage d) P Q h = h

pub on_failure : (fault : MountFault) (P : Fault → Type 0) (Q : Type 0) → MatchMountFault fault P (λ d. Q) ⊤ → OnFailure (failure_of fault) P Q
on_failure (MountDisk f) P Q h = h
on_failure (MountDamaged d) P Q h = h
on_failure MountMemory P Q h = h

-- a refusal of damage says what the damage of the mounting did
pub sack_sound : (fault : MountFault) (r : SackFault) → MatchMountFault fault (λ f. r ≡ sack_fault.DiskFault f) (λ d. r ≡ sack_fault.Damaged d) (r ≡ sack_fault.Memory)
    → MatchMountFault fault (λ f. ⊤) (λ d. ⊥) ⊤ → MatchOnDisk r (λ f. ⊤) ⊥
sack_sound fault r is sound = subst (λ e. MatchOnDisk e (λ f. ⊤) ⊥) (sym (refused_as fault r is)) (sack_told (failure_of fault) (λ f. ⊤) ⊥ (on_failure fault (λ f. ⊤) ⊥ sound))

pub create_sound : (fault : MountFault) (r : CreateFault) → MatchMountFault fault (λ f. r ≡ create_fault.DiskFault f) (λ d. r ≡ create_fault.Damaged d) (r ≡ create_fault.Memory)
    → MatchMountFault fault (λ f. ⊤) (λ d. ⊥) ⊤ → MatchCreateOnDisk r (λ f. ⊤) ⊥
create_sound fault r is sound = subst (λ e. MatchCreateOnDisk e (λ f. ⊤) ⊥) (sym (created_as fault r is)) (create_told (failure_of fault) (λ f. ⊤) ⊥ (on_failure fault (λ f. ⊤) ⊥ sound))

module _ {D : Type 0} (g : Ghosts D) (came_none : (disk : D) → g.came 0 disk disk) (came_more : (m n : ℕ) (old new : D) → m ≤ n → g.came m old new → g.came n old new)
    (came_then : (m n : ℕ) (old mid new : D) → g.came m old mid → g.came n mid new → g.came (m + n) old new) (came_later : (n : ℕ) (old new : D) → g.came n old new → g.faults old ≤ g.faults new)
    (place : Place) (keeping then : Option (Keeping D)) where
  abbrev pub Both : (SackState D → SackState D → Type 0) → Type 0
  Both P = MatchOption (option_map state_of keeping) ⊥ (λ s. MatchOption (option_map state_of then) ⊥ (λ t. P s t))

  abbrev pub Before : (SackState D → Type 0) → Type 0
  Before P = MatchOption (option_map state_of keeping) ⊥ P

  both : (P : SackState D → SackState D → Type 0) (was now : Keeping D) → keeping ≡ Some was → then ≡ Some now → P (state_of was) (state_of now) → Both P
  both P was now is then_is p =
      subst (λ (o : Option (Keeping D)). MatchOption (option_map state_of o) ⊥ (λ s. MatchOption (option_map state_of then) ⊥ (λ t. P s t))) (sym is)
      (subst (λ (o : Option (Keeping D)). MatchOption (option_map state_of o) ⊥ (λ t. P (state_of was) t)) (sym then_is) p)

  more_came : (i s z j t w : ℕ) (old new : SackDisks D) → i ≤ j → s ≤ t → z ≤ w → CameWithin g i s z old new → CameWithin g j t w old new
  more_came i s z j t w old new first second third c = record {
    incoming_a = came_more i j _ _ first c.incoming_a;
    incoming_b = came_more i j _ _ first c.incoming_b;
    shelf_a = came_more s t _ _ second c.shelf_a;
    shelf_b = came_more s t _ _ second c.shelf_b;
    blocks_disk = came_more z w _ _ third c.blocks_disk;
  }

  -- ---- a mounting that failed

  module _ (fault : MountFault) (stays : StaysBroken g place keeping then fault) where
    pub failed_came : (i s z : ℕ) → Both (λ a b. CameWithin g (2 + i) (2 + s) (1 + z) a.disks b.disks)
    failed_came i s z =
        both (λ a b. CameWithin g (2 + i) (2 + s) (1 + z) a.disks b.disks) stays.before stays.now stays.old_is stays.new_is
        (more_came 2 2 1 (2 + i) (2 + s) (1 + z) _ _ (omega arith) (omega arith) (omega arith) stays.unmounted.came)

    pub failed_uses : (Uses : SackDisks D → SackDisks D → Type 0) → Both (λ s t. s.broken ≡ false → Uses s.disks t.disks)
    failed_uses Uses = both (λ s t. s.broken ≡ false → Uses s.disks t.disks) stays.before stays.now stays.old_is stays.new_is (λ whole. absurd (false≢true (sym whole ∙ stays.was_broken)))

    abbrev Told : Failure → Type 0
    Told x = OnFailure x (λ f. Both (λ s t. IsSackFault g s.disks t.disks f)) (Before (λ s. s.broken ≡ true))

    pub failed_told : OnFailure (failure_of fault) (λ f. Both (λ s t. IsSackFault g s.disks t.disks f)) (Before (λ s. s.broken ≡ true))
    failed_told = by _ fault stays.unmounted.cause
      where
        by : (Q : Damage → Type 0) (x : MountFault) → MatchMountFault x (IsFault (sack_faults g (state_of stays.before).disks) (sack_faults g (state_of stays.now).disks)) Q ⊤ → Told (failure_of x)
        by Q (MountDisk f) cause = both (λ s t. IsSackFault g s.disks t.disks f) stays.before stays.now stays.old_is stays.new_is (record {
          before = subst (λ n. sack_faults g (state_of stays.before).disks ≤ n) (sym cause.before_is) (no_less _);
          after = cause.after_is;
          rose = subst (λ n. Rose n f.after) (sym cause.before_is) (subst (λ n. Rose (sack_faults g (state_of stays.before).disks) n) (sym cause.after_is) cause.rose);
        })
        by Q (MountDamaged d) cause = subst (λ (o : Option (Keeping D)). MatchOption (option_map state_of o) ⊥ (λ s. s.broken ≡ true)) (sym stays.old_is) stays.was_broken
        by Q MountMemory cause = tt

    pub failed_cause : (r : SackFault) → MatchMountFault fault (λ f. r ≡ sack_fault.DiskFault f) (λ d. r ≡ sack_fault.Damaged d) (r ≡ sack_fault.Memory)
        → MatchOnDisk r (λ f. Both (λ s t. IsSackFault g s.disks t.disks f)) (Before (λ s. s.broken ≡ true))
    failed_cause r is =
        subst (λ e. MatchOnDisk e (λ f. Both (λ s t. IsSackFault g s.disks t.disks f)) (Before (λ s. s.broken ≡ true))) (sym (refused_as fault r is))
        (sack_told (failure_of fault) (λ f. Both (λ s t. IsSackFault g s.disks t.disks f)) (Before (λ s. s.broken ≡ true)) failed_told)

    pub failed_create : (r : CreateFault) → MatchMountFault fault (λ f. r ≡ create_fault.DiskFault f) (λ d. r ≡ create_fault.Damaged d) (r ≡ create_fault.Memory)
        → MatchCreateOnDisk r (λ f. Both (λ s t. IsSackFault g s.disks t.disks f)) (Before (λ s. s.broken ≡ true))
    failed_create r is =
        subst (λ e. MatchCreateOnDisk e (λ f. Both (λ s t. IsSackFault g s.disks t.disks f)) (Before (λ s. s.broken ≡ true))) (sym (created_as fault r is))
        (create_told (failure_of fault) (λ f. Both (λ s t. IsSackFault g s.disks t.disks f)) (Before (λ s. s.broken ≡ true)) failed_told)

  -- ---- books that were taken

  module _ (books new : Books D) (anew : Bool) (takes : TakesBooks g place keeping books anew) (then_is : then ≡ Some (Mounted new)) where
    pub call_came : (i s z : ℕ) → CameWithin g i s z (disks_of books) (disks_of new) → Both (λ a b. CameWithin g (2 + i) (2 + s) (1 + z) a.disks b.disks)
    call_came i s z came = by takes
      where
        by : TakesBooks g place keeping books anew → Both (λ a b. CameWithin g (2 + i) (2 + s) (1 + z) a.disks b.disks)
        by (as_they_were is unbroken lasting not_anew) =
            both (λ a b. CameWithin g (2 + i) (2 + s) (1 + z) a.disks b.disks) (Mounted books) (Mounted new) is then_is
            (more_came i s z (2 + i) (2 + s) (1 + z) (disks_of books) (disks_of new) (omega arith) (omega arith) (omega arith) came)
        by (mounted_anew was is broken from is_anew) =
            both (λ a b. CameWithin g (2 + i) (2 + s) (1 + z) a.disks b.disks) was (Mounted new) is then_is
            (within_then g came_then 2 2 1 i s z (state_of was).disks (disks_of books) (disks_of new) from.came came)

    pub call_uses : (Uses : SackDisks D → SackDisks D → Type 0) → Uses (disks_of books) (disks_of new) → Both (λ s t. s.broken ≡ false → Uses s.disks t.disks)
    call_uses Uses used = by takes
      where
        by : TakesBooks g place keeping books anew → Both (λ s t. s.broken ≡ false → Uses s.disks t.disks)
        by (as_they_were is unbroken lasting not_anew) = both (λ s t. s.broken ≡ false → Uses s.disks t.disks) (Mounted books) (Mounted new) is then_is (λ whole. used)
        by (mounted_anew was is broken from is_anew) = both (λ s t. s.broken ≡ false → Uses s.disks t.disks) was (Mounted new) is then_is (λ whole. absurd (false≢true (sym whole ∙ broken)))

    pub call_fault : (f : Fault) → IsFault (sack_faults g (disks_of books)) (sack_faults g (disks_of new)) f → Both (λ s t. IsSackFault g s.disks t.disks f)
    call_fault f fault = by takes
      where
        since : (s : SackState D) → sack_faults g s.disks ≤ sack_faults g (disks_of books) → IsSackFault g s.disks (disks_of new) f
        since s le = record {
          before = subst (λ n. sack_faults g s.disks ≤ n) (sym fault.before_is) le;
          after = fault.after_is;
          rose = subst (λ n. Rose n f.after) (sym fault.before_is) (subst (λ n. Rose (sack_faults g (disks_of books)) n) (sym fault.after_is) fault.rose);
        }

        by : TakesBooks g place keeping books anew → Both (λ s t. IsSackFault g s.disks t.disks f)
        by (as_they_were is unbroken lasting not_anew) = both (λ s t. IsSackFault g s.disks t.disks f) (Mounted books) (Mounted new) is then_is (since (state_with books) (no_less (sack_faults g (disks_of books))))
        by (mounted_anew was is broken from is_anew) = both (λ s t. IsSackFault g s.disks t.disks f) was (Mounted new) is then_is (since (state_of was) (faults_later g came_later 2 2 1 (state_of was).disks (disks_of books) from.came))
