-- The cause of a store that wasn't made or mounted.
use Rattle.std.proofs.Common.{◌≡◌, ℕ, ◌≤◌, List, ◌∷◌, ◌++◌, length, refl, sym, ap, subst, ◌∙◌, arith}
use Rattle.std.specs.List.{flat_map}
use Rattle.std.proofs.lemmas.Grind.{flat_map-append}
use Rattle.gno_disk.specs.declared.disk.Disk.{Ghosts}
use Rattle.gno_num.specs.Faults.{Rose, Rose-from}
use Rattle.gate_log.specs.LogView.{IsFault, MatchFault, MatchMountFault}
use Rattle.gate_log.specs.declared.fault.LogFault.{LogFault}
use Rattle.gate_log.specs.declared.fault.LogFault.TheVariants as log_fault
use Rattle.gate_log.specs.declared.fault.MountFault.{MountFault}
use Rattle.gate_log.specs.declared.fault.MountFault.TheVariants as mount_fault
use Rattle.log_pair.specs.PairView.{both_faults}
use Rattle.front_api.specs.Seen.{capped}
use Rattle.metric_index.specs.IndexDamage.{HoldsNoIndex, IsDamagedIndex}
use Rattle.metric_index.specs.IndexView.{sum_of_faults}
use Rattle.sack_state.specs.declared.disks.SackDisks.{SackDisks}
use Rattle.sack_state.specs.Books.{IsUnmounted}
use Rattle.sack_state.specs.Disks.{sack_faults}
use Rattle.front.specs.declared.fault.StoreFault.{StoreFault}
use Rattle.front.specs.declared.fault.StoreFault.TheVariants as store_fault
use Rattle.front.specs.declared.fault.Unmade.{Unmade}
use Rattle.front.specs.declared.fault.Unmade.TheVariants as unmade
use Rattle.front.specs.Creating.{IsOnlyRead}
use Rattle.front.specs.Looking.{HaveStore}
use Rattle.front.specs.Making.{AreUnmadeOn, IsMadeSack, IsMountedSack, IsUncreatedOn, IsUnmountedIndex, IsUnmountedOn, at_index, at_sack, exists, unlooked, unmade_books}
use Rattle.front.specs.Opening.{AreDamaged, IsDamagedStore}
use Rattle.front.specs.Opening as opening
use Rattle.front.specs.Plan.{OnPlan, StoreDisks, five, in_plan, sack_place}
use Rattle.front.specs.StoreFaults.{MatchStoreFault, told_in_store}
use Rattle.front.proofs.Came.{are_now}
use Rattle.front.proofs.Causes.{both_told, rises, rose_at_index, rose_at_sack, sacks_later}
use Rattle.front.proofs.Still.{same_first, same_second}

module _ {D : Type 0} (g : Ghosts D) (later : (n : ℕ) (old new : D) → g.came n old new → g.faults old ≤ g.faults new) (total : ℕ) (old : StoreDisks D) (disks back : List D) (are : disks ≡ in_plan old)
    (told : StoreFault) (before after : ℕ) (before_is : before ≡ capped (sum_of_faults g disks)) (after_is : after ≡ capped (sum_of_faults g back)) where
  -- the counts of all disks rose
  abbrev AllRose : Type 0
  AllRose = Rose (capped (sum_of_faults g disks)) (capped (sum_of_faults g back))

  rose_as : (news : List D) → back ≡ news → Rose (capped (sum_of_faults g (in_plan old))) (capped (sum_of_faults g news)) → Rose (capped (sum_of_faults g disks)) (capped (sum_of_faults g back))
  rose_as news is rose = subst (λ (l : List D). Rose (capped (sum_of_faults g l)) (capped (sum_of_faults g back))) (sym are) (subst (λ (l : List D). Rose (capped (sum_of_faults g (in_plan old))) (capped (sum_of_faults g l))) (sym is) rose)

  index_later : (a b x y : D) → g.faults a ≤ g.faults x → g.faults b ≤ g.faults y → both_faults g a b ≤ both_faults g x y
  index_later a b x y le_a le_b = omega (arith, le_a, le_b)

  module _ (number : ℕ) where
    -- the cause of a store that wasn't made
    abbrev HasCause : StoreFault → Type 0
    HasCause t = MatchStoreFault t (HaveStore g disks × OnPlan (IsOnlyRead g) disks back) (IsFault (capped (sum_of_faults g disks)) (capped (sum_of_faults g back))) (λ d. ⊥) (Unit {0})

    failed_by : (fault : LogFault) → MatchFault fault (λ f. told ≡ store_fault.DiskFault (record { before = before; after = after })) (told ≡ store_fault.Memory)
        → MatchFault fault (λ f. AllRose) (Unit {0})
        → HasCause told
    failed_by (log_fault.DiskFault f) is rose =
        subst (λ (t : StoreFault). HasCause t) (sym is)
        (record { before_is = before_is; after_is = after_is; rose = rose })
    failed_by log_fault.Memory is rose =
        subst (λ (t : StoreFault). HasCause t) (sym is) tt

    one_fault : (w : Unmade) (x y : LogFault) → w ≡ unmade.Failed x → w ≡ unmade.Failed y → x ≡ y
    one_fault w x y p q = cc

    unmade_rises : (a b : D) (why : Unmade) (fault : LogFault) → g.came 6 old.index_a a → g.came 6 old.index_b b → AreUnmadeOn g total number a b old.sacks back why → why ≡ unmade.Failed fault
        → MatchFault fault (λ f. AllRose) (Unit {0})
    unmade_rises a b why fault came_a came_b (at_sack front rest one new sacks on split made un is why_is) failed =
        let now = are_now g 9 9 1 (IsMadeSack g total) (λ k d v made. made.came) 0 front sacks made in
        subst (λ (x : LogFault). MatchFault x (λ f. AllRose) (Unit {0})) (one_fault why on fault why_is failed)
        (rises on (sack_faults g one) (sack_faults g new) (capped (sum_of_faults g disks)) (capped (sum_of_faults g back))
        (λ rose. rose_as (a ∷ b ∷ flat_map five (now.now ++ new ∷ rest))
        (is ∙ ap (λ l. a ∷ b ∷ (l ++ flat_map five (new ∷ rest))) now.are ∙ ap (λ l. a ∷ b ∷ l) (sym (flat_map-append five now.now (new ∷ rest))))
        (subst (λ (l : List (SackDisks D)). Rose (capped (sum_of_faults g (old.index_a ∷ old.index_b ∷ flat_map five l))) (capped (sum_of_faults g (a ∷ b ∷ flat_map five (now.now ++ new ∷ rest))))) (sym split)
        (rose_at_sack g later old.index_a old.index_b a b front now.now rest one new (later 6 old.index_a a came_a) (later 6 old.index_b b came_b) (sacks_later g later 9 9 1 front now.now now.came) rose))) un.cause)
    unmade_rises a b why fault came_a came_b (at_index first second sacks on made un is why_is) failed =
        let now = are_now g 9 9 1 (IsMadeSack g total) (λ k d v made. made.came) 0 old.sacks sacks made in
        subst (λ (x : LogFault). MatchFault x (λ f. AllRose) (Unit {0})) (one_fault why on fault why_is failed)
        (rises on (both_faults g a b) (both_faults g first second) (capped (sum_of_faults g disks)) (capped (sum_of_faults g back))
        (λ rose. rose_as (first ∷ second ∷ flat_map five now.now) (is ∙ ap (λ l. first ∷ second ∷ l) now.are)
        (rose_at_index g later old.index_a old.index_b first second (flat_map five old.sacks) (flat_map five now.now) (sacks_later g later 9 9 1 old.sacks now.now now.came)
        (Rose-from (both_faults g old.index_a old.index_b) (index_later old.index_a old.index_b a b (later 6 old.index_a a came_a) (later 6 old.index_b b came_b)) rose))) un.cause)

    pub uncreated_cause : (why : Unmade) → IsUncreatedOn g total number old back why → (why ≡ unmade.Exists → told ≡ store_fault.Exists)
        → ((fault : LogFault) → why ≡ unmade.Failed fault → MatchFault fault (λ f. told ≡ store_fault.DiskFault (record { before = before; after = after })) (told ≡ store_fault.Memory))
        → HasCause told
    uncreated_cause why (exists new is read came_a came_b has why_is) there failed =
        subst (λ (t : StoreFault). HasCause t) (sym (there why_is))
        (subst (λ (l : List D). HaveStore g l) (sym are) has, record { old = old; new = new; old_is = are; new_is = is; holds = read })
    uncreated_cause why (unlooked a b fault is leaves_a leaves_b came_a came_b cause why_is) there failed =
        failed_by fault (failed fault why_is) (rises fault (both_faults g old.index_a old.index_b) (both_faults g a b) (capped (sum_of_faults g disks)) (capped (sum_of_faults g back))
        (λ rose. rose_as (a ∷ b ∷ flat_map five old.sacks) is (rose_at_index g later old.index_a old.index_b a b (flat_map five old.sacks) (flat_map five old.sacks) (omega arith) rose)) cause)
    uncreated_cause why (unmade_books a b looked_a looked_b un) there failed = by un
      where
        by : AreUnmadeOn g total number a b old.sacks back why
            → HasCause told
        by (at_sack front rest one new sacks on split made not is why_is) = failed_by on (failed on why_is) (unmade_rises a b why on looked_a.came looked_b.came un why_is)
        by (at_index first second sacks on made not is why_is) = failed_by on (failed on why_is) (unmade_rises a b why on looked_a.came looked_b.came un why_is)

  -- ---- mounting

  abbrev HasMountCause : StoreFault → Type 0
  HasMountCause t = MatchStoreFault t ⊥ (IsFault (capped (sum_of_faults g disks)) (capped (sum_of_faults g back))) (AreDamaged g total disks) (Unit {0})

  -- how the store tells the fault
  abbrev Tells : MountFault → Type 0
  Tells fault = MatchMountFault fault (λ f. told ≡ store_fault.DiskFault (record { before = before; after = after })) (λ d. told ≡ store_fault.Damaged d) (told ≡ store_fault.Memory)

  by_disk : told ≡ store_fault.DiskFault (record { before = before; after = after }) → AllRose → HasMountCause told
  by_disk is rose = subst (λ (t : StoreFault). HasMountCause t) (sym is) (record { before_is = before_is; after_is = after_is; rose = rose })

  index_cause : (a b : D) (fault : MountFault) → back ≡ in_plan (record old { index_a = a; index_b = b }) → IsUnmountedIndex g total old.index_a old.index_b a b fault → Tells fault → HasMountCause told
  index_cause a b (mount_fault.DiskFault f) is un tells = by_disk tells (rose_as (a ∷ b ∷ flat_map five old.sacks) is
      (rose_at_index g later old.index_a old.index_b a b (flat_map five old.sacks) (flat_map five old.sacks) (omega arith) un.cause.rose))
  index_cause a b (mount_fault.Damaged d) is un tells = subst (λ (t : StoreFault). HasMountCause t) (sym tells)
      (old, are, opening.index (both_told (g.told old.index_a) (g.told old.index_b) (λ x y. IsDamagedIndex total x y d) (HoldsNoIndex total) (λ x y. IsDamagedIndex total x y d × HoldsNoIndex total x y) (λ x y p q. (p, q)) un.cause un.never))
  index_cause a b mount_fault.Memory is un tells = subst (λ (t : StoreFault). HasMountCause t) (sym tells) tt

  sack_cause : (a b : D) (front now rest : List (SackDisks D)) (one new : SackDisks D) (on : MountFault) → old.sacks ≡ front ++ one ∷ rest → back ≡ a ∷ b ∷ flat_map five (now ++ new ∷ rest)
      → g.faults old.index_a ≤ g.faults a → g.faults old.index_b ≤ g.faults b → sum_of_faults g (flat_map five front) ≤ sum_of_faults g (flat_map five now)
      → IsUnmounted g (sack_place total (length front)) one new on → Tells (told_in_store (length front) on) → HasMountCause told
  sack_cause a b front now rest one new (mount_fault.DiskFault f) split is le_a le_b le un tells = by_disk tells (rose_as (a ∷ b ∷ flat_map five (now ++ new ∷ rest)) is
      (subst (λ (l : List (SackDisks D)). Rose (capped (sum_of_faults g (old.index_a ∷ old.index_b ∷ flat_map five l))) (capped (sum_of_faults g (a ∷ b ∷ flat_map five (now ++ new ∷ rest))))) (sym split)
      (rose_at_sack g later old.index_a old.index_b a b front now rest one new le_a le_b le un.cause.rose)))
  sack_cause a b front now rest one new (mount_fault.Damaged d) split is le_a le_b le un tells = subst (λ (t : StoreFault). HasMountCause t) (sym tells) (old, are, opening.sack front rest one d split un.cause un.never refl)
  sack_cause a b front now rest one new mount_fault.Memory split is le_a le_b le un tells = subst (λ (t : StoreFault). HasMountCause t) (sym tells) tt

  pub unmounted_cause : (fault : MountFault) → IsUnmountedOn g total old back fault → Tells fault → HasMountCause told
  unmounted_cause fault (at_index a b is un) tells = index_cause a b fault is un tells
  unmounted_cause fault (at_sack index a b front rest one new sacks on mounted disks_are split made un is told_is) tells =
      let now = are_now g 2 2 1 (IsMountedSack g total) (λ k d v made. made.came) 0 front sacks made in
      sack_cause a b front now.now rest one new on split
      (is ∙ ap (λ l. a ∷ b ∷ (l ++ flat_map five (new ∷ rest))) now.are ∙ ap (λ l. a ∷ b ∷ l) (sym (flat_map-append five now.now (new ∷ rest))))
      (later 2 old.index_a a (subst (λ (z : D). g.came 2 old.index_a z) (same_first mounted.first mounted.second a b index.disks mounted.disks disks_are) mounted.came_a))
      (later 2 old.index_b b (subst (λ (z : D). g.came 2 old.index_b z) (same_second mounted.first mounted.second a b index.disks mounted.disks disks_are) mounted.came_b))
      (sacks_later g later 2 2 1 front now.now now.came) un (subst (λ (f : MountFault). Tells f) told_is tells)
