-- A store that wasn't made or mounted: how often its disks were changed.
use Rattle.std.proofs.Common.{◌≡◌, ℕ, ◌+◌, ◌≤◌, List, [], ◌∷◌, ◌++◌, inl, refl, sym, ap, subst, ◌∙◌, arith}
use Rattle.std.specs.List.{flat_map}
use Rattle.std.proofs.lemmas.Grind.{flat_map-append}
use Rattle.gno_disk.specs.declared.disk.Disk.{Ghosts}
use Rattle.gno_disk.specs.Phases.{AreUnwritten}
use Rattle.metric_index.specs.IndexView.{index_phases}
use Rattle.sack_state.specs.declared.disks.SackDisks.{SackDisks}
use Rattle.sack_state.specs.Disks.{CameWithin}
use Rattle.front.specs.declared.fault.Unmade.{Unmade}
use Rattle.front.specs.Creating.{IsMakingOrLooking, SacksCame, StoreCame}
use Rattle.gate_log.specs.declared.fault.MountFault.{MountFault}
use Rattle.front.specs.Making.{AreUnmadeOn, IsMadeSack, IsMountedSack, IsUncreatedOn, IsUnmountedOn, at_index, at_sack, exists, unlooked, unmade_books}
use Rattle.front.specs.Plan.{OnPlan, StoreDisks, five, in_plan}
use Rattle.front.proofs.Came.{are_now}
use Rattle.front.proofs.Groups.{IsOnPlan}
use Rattle.front.proofs.Looks.{same_leaves}

-- a list of two is one of these two
pub same_first : {D : Type 0} (x y a b : D) (l : List D) → l ≡ x ∷ y ∷ [] → l ≡ a ∷ b ∷ [] → x ≡ a
same_first x y a b l p q = cc

pub same_second : {D : Type 0} (x y a b : D) (l : List D) → l ≡ x ∷ y ∷ [] → l ≡ a ∷ b ∷ [] → y ≡ b
same_second x y a b l p q = cc

module _ {D : Type 0} (g : Ghosts D) (only_now : (disk : D) (image : List ℕ) → g.left_since disk (g.moment disk) image → g.may_leave disk image) (came_none : (disk : D) → g.came 0 disk disk)
    (more : (m n : ℕ) (old new : D) → m ≤ n → g.came m old new → g.came n old new) where
  still_came : (n : ℕ) (d : D) → g.came n d d
  still_came n d = more 0 n d d (omega arith) (came_none d)

  five_still : (incoming shelf blocks : ℕ) (d : SackDisks D) → CameWithin g incoming shelf blocks d d
  five_still incoming shelf blocks d = record {
    incoming_a = still_came incoming d.incoming_a;
    incoming_b = still_came incoming d.incoming_b;
    shelf_a = still_came shelf d.shelf_a;
    shelf_b = still_came shelf d.shelf_b;
    blocks_disk = still_came blocks d.blocks;
  }

  pub sacks_still : (incoming shelf blocks : ℕ) (disks : List (SackDisks D)) → SacksCame g incoming shelf blocks disks disks
  sacks_still incoming shelf blocks [] = tt
  sacks_still incoming shelf blocks (d ∷ disks) = (five_still incoming shelf blocks d, sacks_still incoming shelf blocks disks)

  -- nothing was called on the disks
  pub nothing_made : (total number n : ℕ) (disks : List D) → IsOnPlan n disks → OnPlan (IsMakingOrLooking g total number) disks disks
  nothing_made total number n disks plan = record {
    old = plan.from;
    new = plan.from;
    old_is = plan.are;
    new_is = plan.are;
    holds = inl (record { looked_a = same_leaves g only_now plan.from.index_a; looked_b = same_leaves g only_now plan.from.index_b; sacks = refl });
  }

  pub nothing_came : (index incoming shelf blocks n : ℕ) (disks : List D) → IsOnPlan n disks → OnPlan (StoreCame g index incoming shelf blocks) disks disks
  nothing_came index incoming shelf blocks n disks plan = record {
    old = plan.from;
    new = plan.from;
    old_is = plan.are;
    new_is = plan.are;
    holds = record { index_a = still_came index plan.from.index_a; index_b = still_came index plan.from.index_b; sacks = sacks_still incoming shelf blocks plan.from.sacks };
  }

  pub nothing_written : (disks : List D) → AreUnwritten g (index_phases disks disks)
  nothing_written [] = tt
  nothing_written (d ∷ disks) = (record { within = only_now d; no_more = λ image may. may }, nothing_written disks)

  -- the first sacks were changed, then one, and no other
  pub came_among : (incoming shelf blocks : ℕ) (front now rest : List (SackDisks D)) (one new : SackDisks D) → SacksCame g incoming shelf blocks front now → CameWithin g incoming shelf blocks one new
      → SacksCame g incoming shelf blocks (front ++ one ∷ rest) (now ++ new ∷ rest)
  came_among incoming shelf blocks [] [] rest one new came here = (here, sacks_still incoming shelf blocks rest)
  came_among incoming shelf blocks [] (n ∷ now) rest one new came here = absurd came
  came_among incoming shelf blocks (f ∷ front) [] rest one new came here = absurd came
  came_among incoming shelf blocks (f ∷ front) (n ∷ now) rest one new came here = (came.0, came_among incoming shelf blocks front now rest one new came.1 here)

  module _ (came_then : (m n : ℕ) (old mid new : D) → g.came m old mid → g.came n mid new → g.came (m + n) old new) (total number : ℕ) (old : StoreDisks D) (disks back : List D) (are : disks ≡ in_plan old) where
    on_plan_of : (new : StoreDisks D) → back ≡ in_plan new → StoreCame g 15 9 9 1 old new → OnPlan (StoreCame g 15 9 9 1) disks back
    on_plan_of new is came = record { old = old; new = new; old_is = are; new_is = is; holds = came }

    unmade_came : (a b : D) (why : Unmade) → g.came 6 old.index_a a → g.came 6 old.index_b b → AreUnmadeOn g total number a b old.sacks back why → OnPlan (StoreCame g 15 9 9 1) disks back
    unmade_came a b why came_a came_b (at_sack front rest one new sacks fault split made un is why_is) =
        let now = are_now g 9 9 1 (IsMadeSack g total) (λ k d v made. made.came) 0 front sacks made in
        on_plan_of (record { index_a = a; index_b = b; sacks = now.now ++ new ∷ rest })
        (is ∙ ap (λ l. a ∷ b ∷ (l ++ flat_map five (new ∷ rest))) now.are ∙ ap (λ l. a ∷ b ∷ l) (sym (flat_map-append five now.now (new ∷ rest))))
        (record {
          index_a = more 6 15 old.index_a a (omega arith) came_a;
          index_b = more 6 15 old.index_b b (omega arith) came_b;
          sacks = subst (λ (l : List (SackDisks D)). SacksCame g 9 9 1 l (now.now ++ new ∷ rest)) (sym split) (came_among 9 9 1 front now.now rest one new now.came un.came);
        })
    unmade_came a b why came_a came_b (at_index first second sacks fault made un is why_is) =
        let now = are_now g 9 9 1 (IsMadeSack g total) (λ k d v made. made.came) 0 old.sacks sacks made in
        on_plan_of (record { index_a = first; index_b = second; sacks = now.now }) (is ∙ ap (λ l. first ∷ second ∷ l) now.are)
        (record {
          index_a = came_then 6 9 old.index_a a first came_a un.came_a;
          index_b = more 11 15 old.index_b second (omega arith) (came_then 6 5 old.index_b b second came_b un.came_b);
          sacks = now.came;
        })

    pub uncreated_came : (why : Unmade) → IsUncreatedOn g total number old back why → OnPlan (StoreCame g 15 9 9 1) disks back
    uncreated_came why (exists new is read came_a came_b found why_is) = on_plan_of new is (record {
      index_a = more 6 15 old.index_a new.index_a (omega arith) came_a;
      index_b = more 6 15 old.index_b new.index_b (omega arith) came_b;
      sacks = subst (λ (l : List (SackDisks D)). SacksCame g 9 9 1 old.sacks l) (sym read.sacks) (sacks_still 9 9 1 old.sacks);
    })
    uncreated_came why (unlooked a b fault is leaves_a leaves_b came_a came_b cause why_is) = on_plan_of (record old { index_a = a; index_b = b }) is (record {
      index_a = more 6 15 old.index_a a (omega arith) came_a;
      index_b = more 6 15 old.index_b b (omega arith) came_b;
      sacks = sacks_still 9 9 1 old.sacks;
    })
    uncreated_came why (unmade_books a b looked_a looked_b un) = unmade_came a b why looked_a.came looked_b.came un

  module _ (total : ℕ) (old : StoreDisks D) (disks back : List D) (are : disks ≡ in_plan old) where
    plan_of : (new : StoreDisks D) → back ≡ in_plan new → StoreCame g 2 2 2 1 old new → OnPlan (StoreCame g 2 2 2 1) disks back
    plan_of new is came = record { old = old; new = new; old_is = are; new_is = is; holds = came }

    pub unmounted_came : (fault : MountFault) → IsUnmountedOn g total old back fault → OnPlan (StoreCame g 2 2 2 1) disks back
    unmounted_came fault (at_index a b is un) = plan_of (record old { index_a = a; index_b = b }) is (record { index_a = un.came_a; index_b = un.came_b; sacks = sacks_still 2 2 1 old.sacks })
    unmounted_came fault (at_sack index a b front rest one new sacks on mounted disks_are split made un is told) =
        let now = are_now g 2 2 1 (IsMountedSack g total) (λ k d v made. made.came) 0 front sacks made in
        plan_of (record { index_a = a; index_b = b; sacks = now.now ++ new ∷ rest })
        (is ∙ ap (λ l. a ∷ b ∷ (l ++ flat_map five (new ∷ rest))) now.are ∙ ap (λ l. a ∷ b ∷ l) (sym (flat_map-append five now.now (new ∷ rest))))
        (record {
          index_a = subst (λ (z : D). g.came 2 old.index_a z) (same_first mounted.first mounted.second a b index.disks mounted.disks disks_are) mounted.came_a;
          index_b = subst (λ (z : D). g.came 2 old.index_b z) (same_second mounted.first mounted.second a b index.disks mounted.disks disks_are) mounted.came_b;
          sacks = subst (λ (l : List (SackDisks D)). SacksCame g 2 2 1 l (now.now ++ new ∷ rest)) (sym split) (came_among 2 2 1 front now.now rest one new now.came un.came);
        })
