-- A store that is mounted is not written.
use Rattle.std.proofs.Common.{◌≡◌, ℕ, ◌+◌, ◌≤◌, List, [], ◌∷◌, ◌++◌, Option, Some, None, refl, sym, ap, subst, ◌∙◌, append-nil}
use Rattle.std.specs.List.{flat_map}
use Rattle.std.specs.Option.{MatchOption}
use Rattle.std.proofs.lemmas.Grind.{flat_map-append}
use Rattle.gno_disk.specs.declared.disk.Disk.{Ghosts}
use Rattle.gno_disk.specs.Phases.{AreUnwritten, IsUnwritten, Phase, phase}
use Rattle.gate_log.specs.declared.fault.MountFault.{MountFault}
use Rattle.metric_index.specs.IndexView.{index_phases}
use Rattle.sack_state.specs.declared.disks.SackDisks.{SackDisks}
use Rattle.sack_state.specs.Disks.{sack_phases}
use Rattle.sack_state.specs.SackView.{SackState, SackView}
use Rattle.front.specs.Making.{AreOpened, IsMountedOn, IsMountedSack, IsUnmountedOn, at_index, at_sack}
use Rattle.front.specs.Plan.{StoreDisks, five, in_plan}
use Rattle.front.specs.SoloView.{SoloView, disks_of_sack, disks_of_sacks, disks_of_solo}
use Rattle.front.proofs.Still.{nothing_written, same_first, same_second}

module _ {D : Type 0} (g : Ghosts D) (total : ℕ) where
  first_of : (p : Phase D) (phases : List (Phase D)) → AreUnwritten g (p ∷ phases) → IsUnwritten g p
  first_of p phases is = is.0

  rest_of : (p : Phase D) (phases : List (Phase D)) → AreUnwritten g (p ∷ phases) → AreUnwritten g phases
  rest_of p phases is = is.1

  -- the disks of a sack, in the order of the plan, and others behind them
  five_unwritten : (d now : SackDisks D) (olds news : List D) → AreUnwritten g (sack_phases d now) → AreUnwritten g (index_phases olds news) → AreUnwritten g (index_phases (five d ++ olds) (five now ++ news))
  five_unwritten d now olds news is rest =
      let p1 = phase d.incoming_a now.incoming_a in
      let p2 = phase d.incoming_b now.incoming_b in
      let p3 = phase d.blocks now.blocks in
      let p4 = phase d.shelf_a now.shelf_a in
      let p5 = phase d.shelf_b now.shelf_b in
      let r1 = rest_of p1 (p2 ∷ p3 ∷ p4 ∷ p5 ∷ []) is in
      let r2 = rest_of p2 (p3 ∷ p4 ∷ p5 ∷ []) r1 in
      let r3 = rest_of p3 (p4 ∷ p5 ∷ []) r2 in
      let r4 = rest_of p4 (p5 ∷ []) r3 in
      (first_of p1 (p2 ∷ p3 ∷ p4 ∷ p5 ∷ []) is, (first_of p2 (p3 ∷ p4 ∷ p5 ∷ []) r1, (first_of p4 (p5 ∷ []) r3, (first_of p5 [] r4, (first_of p3 (p4 ∷ p5 ∷ []) r2, rest)))))

  -- those of the sacks that were mounted
  sacks_unwritten : (sack : ℕ) (disks : List (SackDisks D)) (sacks : List (SackView D)) (olds news : List D) → AreOpened (IsMountedSack g total) sack disks sacks → AreUnwritten g (index_phases olds news)
      → AreUnwritten g (index_phases (flat_map five disks ++ olds) (disks_of_sacks sacks ++ news))
  sacks_unwritten sack [] [] olds news are rest = rest
  sacks_unwritten sack [] (v ∷ sacks) olds news are rest = absurd are
  sacks_unwritten sack (d ∷ disks) [] olds news are rest = absurd are
  sacks_unwritten sack (d ∷ disks) (v ∷ sacks) olds news are rest = by v.state refl are.0.unwritten (sacks_unwritten (sack + 1) disks sacks olds news are.1 rest)
    where
      by : (o : Option (SackState D)) → v.state ≡ o → MatchOption o ⊥ (λ s. AreUnwritten g (sack_phases d s.disks)) → AreUnwritten g (index_phases (flat_map five disks ++ olds) (disks_of_sacks sacks ++ news))
          → AreUnwritten g (index_phases (five d ++ (flat_map five disks ++ olds)) ((disks_of_sack v ++ disks_of_sacks sacks) ++ news))
      by None e is behind = absurd is
      by (Some s) e is behind = subst (λ (l : List D). AreUnwritten g (index_phases (five d ++ (flat_map five disks ++ olds)) ((l ++ disks_of_sacks sacks) ++ news)))
          (sym (ap (λ (o : Option (SackState D)). elim o as (λ x. List D) [ None ↦ [] | Some s ↦ five s.disks ]) e))
          (five_unwritten d s.disks (flat_map five disks ++ olds) (disks_of_sacks sacks ++ news) is behind)

  -- the disks of the index come before
  with_index : (a b x y : D) (olds news : List D) → AreUnwritten g (phase a x ∷ phase b y ∷ []) → AreUnwritten g (index_phases olds news) → AreUnwritten g (index_phases (a ∷ b ∷ olds) (x ∷ y ∷ news))
  with_index a b x y olds news is rest = (first_of (phase a x) (phase b y ∷ []) is, (first_of (phase b y) [] (rest_of (phase a x) (phase b y ∷ []) is), rest))

  module _ (only_now : (disk : D) (image : List ℕ) → g.left_since disk (g.moment disk) image → g.may_leave disk image) (came_none : (disk : D) → g.came 0 disk disk)
      (more : (m n : ℕ) (old new : D) → m ≤ n → g.came m old new → g.came n old new) (old : StoreDisks D) (disks back : List D) (are : disks ≡ in_plan old) where
    as_phases : (news : List D) → back ≡ news → AreUnwritten g (index_phases (in_plan old) news) → AreUnwritten g (index_phases disks back)
    as_phases news is unwritten = subst (λ (l : List D). AreUnwritten g (index_phases l back)) (sym are) (subst (λ (l : List D). AreUnwritten g (index_phases (in_plan old) l)) (sym is) unwritten)

    pub mounted_unwritten : (v : SoloView D) → back ≡ disks_of_solo v → IsMountedOn g total old v → AreUnwritten g (index_phases disks back)
    mounted_unwritten v back_is is =
        let i = is.index in
        as_phases (i.first ∷ i.second ∷ (disks_of_sacks v.sacks ++ [])) (back_is ∙ ap (λ l. l ++ disks_of_sacks v.sacks) i.disks ∙ ap (λ l. i.first ∷ i.second ∷ l) (sym (append-nil (disks_of_sacks v.sacks))))
        (subst (λ (l : List D). AreUnwritten g (index_phases (old.index_a ∷ old.index_b ∷ l) (i.first ∷ i.second ∷ (disks_of_sacks v.sacks ++ [])))) (append-nil (flat_map five old.sacks))
        (with_index old.index_a old.index_b i.first i.second (flat_map five old.sacks ++ []) (disks_of_sacks v.sacks ++ []) i.unwritten (sacks_unwritten 0 old.sacks v.sacks [] [] is.sacks tt)))

    pub unmounted_unwritten : (fault : MountFault) → IsUnmountedOn g total old back fault → AreUnwritten g (index_phases disks back)
    unmounted_unwritten fault (at_index a b is un) =
        as_phases (a ∷ b ∷ flat_map five old.sacks) is (with_index old.index_a old.index_b a b (flat_map five old.sacks) (flat_map five old.sacks) un.unwritten (nothing_written g only_now came_none more (flat_map five old.sacks)))
    unmounted_unwritten fault (at_sack index a b front rest one new sacks on mounted disks_are split made un is told) =
        let a_is = same_first mounted.first mounted.second a b index.disks mounted.disks disks_are in
        let b_is = same_second mounted.first mounted.second a b index.disks mounted.disks disks_are in
        let of_index = subst (λ (z : D). AreUnwritten g (phase old.index_a z ∷ phase old.index_b b ∷ [])) a_is (subst (λ (z : D). AreUnwritten g (phase old.index_a mounted.first ∷ phase old.index_b z ∷ [])) b_is mounted.unwritten) in
        let behind = five_unwritten one new (flat_map five rest) (flat_map five rest) un.unwritten (nothing_written g only_now came_none more (flat_map five rest)) in
        let of_sacks = sacks_unwritten 0 front sacks (five one ++ flat_map five rest) (five new ++ flat_map five rest) made behind in
        as_phases (a ∷ b ∷ (disks_of_sacks sacks ++ (five new ++ flat_map five rest))) is
        (subst (λ (l : List D). AreUnwritten g (index_phases (old.index_a ∷ old.index_b ∷ l) (a ∷ b ∷ (disks_of_sacks sacks ++ (five new ++ flat_map five rest)))))
        (sym (ap (λ l. flat_map five l) split ∙ flat_map-append five front (one ∷ rest)))
        (with_index old.index_a old.index_b a b (flat_map five front ++ (five one ++ flat_map five rest)) (disks_of_sacks sacks ++ (five new ++ flat_map five rest)) of_index of_sacks))
