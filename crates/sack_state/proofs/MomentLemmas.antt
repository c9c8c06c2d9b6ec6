-- What a stop leaves of five disks.
use Rattle.std.proofs.Common.{◌≡◌, inl, inr, ℕ, ◌≤◌, List, [], ◌∷◌, refl, subst, sym, arith}
use Rattle.gno_disk.specs.Phases.{AreLater, AreUnwritten, AtEntry, AtMoment, EachMoment, IsUnwritten, Phase, phase}
use Rattle.gno_disk.specs.declared.disk.Disk.{Ghosts}
use Rattle.gno_disk.proofs.PhaseLemmas.{AtMoment-unwritten}
use Rattle.log_pair.specs.PairView.{OfTwo}
use Rattle.split_store.specs.ShelfView.{OfThree}
use Rattle.sack_state.specs.declared.disks.SackDisks.{SackDisks}
use Rattle.sack_state.specs.Disks.{Leaves, OfFive, sack_phases}

module _ {D : Type 0} (g : Ghosts D) where
  -- one image of each disk, as the disks stood at the entry
  pub five_entry : (old new : SackDisks D) (P : List ℕ → List ℕ → List ℕ → List ℕ → List ℕ → Type 0) → Leaves g old P → (images : List (List ℕ)) → AtEntry g (sack_phases old new) images → OfFive P images
  five_entry old new P leaves [] at = absurd at
  five_entry old new P leaves (a ∷ []) at = absurd at.1
  five_entry old new P leaves (a ∷ b ∷ []) at = absurd at.1.1
  five_entry old new P leaves (a ∷ b ∷ z ∷ []) at = absurd at.1.1.1
  five_entry old new P leaves (a ∷ b ∷ z ∷ c ∷ []) at = absurd at.1.1.1.1
  five_entry old new P leaves (a ∷ b ∷ z ∷ c ∷ e ∷ []) at = leaves a b z c e at.0 at.1.0 at.1.1.0 at.1.1.1.0 at.1.1.1.1.0
  five_entry old new P leaves (a ∷ b ∷ z ∷ c ∷ e ∷ f ∷ images) at = absurd at.1.1.1.1.1

  pub five_weaker : (P Q : List ℕ → List ℕ → List ℕ → List ℕ → List ℕ → Type 0) → ((a b z c e : List ℕ) → P a b z c e → Q a b z c e) → (images : List (List ℕ)) → OfFive P images → OfFive Q images
  five_weaker P Q has [] p = p
  five_weaker P Q has (a ∷ []) p = p
  five_weaker P Q has (a ∷ b ∷ []) p = p
  five_weaker P Q has (a ∷ b ∷ z ∷ []) p = p
  five_weaker P Q has (a ∷ b ∷ z ∷ c ∷ []) p = p
  five_weaker P Q has (a ∷ b ∷ z ∷ c ∷ e ∷ []) p = has a b z c e p
  five_weaker P Q has (a ∷ b ∷ z ∷ c ∷ e ∷ f ∷ images) p = p

  module _ (only_now : (disk : D) (image : List ℕ) → g.left_since disk (g.moment disk) image → g.may_leave disk image) where
    pub still_disk : (disk : D) → IsUnwritten g (phase disk disk)
    still_disk disk = record { within = only_now disk; no_more = λ image left. left }

    pub still_sack : (d : SackDisks D) → AreUnwritten g (sack_phases d d)
    still_sack d = (still_disk d.incoming_a, (still_disk d.incoming_b, (still_disk d.blocks, (still_disk d.shelf_a, (still_disk d.shelf_b, tt)))))

    -- a call that changes no disk
    pub still_moments : (d : SackDisks D) (P : List ℕ → List ℕ → List ℕ → List ℕ → List ℕ → Type 0) → Leaves g d P → EachMoment g (sack_phases d d) (OfFive P)
    still_moments d P leaves = record {
      later = (omega arith, (omega arith, (omega arith, (omega arith, (omega arith, tt)))));
      each = λ images at. five_entry d d P leaves images (AtMoment-unwritten g (sack_phases d d) images (still_sack d) at);
    }

  -- A call that works on two disks alone: a moment of it is one of theirs, and the others stand still.
  module _ (counts_now : (disk : D) (since : ℕ) (image : List ℕ) → since ≤ g.moment disk → g.may_leave disk image → g.left_since disk since image) (p q : Phase D) (later : g.moment q.entry ≤ g.moment q.exit)
      (stills : List (Phase D)) (unwritten : AreUnwritten g stills) where
    record IsOnTwo (images : List (List ℕ)) : Type 0 where
      a : List ℕ
      b : List ℕ
      rest : List (List ℕ)
      images_are : images ≡ a ∷ b ∷ rest
      two : AtMoment g (p ∷ q ∷ []) (a ∷ b ∷ [])
      at : AtEntry g stills rest

    on_two : (images : List (List ℕ)) → AtMoment g (p ∷ q ∷ stills) images → IsOnTwo images
    on_two [] at = absurd at
    on_two (a ∷ []) (inl here) = absurd here.1
    on_two (a ∷ []) (inr next) = absurd next.1
    on_two (a ∷ b ∷ rest) (inl here) = record { a = a; b = b; rest = rest; images_are = refl; two = inl (here.0, (here.1.0, tt)); at = here.1.1 }
    on_two (a ∷ b ∷ rest) (inr next) = by next.1
      where
        by : AtMoment g (q ∷ stills) (b ∷ rest) → IsOnTwo (a ∷ b ∷ rest)
        by (inl here) = record { a = a; b = b; rest = rest; images_are = refl; two = inr (next.0, inl (here.0, tt)); at = here.1 }
        by (inr then) = record {
          a = a;
          b = b;
          rest = rest;
          images_are = refl;
          two = inr (next.0, inl (counts_now q.exit (g.moment q.entry) b later then.0, tt));
          at = AtMoment-unwritten g stills rest unwritten then.1;
        }

  module _ (counts_now : (disk : D) (since : ℕ) (image : List ℕ) → since ≤ g.moment disk → g.may_leave disk image → g.left_since disk since image)
      (only_now : (disk : D) (image : List ℕ) → g.left_since disk (g.moment disk) image → g.may_leave disk image) (old new : SackDisks D)
      (blocks : new.blocks ≡ old.blocks) (shelf_a : new.shelf_a ≡ old.shelf_a) (shelf_b : new.shelf_b ≡ old.shelf_b) where
    abbrev two_phases : List (Phase D)
    two_phases = phase old.incoming_a new.incoming_a ∷ phase old.incoming_b new.incoming_b ∷ []

    abbrev rest_phases : List (Phase D)
    rest_phases = phase old.blocks new.blocks ∷ phase old.shelf_a new.shelf_a ∷ phase old.shelf_b new.shelf_b ∷ []

    rest_unwritten : AreUnwritten g rest_phases
    rest_unwritten = (
      subst (λ d. IsUnwritten g (phase old.blocks d)) (sym blocks) (still_disk only_now old.blocks),
      (
        subst (λ d. IsUnwritten g (phase old.shelf_a d)) (sym shelf_a) (still_disk only_now old.shelf_a),
        (subst (λ d. IsUnwritten g (phase old.shelf_b d)) (sym shelf_b) (still_disk only_now old.shelf_b), tt),
      ),
    )

    rest_later : AreLater g rest_phases
    rest_later = (
      subst (λ d. g.moment old.blocks ≤ g.moment d) (sym blocks) (omega arith),
      (
        subst (λ d. g.moment old.shelf_a ≤ g.moment d) (sym shelf_a) (omega arith),
        (subst (λ d. g.moment old.shelf_b ≤ g.moment d) (sym shelf_b) (omega arith), tt),
      ),
    )

    module _ (P : List ℕ → List ℕ → Type 0) (Q : List ℕ → List ℕ → List ℕ → List ℕ → List ℕ → Type 0)
        (has : (a b z c e : List ℕ) → P a b → g.may_leave old.blocks z → g.may_leave old.shelf_a c → g.may_leave old.shelf_b e → Q a b z c e) where
      joined : (a b : List ℕ) (rest : List (List ℕ)) → P a b → AtEntry g rest_phases rest → OfFive Q (a ∷ b ∷ rest)
      joined a b [] p at = absurd at
      joined a b (z ∷ []) p at = absurd at.1
      joined a b (z ∷ c ∷ []) p at = absurd at.1.1
      joined a b (z ∷ c ∷ e ∷ []) p at = has a b z c e p at.0 at.1.0 at.1.1.0
      joined a b (z ∷ c ∷ e ∷ f ∷ images) p at = absurd at.1.1.1

      -- a call that works on the incoming disks alone
      pub incoming_moments : EachMoment g two_phases (OfTwo P) → EachMoment g (sack_phases old new) (OfFive Q)
      incoming_moments moments = record {
        later = (moments.later.0, (moments.later.1.0, rest_later));
        each = λ images at.
            let on = on_two counts_now (phase old.incoming_a new.incoming_a) (phase old.incoming_b new.incoming_b) moments.later.1.0 rest_phases rest_unwritten images at in
            subst (OfFive Q) (sym on.images_are) (joined on.a on.b on.rest (moments.each (on.a ∷ on.b ∷ []) on.two) on.at);
      }

module _ {D : Type 0} (g : Ghosts D) (only_now : (disk : D) (image : List ℕ) → g.left_since disk (g.moment disk) image → g.may_leave disk image) (old new : SackDisks D) where
  -- a call that works on the shelf alone: its disks left this at the entry, and leave it at each moment
  module _ (incoming_a : new.incoming_a ≡ old.incoming_a) (incoming_b : new.incoming_b ≡ old.incoming_b) (S : List ℕ → List ℕ → List ℕ → Type 0) (R : List ℕ → List ℕ → List ℕ → List ℕ → List ℕ → Type 0)
      (has_five : (a b z c e : List ℕ) → S c e z → g.may_leave old.incoming_a a → g.may_leave old.incoming_b b → R a b z c e)
      (at_first : (z c e : List ℕ) → g.may_leave old.blocks z → g.may_leave old.shelf_a c → g.may_leave old.shelf_b e → S c e z) where
    abbrev three_phases : List (Phase D)
    three_phases = phase old.blocks new.blocks ∷ phase old.shelf_a new.shelf_a ∷ phase old.shelf_b new.shelf_b ∷ []

    before_all : (a b : List ℕ) (rest : List (List ℕ)) → g.may_leave old.incoming_a a → g.may_leave old.incoming_b b → AtEntry g three_phases rest → OfFive R (a ∷ b ∷ rest)
    before_all a b [] left_a left_b at = absurd at
    before_all a b (z ∷ []) left_a left_b at = absurd at.1
    before_all a b (z ∷ c ∷ []) left_a left_b at = absurd at.1.1
    before_all a b (z ∷ c ∷ e ∷ []) left_a left_b at = has_five a b z c e (at_first z c e at.0 at.1.0 at.1.1.0) left_a left_b
    before_all a b (z ∷ c ∷ e ∷ f ∷ images) left_a left_b at = absurd at.1.1.1

    with_three : (a b : List ℕ) (rest : List (List ℕ)) → g.may_leave old.incoming_a a → g.may_leave old.incoming_b b → OfThree S rest → OfFive R (a ∷ b ∷ rest)
    with_three a b [] left_a left_b s = absurd s
    with_three a b (z ∷ []) left_a left_b s = absurd s
    with_three a b (z ∷ c ∷ []) left_a left_b s = absurd s
    with_three a b (z ∷ c ∷ e ∷ []) left_a left_b s = has_five a b z c e s left_a left_b
    with_three a b (z ∷ c ∷ e ∷ f ∷ images) left_a left_b s = absurd s

    pub shelf_moments : EachMoment g (phase old.blocks new.blocks ∷ phase old.shelf_a new.shelf_a ∷ phase old.shelf_b new.shelf_b ∷ []) (OfThree S) → EachMoment g (sack_phases old new) (OfFive R)
    shelf_moments moments = record {
      later = (
        subst (λ d. g.moment old.incoming_a ≤ g.moment d) (sym incoming_a) (omega arith),
        (subst (λ d. g.moment old.incoming_b ≤ g.moment d) (sym incoming_b) (omega arith), moments.later),
      );
      each = by;
    }
      where
        a_within : (a : List ℕ) → g.left_since new.incoming_a (g.moment old.incoming_a) a → g.may_leave old.incoming_a a
        a_within a left = only_now old.incoming_a a (subst (λ d. g.left_since d (g.moment old.incoming_a) a) incoming_a left)

        b_within : (b : List ℕ) → g.left_since new.incoming_b (g.moment old.incoming_b) b → g.may_leave old.incoming_b b
        b_within b left = only_now old.incoming_b b (subst (λ d. g.left_since d (g.moment old.incoming_b) b) incoming_b left)

        next : (a : List ℕ) → g.may_leave old.incoming_a a → (images : List (List ℕ)) → AtMoment g (phase old.incoming_b new.incoming_b ∷ three_phases) images → OfFive R (a ∷ images)
        next a left_a [] at = absurd at
        next a left_a (b ∷ rest) (inl here) = before_all a b rest left_a (b_within b here.0) here.1
        next a left_a (b ∷ rest) (inr then) = with_three a b rest left_a (subst (λ d. g.may_leave d b) incoming_b then.0) (moments.each rest then.1)

        by : (images : List (List ℕ)) → AtMoment g (sack_phases old new) images → OfFive R images
        by [] at = absurd at
        by (a ∷ []) (inl here) = absurd here.1
        by (a ∷ b ∷ rest) (inl here) = before_all a b rest (a_within a here.0) here.1.0 here.1.1
        by (a ∷ rest) (inr then) = next a (subst (λ d. g.may_leave d a) incoming_a then.0) rest then.1
