-- What a stop leaves while the books of a store are made.
use Rattle.std.proofs.Common.{◌≡◌, ◌⊎◌, ℕ, ◌+◌, ◌<◌, ◌^◌, List, [], ◌∷◌, ◌++◌, Option, Some, None, inl, inr, refl, ap, subst, ◌∙◌, arith}
use Rattle.std.specs.List.{flat_map}
use Rattle.std.specs.Option.{IsSome, MatchOption}
use Rattle.gno_disk.specs.Disk.{TimeGoesOn}
use Rattle.gno_disk.specs.declared.disk.Disk.{Ghosts}
use Rattle.gno_disk.specs.Phases.{AreLater, AtEntry, AtExit, AtMoment, EachMoment, Phase, phase}
use Rattle.log_pair.specs.Pair.{HasNoPair, HoldsPair}
use Rattle.log_pair.specs.PairView.{IsMaking, LeavesNoLog, OfTwo}
use Rattle.sack_history.specs.declared.entry.Counted.{Counted}
use Rattle.sack_history.specs.Entries.{all_counted}
use Rattle.sack_history.specs.Holding.{open_tried}
use Rattle.sack_history.specs.Scratch.{durable}
use Rattle.sack_state.specs.declared.disks.Opening.{Opening}
use Rattle.sack_state.specs.declared.disks.SackDisks.{SackDisks}
use Rattle.sack_state.specs.Disks.{CameWithin, Leaves, TellAll}
use Rattle.sack_state.specs.SackHolding.{AreOfHistory, HoldsSack}
use Rattle.sack_state.specs.SackView.{SackState, SackView, Stands, as_made}
use Rattle.front_api.specs.Maps.{new_maps}
use Rattle.metric_index.specs.IndexLog.{HoldsIndex, index_place}
use Rattle.front.specs.Creating.{AllTellAll, AreNoneOrEmpty, AreOfEmptySacks, SacksCame, sack_making, sacks_making}
use Rattle.front.specs.Making.{AreOpened, IsMadeSack, new_records}
use Rattle.front.specs.Plan.{five, sack_place}
use Rattle.front.specs.SoloView.{disks_of_sack, disks_of_sacks}
use Rattle.front.proofs.Looks.{no_log_no_store}

-- ---- moments of phases in two parts

module _ {D : Type 0} (g : Ghosts D) where
  pub record SplitEntry (first second : List (Phase D)) (images : List (List ℕ)) : Type 0 where
    pub xs : List (List ℕ)
    pub ys : List (List ℕ)
    pub are : images ≡ xs ++ ys
    pub entry : AtEntry g second ys

  split_entry : (first second : List (Phase D)) (images : List (List ℕ)) → AtEntry g (first ++ second) images → SplitEntry first second images
  split_entry [] second images at = record { xs = []; ys = images; are = refl; entry = at }
  split_entry (p ∷ first) second [] at = absurd at
  split_entry (p ∷ first) second (x ∷ images) at =
      let rest = split_entry first second images at.1 in
      record { xs = x ∷ rest.xs; ys = rest.ys; are = ap (λ l. x ∷ l) rest.are; entry = rest.entry }

  -- a moment lies in the first part, or in the second one
  pub record SplitMoment (first second : List (Phase D)) (images : List (List ℕ)) : Type 0 where
    pub xs : List (List ℕ)
    pub ys : List (List ℕ)
    pub are : images ≡ xs ++ ys
    pub either : AtEntry g second ys ⊎ (AtExit g first xs × AtMoment g second ys)

  pub split_moment : (first second : List (Phase D)) (images : List (List ℕ)) → AtMoment g (first ++ second) images → SplitMoment first second images
  split_moment [] second images at = record { xs = []; ys = images; are = refl; either = inr (tt, at) }
  split_moment (p ∷ first) second [] at = absurd at
  split_moment (p ∷ first) second (x ∷ images) (inl here) =
      let rest = split_entry first second images here.1 in
      record { xs = x ∷ rest.xs; ys = rest.ys; are = ap (λ l. x ∷ l) rest.are; either = inl rest.entry }
  split_moment (p ∷ first) second (x ∷ images) (inr past) =
      let rest = split_moment first second images past.1 in
      record { xs = x ∷ rest.xs; ys = rest.ys; are = ap (λ l. x ∷ l) rest.are; either = further rest.xs rest.ys rest.either }
    where
      further : (xs ys : List (List ℕ)) → AtEntry g second ys ⊎ (AtExit g first xs × AtMoment g second ys) → AtEntry g second ys ⊎ (AtExit g (p ∷ first) (x ∷ xs) × AtMoment g second ys)
      further xs ys (inl entry) = inl entry
      further xs ys (inr moment) = inr ((past.0, moment.0), moment.1)

  exit_first : (p : Phase D) (phases : List (Phase D)) (x : List ℕ) (images : List (List ℕ)) → AtExit g (p ∷ phases) (x ∷ images) → g.may_leave p.exit x
  exit_first p phases x images at = at.0

  exit_rest : (p : Phase D) (phases : List (Phase D)) (x : List ℕ) (images : List (List ℕ)) → AtExit g (p ∷ phases) (x ∷ images) → AtExit g phases images
  exit_rest p phases x images at = at.1

  -- ---- the sacks

  -- once a sack is made, its disks hold nothing
  exit_empty : (d now : SackDisks D) (phases : List (Phase D)) (total number : ℕ) → Leaves g now (HoldsSack (sack_place total number) (durable []))
      → ((images : List (List ℕ)) → AtExit g phases images → AreOfEmptySacks total (number + 1) images)
      → (images : List (List ℕ)) → AtExit g (sack_making d now ++ phases) images → AreOfEmptySacks total number images
  exit_empty d now phases total number leaves behind images at = by images at
    where
      p1 : Phase D
      p1 = phase d.incoming_b now.incoming_b

      p2 : Phase D
      p2 = phase d.incoming_a now.incoming_a

      p3 : Phase D
      p3 = phase d.blocks now.blocks

      p4 : Phase D
      p4 = phase d.shelf_b now.shelf_b

      p5 : Phase D
      p5 = phase d.shelf_a now.shelf_a

      by : (images : List (List ℕ)) → AtExit g (phase d.incoming_b now.incoming_b ∷ phase d.incoming_a now.incoming_a ∷ phase d.blocks now.blocks ∷ phase d.shelf_b now.shelf_b ∷ phase d.shelf_a now.shelf_a ∷ phases) images → AreOfEmptySacks total number images
      by [] at = absurd at
      by (b ∷ []) at = absurd (exit_rest p1 (p2 ∷ p3 ∷ p4 ∷ p5 ∷ phases) b [] at)
      by (b ∷ a ∷ []) at = absurd (exit_rest p2 (p3 ∷ p4 ∷ p5 ∷ phases) a [] (exit_rest p1 (p2 ∷ p3 ∷ p4 ∷ p5 ∷ phases) b (a ∷ []) at))
      by (b ∷ a ∷ z ∷ []) at =
          let r1 = exit_rest p1 (p2 ∷ p3 ∷ p4 ∷ p5 ∷ phases) b (a ∷ z ∷ []) at in
          let r2 = exit_rest p2 (p3 ∷ p4 ∷ p5 ∷ phases) a (z ∷ []) r1 in
          absurd (exit_rest p3 (p4 ∷ p5 ∷ phases) z [] r2)
      by (b ∷ a ∷ z ∷ e ∷ []) at =
          let r1 = exit_rest p1 (p2 ∷ p3 ∷ p4 ∷ p5 ∷ phases) b (a ∷ z ∷ e ∷ []) at in
          let r2 = exit_rest p2 (p3 ∷ p4 ∷ p5 ∷ phases) a (z ∷ e ∷ []) r1 in
          let r3 = exit_rest p3 (p4 ∷ p5 ∷ phases) z (e ∷ []) r2 in
          absurd (exit_rest p4 (p5 ∷ phases) e [] r3)
      by (b ∷ a ∷ z ∷ e ∷ c ∷ rest) at =
          let r1 = exit_rest p1 (p2 ∷ p3 ∷ p4 ∷ p5 ∷ phases) b (a ∷ z ∷ e ∷ c ∷ rest) at in
          let r2 = exit_rest p2 (p3 ∷ p4 ∷ p5 ∷ phases) a (z ∷ e ∷ c ∷ rest) r1 in
          let r3 = exit_rest p3 (p4 ∷ p5 ∷ phases) z (e ∷ c ∷ rest) r2 in
          let r4 = exit_rest p4 (p5 ∷ phases) e (c ∷ rest) r3 in
          let r5 = exit_rest p5 phases c rest r4 in (
            leaves a b z c e (exit_first p2 (p3 ∷ p4 ∷ p5 ∷ phases) a (z ∷ e ∷ c ∷ rest) r1) (exit_first p1 (p2 ∷ p3 ∷ p4 ∷ p5 ∷ phases) b (a ∷ z ∷ e ∷ c ∷ rest) at)
                (exit_first p3 (p4 ∷ p5 ∷ phases) z (e ∷ c ∷ rest) r2) (exit_first p5 phases c rest r4) (exit_first p4 (p5 ∷ phases) e (c ∷ rest) r3),
            behind rest r5,
          )

  -- a sack that was made, with its disks now
  record IsMadeNow (total number : ℕ) (d : SackDisks D) (v : SackView D) : Type 0 where
    pub now : SackDisks D
    pub are : disks_of_sack v ≡ five now
    pub came : CameWithin g 9 9 1 d now
    pub empty : TellAll g d → Leaves g now (HoldsSack (sack_place total number) (durable []))

  made_now : (total number : ℕ) (d : SackDisks D) (v : SackView D) → IsMadeSack g total number d v → IsMadeNow total number d v
  made_now total number d v is = by v.state refl is.came is.stands
    where
      holds : (s : SackState D) → Stands g [] v s → Leaves g s.disks (HoldsSack (sack_place total number) (durable []))
      holds s stands a b z c e left_a left_b left_z left_c left_e =
          let scratch = stands.behind [] (as_made (ap (λ (o : Opening D). o.is_new) is.opening) tt refl) in
          counted (scratch.images a b z c e left_a left_b left_z left_c left_e)
        where
          no_tried : (t : Counted) → open_tried [] ≡ Some t → ⊥
          no_tried t is_it = cc

          counted : AreOfHistory v.place (all_counted [] ++ []) a b z c e → HoldsSack (sack_place total number) (durable []) a b z c e
          counted (inl there) = subst (λ p. HoldsSack p (durable []) a b z c e) is.place there
          counted (inr there) = absurd (no_tried there.0 there.1)

      by : (o : Option (SackState D)) → v.state ≡ o → MatchOption o ⊥ (λ s. CameWithin g 9 9 1 d s.disks) → (TellAll g d → MatchOption o ⊥ (Stands g [] v)) → IsMadeNow total number d v
      by None e came stands = absurd came
      by (Some s) e came stands = record {
        now = s.disks;
        are = ap (λ (o : Option (SackState D)). elim o as (λ x. List D) [ None ↦ [] | Some s ↦ five s.disks ]) e;
        came = came;
        empty = λ tell. holds s (stands tell);
      }

  -- and all of them
  pub record AreMadeNow (total number : ℕ) (disks : List (SackDisks D)) (sacks : List (SackView D)) : Type 0 where
    pub now : List (SackDisks D)
    pub are : disks_of_sacks sacks ≡ flat_map five now
    pub came : SacksCame g 9 9 1 disks now
    pub empty : AllTellAll g disks → (images : List (List ℕ)) → AtExit g (sacks_making disks now) images → AreOfEmptySacks total number images

  pub are_made_now : (total number : ℕ) (disks : List (SackDisks D)) (sacks : List (SackView D)) → AreOpened (IsMadeSack g total) number disks sacks → AreMadeNow total number disks sacks
  are_made_now total number [] [] are = record { now = []; are = refl; came = tt; empty = none }
    where
      none : AllTellAll g [] → (images : List (List ℕ)) → AtExit g (sacks_making [] []) images → AreOfEmptySacks total number images
      none tell [] at = tt
      none tell (x ∷ images) at = absurd at
  are_made_now total number [] (v ∷ sacks) are = absurd are
  are_made_now total number (d ∷ disks) [] are = absurd are
  are_made_now total number (d ∷ disks) (v ∷ sacks) are =
      let one = made_now total number d v are.0 in
      let rest = are_made_now total (number + 1) disks sacks are.1 in
      record {
        now = one.now ∷ rest.now;
        are = ap (λ l. l ++ disks_of_sacks sacks) one.are ∙ ap (λ l. five one.now ++ l) rest.are;
        came = (one.came, rest.came);
        empty = λ tell images at. exit_empty d one.now (sacks_making disks rest.now) total number (one.empty tell.0) (rest.empty tell.1) images at;
      }

  module _ (goes_on : (n : ℕ) (old new : D) → g.came n old new → TimeGoesOn (g.moment old) (g.moment new) (g.left_since old) (g.left_since new)) where
    -- ---- time goes on

    making_later : (incoming shelf blocks : ℕ) (olds news : List (SackDisks D)) (phases : List (Phase D)) → SacksCame g incoming shelf blocks olds news → AreLater g phases → AreLater g (sacks_making olds news ++ phases)
    making_later incoming shelf blocks [] [] phases came rest = rest
    making_later incoming shelf blocks [] (new ∷ news) phases came rest = absurd came
    making_later incoming shelf blocks (old ∷ olds) [] phases came rest = absurd came
    making_later incoming shelf blocks (old ∷ olds) (new ∷ news) phases came rest =
        let one = came.0 in
        let l1 = goes_on incoming old.incoming_b new.incoming_b one.incoming_b in
        let l2 = goes_on incoming old.incoming_a new.incoming_a one.incoming_a in
        let l3 = goes_on blocks old.blocks new.blocks one.blocks_disk in
        let l4 = goes_on shelf old.shelf_b new.shelf_b one.shelf_b in
        let l5 = goes_on shelf old.shelf_a new.shelf_a one.shelf_a in
        (l1.later, (l2.later, (l3.later, (l4.later, (l5.later, making_later incoming shelf blocks olds news phases came.1 rest)))))

    -- ---- the index

    record TwoImages (b a : D) (images : List (List ℕ)) : Type 0 where
      pub first : List ℕ
      pub second : List ℕ
      pub are : images ≡ first ∷ second ∷ []
      pub first_left : g.may_leave b first
      pub second_left : g.may_leave a second

    two_images : (b a x y : D) (images : List (List ℕ)) → AtEntry g (phase b y ∷ phase a x ∷ []) images → TwoImages b a images
    two_images b a x y [] at = absurd at
    two_images b a x y (i ∷ []) at = absurd (rest_of at)
      where
        rest_of : g.may_leave b i × ⊥ → ⊥
        rest_of at = at.1
    two_images b a x y (i ∷ j ∷ []) at = of at
      where
        of : g.may_leave b i × (g.may_leave a j × Unit {0}) → TwoImages b a (i ∷ j ∷ [])
        of at = record { first = i; second = j; are = refl; first_left = at.0; second_left = at.1.0 }
    two_images b a x y (i ∷ j ∷ k ∷ images) at = absurd (rest_of at)
      where
        rest_of : g.may_leave b i × (g.may_leave a j × ⊥) → ⊥
        rest_of at = at.1.1

    -- where no disk of the index has a log, there is no store
    none_there : (total number : ℕ) (b a x y : D) (images xs ys : List (List ℕ)) → LeavesNoLog g a → LeavesNoLog g b → images ≡ xs ++ ys → AtEntry g (phase b y ∷ phase a x ∷ []) ys → AreNoneOrEmpty total number images
    none_there total number b a x y images xs ys free_a free_b are at =
        let two = two_images b a x y ys at in
        record {
          of_sacks = xs;
          index_b = two.first;
          index_a = two.second;
          images_are = are ∙ ap (λ l. xs ++ l) two.are;
          have = inl (no_log_no_store two.second (free_a two.second two.second_left), no_log_no_store two.first (free_b two.first two.first_left));
        }

    -- the records of a new index are its maps
    new_index : (total number : ℕ) (a b : List ℕ) → number < 2 ^ 32 → HoldsPair (index_place total) 1 (new_records number) a b → HoldsIndex total (new_maps number) a b
    new_index total number a b fits held = record {
      epoch = 1;
      records = new_records number;
      held = held;
      log = record {
        number = number;
        counter = 0;
        rest = [];
        first = record { number = fits; counter = omega arith };
        each = tt;
        may = tt;
        maps_are = refl;
        records_are = refl;
      };
    }

    made_or_none : (total number : ℕ) (images xs ys : List (List ℕ)) → number < 2 ^ 32 → images ≡ xs ++ ys → AreOfEmptySacks total 0 xs
        → OfTwo (λ b a. HasNoPair a b ⊎ HoldsPair (index_place total) 1 (new_records number) a b) ys → AreNoneOrEmpty total number images
    made_or_none total number images xs [] fits are empty have = absurd have
    made_or_none total number images xs (i ∷ []) fits are empty have = absurd have
    made_or_none total number images xs (b ∷ a ∷ []) fits are empty (inl none) = record {
      of_sacks = xs;
      index_b = b;
      index_a = a;
      images_are = are;
      have = inl (no_log_no_store a none.0, no_log_no_store b none.1);
    }
    made_or_none total number images xs (b ∷ a ∷ []) fits are empty (inr held) = record {
      of_sacks = xs;
      index_b = b;
      index_a = a;
      images_are = are;
      have = inr (new_index total number a b fits held, empty);
    }
    made_or_none total number images xs (i ∷ j ∷ k ∷ l) fits are empty have = absurd have

    -- all sacks were made, and then the index was worked on
    pub whole_making : (total number : ℕ) → number < 2 ^ 32 → (olds news : List (SackDisks D)) (a b x y : D) → SacksCame g 9 9 1 olds news → ((images : List (List ℕ)) → AtExit g (sacks_making olds news) images → AreOfEmptySacks total 0 images)
        → LeavesNoLog g a → LeavesNoLog g b → IsSome (g.told a) → IsSome (g.told b) → IsMaking g (index_place total) (new_records number) a b x y
        → EachMoment g (sacks_making olds news ++ phase b y ∷ phase a x ∷ []) (AreNoneOrEmpty total number)
    whole_making total number fits olds news a b x y came empty free_a free_b told_a told_b making =
        let of_index = making told_a told_b free_a free_b in
        record {
          later = making_later 9 9 1 olds news (phase b y ∷ phase a x ∷ []) came of_index.later;
          each = λ images at.
              let split = split_moment (sacks_making olds news) (phase b y ∷ phase a x ∷ []) images at in
              by images split.xs split.ys split.are split.either;
        }
      where
        by : (images xs ys : List (List ℕ)) → images ≡ xs ++ ys → AtEntry g (phase b y ∷ phase a x ∷ []) ys ⊎ (AtExit g (sacks_making olds news) xs × AtMoment g (phase b y ∷ phase a x ∷ []) ys) → AreNoneOrEmpty total number images
        by images xs ys are (inl entry) = none_there total number b a x y images xs ys free_a free_b are entry
        by images xs ys are (inr at) = let of_index = making told_a told_b free_a free_b in made_or_none total number images xs ys fits are (empty xs at.0) (of_index.each ys at.1)

    -- making the sacks failed: the index wasn't worked on
    still_entry : (only_now : (disk : D) (image : List ℕ) → g.left_since disk (g.moment disk) image → g.may_leave disk image) (b a : D) (images : List (List ℕ))
        → AtMoment g (phase b b ∷ phase a a ∷ []) images → AtEntry g (phase b b ∷ phase a a ∷ []) images
    still_entry only_now b a [] at = absurd at
    still_entry only_now b a (i ∷ images) (inl here) = (only_now b i here.0, here.1)
    still_entry only_now b a (i ∷ images) (inr past) = (past.0, one_still images past.1)
      where
        one_still : (images : List (List ℕ)) → AtMoment g (phase a a ∷ []) images → AtEntry g (phase a a ∷ []) images
        one_still [] at = absurd at
        one_still (j ∷ images) (inl here) = (only_now a j here.0, here.1)
        one_still (j ∷ images) (inr past) = absurd past.1

    pub part_making : (only_now : (disk : D) (image : List ℕ) → g.left_since disk (g.moment disk) image → g.may_leave disk image) (total number : ℕ) (olds news : List (SackDisks D)) (a b : D) → g.came 0 a a → g.came 0 b b → SacksCame g 9 9 1 olds news
        → LeavesNoLog g a → LeavesNoLog g b → EachMoment g (sacks_making olds news ++ phase b b ∷ phase a a ∷ []) (AreNoneOrEmpty total number)
    part_making only_now total number olds news a b came_a came_b came free_a free_b =
        let l1 = goes_on 0 b b came_b in
        let l2 = goes_on 0 a a came_a in
        record {
          later = making_later 9 9 1 olds news (phase b b ∷ phase a a ∷ []) came (l1.later, (l2.later, tt));
          each = λ images at.
              let split = split_moment (sacks_making olds news) (phase b b ∷ phase a a ∷ []) images at in
              by images split.xs split.ys split.are split.either;
        }
      where
        by : (images xs ys : List (List ℕ)) → images ≡ xs ++ ys → AtEntry g (phase b b ∷ phase a a ∷ []) ys ⊎ (AtExit g (sacks_making olds news) xs × AtMoment g (phase b b ∷ phase a a ∷ []) ys) → AreNoneOrEmpty total number images
        by images xs ys are (inl entry) = none_there total number b a a b images xs ys free_a free_b are entry
        by images xs ys are (inr at) = none_there total number b a a b images xs ys free_a free_b are (still_entry only_now b a ys at.1)
