-- How the moments of several disks follow from those of one, and how calls follow one another.
use Rattle.std.specs.Prelude.{◌≡◌, ◌⊎◌, ℕ, ◌≤◌, List, [], ◌∷◌, ◌++◌, map, ⊤}
use Rattle.std.proofs.Common.{inl, inr, ⊎_elim, refl, sym, ap, subst, arith}
use Rattle.gno_disk.specs.Moments.{LeavesOnly, GoesOn}
use Rattle.gno_disk.specs.declared.disk.Disk.{Ghosts}
use Rattle.gno_disk.specs.Phases.{Phase, phase, still, not_begun, all_ended, AtEntry, AtExit, AtMoment, InOnePhase, AreLater, EachMoment, IsUnwritten, AreUnwritten, alone, AtMomentAlone, since, MountsOrStill, Views, SeenAtEntry, SeenAtMoment, AreSeen}

module _ {D : Type 0} (g : Ghosts D) where
  -- A moment lies in one phase, and what one phase leaves is left at a moment.
  pub AtMoment-in_one_phase : (phases : List (Phase D)) (images : List (List ℕ)) → AtMoment g phases images → InOnePhase g phases images
  AtMoment-in_one_phase [] images at = absurd at
  AtMoment-in_one_phase (p ∷ phases) [] at = absurd at
  AtMoment-in_one_phase (p ∷ phases) (image ∷ images) (inl here) = record {
    earlier = [];
    now = p;
    later = phases;
    past = [];
    image = image;
    rest = images;
    phases_are = refl;
    images_are = refl;
    has_ended = tt;
    within = here.0;
    waits = here.1;
  }
  AtMoment-in_one_phase (p ∷ phases) (image ∷ images) (inr next) =
      let one = AtMoment-in_one_phase phases images next.1 in
      record {
        earlier = p ∷ one.earlier;
        now = one.now;
        later = one.later;
        past = image ∷ one.past;
        image = one.image;
        rest = one.rest;
        phases_are = ap (λ (ps : List (Phase D)). p ∷ ps) one.phases_are;
        images_are = ap (λ (is : List (List ℕ)). image ∷ is) one.images_are;
        has_ended = (next.0, one.has_ended);
        within = one.within;
        waits = one.waits;
      }

  moment_of_phase : (earlier : List (Phase D)) (now : Phase D) (later : List (Phase D)) (past : List (List ℕ)) (image : List ℕ) (rest : List (List ℕ))
      → AtExit g earlier past → g.left_since now.exit (g.moment now.entry) image → AtEntry g later rest → AtMoment g (earlier ++ now ∷ later) (past ++ image ∷ rest)
  moment_of_phase [] now later [] image rest ended within waits = inl (within, waits)
  moment_of_phase [] now later (x ∷ past) image rest ended within waits = absurd ended
  moment_of_phase (p ∷ earlier) now later [] image rest ended within waits = absurd ended
  moment_of_phase (p ∷ earlier) now later (x ∷ past) image rest ended within waits = inr (ended.0, moment_of_phase earlier now later past image rest ended.1 within waits)

  pub in_one_phase-AtMoment : (phases : List (Phase D)) (images : List (List ℕ)) → InOnePhase g phases images → AtMoment g phases images
  in_one_phase-AtMoment phases images one =
      subst (λ (ps : List (Phase D)). AtMoment g ps images) (sym one.phases_are)
      (subst (λ (is : List (List ℕ)). AtMoment g (one.earlier ++ one.now ∷ one.later) is) (sym one.images_are)
      (moment_of_phase one.earlier one.now one.later one.past one.image one.rest one.has_ended one.within one.waits))

  -- of three disks: what the definition computes to
  three : (a b c : Phase D) (x y z : List ℕ) → AtMoment g (a ∷ b ∷ c ∷ []) (x ∷ y ∷ z ∷ [])
      ≡ ((g.left_since a.exit (g.moment a.entry) x × (g.may_leave b.entry y × (g.may_leave c.entry z × ⊤)))
      ⊎ (g.may_leave a.exit x × ((g.left_since b.exit (g.moment b.entry) y × (g.may_leave c.entry z × ⊤))
      ⊎ (g.may_leave b.exit y × ((g.left_since c.exit (g.moment c.entry) z × ⊤) ⊎ (g.may_leave c.exit z × ⊥))))))
  three a b c x y z = refl

  -- Phases that haven't begun stand at their entry.
  entry_not_begun : (phases rest : List (Phase D)) (images : List (List ℕ)) → AtEntry g (phases ++ rest) images → AtEntry g (phases ++ not_begun rest) images
  entry_not_begun [] [] images at = at
  entry_not_begun [] (p ∷ rest) [] at = at
  entry_not_begun [] (p ∷ rest) (image ∷ images) at = (at.0, entry_not_begun [] rest images at.1)
  entry_not_begun (p ∷ phases) rest [] at = at
  entry_not_begun (p ∷ phases) rest (image ∷ images) at = (at.0, entry_not_begun phases rest images at.1)

  entry_joined : (first : List (Phase D)) (old mid new : D) (second : List (Phase D)) (images : List (List ℕ)) → AtEntry g (first ++ phase old new ∷ second) images
      → AtEntry g (first ++ phase old mid ∷ not_begun second) images
  entry_joined [] old mid new second [] at = at
  entry_joined [] old mid new second (image ∷ images) at = (at.0, entry_not_begun [] second images at.1)
  entry_joined (p ∷ first) old mid new second [] at = at
  entry_joined (p ∷ first) old mid new second (image ∷ images) at = (at.0, entry_joined first old mid new second images at.1)

  -- Two calls, one after the other, on different disks: a moment of both is one of the first, before
  -- any phase of the second, or one of the second, after all phases of the first.
  pub AtMoment-then : (first second : List (Phase D)) (images : List (List ℕ)) → AtMoment g (first ++ second) images
      → AtMoment g (first ++ not_begun second) images ⊎ AtMoment g (all_ended first ++ second) images
  AtMoment-then [] second images at = inr at
  AtMoment-then (p ∷ first) second [] at = absurd at
  AtMoment-then (p ∷ first) second (image ∷ images) (inl within) = inl (inl (within.0, entry_not_begun first second images within.1))
  AtMoment-then (p ∷ first) second (image ∷ images) (inr past) = elim (AtMoment-then first second images past.1) [
    | inl here ↦ inl (inr (past.0, here))
    | inr next ↦ inr (inr (past.0, next))
  ]

  -- Two calls on the same disk, which may be the last of the first call and the first of the second:
  -- both work on it in one phase.
  pub AtMoment-join : (first : List (Phase D)) (old mid new : D) (second : List (Phase D)) (images : List (List ℕ)) → g.moment old ≤ g.moment mid → GoesOn g mid new
      → AtMoment g (first ++ phase old new ∷ second) images
      → AtMoment g (first ++ phase old mid ∷ not_begun second) images ⊎ AtMoment g (all_ended first ++ phase mid new ∷ second) images
  AtMoment-join [] old mid new second [] later on at = absurd at
  AtMoment-join [] old mid new second (image ∷ images) later on (inl within) = elim (on.splits (g.moment old) image later within.0) [
    | inl here ↦ inl (inl (here, entry_not_begun [] second images within.1))
    | inr next ↦ inr (inl (next, within.1))
  ]
  AtMoment-join [] old mid new second (image ∷ images) later on (inr past) = inr (inr past)
  AtMoment-join (p ∷ first) old mid new second [] later on at = absurd at
  AtMoment-join (p ∷ first) old mid new second (image ∷ images) later on (inl within) =
      inl (inl (within.0, entry_joined first old mid new second images within.1))
  AtMoment-join (p ∷ first) old mid new second (image ∷ images) later on (inr past) = elim (AtMoment-join first old mid new second images later on past.1) [
    | inl here ↦ inl (inr (past.0, here))
    | inr next ↦ inr (inr (past.0, next))
  ]

  later_then : (first second : List (Phase D)) → AreLater g (first ++ not_begun second) → AreLater g (all_ended first ++ second) → AreLater g (first ++ second)
  later_then [] second before after = after
  later_then (p ∷ first) second before after = (before.0, later_then first second before.1 after.1)

  later_join : (first : List (Phase D)) (old mid new : D) (second : List (Phase D)) → AreLater g (first ++ phase old mid ∷ not_begun second) → AreLater g (all_ended first ++ phase mid new ∷ second)
      → (g.moment old ≤ g.moment mid) × AreLater g (first ++ phase old new ∷ second)
  later_join [] old mid new second before after = (before.0, (omega (arith, before.0, after.0), after.1))
  later_join (p ∷ first) old mid new second before after = let rest = later_join first old mid new second before.1 after.1 in (rest.0, (before.0, rest.1))

  -- what each moment of two calls has, one after the other on different disks
  pub EachMoment-then : (first second : List (Phase D)) (P : List (List ℕ) → Type 0) → EachMoment g (first ++ not_begun second) P → EachMoment g (all_ended first ++ second) P
      → EachMoment g (first ++ second) P
  EachMoment-then first second P before after = record {
    later = later_then first second before.later after.later;
    each = λ images at. ⊎_elim (before.each images) (after.each images) (AtMoment-then first second images at);
  }

  -- and where the second goes on with the last disk of the first
  pub EachMoment-join : (first : List (Phase D)) (old mid new : D) (second : List (Phase D)) (P : List (List ℕ) → Type 0) → GoesOn g mid new
      → EachMoment g (first ++ phase old mid ∷ not_begun second) P → EachMoment g (all_ended first ++ phase mid new ∷ second) P → EachMoment g (first ++ phase old new ∷ second) P
  EachMoment-join first old mid new second P on before after =
      let later = later_join first old mid new second before.later after.later in
      record {
        later = later.1;
        each = λ images at. ⊎_elim (before.each images) (after.each images) (AtMoment-join first old mid new second images later.0 on at);
      }

  -- what has P has Q
  pub EachMoment-weaker : (phases : List (Phase D)) (P Q : List (List ℕ) → Type 0) → ((images : List (List ℕ)) → P images → Q images) → EachMoment g phases P → EachMoment g phases Q
  EachMoment-weaker phases P Q weaker moments = record { later = moments.later; each = λ images at. weaker images (moments.each images at) }

  -- The first phase of a call and those behind it.
  pub EachMoment-first : (p : Phase D) (phases : List (Phase D)) (P : List (List ℕ) → Type 0) → g.moment p.entry ≤ g.moment p.exit → AreLater g phases
      → ((image : List ℕ) (images : List (List ℕ)) → g.left_since p.exit (g.moment p.entry) image → AtEntry g phases images → P (image ∷ images))
      → ((image : List ℕ) (images : List (List ℕ)) → g.may_leave p.exit image → AtMoment g phases images → P (image ∷ images))
      → EachMoment g (p ∷ phases) P
  EachMoment-first p phases P later all_later within past = record { later = (later, all_later); each = each }
    where
      each : (images : List (List ℕ)) → AtMoment g (p ∷ phases) images → P images
      each [] at = absurd at
      each (image ∷ images) (inl here) = within image images here.0 here.1
      each (image ∷ images) (inr next) = past image images next.0 next.1

  -- one image, of one disk
  one_image : (P : List (List ℕ) → Type 0) (images : List (List ℕ)) → AtEntry g [] images → P [] → P images
  one_image P [] at has = has
  one_image P (image ∷ images) at has = absurd at

  -- a call on one disk
  pub EachMoment-one : (old new : D) (P : List ℕ → Type 0) (Q : List (List ℕ) → Type 0) → LeavesOnly g old new P → ((image : List ℕ) → P image → Q (image ∷ []))
      → EachMoment g (phase old new ∷ []) Q
  EachMoment-one old new P Q leaves has = EachMoment-first (phase old new) [] Q leaves.later tt
      (λ image images left none. one_image (λ rest. Q (image ∷ rest)) images none (has image (leaves.each image left)))
      (λ image images left at. absurd at)

  -- a call on two disks: first on one, and then on the other
  pub EachMoment-two : (p q : Phase D) (P : List (List ℕ) → Type 0) → g.moment p.entry ≤ g.moment p.exit → g.moment q.entry ≤ g.moment q.exit
      → ((a b : List ℕ) → g.left_since p.exit (g.moment p.entry) a → g.may_leave q.entry b → P (a ∷ b ∷ []))
      → ((a b : List ℕ) → g.may_leave p.exit a → g.left_since q.exit (g.moment q.entry) b → P (a ∷ b ∷ []))
      → EachMoment g (p ∷ q ∷ []) P
  EachMoment-two p q P later_p later_q first second = EachMoment-first p (q ∷ []) P later_p (later_q, tt) within past
    where
      within : (image : List ℕ) (images : List (List ℕ)) → g.left_since p.exit (g.moment p.entry) image → AtEntry g (q ∷ []) images → P (image ∷ images)
      within a [] left at = absurd at
      within a (b ∷ images) left at = one_image (λ rest. P (a ∷ b ∷ rest)) images at.1 (first a b left at.0)

      past : (image : List ℕ) (images : List (List ℕ)) → g.may_leave p.exit image → AtMoment g (q ∷ []) images → P (image ∷ images)
      past a [] left at = absurd at
      past a (b ∷ images) left (inl at) = one_image (λ rest. P (a ∷ b ∷ rest)) images at.1 (second a b left at.0)
      past a (b ∷ images) left (inr at) = absurd at.1

  seen_later : (phases : List (Phase D)) (views : List Views) → AreSeen g phases views → AreLater g phases
  seen_later [] views seen = tt
  seen_later (p ∷ phases) [] seen = absurd seen
  seen_later (p ∷ phases) (v ∷ views) seen = (seen.0.later, seen_later phases views seen.1)

  seen_entry : (phases : List (Phase D)) (views : List Views) (images : List (List ℕ)) → AreSeen g phases views → AtEntry g phases images → SeenAtEntry views images
  seen_entry [] [] images seen at = entry_none images at
    where
      entry_none : (images : List (List ℕ)) → AtEntry g [] images → SeenAtEntry [] images
      entry_none [] at = at
      entry_none (image ∷ images) at = at
  seen_entry [] (v ∷ views) images seen at = absurd seen
  seen_entry (p ∷ phases) [] images seen at = absurd seen
  seen_entry (p ∷ phases) (v ∷ views) [] seen at = at
  seen_entry (p ∷ phases) (v ∷ views) (image ∷ images) seen at = (seen.0.entry image at.0, seen_entry phases views images seen.1 at.1)

  seen_moment : (phases : List (Phase D)) (views : List Views) (images : List (List ℕ)) → AreSeen g phases views → AtMoment g phases images → SeenAtMoment views images
  seen_moment [] views images seen at = absurd at
  seen_moment (p ∷ phases) [] images seen at = absurd seen
  seen_moment (p ∷ phases) (v ∷ views) [] seen at = at
  seen_moment (p ∷ phases) (v ∷ views) (image ∷ images) seen (inl here) = inl (seen.0.within image here.0, seen_entry phases views images seen.1 here.1)
  seen_moment (p ∷ phases) (v ∷ views) (image ∷ images) seen (inr next) = inr (seen.0.exit image next.0, seen_moment phases views images seen.1 next.1)

  -- What is known of each disk alone is known of all of them at each moment.
  pub EachMoment-seen : (phases : List (Phase D)) (views : List Views) → AreSeen g phases views → EachMoment g phases (SeenAtMoment views)
  EachMoment-seen phases views seen = record { later = seen_later phases views seen; each = λ images at. seen_moment phases views images seen at }

  -- A call without a write leaves what it found.
  pub AtMoment-unwritten : (phases : List (Phase D)) (images : List (List ℕ)) → AreUnwritten g phases → AtMoment g phases images → AtEntry g phases images
  AtMoment-unwritten [] images unwritten at = absurd at
  AtMoment-unwritten (p ∷ phases) [] unwritten at = at
  AtMoment-unwritten (p ∷ phases) (image ∷ images) unwritten (inl within) = (unwritten.0.within image within.0, within.1)
  AtMoment-unwritten (p ∷ phases) (image ∷ images) unwritten (inr past) = (unwritten.0.no_more image past.0, AtMoment-unwritten phases images unwritten.1 past.1)

  -- The laws of a disk: this moment is one of those since an earlier one, and since this moment there
  -- is no other.
  module _ (counts_now : (disk : D) (since : ℕ) (image : List ℕ) → since ≤ g.moment disk → g.may_leave disk image → g.left_since disk since image)
      (only_now : (disk : D) (image : List ℕ) → g.left_since disk (g.moment disk) image → g.may_leave disk image) where
    -- the exit is a moment of the call, after Ok and after a fault
    pub AtMoment-exit : (p : Phase D) (phases : List (Phase D)) (images : List (List ℕ)) → AreLater g (p ∷ phases) → AtExit g (p ∷ phases) images → AtMoment g (p ∷ phases) images
    AtMoment-exit p phases [] later at = at
    AtMoment-exit p [] (image ∷ images) later at = inl (counts_now p.exit (g.moment p.entry) image later.0 at.0, exit_none images at.1)
      where
        exit_none : (images : List (List ℕ)) → AtExit g [] images → AtEntry g [] images
        exit_none [] at = at
        exit_none (image ∷ images) at = at
    AtMoment-exit p (q ∷ phases) (image ∷ images) later at = inr (at.0, AtMoment-exit q phases images later.1 at.1)

    pub EachMoment-exit : (p : Phase D) (phases : List (Phase D)) (P : List (List ℕ) → Type 0) → EachMoment g (p ∷ phases) P → (images : List (List ℕ)) → AtExit g (p ∷ phases) images → P images
    EachMoment-exit p phases P moments images at = moments.each images (AtMoment-exit p phases images moments.later at)

    -- a disk that stands still leaves what it leaves now
    still_unwritten : (disk : D) → IsUnwritten g (still disk)
    still_unwritten disk = record { within = only_now disk; no_more = λ image left. left }

    stills_unwritten : (disks : List D) → AreUnwritten g (map still disks)
    stills_unwritten [] = tt
    stills_unwritten (disk ∷ disks) = (still_unwritten disk, stills_unwritten disks)

    exit_since : (phases : List (Phase D)) (mids : List D) (images : List (List ℕ)) → AtExit g phases images → AtExit g (since phases mids) images
    exit_since [] mids images at = at
    exit_since (p ∷ phases) [] images at = at
    exit_since (p ∷ phases) (mid ∷ mids) [] at = at
    exit_since (p ∷ phases) (mid ∷ mids) (image ∷ images) at = (at.0, exit_since phases mids images at.1)

    exit_unwritten : (phases : List (Phase D)) (images : List (List ℕ)) → AreUnwritten g phases → AtExit g phases images → AtEntry g phases images
    exit_unwritten [] [] unwritten at = at
    exit_unwritten [] (image ∷ images) unwritten at = at
    exit_unwritten (p ∷ phases) [] unwritten at = at
    exit_unwritten (p ∷ phases) (image ∷ images) unwritten at = (unwritten.0.no_more image at.0, exit_unwritten phases images unwritten.1 at.1)

    -- What stands at the exit of a call that mounts first: images that there were at its entry, or
    -- some that have P.
    pub MountsOrStill-exit : (p : Phase D) (phases : List (Phase D)) (P : List (List ℕ) → Type 0) → MountsOrStill g (p ∷ phases) P
        → (images : List (List ℕ)) → AtExit g (p ∷ phases) images → AtEntry g (p ∷ phases) images ⊎ P images
    MountsOrStill-exit p phases P (inl unwritten) images at = inl (exit_unwritten (p ∷ phases) images unwritten at)
    MountsOrStill-exit p phases P (inr mounts) images at = inr (moments_exit mounts.mids mounts.then)
      where
        moments_exit : (mids : List D) → EachMoment g (since (p ∷ phases) mids) P → P images
        moments_exit [] moments = EachMoment-exit p phases P moments images at
        moments_exit (mid ∷ mids) moments = EachMoment-exit (phase mid p.exit) (since phases mids) P moments images (exit_since (p ∷ phases) (mid ∷ mids) images at)

    -- A call on one disk only: where the disk's phase keeps the image that it might have left at its
    -- entry, a moment is one of that disk, and the others leave what they leave all the time.
    module _ (p : Phase D) (after : List D) (keeps : (image : List ℕ) → g.may_leave p.entry image → g.left_since p.exit (g.moment p.entry) image)
        (no_earlier : g.moment p.entry ≤ g.moment p.exit) where
      entry_alone : (before : List D) (images : List (List ℕ)) → AtEntry g (alone before p after) images → AtMomentAlone g before p after images
      entry_alone [] [] at = at
      entry_alone [] (image ∷ images) at = (keeps image at.0, at.1)
      entry_alone (disk ∷ before) [] at = at
      entry_alone (disk ∷ before) (image ∷ images) at = (at.0, entry_alone before images at.1)

      pub AtMoment-alone : (before : List D) (images : List (List ℕ)) → AtMoment g (alone before p after) images → AtMomentAlone g before p after images
      AtMoment-alone [] [] at = at
      AtMoment-alone [] (image ∷ images) (inl within) = within
      AtMoment-alone [] (image ∷ images) (inr past) =
          (counts_now p.exit (g.moment p.entry) image no_earlier past.0, AtMoment-unwritten (map still after) images (stills_unwritten after) past.1)
      AtMoment-alone (disk ∷ before) [] at = at
      AtMoment-alone (disk ∷ before) (image ∷ images) (inl within) = (only_now disk image within.0, entry_alone before images within.1)
      AtMoment-alone (disk ∷ before) (image ∷ images) (inr past) = (past.0, AtMoment-alone before images past.1)
