-- Calls of a sack that read its books, which it mounts first where they are broken.
use Rattle.std.proofs.Common.{◌≡◌, ◌⊎◌, inl, inr, ℕ, ◌≤◌, Bool, true, false, cond, ◌||◌, List, ◌++◌, ◌∷◌, [], Option, Some, None, refl, sym, subst}
use Rattle.std.specs.Option.{IfSome, MatchOption, is_some, option_map}
use Rattle.gno_num.specs.declared.faults.DiskFault.{DiskFault as Fault}
use Rattle.gno_disk.specs.Disk.{TimeGoesOn}
use Rattle.gno_disk.specs.Phases.{AreUnwritten, IsUnwritten, phase}
use Rattle.gno_disk.specs.declared.disk.Disk.{Ghosts}
use Rattle.gate_log.specs.declared.fault.MountFault.{MountFault}
use Rattle.log_pair.specs.declared.place.Place.{Place}
use Rattle.sack_history.specs.declared.entry.Counted.{Counted}
use Rattle.sack_history.specs.declared.entry.Entry.{Entry}
use Rattle.sack_history.specs.declared.entry.Entry.TheVariants as entries
use Rattle.sack_history.specs.declared.fault.SackFault.{SackFault}
use Rattle.sack_history.specs.declared.fault.SackFault.TheVariants as sack_fault
use Rattle.sack_history.specs.declared.holding.HeldClaim.{HeldClaim}
use Rattle.sack_history.specs.Entries.{all_counted, kept}
use Rattle.sack_history.specs.Scratch.{Durable, durable}
use Rattle.sack_state.specs.declared.books.Books.{Books}
use Rattle.sack_state.specs.declared.disks.Opening.{Opening}
use Rattle.sack_state.specs.declared.disks.SackDisks.{SackDisks}
use Rattle.sack_state.specs.declared.holding.Keeping.{Keeping}
use Rattle.sack_state.specs.declared.holding.Keeping.TheVariants.{Mounted}
use Rattle.sack_state.specs.Books.{disks_of}
use Rattle.sack_state.specs.Claiming.{KeepsNone}
use Rattle.sack_state.specs.Disks.{CameWithin, sack_phases}
use Rattle.sack_state.specs.Holding.{StaysBroken, TakesBooks, as_they_were, mounted_anew, state_of}
use Rattle.sack_state.specs.SackCalls.{MatchOnDisk}
use Rattle.sack_state.specs.SackView.{HasDurable, IsEarlier, SackState, Stands, StandsFor}
use Rattle.sack_state.proofs.CallLemmas.{view_of}
use Rattle.sack_state.proofs.DoneLemmas.{state_with, whole_books}
use Rattle.sack_state.proofs.KnowLemmas.{differ}
use Rattle.sack_state.proofs.MountLemmas.{reopened}

-- whether a call on the books has broken them isn't known before it
pub not_broken_yet : (anew : Bool) (claim : Option HeldClaim) → cond (anew || false) None claim ≡ cond anew None claim
not_broken_yet true claim = refl
not_broken_yet false claim = refl

module _ {D : Type 0} (g : Ghosts D) where
  -- a disk that wasn't written in two spans wasn't in both together
  pub unwritten_then : (a b c : D) → g.moment a ≤ g.moment b → TimeGoesOn (g.moment b) (g.moment c) (g.left_since b) (g.left_since c) → IsUnwritten g (phase a b) → IsUnwritten g (phase b c) → IsUnwritten g (phase a c)
  unwritten_then a b c later on first second = record {
    within = λ image left. by image (on.splits (g.moment a) image later left);
    no_more = λ image left. first.no_more image (second.no_more image left);
  }
    where
      by : (image : List ℕ) → g.left_since b (g.moment a) image ⊎ g.left_since c (g.moment b) image → g.may_leave a image
      by image (inl before) = first.within image before
      by image (inr after) = first.no_more image (second.within image after)

  module _ (goes_on : (n : ℕ) (old new : D) → g.came n old new → TimeGoesOn (g.moment old) (g.moment new) (g.left_since old) (g.left_since new)) where
    both_unwritten : (m n : ℕ) (a b c : D) → g.came m a b → g.came n b c → IsUnwritten g (phase a b) → IsUnwritten g (phase b c) → IsUnwritten g (phase a c)
    both_unwritten m n a b c first second = unwritten_then a b c (goes_on m a b first).later (goes_on n b c second)

    pub reads_then : (i s z j t w : ℕ) (old mid new : SackDisks D) → CameWithin g i s z old mid → CameWithin g j t w mid new → AreUnwritten g (sack_phases old mid) → AreUnwritten g (sack_phases mid new) → AreUnwritten g (sack_phases old new)
    reads_then i s z j t w old mid new first second u v = (
      both_unwritten i j old.incoming_a mid.incoming_a new.incoming_a first.incoming_a second.incoming_a u.0 v.0,
      (
        both_unwritten i j old.incoming_b mid.incoming_b new.incoming_b first.incoming_b second.incoming_b u.1.0 v.1.0,
        (
          both_unwritten z w old.blocks mid.blocks new.blocks first.blocks_disk second.blocks_disk u.1.1.0 v.1.1.0,
          (
            both_unwritten s t old.shelf_a mid.shelf_a new.shelf_a first.shelf_a second.shelf_a u.1.1.1.0 v.1.1.1.0,
            (both_unwritten s t old.shelf_b mid.shelf_b new.shelf_b first.shelf_b second.shelf_b u.1.1.1.1.0 v.1.1.1.1.0, tt),
          ),
        ),
      ),
    )

    module _ (place : Place) (keeping then : Option (Keeping D)) where
      both : (P : SackState D → SackState D → Type 0) (was now : Keeping D) → keeping ≡ Some was → then ≡ Some now → P (state_of was) (state_of now)
          → MatchOption (option_map state_of keeping) ⊥ (λ s. MatchOption (option_map state_of then) ⊥ (λ t. P s t))
      both P was now is then_is p =
          subst (λ (o : Option (Keeping D)). MatchOption (option_map state_of o) ⊥ (λ s. MatchOption (option_map state_of then) ⊥ (λ t. P s t))) (sym is)
          (subst (λ (o : Option (Keeping D)). MatchOption (option_map state_of o) ⊥ (λ t. P (state_of was) t)) (sym then_is) p)

      -- a mounting that failed wrote nothing
      pub failed_reads : (fault : MountFault) → StaysBroken g place keeping then fault
          → MatchOption (option_map state_of keeping) ⊥ (λ s. MatchOption (option_map state_of then) ⊥ (λ t. AreUnwritten g (sack_phases s.disks t.disks)))
      failed_reads fault stays = both (λ s t. AreUnwritten g (sack_phases s.disks t.disks)) stays.before stays.now stays.old_is stays.new_is stays.unmounted.unwritten

      module _ (books new : Books D) (anew : Bool) (takes : TakesBooks g place keeping books anew) (then_is : then ≡ Some (Mounted new)) where
        -- nor did a call on the books that read
        pub call_reads : CameWithin g 0 0 0 (disks_of books) (disks_of new) → AreUnwritten g (sack_phases (disks_of books) (disks_of new))
            → MatchOption (option_map state_of keeping) ⊥ (λ s. MatchOption (option_map state_of then) ⊥ (λ t. AreUnwritten g (sack_phases s.disks t.disks)))
        call_reads came unwritten = by takes
          where
            by : TakesBooks g place keeping books anew → MatchOption (option_map state_of keeping) ⊥ (λ s. MatchOption (option_map state_of then) ⊥ (λ t. AreUnwritten g (sack_phases s.disks t.disks)))
            by (as_they_were is unbroken lasting not_anew) = both (λ s t. AreUnwritten g (sack_phases s.disks t.disks)) (Mounted books) (Mounted new) is then_is unwritten
            by (mounted_anew was is broken from is_anew) = both (λ s t. AreUnwritten g (sack_phases s.disks t.disks)) was (Mounted new) is then_is
                (reads_then 2 2 1 0 0 0 (state_of was).disks (disks_of books) (disks_of new) from.came came from.unwritten unwritten)

-- ---- why a read failed

module _ {D : Type 0} (g : Ghosts D) (place : Place) (keeping : Option (Keeping D)) (books : Books D) (anew : Bool) (takes : TakesBooks g place keeping books anew) where
  -- damage comes only of a sack that was broken, or of books without a durable state
  pub damage_none : KeepsNone g books → MatchOption (option_map state_of keeping) ⊥ (λ s. (s.broken ≡ true) ⊎ KeepsNone g s.books)
  damage_none none = by takes
    where
      at : (was : Keeping D) → keeping ≡ Some was → ((state_of was).broken ≡ true) ⊎ KeepsNone g (state_of was).books → MatchOption (option_map state_of keeping) ⊥ (λ s. (s.broken ≡ true) ⊎ KeepsNone g s.books)
      at was is told = subst (λ (o : Option (Keeping D)). MatchOption (option_map state_of o) ⊥ (λ s. (s.broken ≡ true) ⊎ KeepsNone g s.books)) (sym is) told

      by : TakesBooks g place keeping books anew → MatchOption (option_map state_of keeping) ⊥ (λ s. (s.broken ≡ true) ⊎ KeepsNone g s.books)
      by (as_they_were is unbroken lasting not_anew) = at (Mounted books) is (inr none)
      by (mounted_anew was is broken from is_anew) = at was is (inl broken)

pub was_broken : {D : Type 0} (keeping : Option (Keeping D)) (R : SackState D → Type 0) → MatchOption (option_map state_of keeping) ⊥ (λ s. s.broken ≡ true) → MatchOption (option_map state_of keeping) ⊥ (λ s. (s.broken ≡ true) ⊎ R s)
was_broken {D} keeping R = by keeping
  where
    by : (o : Option (Keeping D)) → MatchOption (option_map state_of o) ⊥ (λ s. s.broken ≡ true) → MatchOption (option_map state_of o) ⊥ (λ s. (s.broken ≡ true) ⊎ R s)
    by None told = told
    by (Some k) told = inl told

-- a cause that is told more weakly
pub cause_weaker : (e : SackFault) (P : Fault → Type 0) (Q R : Type 0) → (Q → R) → MatchOnDisk e P Q → MatchOnDisk e P R
cause_weaker (sack_fault.DiskFault f) P Q R weaker told = told
cause_weaker (sack_fault.Damaged d) P Q R weaker told = weaker told
cause_weaker sack_fault.Unknown P Q R weaker told = told
cause_weaker (sack_fault.Spent s) P Q R weaker told = told
cause_weaker sack_fault.Memory P Q R weaker told = told

-- ---- the books that were taken have a durable state behind each list that may have counted before

module _ {D : Type 0} (g : Ghosts D) (tells : (n : ℕ) (old new : D) → g.came n old new → is_some (g.told new) ≡ is_some (g.told old)) (reads : (disk : D) → IfSome (g.told disk) (g.may_leave disk))
    (place : Place) (opening : Opening D) (keeping : Option (Keeping D)) (claim : Option HeldClaim) (tickets n : ℕ) (books : Books D) (anew : Bool) where
  pub taken_has : TakesBooks g place keeping books anew → (earlier : List Counted) (h : List Entry) → StandsFor g h (view_of keeping place opening claim tickets n) → IsEarlier g place opening earlier
      → (d : Durable) × HasDurable g books d
  taken_has (as_they_were is unbroken lasting not_anew) earlier h stands legal =
      let here : Stands g h (view_of keeping place opening claim tickets n) (state_with books) = subst (λ (o : Option (Keeping D)). MatchOption (option_map state_of o) ⊥ (Stands g h (view_of keeping place opening claim tickets n))) is stands in
      (durable (kept (all_counted earlier ++ h)), (here.behind earlier legal).has (whole_books books unbroken))
  taken_has (mounted_anew was is broken from is_anew) earlier h stands legal =
      let there : Stands g h (view_of keeping place opening claim tickets n) (state_of was) = subst (λ (o : Option (Keeping D)). MatchOption (option_map state_of o) ⊥ (Stands g h (view_of keeping place opening claim tickets n))) is stands in
      let r = entries.Reopened (differ (state_of was).books books) in (
        durable (kept ((all_counted earlier ++ h) ++ r ∷ [])),
        (reopened g reads (view_of keeping place opening claim tickets n) (state_of was) broken books from (all_counted earlier ++ h) (there.behind earlier legal) tells (view_of keeping place opening None tickets n) refl refl refl).has refl,
      )
