-- Calls of a sack, which mounts its books first where they are broken.
use Rattle.std.proofs.Common.{◌≡◌, inl, inr, ℕ, ◌+◌, ◌-◌, ◌≤◌, ◌^◌, Bool, true, false, cond, List, [], ◌∷◌, ◌++◌, Option, Some, None, refl, sym, ap, subst, ◌∙◌, append_assoc}
use Rattle.std.specs.Bool.{⊤}
use Rattle.std.specs.Option.{IfSome, MatchOption, is_some, option_map}
use Rattle.std.proofs.lemmas.Bool.{false≢true}
use Rattle.gno_num.specs.Faults.{Rose}
use Rattle.gno_num.specs.declared.faults.DiskFault.{DiskFault as Fault}
use Rattle.gno_disk.specs.declared.disk.Disk.{Ghosts}
use Rattle.gate_log.specs.LogView.{IsFault, MatchMountFault}
use Rattle.gate_log.specs.declared.fault.MountFault.{MountFault}
use Rattle.gate_log.specs.declared.fault.MountFault.TheVariants.{DiskFault as MountDisk, Damaged as MountDamaged, Memory as MountMemory}
use Rattle.log_pair.specs.declared.place.Place.{Place}
use Rattle.series_model.specs.declared.metric.MetricId.{MetricId}
use Rattle.sack_history.specs.declared.entry.Counted.{Counted}
use Rattle.sack_history.specs.declared.entry.Entry.{Entry}
use Rattle.sack_history.specs.declared.entry.Entry.TheVariants as entries
use Rattle.sack_history.specs.declared.holding.HeldClaim.{HeldClaim}
use Rattle.sack_history.specs.Entries.{all_counted, kept, what_counts, found_from}
use Rattle.sack_history.specs.Failing.{Failure, HasRisen, IsMounted, damage, mounted, no_memory, on_disk, unmounted, whole}
use Rattle.sack_history.specs.Holding.{broken_after, held_after, held_claim, is_broken, last_ticket, open_tried, ticket_after, tried_after}
use Rattle.sack_history.specs.Legal.{MayComeNext}
use Rattle.sack_history.specs.Scratch.{Durable, durable}
use Rattle.sack_history.proofs.Following.{FollowOn-more}
use Rattle.sack_history.proofs.Held.{held-more, holds_well, ticket-more}
use Rattle.sack_history.proofs.Keeping.{broken-more, kept-noted, tried-more}
use Rattle.sack_state.specs.declared.books.Books.{Books}
use Rattle.sack_state.specs.declared.disks.Opening.{Opening}
use Rattle.sack_state.specs.declared.holding.Keeping.{Keeping}
use Rattle.sack_state.specs.declared.holding.Keeping.TheVariants.{Mounted}
use Rattle.sack_state.specs.Books.{AreMountedFrom, AreWhole, disks_of}
use Rattle.sack_state.specs.Disks.{AreTold, sack_faults}
use Rattle.sack_state.specs.Holding.{StaysBroken, TakesBooks, as_they_were, mounted_anew, state_of}
use Rattle.sack_state.specs.SackCalls.{entries_of_call}
use Rattle.sack_state.specs.SackHolding.{AreOfHistory, AreOldOrWritten, HoldsNoSack, HoldsSack, IsDamagedSack}
use Rattle.sack_state.specs.SackView.{AreReal, AtAnyMoment, HasDurable, HasNoEarlier, IsEarlier, IsScratch, OfBoth, Remembers, SackState, SackView, Stands, StandsAfter, StandsFor, all_along, capped, once_mounted}
use Rattle.sack_state.proofs.DiskLemmas.{capped_least, faults_later, no_less, tell_later}
use Rattle.sack_state.proofs.DoneLemmas.{IsDone, state_with, whole_books}
use Rattle.sack_state.proofs.KnowLemmas.{differ}
use Rattle.sack_state.proofs.MountLemmas.{may_reopen, read_at, read_now, reopened}
use Rattle.sack_state.proofs.RealLemmas.{AreReal-append, AreReal-lower, has_risen, real_of}

-- what contracts see of the fields of a sack
abbrev pub view_of : {D : Type 0} → Option (Keeping D) → Place → Opening D → Option HeldClaim → ℕ → ℕ → SackView D
view_of keeping place opening claim tickets n = record {
  state = option_map state_of keeping;
  place = place;
  opening = opening;
  held = claim;
  tickets = tickets;
  entries = n;
}

module _ {D : Type 0} (g : Ghosts D) (tells : (n : ℕ) (old new : D) → g.came n old new → is_some (g.told new) ≡ is_some (g.told old)) (reads : (disk : D) → IfSome (g.told disk) (g.may_leave disk))
    (came_later : (n : ℕ) (old new : D) → g.came n old new → g.faults old ≤ g.faults new)
    (place : Place) (opening : Opening D) (keeping then : Option (Keeping D)) (claim left : Option HeldClaim) (tickets given n k : ℕ) (metric : Option MetricId) where
  abbrev pub before : SackView D
  before = view_of keeping place opening claim tickets n

  abbrev pub after : SackView D
  after = view_of then place opening left given k

  -- ---- books that were taken

  module _ (Own : List Entry → List Entry → Type 0) (Fails : Failure → Type 0) (written : List Counted → Option Counted) (books new : Books D) (anew : Bool) (then_is : then ≡ Some (Mounted new)) (e : Entry)
      (count : k ≡ capped (n + entries_of_call anew))
      (real : (((d : Durable) → HasDurable g books d → ⊥) → HasNoEarlier g place opening) → AreReal (HasNoEarlier g place opening) (sack_faults g (disks_of books)) (e ∷ []) (sack_faults g (disks_of new)))
      (done : (v : SackView D) → v.place ≡ place → v.held ≡ cond anew None claim → v.tickets ≡ tickets → (history : List Entry) → IsScratch g v (record { disks = disks_of books; books = books; broken = false }) history
      → IsDone g place Own written books new (view_of then place opening left given k) e history) where
    abbrev written_from : List Entry → List ℕ → List ℕ → List ℕ → List ℕ → List ℕ → Type 0
    written_from history = AreOldOrWritten place (kept history) (written (kept history))

    stands_then : (h : List Entry) → Stands g h after (state_with new) → StandsFor g h after
    stands_then h stands = subst (λ (o : Option (Keeping D)). MatchOption (option_map state_of o) ⊥ (Stands g h after)) (sym then_is) stands

    both : (P : SackState D → SackState D → Type 0) (was : Keeping D) → keeping ≡ Some was → P (state_of was) (state_with new) → OfBoth before after P
    both P was is p =
        subst (λ (o : Option (Keeping D)). MatchOption (option_map state_of o) ⊥ (λ s. MatchOption (option_map state_of then) ⊥ (λ t. P s t))) (sym is)
        (subst (λ (o : Option (Keeping D)). MatchOption (option_map state_of o) ⊥ (λ t. P (state_of was) t)) (sym then_is) p)

    known : (h : List Entry) (was : Keeping D) → keeping ≡ Some was → StandsFor g h before → Stands g h before (state_of was)
    known h was is stands = subst (λ (o : Option (Keeping D)). MatchOption (option_map state_of o) ⊥ (Stands g h before)) is stands

    -- the books weren't broken
    module _ (is : keeping ≡ Some (Mounted books)) (unbroken : AreWhole books) (not_anew : anew ≡ false) (h : List Entry) (stands : StandsFor g h before) where
      here : Stands g h before (state_with books)
      here = known h (Mounted books) is stands

      done_here : (earlier : List Counted) → IsEarlier g place opening earlier → IsDone g place Own written books new after e (all_counted earlier ++ h)
      done_here earlier legal =
          done before refl (ap (λ b. cond b None claim) (sym not_anew)) refl (all_counted earlier ++ h)
          (subst (λ b. IsScratch g before (record { disks = disks_of books; books = books; broken = b }) (all_counted earlier ++ h)) (whole_books books unbroken) (here.behind earlier legal))

      as_it_was : StandsAfter g h written before after (λ b own. IsMounted metric Own Fails b own)
      as_it_was = record {
        own = e ∷ [];
        stands = stands_then (h ++ e ∷ []) (record {
          behind = λ earlier legal. subst (IsScratch g after (state_with new)) (append_assoc (all_counted earlier) h (e ∷ [])) (done_here earlier legal).scratch;
          real = AreReal-append (HasNoEarlier g place opening) (sack_faults g opening.disks) h (e ∷ []) (sack_faults g (disks_of books)) (sack_faults g (disks_of new)) here.real
              (real (λ none earlier legal. none (durable (kept (all_counted earlier ++ h))) ((here.behind earlier legal).has (whole_books books unbroken))));
        });
        counted = count ∙ ap (λ b. capped (n + entries_of_call b)) not_anew;
        does = λ earlier legal. whole (sym (here.behind earlier legal).broken ∙ whole_books books unbroken) (done_here earlier legal).does;
        mid = h;
        mid_is = inl refl;
        moments = λ earlier legal. both (λ s t. AtAnyMoment g s t (written_from (all_counted earlier ++ h))) (Mounted books) is
            (all_along (whole_books books unbroken) (done_here earlier legal).moments);
      }

    -- they were mounted anew
    module _ (was : Keeping D) (is : keeping ≡ Some was) (broken : (state_of was).broken ≡ true) (from : AreMountedFrom g place (state_of was).disks books) (is_anew : anew ≡ true) (h : List Entry) (stands : StandsFor g h before) where
      there : Stands g h before (state_of was)
      there = known h was is stands

      abbrev found : Bool
      found = differ (state_of was).books books

      abbrev r : Entry
      r = entries.Reopened found

      abbrev freed : SackView D
      freed = view_of keeping place opening None tickets n

      reopened_there : (earlier : List Counted) → IsEarlier g place opening earlier → IsScratch g freed (record { disks = disks_of books; books = books; broken = false }) ((all_counted earlier ++ h) ++ r ∷ [])
      reopened_there earlier legal = reopened g reads before (state_of was) broken books from (all_counted earlier ++ h) (there.behind earlier legal) tells freed refl refl refl

      done_there : (earlier : List Counted) → IsEarlier g place opening earlier → IsDone g place Own written books new after e ((all_counted earlier ++ h) ++ r ∷ [])
      done_there earlier legal =
          done freed refl (ap (λ b. cond b None claim) (sym is_anew)) refl ((all_counted earlier ++ h) ++ r ∷ []) (reopened_there earlier legal)

      anew_then : StandsAfter g h written before after (λ b own. IsMounted metric Own Fails b own)
      anew_then =
          let le = faults_later g came_later 2 2 1 (state_of was).disks (disks_of books) from.came in
          record {
            own = r ∷ e ∷ [];
            stands = stands_then (h ++ r ∷ e ∷ []) (record {
              behind = λ earlier legal. subst (IsScratch g after (state_with new)) (append_assoc (all_counted earlier ++ h) (r ∷ []) (e ∷ []) ∙ append_assoc (all_counted earlier) h (r ∷ e ∷ [])) (done_there earlier legal).scratch;
              real = AreReal-append (HasNoEarlier g place opening) (sack_faults g opening.disks) h (r ∷ e ∷ []) (sack_faults g (state_of was).disks) (sack_faults g (disks_of new)) there.real
                  (AreReal-lower (HasNoEarlier g place opening) (sack_faults g (state_of was).disks) (sack_faults g (disks_of books)) (e ∷ []) (sack_faults g (disks_of new)) le
                  (real (λ none earlier legal. none (durable (kept ((all_counted earlier ++ h) ++ r ∷ []))) ((reopened_there earlier legal).has refl))));
            });
            counted = count ∙ ap (λ b. capped (n + entries_of_call b)) is_anew;
            does = λ earlier legal. mounted found (e ∷ []) (may_reopen g reads before (state_of was) broken books from (all_counted earlier ++ h) (there.behind earlier legal)) refl (done_there earlier legal).does;
            mid = h ++ r ∷ [];
            mid_is = inr (found, refl);
            moments = λ earlier legal. subst (λ l. OfBoth before after (λ s t. AtAnyMoment g s t (written_from l))) (append_assoc (all_counted earlier) h (r ∷ []))
                (both (λ s t. AtAnyMoment g s t (written_from ((all_counted earlier ++ h) ++ r ∷ []))) was is (once_mounted broken (inr (record {
                  mids = books.incoming.first ∷ books.incoming.second ∷ books.shelf.blocks ∷ books.shelf.first ∷ books.shelf.second ∷ [];
                  mounting = from.unwritten;
                  then = (done_there earlier legal).moments;
                }))));
          }

    pub call_after_if : TakesBooks g place keeping books anew → (h : List Entry) → StandsFor g h (view_of keeping place opening claim tickets n)
        → StandsAfter g h written (view_of keeping place opening claim tickets n) (view_of then place opening left given k) (λ b own. IsMounted metric Own Fails b own)
    call_after_if (as_they_were is unbroken lasting not_anew) h stands = as_it_was is unbroken not_anew h stands
    call_after_if (mounted_anew was is broken from is_anew) h stands = anew_then was is broken from is_anew h stands

  -- the same, where the fault of the call is real whatever may have counted
  pub call_after : (Own : List Entry → List Entry → Type 0) (Fails : Failure → Type 0) (written : List Counted → Option Counted) (books new : Books D) (anew : Bool) → then ≡ Some (Mounted new) → (e : Entry)
      → k ≡ capped (n + entries_of_call anew) → ((N : Type 0) → AreReal N (sack_faults g (disks_of books)) (e ∷ []) (sack_faults g (disks_of new)))
      → ((v : SackView D) → v.place ≡ place → v.held ≡ cond anew None claim → v.tickets ≡ tickets → (history : List Entry) → IsScratch g v (record { disks = disks_of books; books = books; broken = false }) history
      → IsDone g place Own written books new (view_of then place opening left given k) e history)
      → TakesBooks g place keeping books anew → (h : List Entry) → StandsFor g h (view_of keeping place opening claim tickets n)
      → StandsAfter g h written (view_of keeping place opening claim tickets n) (view_of then place opening left given k) (λ b own. IsMounted metric Own Fails b own)
  call_after Own Fails written books new anew then_is e count real done takes h stands =
      call_after_if Own Fails written books new anew then_is e count (λ none. real (HasNoEarlier g place opening)) done takes h stands

  -- ---- a mounting that failed

  module _ (Own : List Entry → List Entry → Type 0) (Fails : Failure → Type 0) (written : List Counted → Option Counted) (fault : MountFault) (stays : StaysBroken g place keeping then fault) (same_claim : left ≡ claim) (same_tickets : given ≡ tickets) (count : k ≡ capped (n + 1))
      (h : List Entry) (stands : StandsFor g h before) where
    abbrev old : SackState D
    old = state_of stays.before

    abbrev now : SackState D
    now = state_of stays.now

    still : Stands g h before old
    still = subst (λ (o : Option (Keeping D)). MatchOption (option_map state_of o) ⊥ (Stands g h before)) stays.old_is stands

    -- an entry that leaves what counts, and what was tried
    module _ (e : Entry) (may : (history : List Entry) → MayComeNext place.sack history e) (noted : found_from e false ≡ false) (none : what_counts false e ≡ []) (breaks : broken_after true e ≡ true)
        (claims : held_after None e ≡ None) (no_ticket : (t : ℕ) → ticket_after t e ≡ t) (no_try : (o : Option Counted) → tried_after o e ≡ o) where
      module _ (history : List Entry) (scratch : IsScratch g before old history) where
        open_history : is_broken history ≡ true
        open_history = sym scratch.broken ∙ stays.was_broken

        no_claim : held_claim history ≡ None
        no_claim = (holds_well place.sack history scratch.legal).broken open_history

        same_kept : kept (history ++ e ∷ []) ≡ kept history
        same_kept = kept-noted history e noted none

        still_of : (a b z c d : List ℕ) → AreOfHistory place history a b z c d → AreOfHistory place (history ++ e ∷ []) a b z c d
        still_of a b z c d (inl there) = inl (subst (λ l. HoldsSack place (durable l) a b z c d) (sym same_kept) there)
        still_of a b z c d (inr there) = inr (there.0, tried-more history e ∙ no_try (open_tried history) ∙ there.1, subst (λ l. HoldsSack place (durable (l ++ there.0 ∷ [])) a b z c d) (sym same_kept) there.2)

        still_broken : IsScratch g after now (history ++ e ∷ [])
        still_broken =
            let u = stays.unmounted.unwritten in
            record {
              legal = FollowOn-more (MayComeNext place.sack) history e scratch.legal (may history);
              broken = stays.broken ∙ sym (broken-more history e ∙ ap (λ b. broken_after b e) open_history ∙ breaks);
              held = same_claim ∙ scratch.held ∙ no_claim ∙ sym (held-more history e ∙ ap (λ o. held_after o e) no_claim ∙ claims);
              tickets = same_tickets ∙ scratch.tickets ∙ sym (ticket-more history e ∙ no_ticket (last_ticket history));
              remembers = subst (λ c. Remembers now.books (durable c)) (sym same_kept) (subst (λ (b : Books D). Remembers b (durable (kept history))) (sym stays.books) scratch.remembers);
              has = λ whole_now. absurd (false≢true (sym whole_now ∙ stays.broken));
              tell = tell_later g tells 2 2 1 old.disks now.disks stays.unmounted.came scratch.tell;
              images = λ a b z c d left_a left_b left_z left_c left_d.
                  still_of a b z c d (scratch.images a b z c d (u.0.no_more a left_a) (u.1.0.no_more b left_b) (u.1.1.0.no_more z left_z) (u.1.1.1.0.no_more c left_c) (u.1.1.1.1.0.no_more d left_d));
            }

      failed_with : ((earlier : List Counted) → IsEarlier g place opening earlier → IsMounted metric Own Fails (all_counted earlier ++ h) (e ∷ [])) → AreReal (HasNoEarlier g place opening) (sack_faults g old.disks) (e ∷ []) (sack_faults g now.disks)
          → StandsAfter g h written before after (λ b own. IsMounted metric Own Fails b own)
      failed_with does real = record {
        own = e ∷ [];
        stands = subst (λ (o : Option (Keeping D)). MatchOption (option_map state_of o) ⊥ (Stands g (h ++ e ∷ []) after)) (sym stays.new_is) (record {
          behind = λ earlier legal. subst (IsScratch g after now) (append_assoc (all_counted earlier) h (e ∷ [])) (still_broken (all_counted earlier ++ h) (still.behind earlier legal));
          real = AreReal-append (HasNoEarlier g place opening) (sack_faults g opening.disks) h (e ∷ []) (sack_faults g old.disks) (sack_faults g now.disks) still.real real;
        });
        counted = count;
        does = does;
        mid = h;
        mid_is = inl refl;
        moments = λ earlier legal.
            subst (λ (o : Option (Keeping D)). MatchOption (option_map state_of o) ⊥ (λ s. MatchOption (option_map state_of then) ⊥ (λ t. AtAnyMoment g s t (AreOldOrWritten place (kept (all_counted earlier ++ h)) (written (kept (all_counted earlier ++ h))))))) (sym stays.old_is)
            (subst (λ (o : Option (Keeping D)). MatchOption (option_map state_of o) ⊥ (λ t. AtAnyMoment g old t (AreOldOrWritten place (kept (all_counted earlier ++ h)) (written (kept (all_counted earlier ++ h)))))) (sym stays.new_is)
            (once_mounted stays.was_broken (inl stays.unmounted.unwritten)));
      }

    opened : (earlier : List Counted) → IsEarlier g place opening earlier → is_broken (all_counted earlier ++ h) ≡ true
    opened earlier legal = sym (still.behind earlier legal).broken ∙ stays.was_broken

    -- where damage was found, the disks held no state
    nothing_held : (AreTold g old.disks (λ a b z c e. ⊤) → AreTold g old.disks (HoldsNoSack place)) → HasNoEarlier g place opening
    nothing_held never earlier legal =
        let scratch = still.behind earlier legal in
        let t = never (read_now g reads old.disks (λ a b z c e. ⊤) scratch.tell (λ a b z c e left_a left_b left_z left_c left_e. tt)) in
        by t (read_at g reads old.disks (AreOfHistory place (all_counted earlier ++ h)) (HoldsNoSack place) t scratch.images)
      where
        by : (t : AreTold g old.disks (HoldsNoSack place)) → AreOfHistory place (all_counted earlier ++ h) t.a t.b t.z t.c t.e → ⊥
        by t (inl there) = t.have (durable (kept (all_counted earlier ++ h))) there
        by t (inr there) = t.have (durable (kept (all_counted earlier ++ h) ++ there.0 ∷ [])) there.2

    -- so no damage is found where there is a history
    pub failed_sound : (earlier : List Counted) → IsEarlier g place opening earlier → MatchMountFault fault (λ f. ⊤) (λ d. ⊥) ⊤
    failed_sound earlier legal = by fault stays.unmounted.never
      where
        by : (x : MountFault) → MatchMountFault x (λ f. ⊤) (λ d. AreTold g old.disks (λ a b z c e. ⊤) → AreTold g old.disks (HoldsNoSack place)) ⊤ → MatchMountFault x (λ f. ⊤) (λ d. ⊥) ⊤
        by (MountDisk f) never = tt
        by (MountDamaged d) never = nothing_held never earlier legal
        by MountMemory never = tt

    risen : (f : Fault) → IsFault (sack_faults g old.disks) (sack_faults g now.disks) f → HasRisen f
    risen f fault_is = has_risen f
        (subst (λ i. Rose i f.after) (sym fault_is.before_is) (subst (λ i. Rose (sack_faults g old.disks) i) (sym fault_is.after_is) fault_is.rose))
        (subst (λ i. i ≤ 2 ^ 64 - 1) (sym fault_is.before_is) (capped_least _)) (subst (λ i. i ≤ 2 ^ 64 - 1) (sym fault_is.after_is) (capped_least _))

    pub failed_after : (failure : Failure) → MatchMountFault fault (λ f. failure ≡ on_disk f) (λ d. failure ≡ damage d) (failure ≡ no_memory) → Fails failure
        → StandsAfter g h written (view_of keeping place opening claim tickets n) (view_of then place opening left given k) (λ b own. IsMounted metric Own Fails b own)
    failed_after failure is fails = by fault is stays.unmounted.cause stays.unmounted.never
      where
        by : (f : MountFault) → MatchMountFault f (λ x. failure ≡ on_disk x) (λ d. failure ≡ damage d) (failure ≡ no_memory)
            → MatchMountFault f (IsFault (sack_faults g old.disks) (sack_faults g now.disks)) (λ d. AreTold g old.disks (λ a b z c e. ⊤) → AreTold g old.disks (λ a b z c e. IsDamagedSack place a b z c e d)) ⊤
            → MatchMountFault f (λ x. ⊤) (λ d. AreTold g old.disks (λ a b z c e. ⊤) → AreTold g old.disks (HoldsNoSack place)) ⊤
            → StandsAfter g h written before after (λ b own. IsMounted metric Own Fails b own)
        by (MountDisk f) is cause never =
            failed_with (entries.Fault None f.before f.after) (λ history. tt) refl refl refl refl (λ t. refl) (λ o. refl)
            (λ earlier legal. unmounted (on_disk f) (opened earlier legal) (risen f cause, (None, inl refl, refl)) (subst Fails is fails))
            (real_of (HasNoEarlier g place opening) None f (risen f cause), subst (λ i. sack_faults g old.disks ≤ i) (sym cause.before_is) (no_less (sack_faults g old.disks)), subst (λ i. i ≤ sack_faults g now.disks) (sym cause.after_is) (no_less (sack_faults g now.disks)))
        by (MountDamaged d) is cause never =
            let last = sack_faults g now.disks in
            failed_with (entries.Fault None last last) (λ history. tt) refl refl refl refl (λ t. refl) (λ o. refl)
            (λ earlier legal. unmounted (damage d) (opened earlier legal) (last, last, no_less last, refl) (subst Fails is fails))
            (inr (inr (refl, refl, nothing_held never)), faults_later g came_later 2 2 1 old.disks now.disks stays.unmounted.came, no_less last)
        by MountMemory is cause never =
            failed_with (entries.Look metric) (λ history. tt) refl refl refl refl (λ t. refl) (λ o. refl)
            (λ earlier legal. unmounted no_memory (opened earlier legal) refl (subst Fails is fails))
            (faults_later g came_later 2 2 1 old.disks now.disks stays.unmounted.came)
