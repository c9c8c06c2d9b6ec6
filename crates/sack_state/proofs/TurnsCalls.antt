-- Calls of a sack that take turns, which mount its books first where they are broken.
use Rattle.std.proofs.Common.{◌≡◌, inl, inr, ℕ, suc, ◌+◌, ◌≤◌, Bool, true, false, cond, List, [], ◌∷◌, ◌++◌, length, Option, Some, None, refl, sym, ap, subst, ◌∙◌, append_assoc, arith}
use Rattle.std.specs.Option.{IfSome, MatchOption, is_some, option_map}
use Rattle.gno_disk.specs.declared.disk.Disk.{Ghosts}
use Rattle.gate_log.specs.LogView.{MatchMountFault}
use Rattle.gate_log.specs.declared.fault.MountFault.{MountFault}
use Rattle.log_pair.specs.declared.place.Place.{Place}
use Rattle.series_model.specs.declared.metric.MetricId.{MetricId}
use Rattle.sack_history.specs.declared.entry.Counted.{Counted}
use Rattle.sack_history.specs.declared.entry.Entry.{Entry}
use Rattle.sack_history.specs.declared.entry.Entry.TheVariants as entries
use Rattle.sack_history.specs.declared.holding.HeldClaim.{HeldClaim}
use Rattle.sack_history.specs.Entries.{all_counted, kept}
use Rattle.sack_history.specs.Failing.{Failure, IsMounted, mounted, whole, damage, no_memory, on_disk}
use Rattle.sack_state.specs.declared.books.Books.{Books}
use Rattle.sack_state.specs.declared.disks.Opening.{Opening}
use Rattle.sack_state.specs.declared.holding.Keeping.{Keeping}
use Rattle.sack_state.specs.declared.holding.Keeping.TheVariants.{Mounted}
use Rattle.sack_state.specs.Books.{AreMountedFrom, AreWhole, disks_of}
use Rattle.sack_state.specs.Disks.{sack_faults}
use Rattle.sack_state.specs.Holding.{StaysBroken, TakesBooks, as_they_were, mounted_anew, state_of}
use Rattle.sack_state.specs.SackTurns.{AreWithTurns, AtAnyTurn, StandsAfterTurns, all_along, once_mounted, unmounted}
use Rattle.sack_state.specs.SackView.{AreReal, HasNoEarlier, IsEarlier, IsScratch, OfBoth, SackState, SackView, Stands, StandsFor, capped}
use Rattle.sack_state.proofs.CallLemmas.{failed_after, view_of}
use Rattle.sack_state.proofs.DiskLemmas.{faults_later}
use Rattle.sack_state.proofs.DoneLemmas.{state_with, whole_books}
use Rattle.sack_state.proofs.KnowLemmas.{differ}
use Rattle.sack_state.proofs.MountLemmas.{may_reopen, reopened}
use Rattle.sack_state.proofs.RealLemmas.{AreReal-append, AreReal-lower}
use Rattle.sack_state.proofs.TurnsEnd.{IsTurnedTo}

-- how many entries a mounting adds
abbrev pub entries_of_mounting : Bool → ℕ
entries_of_mounting anew = cond anew 1 0

module _ {D : Type 0} (g : Ghosts D) (tells : (n : ℕ) (old new : D) → g.came n old new → is_some (g.told new) ≡ is_some (g.told old)) (reads : (disk : D) → IfSome (g.told disk) (g.may_leave disk))
    (came_later : (n : ℕ) (old new : D) → g.came n old new → g.faults old ≤ g.faults new)
    (place : Place) (opening : Opening D) (keeping then : Option (Keeping D)) (claim left : Option HeldClaim) (tickets n k : ℕ) (metric : Option MetricId) (turns : List Counted → List Counted) where
  abbrev before : SackView D
  before = view_of keeping place opening claim tickets n

  abbrev after : SackView D
  after = view_of then place opening left tickets k

  -- what the books are when they were taken
  abbrev pub IsTaken : Books D → Bool → SackView D → List Entry → Type 0
  IsTaken books anew v history = (v.place ≡ place) × (v.held ≡ cond anew None claim) × (v.tickets ≡ tickets) × IsScratch g v (record { disks = disks_of books; books = books; broken = false }) history

  module _ (Own : List Entry → List Entry → Type 0) (Fails : Failure → Type 0) (books new : Books D) (anew : Bool) (then_is : then ≡ Some (Mounted new)) (es : List Entry)
      (count : k ≡ capped (n + (entries_of_mounting anew + length es)))
      (real : (((v : SackView D) (history : List Entry) → IsTaken books anew v history → ⊥) → HasNoEarlier g place opening) → AreReal (HasNoEarlier g place opening) (sack_faults g (disks_of books)) es (sack_faults g (disks_of new)))
      (done : (v : SackView D) (history : List Entry) → IsTaken books anew v history → Own history es × IsTurnedTo g place (turns (kept history)) books new (view_of then place opening left tickets k) history es) where
    stands_then : (h : List Entry) → Stands g h after (state_with new) → StandsFor g h after
    stands_then h stands = subst (λ (o : Option (Keeping D)). MatchOption (option_map state_of o) ⊥ (Stands g h after)) (sym then_is) stands

    both : (P : SackState D → SackState D → Type 0) (was : Keeping D) → keeping ≡ Some was → P (state_of was) (state_with new) → OfBoth before after P
    both P was is p =
        subst (λ (o : Option (Keeping D)). MatchOption (option_map state_of o) ⊥ (λ s. MatchOption (option_map state_of then) ⊥ (λ t. P s t))) (sym is)
        (subst (λ (o : Option (Keeping D)). MatchOption (option_map state_of o) ⊥ (λ t. P (state_of was) t)) (sym then_is) p)

    known : (h : List Entry) (was : Keeping D) → keeping ≡ Some was → StandsFor g h before → Stands g h before (state_of was)
    known h was is stands = subst (λ (o : Option (Keeping D)). MatchOption (option_map state_of o) ⊥ (Stands g h before)) is stands

    -- the books weren't broken
    module _ (is : keeping ≡ Some (Mounted books)) (unbroken : AreWhole books) (not_anew : anew ≡ false) (h : List Entry) (stands : StandsFor g h before) where
      here : Stands g h before (state_with books)
      here = known h (Mounted books) is stands

      taken_here : (earlier : List Counted) → IsEarlier g place opening earlier → IsTaken books anew before (all_counted earlier ++ h)
      taken_here earlier legal = (
        refl,
        ap (λ b. cond b None claim) (sym not_anew),
        refl,
        subst (λ b. IsScratch g before (record { disks = disks_of books; books = books; broken = b }) (all_counted earlier ++ h)) (whole_books books unbroken) (here.behind earlier legal),
      )

      as_it_was : StandsAfterTurns g h turns before after (λ b own. IsMounted metric Own Fails b own)
      as_it_was = record {
        own = es;
        stands = stands_then (h ++ es) (record {
          behind = λ earlier legal. subst (IsScratch g after (state_with new)) (append_assoc (all_counted earlier) h es) (done before (all_counted earlier ++ h) (taken_here earlier legal)).1.scratch;
          real = AreReal-append (HasNoEarlier g place opening) (sack_faults g opening.disks) h es (sack_faults g (disks_of books)) (sack_faults g (disks_of new)) here.real
              (real (λ none earlier legal. none before (all_counted earlier ++ h) (taken_here earlier legal)));
        });
        counted = count ∙ ap (λ b. capped (n + (entries_of_mounting b + length es))) not_anew ∙ ap (λ m. capped (n + m)) (no_mounting (length es));
        does = λ earlier legal. whole (sym (here.behind earlier legal).broken ∙ whole_books books unbroken) (done before (all_counted earlier ++ h) (taken_here earlier legal)).0;
        mid = h;
        mid_is = inl refl;
        moments = λ earlier legal.
            let to = (done before (all_counted earlier ++ h) (taken_here earlier legal)).1 in
            both (AtAnyTurn g (AreWithTurns place (kept (all_counted earlier ++ h)) (turns (kept (all_counted earlier ++ h))))) (Mounted books) is (all_along to.pieces (whole_books books unbroken) to.at);
      }
        where
          no_mounting : (m : ℕ) → 0 + m ≡ m
          no_mounting m = omega arith

    -- they were mounted anew
    module _ (was : Keeping D) (is : keeping ≡ Some was) (broken : (state_of was).broken ≡ true) (from : AreMountedFrom g place (state_of was).disks books) (is_anew : anew ≡ true) (h : List Entry) (stands : StandsFor g h before) where
      there : Stands g h before (state_of was)
      there = known h was is stands

      abbrev r : Entry
      r = entries.Reopened (differ (state_of was).books books)

      abbrev freed : SackView D
      freed = view_of keeping place opening None tickets n

      taken_there : (earlier : List Counted) → IsEarlier g place opening earlier → IsTaken books anew freed ((all_counted earlier ++ h) ++ r ∷ [])
      taken_there earlier legal = (
        refl,
        ap (λ b. cond b None claim) (sym is_anew),
        refl,
        reopened g reads before (state_of was) broken books from (all_counted earlier ++ h) (there.behind earlier legal) tells freed refl refl refl,
      )

      anew_then : StandsAfterTurns g h turns before after (λ b own. IsMounted metric Own Fails b own)
      anew_then =
          let le = faults_later g came_later 2 2 1 (state_of was).disks (disks_of books) from.came in
          record {
            own = r ∷ es;
            stands = stands_then (h ++ r ∷ es) (record {
              behind = λ earlier legal. subst (IsScratch g after (state_with new)) (append_assoc (all_counted earlier ++ h) (r ∷ []) es ∙ append_assoc (all_counted earlier) h (r ∷ es))
                  (done freed ((all_counted earlier ++ h) ++ r ∷ []) (taken_there earlier legal)).1.scratch;
              real = AreReal-append (HasNoEarlier g place opening) (sack_faults g opening.disks) h (r ∷ es) (sack_faults g (state_of was).disks) (sack_faults g (disks_of new)) there.real
                  (AreReal-lower (HasNoEarlier g place opening) (sack_faults g (state_of was).disks) (sack_faults g (disks_of books)) es (sack_faults g (disks_of new)) le
                  (real (λ none earlier legal. none freed ((all_counted earlier ++ h) ++ r ∷ []) (taken_there earlier legal))));
            });
            counted = count ∙ ap (λ b. capped (n + (entries_of_mounting b + length es))) is_anew ∙ ap (λ m. capped (n + m)) (one_mounting (length es));
            does = λ earlier legal. mounted (differ (state_of was).books books) es (may_reopen g reads before (state_of was) broken books from (all_counted earlier ++ h) (there.behind earlier legal)) refl
                (done freed ((all_counted earlier ++ h) ++ r ∷ []) (taken_there earlier legal)).0;
            mid = h ++ r ∷ [];
            mid_is = inr (differ (state_of was).books books, refl);
            moments = λ earlier legal.
                let to = (done freed ((all_counted earlier ++ h) ++ r ∷ []) (taken_there earlier legal)).1 in
                subst (λ l. OfBoth before after (AtAnyTurn g (AreWithTurns place (kept l) (turns (kept l))))) (append_assoc (all_counted earlier) h (r ∷ []))
                (both (AtAnyTurn g (AreWithTurns place (kept ((all_counted earlier ++ h) ++ r ∷ [])) (turns (kept ((all_counted earlier ++ h) ++ r ∷ []))))) was is
                (once_mounted (disks_of books) to.pieces broken from.unwritten to.at));
          }
        where
          one_mounting : (m : ℕ) → 1 + m ≡ suc m
          one_mounting m = omega arith

    pub call_turns : TakesBooks g place keeping books anew → (h : List Entry) → StandsFor g h (view_of keeping place opening claim tickets n)
        → StandsAfterTurns g h turns (view_of keeping place opening claim tickets n) (view_of then place opening left tickets k) (λ b own. IsMounted metric Own Fails b own)
    call_turns (as_they_were is unbroken lasting not_anew) h stands = as_it_was is unbroken not_anew h stands
    call_turns (mounted_anew was is broken from is_anew) h stands = anew_then was is broken from is_anew h stands

  -- mounting failed
  pub failed_turns : (Own : List Entry → List Entry → Type 0) (Fails : Failure → Type 0) (fault : MountFault) → StaysBroken g place keeping then fault → left ≡ claim → k ≡ capped (n + 1)
      → (h : List Entry) → StandsFor g h (view_of keeping place opening claim tickets n) → (failure : Failure) → MatchMountFault fault (λ f. failure ≡ on_disk f) (λ d. failure ≡ damage d) (failure ≡ no_memory) → Fails failure
      → StandsAfterTurns g h turns (view_of keeping place opening claim tickets n) (view_of then place opening left tickets k) (λ b own. IsMounted metric Own Fails b own)
  failed_turns Own Fails fault stays same_claim count h stands failure is fails =
      let s = failed_after g tells reads came_later place opening keeping then claim left tickets tickets n k metric Own Fails (λ counts. None) fault stays same_claim refl count h stands failure is fails in
      record {
        own = s.own;
        stands = s.stands;
        counted = s.counted;
        does = s.does;
        mid = s.mid;
        mid_is = s.mid_is;
        moments = λ earlier legal.
            subst (λ (o : Option (Keeping D)). MatchOption (option_map state_of o) ⊥ (λ a. MatchOption (option_map state_of then) ⊥ (λ b. AtAnyTurn g (AreWithTurns place (kept (all_counted earlier ++ s.mid)) (turns (kept (all_counted earlier ++ s.mid)))) a b))) (sym stays.old_is)
            (subst (λ (o : Option (Keeping D)). MatchOption (option_map state_of o) ⊥ (λ b. AtAnyTurn g (AreWithTurns place (kept (all_counted earlier ++ s.mid)) (turns (kept (all_counted earlier ++ s.mid)))) (state_of stays.before) b)) (sym stays.new_is)
            (unmounted stays.was_broken stays.unmounted.unwritten));
      }

  -- the books were taken behind each list that may have counted before
  pub record IsTakenSo (books : Books D) (anew : Bool) : Type 0 where
    pub v : SackView D
    pub history : List Entry
    pub taken : IsTaken books anew v history

  pub taken_so : (books : Books D) (anew : Bool) → TakesBooks g place keeping books anew → (earlier : List Counted) (h : List Entry) → StandsFor g h (view_of keeping place opening claim tickets n) → IsEarlier g place opening earlier → IsTakenSo books anew
  taken_so books anew (as_they_were is unbroken lasting not_anew) earlier h stands legal =
      let here : Stands g h before (state_with books) = subst (λ (o : Option (Keeping D)). MatchOption (option_map state_of o) ⊥ (Stands g h before)) is stands in
      record {
        v = before;
        history = all_counted earlier ++ h;
        taken = (
          refl,
          ap (λ b. cond b None claim) (sym not_anew),
          refl,
          subst (λ b. IsScratch g before (record { disks = disks_of books; books = books; broken = b }) (all_counted earlier ++ h)) (whole_books books unbroken) (here.behind earlier legal),
        );
      }
  taken_so books anew (mounted_anew was is broken from is_anew) earlier h stands legal =
      let there : Stands g h before (state_of was) = subst (λ (o : Option (Keeping D)). MatchOption (option_map state_of o) ⊥ (Stands g h before)) is stands in
      record {
        v = view_of keeping place opening None tickets n;
        history = (all_counted earlier ++ h) ++ entries.Reopened (differ (state_of was).books books) ∷ [];
        taken = (
          refl,
          ap (λ b. cond b None claim) (sym is_anew),
          refl,
          reopened g reads before (state_of was) broken books from (all_counted earlier ++ h) (there.behind earlier legal) tells (view_of keeping place opening None tickets n) refl refl refl,
        );
      }
