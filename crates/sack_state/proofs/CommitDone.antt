-- What a commit on the books of a sack adds to its history.
use Rattle.std.proofs.Common.{◌≡◌, inl, inr, ℕ, ◌+◌, ◌≤◌, false, cond, ◌||◌, List, [], ◌∷◌, ◌++◌, Option, Some, None, Result, Ok, Err, refl, sym, ap, subst, ◌∙◌}
use Rattle.std.specs.Option.{IfSome, is_some, option_map}
use Rattle.std.specs.Result.{is_ok}
use Rattle.std.proofs.lemmas.Bool.{eq-eqb, or_right}
use Rattle.gno_disk.specs.Disk.{TimeGoesOn}
use Rattle.gno_disk.specs.Phases.{EachMoment}
use Rattle.gno_disk.specs.declared.disk.Disk.{Ghosts}
use Rattle.log_pair.specs.declared.place.Place.{Place}
use Rattle.bound_series.specs.Jobs.{IsPrepared, JobView, PreparedView}
use Rattle.series_model.specs.declared.metric.MetricId.{MetricId}
use Rattle.sack_history.specs.declared.entry.Counted.{Counted}
use Rattle.sack_history.specs.declared.entry.Counted.TheVariants as counted
use Rattle.sack_history.specs.declared.entry.Entry.{Entry}
use Rattle.sack_history.specs.declared.entry.Entry.TheVariants as entries
use Rattle.sack_history.specs.declared.fault.CommitFault.{CommitFault}
use Rattle.sack_history.specs.declared.fault.CommitFault.TheVariants as commit_fault
use Rattle.sack_history.specs.declared.fault.SackFault.{SackFault}
use Rattle.sack_history.specs.declared.fault.SackFault.TheVariants as sack_fault
use Rattle.sack_history.specs.declared.holding.HeldClaim.{HeldClaim}
use Rattle.sack_history.specs.Calls.{CommitsNow, IsHeldBy, IsJobOf, commit_failure}
use Rattle.sack_history.specs.Entries.{kept}
use Rattle.sack_history.specs.Failing.{Failure, MayFail, damage, failed as call_failed, given as call_given, no_memory, on_disk, refused as call_refused, sack_failure}
use Rattle.sack_history.specs.Holding.{held_after, held_claim, last_ticket}
use Rattle.sack_history.specs.Legal.{IsLegal, IsLegalCount, MayProcess}
use Rattle.sack_history.specs.Scratch.{Durable, metrics_from_scratch}
use Rattle.sack_history.proofs.Committed.{TurnIsFromScratch}
use Rattle.sack_history.proofs.Held.{holds_well}
use Rattle.sack_history.proofs.Keeping.{kept_legal}
use Rattle.sack_state.specs.declared.books.Books.{Books}
use Rattle.sack_state.specs.Books.{AreLasting, AreOfPlace, AreWhole, disks_of}
use Rattle.sack_state.specs.Claiming.{AreOnlyRead}
use Rattle.sack_state.specs.Committing.{CommitsFrom, HasNotWritten, HasWritten, HoldsTicket, IsNoWork, IsWork, WritesFrom, WritesTurn, broke, commit_fault_of, differs, done, not_held, undone, unwritten, written}
use Rattle.sack_state.specs.Disks.{OfFive, sack_faults, sack_phases}
use Rattle.sack_state.specs.Holding.{are_broken}
use Rattle.sack_state.specs.SackHolding.{AreOldOrWritten}
use Rattle.sack_state.specs.SackView.{AreReal, HasDurable, IsScratch, SackView}
use Rattle.sack_state.proofs.DiskLemmas.{faults_later}
use Rattle.sack_state.proofs.DoneLemmas.{IsDone, state_with, whole_books}
use Rattle.sack_state.proofs.EntryLemmas.{fault_real, fault_risen}
use Rattle.sack_state.proofs.ReadDone.{fail_entry, failure_by, failure_is, fails_behind, fails_real, read_failed, read_look, read_moments, read_rises}
use Rattle.sack_state.proofs.ReadingLemmas.{untouched}
use Rattle.sack_state.proofs.TurnDone.{blocks_came, turn_came, turn_failed, turn_moments, turn_scratch}
use Rattle.sack_state.proofs.WorkDone.{job_work, work_job}

abbrev pub done_of_work : PreparedView → Counted
done_of_work p = counted.Done p.job.metric p.job.upto

module _ {D : Type 0} (g : Ghosts D) (old new : Books D) (held : Option HeldClaim) (p : PreparedView) where
  abbrev pub commit_entry : (result : Result ℕ CommitFault) → CommitsFrom g held p old new result → Entry
  commit_entry result (not_held other same res) = entries.Look (Some p.job.metric)
  commit_entry result (differs claim holds only whole lasting none res) = entries.Look (Some p.job.metric)
  commit_entry result (done claim holds wrote res) = entries.Counted (done_of_work p)
  commit_entry result (undone claim e holds (written mid ready same writes has whole lasting is) res) = entries.Look (Some p.job.metric)
  commit_entry result (undone claim e holds (broke mid f ready same writes has fault is) res) = entries.Fault (Some (done_of_work p)) f.before f.after
  commit_entry result (undone claim e holds (unwritten x only fails is) res) = fail_entry g old new (Some p.job.metric) x fails

pub same_fault : (e x : SackFault) → (let r : Result (Unit {0}) SackFault = Err e in r) ≡ Err x → e ≡ x
same_fault e x is = ap (λ (r : Result (Unit {0}) SackFault). elim r [ Ok n ↦ e | Err y ↦ y ]) is

pub may_fail : {Ready : Type 0} (failure : Failure) → Ready → MayFail Ready failure
may_fail no_memory ready = tt
may_fail (on_disk f) ready = ready
may_fail (damage d) ready = ready

-- books whose incoming log is as it was once the work was read
turned_is : {D : Type 0} (mid new : Books D) → new.incoming ≡ mid.incoming → new ≡ record { incoming = mid.incoming; shelf = new.shelf }
turned_is {D} mid new same = ap (λ i. let b : Books D = record { incoming = i; shelf = new.shelf } in b) same

module _ {D : Type 0} (g : Ghosts D) (came_none : (disk : D) → g.came 0 disk disk) (came_more : (m n : ℕ) (old new : D) → m ≤ n → g.came m old new → g.came n old new)
    (came_then : (m n : ℕ) (old mid new : D) → g.came m old mid → g.came n mid new → g.came (m + n) old new) (came_later : (n : ℕ) (old new : D) → g.came n old new → g.faults old ≤ g.faults new)
    (only_now : (disk : D) (image : List ℕ) → g.left_since disk (g.moment disk) image → g.may_leave disk image) (old new : Books D) (p : PreparedView) where
  same_read : new ≡ old → AreOnlyRead g old new
  same_read same = subst (AreOnlyRead g old) (sym same) (untouched g only_now came_none came_later old)

  -- counts of faults don't fall while work is written
  pub written_rises : (mid : Books D) → AreOnlyRead g old mid → new.incoming ≡ mid.incoming → WritesTurn g p mid.shelf new.shelf → sack_faults g (disks_of old) ≤ sack_faults g (disks_of new)
  written_rises mid only same writes = subst (λ (b : Books D). sack_faults g (disks_of old) ≤ sack_faults g (disks_of b)) (sym (turned_is mid new same))
      (faults_later g came_later 0 4 (blocks_came g came_then old mid only p new.shelf writes).times (disks_of old) (disks_of (record { incoming = mid.incoming; shelf = new.shelf }))
      (turn_came g came_then old mid only p new.shelf writes))

  module _ (N : Type 0) (none : ((d : Durable) → HasDurable g old d → ⊥) → N) (held : Option HeldClaim) where
    done_real : (IsJob : JobView → Type 0) → WritesFrom g IsJob p old new (Ok tt) → sack_faults g (disks_of old) ≤ sack_faults g (disks_of new)
    done_real IsJob (written mid ready same writes has whole lasting is) = written_rises mid ready.read same writes
    done_real IsJob (broke mid f ready same writes has fault is) = absurd cc
    done_real IsJob (unwritten x only fails is) = absurd cc

    -- the fault of a commit is real
    pub commit_real : (result : Result ℕ CommitFault) (c : CommitsFrom g held p old new result) → AreReal N (sack_faults g (disks_of old)) (commit_entry g old new held p result c ∷ []) (sack_faults g (disks_of new))
    commit_real result (not_held other same res) = read_rises g came_none came_more came_later old new (same_read same) N
    commit_real result (differs claim holds only whole lasting no_work res) = read_rises g came_none came_more came_later old new only N
    commit_real result (done claim holds wrote res) = done_real (IsWork g old claim) wrote
    commit_real result (undone claim e holds (written mid ready same writes has whole lasting is) res) = absurd cc
    commit_real result (undone claim e holds (broke mid f ready same writes has fault is) res) = fault_real g old new f fault (Some (done_of_work p)) N
    commit_real result (undone claim e holds (unwritten x only fails is) res) = fails_real g came_none came_more came_later old new only N none (Some p.job.metric) x fails

module _ {D : Type 0} (g : Ghosts D) (turn : TurnIsFromScratch) (tells : (n : ℕ) (old new : D) → g.came n old new → is_some (g.told new) ≡ is_some (g.told old)) (came_none : (disk : D) → g.came 0 disk disk)
    (came_more : (m n : ℕ) (old new : D) → m ≤ n → g.came m old new → g.came n old new) (came_then : (m n : ℕ) (old mid new : D) → g.came m old mid → g.came n mid new → g.came (m + n) old new)
    (came_later : (n : ℕ) (old new : D) → g.came n old new → g.faults old ≤ g.faults new)
    (goes_on : (n : ℕ) (old new : D) → g.came n old new → TimeGoesOn (g.moment old) (g.moment new) (g.left_since old) (g.left_since new))
    (only_now : (disk : D) (image : List ℕ) → g.left_since disk (g.moment disk) image → g.may_leave disk image)
    (place : Place) (old new : Books D) (whole : AreWhole old) (lasting : AreLasting g old) (of_place : AreOfPlace place old) (p : PreparedView)
    (v w : SackView D) (v_place : v.place ≡ place) (w_place : w.place ≡ place) (history : List Entry) (scratch : IsScratch g v (record { disks = disks_of old; books = old; broken = false }) history) where
  abbrev counts : List Counted
  counts = kept history

  time : (n : ℕ) (a b : D) → g.came n a b → g.moment a ≤ g.moment b
  time n a b came = (goes_on n a b came).later

  legal : IsLegal place.sack history
  legal = subst (λ (q : Place). IsLegal q.sack history) v_place scratch.legal

  pub counts_legal : IsLegalCount (kept history)
  counts_legal = kept_legal place.sack history legal

  -- the posts of the claim that is held may be done
  pub held_may : (claim : HeldClaim) → held_claim history ≡ Some claim → MayProcess (kept history) claim.metric claim.upto
  held_may claim is = subst (λ o. IfSome o (λ (c : HeldClaim). MayProcess counts c.metric c.upto)) is (holds_well place.sack history legal).usable

  -- ---- work that was written

  module _ (claim : HeldClaim) (may : MayProcess (kept history) claim.metric claim.upto) (mid : Books D) (only : AreOnlyRead g old mid) (lasting_mid : AreLasting g mid) (same : new.incoming ≡ mid.incoming) (writes : WritesTurn g p mid.shelf new.shelf)
      (job : IsJobOf claim (kept history) p.job) (prepared : IsPrepared p) where
    more_is : counted.Done claim.metric claim.upto ≡ done_of_work p
    more_is = ap (λ (m : MetricId). counted.Done m claim.upto) (sym job.metric) ∙ ap (λ n. counted.Done p.job.metric n) (sym job.upto)

    back : new ≡ record { incoming = mid.incoming; shelf = new.shelf }
    back = turned_is mid new same

    pub wrote_moments : EachMoment g (sack_phases (disks_of old) (disks_of new)) (OfFive (AreOldOrWritten place (kept history) (Some (done_of_work p))))
    wrote_moments = subst (λ (b : Books D). EachMoment g (sack_phases (disks_of old) (disks_of b)) (OfFive (AreOldOrWritten place counts (Some (done_of_work p))))) (sym back)
        (subst (λ (c : Counted). EachMoment g (sack_phases (disks_of old) (disks_of (record { incoming = mid.incoming; shelf = new.shelf }))) (OfFive (AreOldOrWritten place counts (Some c)))) more_is
        (turn_moments g turn tells came_none came_more came_then goes_on only_now place old mid only lasting lasting_mid of_place p new.shelf writes v w v_place w_place history scratch claim counts_legal may job prepared))

    pub wrote_scratch : HasWritten g p mid.shelf new.shelf → AreWhole new → w.held ≡ held_after (held_claim history) (entries.Counted (done_of_work p)) → w.tickets ≡ last_ticket history → IsScratch g w (state_with new) (history ++ entries.Counted (done_of_work p) ∷ [])
    wrote_scratch has whole_new held tickets = subst (λ (b : Books D). IsScratch g w (state_with b) (history ++ entries.Counted (done_of_work p) ∷ [])) (sym back)
        (subst (λ (c : Counted). IsScratch g w (state_with (record { incoming = mid.incoming; shelf = new.shelf })) (history ++ entries.Counted c ∷ [])) more_is
        (turn_scratch g turn tells came_none came_more came_then goes_on only_now place old mid only lasting lasting_mid of_place p new.shelf writes v w v_place w_place history scratch claim counts_legal may job prepared has
        (subst (λ (b : Books D). AreWhole b) back whole_new) (held ∙ ap (λ (c : Counted). held_after (held_claim history) (entries.Counted c)) (sym more_is)) tickets))

    pub wrote_failed : HasNotWritten g mid.shelf new.shelf → (before after : ℕ) → w.held ≡ None → w.tickets ≡ last_ticket history → IsScratch g w (state_with new) (history ++ entries.Fault (Some (done_of_work p)) before after ∷ [])
    wrote_failed has before after held tickets = subst (λ (b : Books D). IsScratch g w (state_with b) (history ++ entries.Fault (Some (done_of_work p)) before after ∷ [])) (sym back)
        (subst (λ (c : Counted). IsScratch g w (state_with (record { incoming = mid.incoming; shelf = new.shelf })) (history ++ entries.Fault (Some c) before after ∷ [])) more_is
        (turn_failed g turn tells came_none came_more came_then goes_on only_now place old mid only lasting lasting_mid of_place p new.shelf writes v w v_place w_place history scratch claim counts_legal may job prepared has before after held tickets))

  -- ---- a commit

  module _ (held : Option HeldClaim) (v_held : v.held ≡ held) (w_tickets : w.tickets ≡ v.tickets) (result : Result ℕ CommitFault) (w_held : w.held ≡ cond (is_ok result || are_broken new) None held) where
    tickets : w.tickets ≡ last_ticket history
    tickets = w_tickets ∙ scratch.tickets

    held_is : held ≡ held_claim history
    held_is = sym v_held ∙ scratch.held

    -- a refused commit leaves the claim unless the books have broken
    refused_held : (f : CommitFault) → result ≡ Err f → w.held ≡ cond (are_broken new) None (held_claim history)
    refused_held f res = w_held ∙ ap (λ (r : Result ℕ CommitFault). cond (is_ok r || are_broken new) None held) res ∙ ap (λ o. cond (are_broken new) None o) held_is

    given_held : (n : ℕ) → result ≡ Ok n → w.held ≡ None
    given_held n res = w_held ∙ ap (λ (r : Result ℕ CommitFault). cond (is_ok r || are_broken new) None held) res

    module _ (claim : HeldClaim) (holds : HoldsTicket held p claim) where
      claim_is : held_claim history ≡ Some claim
      claim_is = sym held_is ∙ holds.held_is

      by_ticket : (claim : HeldClaim) × IsHeldBy history p.job.ticket claim
      by_ticket = (claim, record { held = claim_is; ticket_is = holds.ticket_is })

      may : MayProcess counts claim.metric claim.upto
      may = held_may claim claim_is

      job_of_work : IsWork g old claim p.job → IsJobOf claim counts p.job
      job_of_work work =
          let has = scratch.has refl in
          work_job g old counts has scratch.remembers counts_legal claim may p.job (work has.posts (metrics_from_scratch counts) has.told has.keeps)

      no_job : IsNoWork g old claim p.job → IsJobOf claim counts p.job → ⊥
      no_job none job =
          let has = scratch.has refl in
          none has.posts (metrics_from_scratch counts) has.told has.keeps (job_work g old counts has scratch.remembers counts_legal claim may p.job job)

      ended : IsJobOf claim counts p.job → held_after (held_claim history) (entries.Counted (done_of_work p)) ≡ None
      ended job =
          ap (λ o. held_after o (entries.Counted (done_of_work p))) claim_is
          ∙ ap (λ b. cond b None (Some claim)) (eq-eqb p.job.metric.0 claim.metric.0 (ap (λ (m : MetricId). m.0) job.metric))

    whole_same : new ≡ old → AreWhole new
    whole_same same = subst (λ (b : Books D). AreWhole b) (sym same) whole

    lasting_same : new ≡ old → AreLasting g new
    lasting_same same = subst (AreLasting g) (sym same) lasting

    only_same : new ≡ old → AreOnlyRead g old new
    only_same same = same_read g came_none came_more came_then came_later only_now old new p same

    looked : AreOnlyRead g old new → AreWhole new → AreLasting g new → (f : CommitFault) → result ≡ Err f → IsScratch g w (state_with new) (history ++ entries.Look (Some p.job.metric) ∷ [])
    looked only whole_new lasting_new f res = read_look g tells came_none came_more time only_now place old new whole lasting of_place only v w v_place w_place history scratch tickets (Some p.job.metric) whole_new lasting_new
        (refused_held f res ∙ ap (λ b. cond b None (held_claim history)) (whole_books new whole_new))

    moments : AreOnlyRead g old new → EachMoment g (sack_phases (disks_of old) (disks_of new)) (OfFive (AreOldOrWritten place counts (Some (done_of_work p))))
    moments only = read_moments g tells came_none came_more time only_now place old new whole lasting of_place only v w v_place w_place history scratch tickets (Some (done_of_work p))

    abbrev Done : Entry → Type 0
    Done e = IsDone g place (CommitsNow p result) (λ l. Some (done_of_work p)) old new w e history

    wrote_done : (claim : HeldClaim) (holds : HoldsTicket held p claim) → result ≡ Ok p.job.upto → WritesFrom g (IsWork g old claim) p old new (Ok tt) → Done (entries.Counted (done_of_work p))
    wrote_done claim holds res (written mid ready same writes has whole_new lasting_new is) =
        let job = job_of_work claim holds ready.job in
        record {
          does = call_given p.job.upto ((claim, record { held = claim_is claim holds; ticket_is = holds.ticket_is }, job), refl, refl) res;
          scratch = wrote_scratch claim (may claim holds) mid ready.read (ready.lasting lasting) same writes job ready.prepared has whole_new (given_held p.job.upto res ∙ sym (ended claim holds job)) tickets;
          moments = wrote_moments claim (may claim holds) mid ready.read (ready.lasting lasting) same writes job ready.prepared;
        }
    wrote_done claim holds res (broke mid f ready same writes has fault is) = absurd cc
    wrote_done claim holds res (unwritten x only fails is) = absurd cc

    pub commit_done : (c : CommitsFrom g held p old new result) → Done (commit_entry g old new held p result c)
    commit_done (not_held other same res) = record {
      does = call_refused (commit_fault.NotHolder p.job.ticket (option_map (λ (c : HeldClaim). c.ticket) held))
          (refl, ap (option_map (λ (c : HeldClaim). c.ticket)) held_is, (λ is. other (ap (option_map (λ (c : HeldClaim). c.ticket)) held_is ∙ is))) refl res;
      scratch = looked (only_same same) (whole_same same) (lasting_same same) (commit_fault.NotHolder p.job.ticket (option_map (λ (c : HeldClaim). c.ticket) held)) res;
      moments = moments (only_same same);
    }
    commit_done (differs claim holds only whole_new lasting_new none res) = record {
      does = call_refused (commit_fault.Differs p) (refl, (claim, record { held = claim_is claim holds; ticket_is = holds.ticket_is }, no_job claim holds none)) refl res;
      scratch = looked only whole_new (lasting_new lasting) (commit_fault.Differs p) res;
      moments = moments only;
    }
    commit_done (done claim holds wrote res) = wrote_done claim holds res wrote
    commit_done (undone claim e holds (written mid ready same writes has whole_new lasting_new is) res) = absurd cc
    commit_done (undone claim e holds (broke mid f ready same writes has fault is) res) =
        let job = job_of_work claim holds ready.job in
        record {
          does = call_failed (on_disk f) (by_ticket claim holds, inr ((claim, record { held = claim_is claim holds; ticket_is = holds.ticket_is }, job), (fault_risen g old new f fault, (Some (done_of_work p), inr refl, refl))))
              (res ∙ ap (λ y. Err (commit_fault_of p y)) (same_fault e (sack_fault.DiskFault f) is));
          scratch = wrote_failed claim (may claim holds) mid ready.read (ready.lasting lasting) same writes job ready.prepared has f.before f.after
              (refused_held (commit_fault_of p e) res ∙ ap (λ b. cond b None (held_claim history)) (or_right new.incoming.broken new.shelf.broken has.broken)) tickets;
          moments = wrote_moments claim (may claim holds) mid ready.read (ready.lasting lasting) same writes job ready.prepared;
        }
    commit_done (undone claim e holds (unwritten x only fails is) res) =
        let failure = failure_by g old new (Some p.job.metric) x fails in
        record {
          does = call_failed failure (may_fail failure (by_ticket claim holds), inl (fails_behind g old new (Some p.job.metric) x fails))
              (res ∙ ap (λ y. Err (commit_fault_of p y)) (same_fault e x is ∙ failure_is g old new (Some p.job.metric) x fails) ∙ ap (λ y. Err y) (handed failure));
          scratch = read_failed g tells came_none came_more time only_now place old new whole lasting of_place only v w v_place w_place history scratch tickets (refused_held (commit_fault_of p e) res) (Some p.job.metric) x fails;
          moments = moments only;
        }
      where
        handed : (failure : Failure) → commit_fault_of p (sack_failure failure) ≡ commit_failure p failure
        handed no_memory = refl
        handed (on_disk f) = refl
        handed (damage d) = refl
