-- What a claim on the books of a sack adds to its history.
use Rattle.std.proofs.Common.{◌≡◌, inl, inr, ℕ, ◌+◌, ◌^◌, ◌<◌, ◌≤◌, true, false, cond, List, [], ◌∷◌, ◌++◌, Option, None, Result, Err, refl, sym, ap, subst, ◌∙◌, arith}
use Rattle.std.specs.Option.{is_some, option_map}
use Rattle.gno_disk.specs.Phases.{EachMoment}
use Rattle.gno_disk.specs.declared.disk.Disk.{Ghosts}
use Rattle.gno_num.specs.declared.faults.Counter.TheVariants as counter
use Rattle.log_pair.specs.declared.place.Place.{Place}
use Rattle.bound_series.specs.Jobs.{JobView}
use Rattle.incoming.specs.declared.mark.Mark.{Mark}
use Rattle.series_model.specs.declared.metric.MetricId.{MetricId}
use Rattle.series_model.specs.declared.ticket.Ticket.{Ticket}
use Rattle.sack_history.specs.declared.entry.Counted.{Counted}
use Rattle.sack_history.specs.declared.entry.Entry.{Entry}
use Rattle.sack_history.specs.declared.entry.Entry.TheVariants as entries
use Rattle.sack_history.specs.declared.fault.Claim.{Claim}
use Rattle.sack_history.specs.declared.fault.Claim.TheVariants as claims
use Rattle.sack_history.specs.declared.fault.SackFault.{SackFault}
use Rattle.sack_history.specs.declared.fault.SackFault.TheVariants as sack_fault
use Rattle.sack_history.specs.declared.holding.HeldClaim.{HeldClaim}
use Rattle.sack_history.specs.Calls.{ClaimsNow, IsClaimable, IsJobOf, next_claim, spent_at}
use Rattle.sack_history.specs.Entries.{found_from, kept, what_counts}
use Rattle.sack_history.specs.Failing.{damage, failed as call_failed, given as call_given, no_memory, on_disk, refused as call_refused}
use Rattle.sack_history.specs.Holding.{broken_after, held_after, held_claim, is_broken, last_ticket, ticket_after}
use Rattle.sack_history.specs.Legal.{IsLegalCount, MayClaim, MayComeNext}
use Rattle.sack_history.specs.Scratch.{Durable, durable}
use Rattle.sack_history.specs.Turns.{turn_end}
use Rattle.sack_history.proofs.Keeping.{kept-noted, kept_legal}
use Rattle.sack_state.specs.declared.books.Books.{Books}
use Rattle.sack_state.specs.Books.{AreLasting, AreOfPlace, AreWhole, disks_of}
use Rattle.sack_state.specs.Claiming.{AreOnlyRead, ClaimsFrom, FailsRead, HasFirst, IsJobFrom, claim_given, damaged, failed, given, holds, not_given, nothing, spent, starved, tickets_given}
use Rattle.sack_state.specs.Disks.{OfFive, sack_faults, sack_phases}
use Rattle.sack_state.specs.Holding.{are_broken}
use Rattle.sack_state.specs.SackHolding.{AreOldOrWritten}
use Rattle.sack_state.specs.SackView.{AreReal, HasDurable, IsScratch, SackView}
use Rattle.sack_state.proofs.ClaimEntry.{first_is, held_look, never_none, none_longest, read_came, read_has, read_later, read_place, read_unwritten, some_pending}
use Rattle.sack_state.proofs.DiskLemmas.{faults_later, no_less}
use Rattle.sack_state.proofs.DoneLemmas.{IsDone, state_with, whole_books}
use Rattle.sack_state.proofs.EntryLemmas.{fault_real, fault_risen, left_broken, left_whole, unwritten_moments}
use Rattle.sack_state.proofs.JobLemmas.{job_of}
use Rattle.sack_state.proofs.MountLemmas.{books_leave, remembers_of}
use Rattle.sack_state.proofs.ReadingLemmas.{untouched}

last_spent : (tickets : ℕ) → 2 ^ 63 ≤ tickets + 1 → tickets < 2 ^ 63 → tickets + 1 ≡ 2 ^ 63
last_spent tickets most few = omega (arith, most, few)

module _ {D : Type 0} (g : Ghosts D) (old new : Books D) where
  abbrev failed_entry : (e : SackFault) → FailsRead g old new e → Entry
  failed_entry e (failed f broken fault is) = entries.Fault None f.before f.after
  failed_entry e (damaged d broken none is) = entries.Fault None (sack_faults g (disks_of new)) (sack_faults g (disks_of new))
  failed_entry e (starved whole lasting is) = entries.Look None

  abbrev pub claim_entry : (held : Option HeldClaim) (sack tickets : ℕ) (result : Result Claim SackFault) → ClaimsFrom g held sack tickets old new result → Entry
  claim_entry held sack tickets result (holds claim is same res) = entries.Look None
  claim_entry held sack tickets result (nothing free none same res) = entries.Look None
  claim_entry held sack tickets result (spent first has last same res) = entries.Look None
  claim_entry held sack tickets result (given first job has few from only whole lasting res) = entries.Claim job.ticket job.metric job.upto
  claim_entry held sack tickets result (not_given first e has few only fails res) = failed_entry e fails

module _ {D : Type 0} (g : Ghosts D) (tells : (n : ℕ) (old new : D) → g.came n old new → is_some (g.told new) ≡ is_some (g.told old)) (came_none : (disk : D) → g.came 0 disk disk)
    (came_more : (m n : ℕ) (old new : D) → m ≤ n → g.came m old new → g.came n old new) (came_later : (n : ℕ) (old new : D) → g.came n old new → g.faults old ≤ g.faults new)
    (time : (n : ℕ) (a b : D) → g.came n a b → g.moment a ≤ g.moment b)
    (only_now : (disk : D) (image : List ℕ) → g.left_since disk (g.moment disk) image → g.may_leave disk image)
    (place : Place) (old new : Books D) (whole : AreWhole old) (lasting : AreLasting g old) (of_place : AreOfPlace place old) (held : Option HeldClaim) (tickets : ℕ) (result : Result Claim SackFault) (few : tickets < 2 ^ 63)
    (v w : SackView D) (v_place : v.place ≡ place) (w_place : w.place ≡ place) (v_held : v.held ≡ held) (v_tickets : v.tickets ≡ tickets)
    (w_held : w.held ≡ cond (are_broken new) None (claim_given held result)) (w_tickets : w.tickets ≡ tickets_given tickets result)
    (history : List Entry) (scratch : IsScratch g v (record { disks = disks_of old; books = old; broken = false }) history) where
  abbrev counts : List Counted
  counts = kept history

  has : HasDurable g old (durable counts)
  has = scratch.has refl

  held_is : held ≡ held_claim history
  held_is = sym v_held ∙ scratch.held

  tickets_are : tickets ≡ last_ticket history
  tickets_are = sym v_tickets ∙ scratch.tickets

  legal_count : IsLegalCount counts
  legal_count = kept_legal v.place.sack history scratch.legal

  unbroken : is_broken history ≡ false
  unbroken = sym scratch.broken

  free_is : held ≡ None → held_claim history ≡ None
  free_is free = sym held_is ∙ free

  only_same : new ≡ old → AreOnlyRead g old new
  only_same same = subst (AreOnlyRead g old) (sym same) (untouched g only_now came_none came_later old)

  whole_same : new ≡ old → AreWhole new
  whole_same same = subst (λ (b : Books D). AreWhole b) (sym same) whole

  lasting_same : new ≡ old → AreLasting g new
  lasting_same same = subst (AreLasting g) (sym same) lasting

  -- its books aren't broken
  whole_scratch : AreOnlyRead g old new → AreWhole new → AreLasting g new → (e : Entry) → MayComeNext place.sack history e → broken_after false e ≡ false → found_from e false ≡ false → what_counts false e ≡ []
      → claim_given held result ≡ held_after (held_claim history) e → tickets_given tickets result ≡ ticket_after (last_ticket history) e → IsScratch g w (state_with new) (history ++ e ∷ [])
  whole_scratch only whole_new lasting_new e may calm noted none held_e tickets_e =
      left_whole g tells place old new v w v_place w_place history scratch 0 0 0 (read_came g old new only came_none came_more) e may calm
      (w_held ∙ ap (λ c. cond c None (claim_given held result)) (whole_books new whole_new) ∙ held_e) (w_tickets ∙ tickets_e)
      (subst (λ c. HasDurable g new (durable c)) (sym (kept-noted history e noted none)) (read_has g old new only (durable counts) has)) whole_new lasting_new (read_place g old new only place of_place)

  look_scratch : AreOnlyRead g old new → AreWhole new → AreLasting g new → claim_given held result ≡ held → tickets_given tickets result ≡ tickets → IsScratch g w (state_with new) (history ++ entries.Look None ∷ [])
  look_scratch only whole_new lasting_new held_e tickets_e =
      whole_scratch only whole_new lasting_new (entries.Look None) tt refl refl refl (held_e ∙ held_is ∙ sym (held_look (held_claim history))) (tickets_e ∙ tickets_are)

  moments : AreOnlyRead g old new → EachMoment g (sack_phases (disks_of old) (disks_of new)) (OfFive (AreOldOrWritten place counts None))
  moments only = unwritten_moments g tells place old new v w v_place w_place history scratch 0 0 0 (read_came g old new only came_none came_more) whole lasting of_place
      (read_unwritten g old new only only_now) (read_later g old new only time came_none came_more) None

  -- its books have broken
  broken_scratch : AreOnlyRead g old new → are_broken new ≡ true → (before after : ℕ) → tickets_given tickets result ≡ tickets → IsScratch g w (state_with new) (history ++ entries.Fault None before after ∷ [])
  broken_scratch only broken before after tickets_e =
      let u = read_unwritten g old new only only_now in
      left_broken g tells place old new v w v_place w_place history scratch 0 0 0 (read_came g old new only came_none came_more) None before after tt broken
      (w_held ∙ ap (λ c. cond c None (claim_given held result)) broken) (w_tickets ∙ tickets_e ∙ tickets_are) (remembers_of g new (durable counts) (read_has g old new only (durable counts) has))
      (λ a b z c e left_a left_b left_z left_c left_e. books_leave g place old (durable counts) of_place lasting has a b z c e
      (u.0.no_more a left_a) (u.1.0.no_more b left_b) (u.1.1.0.no_more z left_z) (u.1.1.1.0.no_more c left_c) (u.1.1.1.1.0.no_more e left_e))

  module _ (first : Mark) (is_first : HasFirst held old first) where
    claimable : IsClaimable history first.metric
    claimable = record { free = free_is is_first.free; first = first_is old counts scratch.remembers first is_first.is }

    fewer : tickets + 1 < 2 ^ 63 → last_ticket history + 1 < 2 ^ 63
    fewer less = subst (λ n. n + 1 < 2 ^ 63) tickets_are less

    module _ (job : JobView) (from : IsJobFrom g old first.metric (record { sack = place.sack; number = tickets + 1 }) job) where
      claimable_job : IsClaimable history job.metric
      claimable_job = subst (IsClaimable history) (sym from.metric_is) claimable

      job_is : IsJobOf (next_claim place.sack job.metric history) counts job
      job_is =
          let some = some_pending old counts scratch.remembers first is_first.is legal_count in
          job_of g old counts has legal_count first.metric (record { sack = place.sack; number = tickets + 1 }) job from some.post some.rest some.is (next_claim place.sack job.metric history) from.metric_is
          (ap (λ (m : MetricId). turn_end m counts) from.metric_is)

      ticket_is : job.ticket ≡ record { sack = place.sack; number = last_ticket history + 1 }
      ticket_is = from.ticket_is ∙ ap (λ (n : ℕ). let t : Ticket = record { sack = place.sack; number = n + 1 } in t) tickets_are

      may_claim : MayClaim place.sack history job.ticket job.metric job.upto
      may_claim = record { whole = unbroken; free = claimable_job.free; first = claimable_job.first; upto_is = job_is.upto; ticket_is = ticket_is }

  abbrev Done : Entry → Type 0
  Done e = IsDone g place (ClaimsNow place.sack result) (λ l. None) old new w e history

  fails_done : (first : Mark) → HasFirst held old first → tickets + 1 < 2 ^ 63 → AreOnlyRead g old new → (e : SackFault) (fails : FailsRead g old new e) → result ≡ Err e → Done (failed_entry g old new e fails)
  fails_done first is_first less only e (failed f broken fault is) res = record {
    does = call_failed (on_disk f) ((first.metric, claimable first is_first), fewer first is_first less, (fault_risen g old new f fault, (None, inl refl, refl))) (res ∙ ap (λ x. Err x) is);
    scratch = broken_scratch only broken f.before f.after (ap (tickets_given tickets) res);
    moments = moments only;
  }
  fails_done first is_first less only e (damaged d broken none is) res =
      let last = sack_faults g (disks_of new) in
      record {
        does = call_failed (damage d) ((first.metric, claimable first is_first), fewer first is_first less, (last, last, no_less last, refl)) (res ∙ ap (λ x. Err x) is);
        scratch = broken_scratch only broken last last (ap (tickets_given tickets) res);
        moments = moments only;
      }
  fails_done first is_first less only e (starved whole_new lasting_new is) res = record {
    does = call_failed no_memory ((first.metric, claimable first is_first), tt, refl) (res ∙ ap (λ x. Err x) is);
    scratch = look_scratch only whole_new (lasting_new lasting) (ap (claim_given held) res) (ap (tickets_given tickets) res);
    moments = moments only;
  }

  pub claim_done : (p : ClaimsFrom g held place.sack tickets old new result) → Done (claim_entry g old new held place.sack tickets result p)
  claim_done (holds claim is same res) = record {
    does = call_given (claims.Held claim.ticket) (ap (option_map (λ (c : HeldClaim). c.ticket)) (sym held_is ∙ is), refl) res;
    scratch = look_scratch (only_same same) (whole_same same) (lasting_same same) (ap (claim_given held) res) (ap (tickets_given tickets) res);
    moments = moments (only_same same);
  }
  claim_done (nothing free none same res) = record {
    does = call_given claims.Nothing (free_is free, none_longest old counts scratch.remembers none, refl) res;
    scratch = look_scratch (only_same same) (whole_same same) (lasting_same same) (ap (claim_given held) res) (ap (tickets_given tickets) res);
    moments = moments (only_same same);
  }
  claim_done (spent first is_first last same res) = record {
    does = call_refused (sack_fault.Spent (record { counter = counter.Ticket; at = spent_at }))
        ((first.metric, claimable first is_first), sym (ap (λ n. n + 1) tickets_are) ∙ last_spent tickets last few, refl) refl res;
    scratch = look_scratch (only_same same) (whole_same same) (lasting_same same) (ap (claim_given held) res) (ap (tickets_given tickets) res);
    moments = moments (only_same same);
  }
  claim_done (given first job is_first less from only whole_new lasting_new res) = record {
    does = call_given (claims.Job job) (claimable_job first is_first job from, fewer first is_first less, job_is first is_first job from, ticket_is first is_first job from, refl) res;
    scratch = whole_scratch only whole_new (lasting_new lasting) (entries.Claim job.ticket job.metric job.upto) (may_claim first is_first job from) refl refl refl (ap (claim_given held) res) (ap (tickets_given tickets) res);
    moments = moments only;
  }
  claim_done (not_given first e is_first less only fails res) = fails_done first is_first less only e fails res

-- ---- the fault of a claim is real

module _ {D : Type 0} (g : Ghosts D) (came_none : (disk : D) → g.came 0 disk disk) (came_more : (m n : ℕ) (old new : D) → m ≤ n → g.came m old new → g.came n old new)
    (came_later : (n : ℕ) (old new : D) → g.came n old new → g.faults old ≤ g.faults new)
    (only_now : (disk : D) (image : List ℕ) → g.left_since disk (g.moment disk) image → g.may_leave disk image) (old new : Books D) where
  pub claim_only : (held : Option HeldClaim) (sack tickets : ℕ) (result : Result Claim SackFault) → ClaimsFrom g held sack tickets old new result → AreOnlyRead g old new
  claim_only held sack tickets result (holds claim is same res) = subst (AreOnlyRead g old) (sym same) (untouched g only_now came_none came_later old)
  claim_only held sack tickets result (nothing free none same res) = subst (AreOnlyRead g old) (sym same) (untouched g only_now came_none came_later old)
  claim_only held sack tickets result (spent first has last same res) = subst (AreOnlyRead g old) (sym same) (untouched g only_now came_none came_later old)
  claim_only held sack tickets result (given first job has few from only whole lasting res) = only
  claim_only held sack tickets result (not_given first e has few only fails res) = only

  rises : AreOnlyRead g old new → sack_faults g (disks_of old) ≤ sack_faults g (disks_of new)
  rises only = faults_later g came_later 0 0 0 (disks_of old) (disks_of new) (read_came g old new only came_none came_more)

  -- damage is real where no list may have counted before
  module _ (N : Type 0) (none : ((d : Durable) → HasDurable g old d → ⊥) → N) where
    fails_real : AreOnlyRead g old new → (e : SackFault) (fails : FailsRead g old new e) → AreReal N (sack_faults g (disks_of old)) (failed_entry g old new e fails ∷ []) (sack_faults g (disks_of new))
    fails_real only e (failed f broken fault is) = fault_real g old new f fault None N
    fails_real only e (damaged d broken keeps is) = (inr (inr (refl, refl, none (never_none g old new only keeps))), rises only, no_less (sack_faults g (disks_of new)))
    fails_real only e (starved whole lasting is) = rises only

    pub claim_real : (held : Option HeldClaim) (sack tickets : ℕ) (result : Result Claim SackFault) (p : ClaimsFrom g held sack tickets old new result)
        → AreReal N (sack_faults g (disks_of old)) (claim_entry g old new held sack tickets result p ∷ []) (sack_faults g (disks_of new))
    claim_real held sack tickets result (holds claim is same res) = rises (claim_only held sack tickets result (holds claim is same res))
    claim_real held sack tickets result (nothing free all same res) = rises (claim_only held sack tickets result (nothing free all same res))
    claim_real held sack tickets result (spent first has last same res) = rises (claim_only held sack tickets result (spent first has last same res))
    claim_real held sack tickets result (given first job has few from only whole lasting res) = rises only
    claim_real held sack tickets result (not_given first e has few only fails res) = fails_real only e fails
