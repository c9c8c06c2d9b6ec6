-- A claim of a sack, which mounts its books first where they are broken.
use Rattle.std.proofs.Common.{◌≡◌, ◌≢◌, ◌⊎◌, ℕ, ◌+◌, ◌^◌, ◌<◌, ◌≤◌, Bool, true, cond, List, Option, Some, None, Result, Ok, Err, refl, sym, ap, subst, ◌∙◌}
use Rattle.std.specs.Bool.{⊤}
use Rattle.std.specs.Option.{IfSome, MatchOption, is_some, option_map}
use Rattle.std.specs.Result.{IfErr, IfOk}
use Rattle.gno_disk.specs.Disk.{TimeGoesOn}
use Rattle.gno_disk.specs.Phases.{AreUnwritten}
use Rattle.gno_disk.specs.declared.disk.Disk.{Ghosts}
use Rattle.gno_num.specs.declared.faults.Counter.TheVariants as counter
use Rattle.gno_num.specs.declared.faults.Spent.{Spent}
use Rattle.series_model.specs.declared.ticket.Ticket.{Ticket}
use Rattle.gate_log.specs.LogView.{MatchMountFault}
use Rattle.gate_log.specs.declared.fault.MountFault.{MountFault}
use Rattle.log_pair.specs.declared.place.Place.{Place}
use Rattle.sack_history.specs.declared.entry.Entry.{Entry}
use Rattle.sack_history.specs.declared.fault.Claim.{Claim}
use Rattle.sack_history.specs.declared.fault.Claim.TheVariants as claims
use Rattle.sack_history.specs.declared.fault.SackFault.{SackFault}
use Rattle.sack_history.specs.declared.fault.SackFault.TheVariants as sack_fault
use Rattle.sack_history.specs.declared.holding.HeldClaim.{HeldClaim}
use Rattle.sack_history.specs.Calls.{ClaimsNow, IsClaiming, spent_at}
use Rattle.sack_history.specs.Scratch.{Durable}
use Rattle.sack_history.specs.Failing.{sack_failure}
use Rattle.sack_state.specs.declared.books.Books.{Books}
use Rattle.sack_state.specs.declared.disks.Opening.{Opening}
use Rattle.sack_state.specs.declared.holding.Keeping.{Keeping}
use Rattle.sack_state.specs.declared.holding.Keeping.TheVariants.{Mounted}
use Rattle.sack_state.specs.Books.{AreLasting, AreOfPlace, AreWhole}
use Rattle.sack_state.specs.Claiming.{AreOnlyRead, ClaimsFrom, FailsRead, KeepsNone, claim_given, damaged, failed, given as job_given, holds, not_given, nothing, spent, starved, tickets_given}
use Rattle.sack_state.specs.Disks.{CameWithin, IsSackFault, sack_phases}
use Rattle.sack_state.specs.Holding.{StaysBroken, TakesBooks, are_broken, state_of}
use Rattle.sack_state.specs.SackCalls.{HasTicketOf, MatchOnDisk, entries_of_call}
use Rattle.sack_state.specs.SackView.{HasDurable, HasNoEarlier, StandsAfter, StandsFor, capped}
use Rattle.sack_state.proofs.CallFacts.{call_came, call_fault, failure_is, failure_of, refused_as}
use Rattle.sack_state.proofs.CallLemmas.{call_after_if, failed_after, view_of}
use Rattle.sack_state.proofs.ClaimDone.{claim_done, claim_entry, claim_only, claim_real}
use Rattle.sack_state.proofs.ClaimEntry.{never_none, read_came, read_unwritten}
use Rattle.sack_state.proofs.ReadCalls.{call_reads, damage_none}
use Rattle.sack_state.proofs.PostCalls.{taken_lasting, taken_whole}

module _ {D : Type 0} (g : Ghosts D) (tells : (n : ℕ) (old new : D) → g.came n old new → is_some (g.told new) ≡ is_some (g.told old)) (reads : (disk : D) → IfSome (g.told disk) (g.may_leave disk)) (came_none : (disk : D) → g.came 0 disk disk)
    (came_more : (m n : ℕ) (old new : D) → m ≤ n → g.came m old new → g.came n old new) (came_then : (m n : ℕ) (old mid new : D) → g.came m old mid → g.came n mid new → g.came (m + n) old new)
    (came_later : (n : ℕ) (old new : D) → g.came n old new → g.faults old ≤ g.faults new)
    (goes_on : (n : ℕ) (a b : D) → g.came n a b → TimeGoesOn (g.moment a) (g.moment b) (g.left_since a) (g.left_since b))
    (only_now : (disk : D) (image : List ℕ) → g.left_since disk (g.moment disk) image → g.may_leave disk image)
    (place : Place) (opening : Opening D) (keeping then : Option (Keeping D)) (claim left : Option HeldClaim) (tickets given n k : ℕ) where
  abbrev time : (n : ℕ) (a b : D) → g.came n a b → g.moment a ≤ g.moment b
  time n a b came = (goes_on n a b came).later

  -- the books were taken
  module _ (few : tickets < 2 ^ 63) (books new : Books D) (anew : Bool) (result : Result Claim SackFault) (takes : TakesBooks g place keeping books anew) (of_place : AreOfPlace place books) (then_is : then ≡ Some (Mounted new))
      (outcome : ClaimsFrom g (cond anew None claim) place.sack tickets books new result) where
    abbrev whole : AreWhole books
    whole = taken_whole g place keeping books anew takes

    abbrev lasting : AreLasting g books
    lasting = taken_lasting g place keeping books anew takes

    pub claim_stands : left ≡ cond (are_broken new) None (claim_given (cond anew None claim) result) → given ≡ tickets_given tickets result → k ≡ capped (n + entries_of_call anew)
        → (h : List Entry) → StandsFor g h (view_of keeping place opening claim tickets n)
        → StandsAfter g h (λ _. None) (view_of keeping place opening claim tickets n) (view_of then place opening left given k) (IsClaiming place.sack result)
    claim_stands left_claim given_is count h stands = call_after_if g tells reads came_later place opening keeping then claim left tickets given n k None
        (ClaimsNow place.sack result) (λ failure. result ≡ Err (sack_failure failure)) (λ _. None) books new anew then_is (claim_entry g books new (cond anew None claim) place.sack tickets result outcome) count
        (λ none. claim_real g came_none came_more came_later only_now books new (HasNoEarlier g place opening) none (cond anew None claim) place.sack tickets result outcome)
        (λ v v_place held v_tickets history scratch. claim_done g tells came_none came_more came_later time only_now place books new whole lasting of_place (cond anew None claim) tickets result few
        v (view_of then place opening left given k) v_place refl held v_tickets left_claim given_is history scratch outcome)
        takes h stands

    pub claim_came : MatchOption (option_map state_of keeping) ⊥ (λ s. MatchOption (option_map state_of then) ⊥ (λ t. CameWithin g 2 2 1 s.disks t.disks))
    claim_came = call_came g came_none came_more came_then came_later place keeping then books new anew takes then_is 0 0 0
        (read_came g books new (claim_only g came_none came_more came_later only_now books new (cond anew None claim) place.sack tickets result outcome) came_none came_more)

    abbrev only : AreOnlyRead g books new
    only = claim_only g came_none came_more came_later only_now books new (cond anew None claim) place.sack tickets result outcome

    pub claim_reads : MatchOption (option_map state_of keeping) ⊥ (λ s. MatchOption (option_map state_of then) ⊥ (λ t. AreUnwritten g (sack_phases s.disks t.disks)))
    claim_reads = call_reads g goes_on place keeping then books new anew takes then_is (read_came g books new only came_none came_more) (read_unwritten g books new only only_now)

    -- what is told of its answer
    answers_with : (Given : Claim → Type 0) (Told : SackFault → Type 0) → ((claim : Claim) → result ≡ Ok claim → Given claim) → ((s : Spent) → Told (sack_fault.Spent s)) → ((e : SackFault) → FailsRead g books new e → Told e)
        → IfOk result Given × IfErr result Told
    answers_with Given Told given spent_told fails = by outcome
      where
        at : (r : Result Claim SackFault) → result ≡ r → IfOk r Given × IfErr r Told → IfOk result Given × IfErr result Told
        at r is told = subst (λ x. IfOk x Given × IfErr x Told) (sym is) told

        by : ClaimsFrom g (cond anew None claim) place.sack tickets books new result → IfOk result Given × IfErr result Told
        by (holds c is same res) = at (Ok (claims.Held c.ticket)) res (given (claims.Held c.ticket) res, tt)
        by (nothing free none same res) = at (Ok claims.Nothing) res (given claims.Nothing res, tt)
        by (spent first has last same res) = at (Err (sack_fault.Spent (record { counter = counter.Ticket; at = spent_at }))) res (tt, spent_told (record { counter = counter.Ticket; at = spent_at }))
        by (job_given first job has few_left from read whole_new lasting_new res) = at (Ok (claims.Job job)) res (given (claims.Job job) res, tt)
        by (not_given first e has few_left read fails_read res) = at (Err e) res (tt, fails e fails_read)

    pub claim_of_place : IfOk result (HasTicketOf place.sack)
    claim_of_place = by outcome
      where
        by : ClaimsFrom g (cond anew None claim) place.sack tickets books new result → IfOk result (HasTicketOf place.sack)
        by (holds c is same res) = subst (λ x. IfOk x (HasTicketOf place.sack)) (sym res) tt
        by (nothing free none same res) = subst (λ x. IfOk x (HasTicketOf place.sack)) (sym res) tt
        by (spent first has last same res) = subst (λ x. IfOk x (HasTicketOf place.sack)) (sym res) tt
        by (job_given first job has few_left from read whole_new lasting_new res) = subst (λ x. IfOk x (HasTicketOf place.sack)) (sym res) (ap (λ (t : Ticket). t.sack) from.ticket_is)
        by (not_given first e has few_left read fails_read res) = subst (λ x. IfOk x (HasTicketOf place.sack)) (sym res) tt

    pub claim_known : IfErr result (λ e. e ≢ sack_fault.Unknown)
    claim_known = (answers_with (λ c. ⊤) (λ e. e ≢ sack_fault.Unknown) (λ c is. tt) (λ s is. absurd cc) fails).1
      where
        fails : (e : SackFault) → FailsRead g books new e → e ≢ sack_fault.Unknown
        fails e (failed f broken fault is) wrong = let x = sym is ∙ wrong in absurd cc
        fails e (damaged d broken none is) wrong = let x = sym is ∙ wrong in absurd cc
        fails e (starved whole_new lasting_new is) wrong = let x = sym is ∙ wrong in absurd cc

    pub claim_cause : IfErr result (λ e. MatchOnDisk e (λ f. MatchOption (option_map state_of keeping) ⊥ (λ s. MatchOption (option_map state_of then) ⊥ (λ t. IsSackFault g s.disks t.disks f))) (MatchOption (option_map state_of keeping) ⊥ (λ s. (s.broken ≡ true) ⊎ KeepsNone g s.books)))
    claim_cause = (answers_with (λ c. ⊤) Told (λ c is. tt) (λ s. tt) fails).1
      where
        Told : SackFault → Type 0
        Told e = MatchOnDisk e (λ f. MatchOption (option_map state_of keeping) ⊥ (λ s. MatchOption (option_map state_of then) ⊥ (λ t. IsSackFault g s.disks t.disks f))) (MatchOption (option_map state_of keeping) ⊥ (λ s. (s.broken ≡ true) ⊎ KeepsNone g s.books))

        fails : (e : SackFault) → FailsRead g books new e → Told e
        fails e (failed f broken fault is) = subst Told (sym is) (call_fault g came_none came_more came_then came_later place keeping then books new anew takes then_is f fault)
        fails e (damaged d broken none is) = subst Told (sym is) (damage_none g place keeping books anew takes none)
        fails e (starved whole_new lasting_new is) = subst Told (sym is) tt

    pub claim_sound : (d : Durable) → HasDurable g books d → IfErr result (λ (e : SackFault). MatchOnDisk e (λ f. ⊤) ⊥)
    claim_sound d has = (answers_with (λ c. ⊤) (λ e. MatchOnDisk e (λ f. ⊤) ⊥) (λ c is. tt) (λ s. tt) fails).1
      where
        fails : (e : SackFault) → FailsRead g books new e → MatchOnDisk e (λ f. ⊤) ⊥
        fails e (failed f broken fault is) = subst (λ x. MatchOnDisk x (λ f. ⊤) ⊥) (sym is) tt
        fails e (damaged x broken none is) = absurd (never_none g books new only none d has)
        fails e (starved whole_new lasting_new is) = subst (λ x. MatchOnDisk x (λ f. ⊤) ⊥) (sym is) tt

  -- mounting failed
  pub unclaimed : (fault : MountFault) → StaysBroken g place keeping then fault → (r : SackFault) → MatchMountFault fault (λ f. r ≡ sack_fault.DiskFault f) (λ d. r ≡ sack_fault.Damaged d) (r ≡ sack_fault.Memory) → left ≡ claim → given ≡ tickets → k ≡ capped (n + 1)
      → (h : List Entry) → StandsFor g h (view_of keeping place opening claim tickets n)
      → StandsAfter g h (λ _. None) (view_of keeping place opening claim tickets n) (view_of then place opening left given k) (IsClaiming place.sack (Err r))
  unclaimed fault stays r is same_claim same_tickets count h stands = failed_after g tells reads came_later place opening keeping then claim left tickets given n k None
      (ClaimsNow place.sack (Err r)) (λ failure. (let x : Result Claim SackFault = Err r in x) ≡ Err (sack_failure failure)) (λ _. None) fault stays same_claim same_tickets count h stands
      (failure_of fault) (failure_is fault) (ap (λ x. Err x) (refused_as fault r is))
