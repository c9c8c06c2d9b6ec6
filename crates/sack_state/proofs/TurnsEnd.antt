-- How turns on the books of a sack end, and what they add to its history.
use Rattle.std.proofs.Common.{◌≡◌, ◌⊎◌, inl, inr, ℕ, zero, suc, ◌+◌, ◌<◌, ◌≤◌, true, false, cond, List, [], ◌∷◌, ◌++◌, length, take, Option, Some, None, Result, Ok, Err, refl, sym, ap, subst, ◌∙◌, append-nil, append_assoc, arith}
use Rattle.std.specs.List.{slice_get}
use Rattle.std.specs.Option.{is_some}
use Rattle.std.specs.Result.{is_ok}
use Rattle.std.proofs.lemmas.Bool.{or_right}
use Rattle.std.proofs.lemmas.List.{length-append}
use Rattle.gno_num.specs.declared.faults.DiskFault.{DiskFault as Fault}
use Rattle.gno_disk.specs.Disk.{TimeGoesOn}
use Rattle.gno_disk.specs.Phases.{EachMoment}
use Rattle.gno_disk.specs.declared.disk.Disk.{Ghosts}
use Rattle.log_pair.specs.declared.place.Place.{Place}
use Rattle.series_model.specs.declared.metric.MetricId.{MetricId}
use Rattle.bound_series.specs.Jobs.{PreparedView}
use Rattle.sack_history.specs.declared.entry.Counted.{Counted}
use Rattle.sack_history.specs.declared.entry.Entry.{Entry}
use Rattle.sack_history.specs.declared.entry.Entry.TheVariants as entries
use Rattle.sack_history.specs.declared.fault.SackFault.{SackFault}
use Rattle.sack_history.specs.declared.fault.SackFault.TheVariants as sack_fault
use Rattle.sack_history.specs.declared.holding.HeldClaim.{HeldClaim}
use Rattle.sack_history.specs.Calls.{FailsAmong, done_or_look}
use Rattle.sack_history.specs.Entries.{all_counted, kept}
use Rattle.sack_history.specs.Failing.{Failure, FailsBehind, damage, no_memory, on_disk, sack_failure}
use Rattle.sack_history.specs.Holding.{held_claim, last_ticket}
use Rattle.sack_history.specs.Legal.{IsLegal}
use Rattle.sack_history.specs.Scratch.{Durable}
use Rattle.sack_history.specs.Turns.{next_turn, turns_by}
use Rattle.sack_history.proofs.Committed.{TurnIsFromScratch}
use Rattle.sack_history.proofs.Keeping.{kept-all_counted}
use Rattle.sack_state.specs.declared.books.Books.{Books}
use Rattle.sack_state.specs.Books.{AreLasting, AreOfPlace, AreWhole, disks_of}
use Rattle.gate_log.specs.LogView.{IsFault}
use Rattle.sack_history.specs.Calls.{IsJobOf}
use Rattle.sack_history.specs.Legal.{MayProcess}
use Rattle.sack_state.specs.Claiming.{AreOnlyRead, FailsRead, IsJobFrom}
use Rattle.sack_state.specs.Committing.{HasNotWritten, IsReadied, TakesTurn, TakesTurns, TurnsTaken, WritesTurn, no_ticket, broke, ended, entries_of_turns, failed_at, more, none, took, turn_due, unread, unwritten, written}
use Rattle.sack_state.specs.Disks.{OfFive, sack_faults, sack_phases}
use Rattle.sack_state.specs.Holding.{are_broken}
use Rattle.sack_state.specs.SackHolding.{AreOfHistory, AreOldOrWritten}
use Rattle.sack_state.specs.SackTurns.{AreWithTurns, AtTurns, more as more_turns}
use Rattle.sack_state.specs.SackView.{AreReal, HasDurable, IsScratch, SackState, SackView}
use Rattle.incoming.specs.IncomingView.{IncomingView}
use Rattle.sack_state.proofs.ClaimEntry.{read_place}
use Rattle.sack_state.proofs.CommitDone.{done_of_work, same_fault, written_rises, wrote_failed, wrote_moments}
use Rattle.sack_state.proofs.DoneLemmas.{state_with, whole_books}
use Rattle.sack_state.proofs.DueLemmas.{none_left, whose}
use Rattle.sack_state.proofs.EntryLemmas.{fault_real, fault_risen}
use Rattle.sack_state.proofs.ReadDone.{fail_entry, failure_by, failure_is, fails_behind, fails_real as read_real, read_failed, read_look, read_moments, read_rises}
use Rattle.sack_state.proofs.ReadingLemmas.{untouched}
use Rattle.sack_state.proofs.RealLemmas.{AreReal-append}
use Rattle.sack_state.proofs.TurnsWalk.{IsNext, Walked, claim, due_then, job_now, may, next, next_is, piece, taken_by, walked}

-- ---- a sack as other fields show it

pub scratch_seen : {D : Type 0} (g : Ghosts D) (v w : SackView D) (s : SackState D) (history : List Entry) → w.place ≡ v.place → w.held ≡ v.held → w.tickets ≡ v.tickets → IsScratch g v s history → IsScratch g w s history
scratch_seen g v w s history place held tickets scratch = record {
  legal = subst (λ (p : Place). IsLegal p.sack history) (sym place) scratch.legal;
  broken = scratch.broken;
  held = held ∙ scratch.held;
  tickets = tickets ∙ scratch.tickets;
  remembers = scratch.remembers;
  has = scratch.has;
  tell = scratch.tell;
  images = subst (λ (p : Place). (a b z c e : List ℕ) → g.may_leave s.disks.incoming_a a → g.may_leave s.disks.incoming_b b → g.may_leave s.disks.blocks z → g.may_leave s.disks.shelf_a c → g.may_leave s.disks.shelf_b e → AreOfHistory p history a b z c e) (sym place) scratch.images;
}

-- ---- what turns add

abbrev pub failed_entry : {D : Type 0} (g : Ghosts D) (of : Option MetricId) (metric : MetricId) (mid new : Books D) (e : SackFault) → TakesTurn g metric mid new (Err e) → Entry
failed_entry g of metric mid new e (took p (written mid_read ready same writes has whole lasting is)) = entries.Look of
failed_entry g of metric mid new e (took p (broke mid_read f ready same writes has fault is)) = entries.Fault (Some (done_of_work p)) f.before f.after
failed_entry g of metric mid new e (took p (unwritten x only fails is)) = fail_entry g mid new of x fails
failed_entry g of metric mid new e (unread x only fails is) = fail_entry g mid new of x fails

abbrev pub turns_own : {D : Type 0} (g : Ghosts D) (of only : Option MetricId) (most : ℕ) (held : Option HeldClaim) (old new : Books D) (result : Result (Unit {0}) SackFault) (turns : ℕ) (left : Option HeldClaim)
    → TakesTurns g only most held old new result turns left → List Entry
turns_own g of only most held old new result turns left (ended t le last whole lasting res) = done_or_look of (taken_by g only held old new turns left t)
turns_own g of only most held old new result turns left (failed_at mid metric e t less whole lasting due take res) = all_counted (taken_by g only held old mid turns left t) ++ failed_entry g of metric mid new e take ∷ []

-- their number
taken_number : {D : Type 0} (g : Ghosts D) (only : Option MetricId) (held : Option HeldClaim) (old new : Books D) (turns : ℕ) (left : Option HeldClaim) (t : TurnsTaken g only held old new turns left) → length (taken_by g only held old new turns left t) ≡ turns
taken_number g only held old new turns left (none _ _ _ same zero_turns same_claim) = sym zero_turns
taken_number g only held old new turns left (more _ mid _ before _ between metric t due take one past) =
    length-append (taken_by g only held old mid before between t) _ ∙ ap (λ n. n + 1) (taken_number g only held old mid before between t) ∙ plus_one before ∙ sym one
  where
    plus_one : (n : ℕ) → n + 1 ≡ suc n
    plus_one n = omega arith

counted_length : (cs : List Counted) → length (all_counted cs) ≡ length cs
counted_length [] = refl
counted_length (c ∷ cs) = ap suc (counted_length cs)

looked_length : (of : Option MetricId) (cs : List Counted) → length (done_or_look of cs) ≡ entries_of_turns (length cs) true
looked_length of [] = refl
looked_length of (c ∷ cs) = ap suc (counted_length cs)

failed_length : (n : ℕ) → n + 1 ≡ entries_of_turns n false
failed_length zero = refl
failed_length (suc n) = omega arith

pub own_length : {D : Type 0} (g : Ghosts D) (of only : Option MetricId) (most : ℕ) (held : Option HeldClaim) (old new : Books D) (result : Result (Unit {0}) SackFault) (turns : ℕ) (left : Option HeldClaim)
    (t : TakesTurns g only most held old new result turns left) → length (turns_own g of only most held old new result turns left t) ≡ entries_of_turns turns (is_ok result)
own_length g of only most held old new result turns left (ended t le last whole lasting res) =
    looked_length of (taken_by g only held old new turns left t) ∙ ap (λ n. entries_of_turns n true) (taken_number g only held old new turns left t)
    ∙ sym (ap (λ (r : Result (Unit {0}) SackFault). entries_of_turns turns (is_ok r)) res)
own_length g of only most held old new result turns left (failed_at mid metric e t less whole lasting due take res) =
    length-append (all_counted (taken_by g only held old mid turns left t)) _ ∙ ap (λ n. n + 1) (counted_length (taken_by g only held old mid turns left t) ∙ taken_number g only held old mid turns left t) ∙ failed_length turns
    ∙ sym (ap (λ (r : Result (Unit {0}) SackFault). entries_of_turns turns (is_ok r)) res)

-- ---- faults

no_less : (a : ℕ) → a ≤ a
no_less a = omega arith

real_counted : (N : Type 0) (low now : ℕ) (cs : List Counted) → low ≤ now → AreReal N low (all_counted cs) now
real_counted N low now [] le = le
real_counted N low now (c ∷ cs) le = real_counted N low now cs le

real_looked : (N : Type 0) (low now : ℕ) (of : Option MetricId) (cs : List Counted) → low ≤ now → AreReal N low (done_or_look of cs) now
real_looked N low now of [] le = le
real_looked N low now of (c ∷ cs) le = real_counted N low now cs le

later_than : {a b c : ℕ} → a ≤ b → b ≤ c → a ≤ c
later_than h k = omega (arith, h, k)

module _ {D : Type 0} (g : Ghosts D) (came_none : (disk : D) → g.came 0 disk disk) (came_more : (m n : ℕ) (old new : D) → m ≤ n → g.came m old new → g.came n old new)
    (came_then : (m n : ℕ) (old mid new : D) → g.came m old mid → g.came n mid new → g.came (m + n) old new) (came_later : (n : ℕ) (old new : D) → g.came n old new → g.faults old ≤ g.faults new)
    (only_now : (disk : D) (image : List ℕ) → g.left_since disk (g.moment disk) image → g.may_leave disk image) (only : Option MetricId) (held : Option HeldClaim) (old : Books D) where
  turn_rises : (metric : MetricId) (mid new : Books D) (result : Result (Unit {0}) SackFault) → TakesTurn g metric mid new result → sack_faults g (disks_of mid) ≤ sack_faults g (disks_of new)
  turn_rises metric mid new result (took p (written mid_read ready same writes has whole lasting is)) = written_rises g came_none came_more came_then came_later only_now mid new p mid_read ready.read same writes
  turn_rises metric mid new result (took p (broke mid_read f ready same writes has fault is)) = written_rises g came_none came_more came_then came_later only_now mid new p mid_read ready.read same writes
  turn_rises metric mid new result (took p (unwritten x read fails is)) = read_rises g came_none came_more came_later mid new read ⊥
  turn_rises metric mid new result (unread x read fails is) = read_rises g came_none came_more came_later mid new read ⊥

  pub turns_rise : (new : Books D) (turns : ℕ) (left : Option HeldClaim) → TurnsTaken g only held old new turns left → sack_faults g (disks_of old) ≤ sack_faults g (disks_of new)
  turns_rise new turns left (none _ _ _ same zero_turns same_claim) = subst (λ (b : Books D). sack_faults g (disks_of old) ≤ sack_faults g (disks_of b)) (sym same) (no_less (sack_faults g (disks_of old)))
  turns_rise new turns left (more _ mid _ before _ between metric t due take one past) = later_than (turns_rise mid before between t) (turn_rises metric mid new (Ok tt) take)

  module _ (N : Type 0) (of : Option MetricId) (most : ℕ) where
    fails_real : (mid new : Books D) → (((d : Durable) → HasDurable g mid d → ⊥) → N) → (metric : MetricId) (e : SackFault) (take : TakesTurn g metric mid new (Err e))
        → AreReal N (sack_faults g (disks_of mid)) (failed_entry g of metric mid new e take ∷ []) (sack_faults g (disks_of new))
    fails_real mid new none_now metric e (took p (written mid_read ready same writes has whole lasting is)) = absurd cc
    fails_real mid new none_now metric e (took p (broke mid_read f ready same writes has fault is)) = fault_real g mid new f fault (Some (done_of_work p)) N
    fails_real mid new none_now metric e (took p (unwritten x read fails is)) = read_real g came_none came_more came_later mid new read N none_now of x fails
    fails_real mid new none_now metric e (unread x read fails is) = read_real g came_none came_more came_later mid new read N none_now of x fails

    -- damage is real where the books that were read have no durable state
    pub turns_real : (new : Books D) (result : Result (Unit {0}) SackFault) (turns : ℕ) (left : Option HeldClaim) (t : TakesTurns g only most held old new result turns left)
        → ((mid : Books D) (k : ℕ) (between : Option HeldClaim) → TurnsTaken g only held old mid k between → k ≤ most → ((d : Durable) → HasDurable g mid d → ⊥) → N)
        → AreReal N (sack_faults g (disks_of old)) (turns_own g of only most held old new result turns left t) (sack_faults g (disks_of new))
    turns_real new result turns left (ended t le last whole lasting res) none_now = real_looked N _ _ of (taken_by g only held old new turns left t) (turns_rise new turns left t)
    turns_real new result turns left (failed_at mid metric e t less whole lasting due take res) none_now =
        AreReal-append N (sack_faults g (disks_of old)) (all_counted (taken_by g only held old mid turns left t)) (failed_entry g of metric mid new e take ∷ []) (sack_faults g (disks_of mid)) (sack_faults g (disks_of new))
        (real_counted N _ _ (taken_by g only held old mid turns left t) (turns_rise mid turns left t))
        (fails_real mid new (none_now mid turns left t (omega (arith, less))) metric e take)

-- ---- by a history

-- how a call that took turns ended, where these turns were due: it took all, or failed behind some
pub data EndsSo (of : Option MetricId) (turns : List Counted) (number : ℕ) (result : Result (Unit {0}) SackFault) (own : List Entry) : Type 0 where
  ends : own ≡ done_or_look of turns → length turns ≡ number → result ≡ Ok tt → EndsSo of turns number result own
  fails : (failure : Failure) → FailsAmong turns of failure own → result ≡ Err (sack_failure failure) → EndsSo of turns number result own

-- the sack is as the history with these entries says, and at every moment it was as the turns say
pub record IsTurnedTo {D : Type 0} (g : Ghosts D) (place : Place) (turns : List Counted) (old new : Books D) (w : SackView D) (start own : List Entry) : Type 0 where
  pub scratch : IsScratch g w (state_with new) (start ++ own)
  pub pieces : ℕ
  pub at : AtTurns g (AreWithTurns place (kept start) turns) (disks_of old) (disks_of new) pieces

no_sum : (left : ℕ) → (n : ℕ) → n + left ≡ n → left ≡ 0
no_sum left n is = omega (arith, is)

within_sum : (a b : ℕ) → a ≤ a + b
within_sum a b = omega arith

module _ {D : Type 0} (g : Ghosts D) (turn : TurnIsFromScratch) (tells : (n : ℕ) (old new : D) → g.came n old new → is_some (g.told new) ≡ is_some (g.told old)) (came_none : (disk : D) → g.came 0 disk disk)
    (came_more : (m n : ℕ) (old new : D) → m ≤ n → g.came m old new → g.came n old new) (came_then : (m n : ℕ) (old mid new : D) → g.came m old mid → g.came n mid new → g.came (m + n) old new)
    (came_later : (n : ℕ) (old new : D) → g.came n old new → g.faults old ≤ g.faults new)
    (goes_on : (n : ℕ) (old new : D) → g.came n old new → TimeGoesOn (g.moment old) (g.moment new) (g.left_since old) (g.left_since new))
    (only_now : (disk : D) (image : List ℕ) → g.left_since disk (g.moment disk) image → g.may_leave disk image)
    (place : Place) (view : Option HeldClaim → SackView D) (view_place : (o : Option HeldClaim) → (view o).place ≡ place) (view_held : (o : Option HeldClaim) → (view o).held ≡ o) (view_tickets : (o p : Option HeldClaim) → (view o).tickets ≡ (view p).tickets)
    (only : Option MetricId) (most : ℕ) (held : Option HeldClaim) (old : Books D) (start : List Entry)
    (start_scratch : IsScratch g (view held) (record { disks = disks_of old; books = old; broken = false }) start) (start_whole : AreWhole old) (start_lasting : AreLasting g old) (start_place : AreOfPlace place old)
    (of : Option MetricId) (new : Books D) (turns : ℕ) (left : Option HeldClaim) (result : Result (Unit {0}) SackFault) (w : SackView D) (w_place : w.place ≡ place) (w_tickets : w.tickets ≡ (view held).tickets) (w_held : w.held ≡ cond (are_broken new) None left) where
  abbrev due : List Counted
  due = turns_by (whose only) most (kept start)

  abbrev Walk : Books D → ℕ → Option HeldClaim → List Counted → Type 0
  Walk mid k between taken = Walked g turn tells came_none came_more came_then came_later goes_on only_now place view view_place view_held view_tickets only most held old start mid k between taken

  pub walk : (mid : Books D) (k : ℕ) (between : Option HeldClaim) (t : TurnsTaken g only held old mid k between) → k ≤ most
      → Walked g turn tells came_none came_more came_then came_later goes_on only_now place view view_place view_held view_tickets only most held old start mid k between (taken_by g only held old mid k between t)
  walk mid k between t le = walked g turn tells came_none came_more came_then came_later goes_on only_now place view view_place view_held view_tickets only most held old start start_scratch start_whole start_lasting start_place mid k between t le

  seen_tickets : (between : Option HeldClaim) → w.tickets ≡ (view between).tickets
  seen_tickets between = w_tickets ∙ view_tickets held between

  -- ---- all turns were taken

  module _ (t : TurnsTaken g only held old new turns left) (le : turns ≤ most) (last : (turn_due only new ≡ None) ⊎ (turns ≡ most)) (whole : AreWhole new) where
    abbrev taken : List Counted
    taken = taken_by g only held old new turns left t

    here : Walk new turns left taken
    here = walk new turns left t le

    no_more : turns_by (whose only) here.left (kept start ++ taken) ≡ []
    no_more = by last
      where
        by : (turn_due only new ≡ None) ⊎ (turns ≡ most) → turns_by (whose only) here.left (kept start ++ taken) ≡ []
        by (inl none_due) = none_left only here.left (kept start ++ taken)
            (sym (due_then g turn tells came_none came_more came_then came_later goes_on only_now place view view_place view_held view_tickets only most held old start new turns left taken here) ∙ none_due)
        by (inr all) = ap (λ n. turns_by (whose only) n (kept start ++ taken)) (no_sum here.left turns (here.sum ∙ sym all))

    all_taken : turns_by (whose only) most (kept start) ≡ taken
    all_taken = here.path ∙ ap (λ l. taken ++ l) no_more ∙ append-nil taken

    not_broken : w.held ≡ left
    not_broken = w_held ∙ ap (λ b. cond b None left) (whole_books new whole)

    seen : IsScratch g w (record { disks = disks_of new; books = new; broken = false }) (start ++ all_counted taken)
    seen = scratch_seen g (view left) w (record { disks = disks_of new; books = new; broken = false }) (start ++ all_counted taken) (w_place ∙ sym (view_place left)) (not_broken ∙ sym (view_held left)) (seen_tickets left) here.scratch

    ended_scratch : (cs : List Counted) → taken ≡ cs → IsScratch g w (state_with new) (start ++ done_or_look of cs)
    ended_scratch [] is =
        let at_start = subst (IsScratch g w (record { disks = disks_of new; books = new; broken = false })) (ap (λ l. start ++ all_counted l) is ∙ append-nil start) seen in
        read_look g tells came_none came_more (λ n a b came. (goes_on n a b came).later) only_now place new new whole here.lasting here.of_place (untouched g only_now came_none came_later new) w w w_place w_place start at_start
        at_start.tickets of whole here.lasting at_start.held
    ended_scratch (c ∷ cs) is =
        subst (λ b. IsScratch g w (record { disks = disks_of new; books = new; broken = b }) (start ++ all_counted (c ∷ cs))) (sym (whole_books new whole))
        (subst (λ l. IsScratch g w (record { disks = disks_of new; books = new; broken = false }) (start ++ all_counted l)) is seen)

    pub ended_to : IsTurnedTo g place (turns_by (whose only) most (kept start)) old new w start (done_or_look of (taken_by g only held old new turns left t))
    ended_to = record { scratch = ended_scratch taken refl; pieces = turns; at = here.at }

  -- ---- one failed

  module _ (mid : Books D) (metric : MetricId) (e : SackFault) (t : TurnsTaken g only held old mid turns left) (less : turns < most) (due_now : turn_due only mid ≡ Some metric) (failing : TakesTurn g metric mid new (Err e)) where
    abbrev taken_before : List Counted
    taken_before = taken_by g only held old mid turns left t

    there : Walk mid turns left taken_before
    there = walk mid turns left t (omega (arith, less))

    abbrev history : List Entry
    history = start ++ all_counted taken_before

    its_next : IsNext g turn tells came_none came_more came_then came_later goes_on only_now place view view_place view_held view_tickets only most held old start taken_before metric there.left
    its_next = next g turn tells came_none came_more came_then came_later goes_on only_now place view view_place view_held view_tickets only most held old start mid turns left taken_before there less metric due_now

    abbrev its_claim : HeldClaim
    its_claim = claim g turn tells came_none came_more came_then came_later goes_on only_now place view view_place view_held view_tickets only most held old start mid turns left taken_before there less metric due_now

    few : length taken_before ≤ length due
    few = subst (λ n. length taken_before ≤ n) (sym (ap length its_next.path ∙ length-append taken_before _)) (within_sum (length taken_before) _)

    joined : (x : Entry) → (start ++ all_counted taken_before) ++ x ∷ [] ≡ start ++ (all_counted taken_before ++ x ∷ [])
    joined x = append_assoc start (all_counted taken_before) (x ∷ [])

    left_then : w.held ≡ cond (are_broken new) None (held_claim history)
    left_then = w_held ∙ ap (λ o. cond (are_broken new) None o) (sym (view_held left) ∙ there.scratch.held)

    tickets_then : w.tickets ≡ last_ticket history
    tickets_then = seen_tickets left ∙ there.scratch.tickets

    -- how it failed
    fails_among : (failure : Failure) (tried : Option Counted) (x : Entry) → (tried ≡ None) ⊎ (tried ≡ Some (next_turn metric (kept start ++ taken_before))) → FailsBehind [] tried of failure (x ∷ [])
        → FailsAmong (turns_by (whose only) most (kept start)) of failure (all_counted taken_before ++ x ∷ [])
    fails_among no_memory tried x may own =
        (length taken_before, few, ap (λ l. all_counted taken_before ++ l) own ∙ ap (λ l. all_counted l ++ entries.Look of ∷ []) (sym its_next.first))
    fails_among (on_disk f) tried x may (risen, (was, is, own)) =
        (length taken_before, few, (risen, (was, tried_is may is, ap (λ l. all_counted taken_before ++ l) own ∙ ap (λ l. all_counted l ++ entries.Fault was f.before f.after ∷ []) (sym its_next.first))))
      where
        tried_is : (tried ≡ None) ⊎ (tried ≡ Some (next_turn metric (kept start ++ taken_before))) → (was ≡ None) ⊎ (was ≡ tried) → (was ≡ None) ⊎ (was ≡ slice_get due (length taken_before))
        tried_is m (inl none_tried) = inl none_tried
        tried_is (inl none_tried) (inr same) = inl (same ∙ none_tried)
        tried_is (inr next_tried) (inr same) = inr (same ∙ next_tried ∙ sym its_next.then)
    fails_among (damage d) tried x may (before, after, le, own) =
        (length taken_before, few, (before, after, le, ap (λ l. all_counted taken_before ++ l) own ∙ ap (λ l. all_counted l ++ entries.Fault None before after ∷ []) (sym its_next.first)))

    -- what a stop leaves of it
    piece_read : EachMoment g (sack_phases (disks_of mid) (disks_of new)) (OfFive (AreOldOrWritten place (kept history) (Some (next_turn metric (kept start ++ taken_before)))))
        → EachMoment g (sack_phases (disks_of mid) (disks_of new)) (OfFive (AreWithTurns place (kept start) (turns_by (whose only) most (kept start)) turns))
    piece_read moments =
        subst (λ (n : ℕ). EachMoment g (sack_phases (disks_of mid) (disks_of new)) (OfFive (AreOldOrWritten place (kept start ++ take n due) (slice_get due n)))) there.number
        (subst (λ (o : Option Counted). EachMoment g (sack_phases (disks_of mid) (disks_of new)) (OfFive (AreOldOrWritten place (kept start ++ take (length taken_before) due) o))) (sym its_next.then)
        (subst (λ (l : List Counted). EachMoment g (sack_phases (disks_of mid) (disks_of new)) (OfFive (AreOldOrWritten place (kept start ++ l) (Some (next_turn metric (kept start ++ taken_before)))))) (sym its_next.first)
        (subst (λ (cs : List Counted). EachMoment g (sack_phases (disks_of mid) (disks_of new)) (OfFive (AreOldOrWritten place cs (Some (next_turn metric (kept start ++ taken_before)))))) (kept-all_counted start taken_before) moments)))

    -- a read that failed
    module _ (x : SackFault) (read : AreOnlyRead g mid new) (fails_read : FailsRead g mid new x) (e_is : e ≡ x) where
      pub read_ends : result ≡ Err e → EndsSo of (turns_by (whose only) most (kept start)) turns result (all_counted taken_before ++ fail_entry g mid new of x fails_read ∷ [])
      read_ends res = fails (failure_by g mid new of x fails_read)
          (fails_among (failure_by g mid new of x fails_read) None (fail_entry g mid new of x fails_read) (inl refl) (fails_behind g mid new of x fails_read))
          (res ∙ ap (λ y. Err y) (e_is ∙ failure_is g mid new of x fails_read))

      pub read_to : IsTurnedTo g place (turns_by (whose only) most (kept start)) old new w start (all_counted taken_before ++ fail_entry g mid new of x fails_read ∷ [])
      read_to = record {
        scratch = subst (IsScratch g w (state_with new)) (joined (fail_entry g mid new of x fails_read))
            (read_failed g tells came_none came_more (λ n a b came. (goes_on n a b came).later) only_now place mid new there.whole there.lasting there.of_place read (view left) w (view_place left) w_place history there.scratch
            tickets_then left_then of x fails_read);
        pieces = suc turns;
        at = more_turns (disks_of new) (disks_of mid) (suc turns) turns there.at (piece_read
            (read_moments g tells came_none came_more (λ n a b came. (goes_on n a b came).later) only_now place mid new there.whole there.lasting there.of_place read (view left) w (view_place left) w_place history there.scratch
            tickets_then (Some (next_turn metric (kept start ++ taken_before))))) refl;
      }

    -- a disk that failed while it was written
    module _ (p : PreparedView) (mid_read : Books D) (f : Fault) (ready : IsReadied g (IsJobFrom g mid metric no_ticket) p mid mid_read) (same : new.incoming ≡ mid_read.incoming) (writes : WritesTurn g p mid_read.shelf new.shelf) (has : HasNotWritten g mid_read.shelf new.shelf)
        (fault : IsFault (sack_faults g (disks_of mid)) (sack_faults g (disks_of new)) f) (e_is : e ≡ sack_fault.DiskFault f) where
      job : IsJobOf its_claim (kept history) p.job
      job = job_now g turn tells came_none came_more came_then came_later goes_on only_now place view view_place view_held view_tickets only most held old start mid turns left taken_before there less metric due_now p.job ready.job

      may_now : MayProcess (kept history) its_claim.metric its_claim.upto
      may_now = may g turn tells came_none came_more came_then came_later goes_on only_now place view view_place view_held view_tickets only most held old start mid turns left taken_before there less metric due_now

      next_now : done_of_work p ≡ next_turn metric (kept start ++ taken_before)
      next_now = next_is g turn tells came_none came_more came_then came_later goes_on only_now place view view_place view_held view_tickets only most held old start mid turns left taken_before there less metric due_now p job

      pub broke_ends : result ≡ Err e → EndsSo of (turns_by (whose only) most (kept start)) turns result (all_counted taken_before ++ entries.Fault (Some (done_of_work p)) f.before f.after ∷ [])
      broke_ends res = fails (on_disk f)
          (fails_among (on_disk f) (Some (done_of_work p)) (entries.Fault (Some (done_of_work p)) f.before f.after) (inr (ap (λ (c : Counted). Some c) next_now)) (fault_risen g mid new f fault, (Some (done_of_work p), inr refl, refl)))
          (res ∙ ap (λ y. Err y) e_is)

      pub broke_to : IsTurnedTo g place (turns_by (whose only) most (kept start)) old new w start (all_counted taken_before ++ entries.Fault (Some (done_of_work p)) f.before f.after ∷ [])
      broke_to = record {
        scratch = subst (IsScratch g w (state_with new)) (joined (entries.Fault (Some (done_of_work p)) f.before f.after))
            (wrote_failed g turn tells came_none came_more came_then came_later goes_on only_now place mid new there.whole there.lasting there.of_place p (view left) w (view_place left) w_place history there.scratch
            its_claim may_now mid_read ready.read (ready.lasting there.lasting) same writes job ready.prepared has f.before f.after
            (left_then ∙ ap (λ b. cond b None (held_claim history)) (or_right new.incoming.broken new.shelf.broken has.broken)) tickets_then);
        pieces = suc turns;
        at = more_turns (disks_of new) (disks_of mid) (suc turns) turns there.at
            (piece g turn tells came_none came_more came_then came_later goes_on only_now place view view_place view_held view_tickets only most held old start mid turns left taken_before there less metric due_now p job (disks_of new)
            (wrote_moments g turn tells came_none came_more came_then came_later goes_on only_now place mid new there.whole there.lasting there.of_place p (view left) w (view_place left) w_place history there.scratch
            its_claim may_now mid_read ready.read (ready.lasting there.lasting) same writes job ready.prepared)) refl;
      }

    pub failed_ends : result ≡ Err e → EndsSo of (turns_by (whose only) most (kept start)) turns result (all_counted (taken_by g only held old mid turns left t) ++ failed_entry g of metric mid new e failing ∷ [])
    failed_ends res = by failing
      where
        by : (k : TakesTurn g metric mid new (Err e)) → EndsSo of (turns_by (whose only) most (kept start)) turns result (all_counted taken_before ++ failed_entry g of metric mid new e k ∷ [])
        by (took p (written mid_read ready same writes has whole lasting is)) = absurd cc
        by (took p (broke mid_read f ready same writes has fault is)) = broke_ends p mid_read f ready same writes has fault (same_fault e (sack_fault.DiskFault f) is) res
        by (took p (unwritten x read fails_read is)) = read_ends x read fails_read (same_fault e x is) res
        by (unread x read fails_read is) = read_ends x read fails_read (same_fault e x is) res

    pub failed_to : IsTurnedTo g place (turns_by (whose only) most (kept start)) old new w start (all_counted (taken_by g only held old mid turns left t) ++ failed_entry g of metric mid new e failing ∷ [])
    failed_to = by failing
      where
        by : (k : TakesTurn g metric mid new (Err e)) → IsTurnedTo g place (turns_by (whose only) most (kept start)) old new w start (all_counted taken_before ++ failed_entry g of metric mid new e k ∷ [])
        by (took p (written mid_read ready same writes has whole lasting is)) = absurd cc
        by (took p (broke mid_read f ready same writes has fault is)) = broke_to p mid_read f ready same writes has fault (same_fault e (sack_fault.DiskFault f) is)
        by (took p (unwritten x read fails_read is)) = read_to x read fails_read (same_fault e x is)
        by (unread x read fails_read is) = read_to x read fails_read (same_fault e x is)

  -- ---- both

  pub turns_end : (t : TakesTurns g only most held old new result turns left) → EndsSo of (turns_by (whose only) most (kept start)) turns result (turns_own g of only most held old new result turns left t)
  turns_end (ended t le last whole lasting res) = ends (ap (done_or_look of) (sym (all_taken t le last whole))) (ap length (all_taken t le last whole) ∙ taken_number g only held old new turns left t) res
  turns_end (failed_at mid metric e t less whole lasting due_now take res) = failed_ends mid metric e t less due_now take res

  pub turned_to : (t : TakesTurns g only most held old new result turns left) → IsTurnedTo g place (turns_by (whose only) most (kept start)) old new w start (turns_own g of only most held old new result turns left t)
  turned_to (ended t le last whole lasting res) = ended_to t le last whole
  turned_to (failed_at mid metric e t less whole lasting due_now take res) = failed_to mid metric e t less due_now take

-- ---- the books are of the sack's place still

module _ {D : Type 0} (g : Ghosts D) (place : Place) where
  turn_place : (metric : MetricId) (mid new : Books D) (result : Result (Unit {0}) SackFault) → TakesTurn g metric mid new result → AreOfPlace place mid → AreOfPlace place new
  turn_place metric mid new result (took p (written mid_read ready same writes has whole lasting is)) of_place = record {
    incoming = ap (λ (i : IncomingView D). i.place) same ∙ ready.read.place ∙ of_place.incoming;
    shelf = writes.place ∙ ready.read.shelf.place ∙ of_place.shelf;
  }
  turn_place metric mid new result (took p (broke mid_read f ready same writes has fault is)) of_place = record {
    incoming = ap (λ (i : IncomingView D). i.place) same ∙ ready.read.place ∙ of_place.incoming;
    shelf = writes.place ∙ ready.read.shelf.place ∙ of_place.shelf;
  }
  turn_place metric mid new result (took p (unwritten x read bad is)) of_place = read_place g mid new read place of_place
  turn_place metric mid new result (unread x read bad is) of_place = read_place g mid new read place of_place

  taken_place : (only : Option MetricId) (held : Option HeldClaim) (old new : Books D) (turns : ℕ) (left : Option HeldClaim) → TurnsTaken g only held old new turns left → AreOfPlace place old → AreOfPlace place new
  taken_place only held old new turns left (none _ _ _ same zero_turns same_claim) of_place = subst (λ (b : Books D). AreOfPlace place b) (sym same) of_place
  taken_place only held old new turns left (more _ mid _ before _ between metric t due take one past) of_place =
      turn_place metric mid new (Ok tt) take (taken_place only held old mid before between t of_place)

  pub turns_place : (only : Option MetricId) (most : ℕ) (held : Option HeldClaim) (old new : Books D) (result : Result (Unit {0}) SackFault) (turns : ℕ) (left : Option HeldClaim) → TakesTurns g only most held old new result turns left
      → AreOfPlace place old → AreOfPlace place new
  turns_place only most held old new result turns left (ended t le last whole lasting res) of_place = taken_place only held old new turns left t of_place
  turns_place only most held old new result turns left (failed_at mid metric e t less whole lasting due take res) of_place = turn_place metric mid new (Err e) take (taken_place only held old mid turns left t of_place)
