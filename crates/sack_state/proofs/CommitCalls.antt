-- A commit of a sack, which mounts its books first where they are broken.
use Rattle.std.proofs.Common.{◌≡◌, ◌⊎◌, arith, ℕ, [], ◌+◌, ◌≤◌, Bool, true, cond, ◌||◌, List, Option, Some, None, Result, Ok, Err, refl, sym, ap, subst, ◌∙◌}
use Rattle.std.specs.Bool.{⊤}
use Rattle.std.specs.Option.{IfSome, MatchOption, is_some, option_map}
use Rattle.std.specs.Result.{IfErr, is_ok}
use Rattle.gno_disk.specs.Disk.{TimeGoesOn}
use Rattle.gno_disk.specs.declared.disk.Disk.{Ghosts}
use Rattle.series_model.specs.declared.ticket.Ticket.{Ticket}
use Rattle.gno_num.specs.declared.faults.DiskFault.{DiskFault as Fault}
use Rattle.gate_log.specs.LogView.{IsFault, MatchMountFault}
use Rattle.gate_log.specs.declared.fault.MountFault.{MountFault}
use Rattle.log_pair.specs.declared.place.Place.{Place}
use Rattle.sack_history.specs.declared.entry.Entry.{Entry}
use Rattle.sack_history.specs.declared.fault.SackFault.{SackFault}
use Rattle.sack_history.specs.declared.fault.SackFault.TheVariants as sack_fault
use Rattle.sack_history.specs.declared.holding.HeldClaim.{HeldClaim}
use Rattle.sack_history.specs.Scratch.{Durable}
use Rattle.sack_history.specs.Failing.{Failure, damage, no_memory, on_disk, sack_failure}
use Rattle.sack_state.specs.declared.books.Books.{Books}
use Rattle.sack_state.specs.declared.disks.Opening.{Opening}
use Rattle.sack_state.specs.declared.holding.Keeping.{Keeping}
use Rattle.sack_state.specs.declared.holding.Keeping.TheVariants.{Mounted}
use Rattle.sack_state.specs.Books.{AreLasting, AreOfPlace, AreWhole, disks_of}
use Rattle.sack_state.specs.Claiming.{AreOnlyRead, FailsRead, KeepsNone, damaged, failed, starved}
use Rattle.sack_state.specs.Disks.{IsSackFault, sack_faults}
use Rattle.sack_state.specs.Holding.{StaysBroken, TakesBooks, are_broken, state_of}
use Rattle.sack_state.specs.SackCalls.{MatchOnDisk, entries_of_call}
use Rattle.sack_state.specs.SackView.{HasDurable, HasNoEarlier, StandsAfter, StandsFor, capped}
use Rattle.sack_state.proofs.CallFacts.{call_fault, failure_is, failure_of, refused_as}
use Rattle.sack_state.proofs.CallLemmas.{call_after_if, failed_after, view_of}
use Rattle.sack_state.proofs.ClaimEntry.{never_none}
use Rattle.sack_state.proofs.ReadCalls.{damage_none}
use Rattle.sack_state.proofs.PostCalls.{taken_lasting, taken_whole}
use Rattle.sack_history.specs.Scratch.{Durable}
use Rattle.sack_history.specs.declared.entry.Counted.TheVariants as counted
use Rattle.sack_history.specs.declared.fault.CommitFault.{CommitFault}
use Rattle.sack_history.specs.declared.fault.CommitFault.TheVariants as commit_fault
use Rattle.sack_history.specs.Calls.{CommitsNow, IsCommitting, commit_failure}
use Rattle.sack_history.proofs.Committed.{TurnIsFromScratch}
use Rattle.bound_series.specs.Jobs.{PreparedView}
use Rattle.incoming.specs.IncomingView.{IncomingView}
use Rattle.sack_state.proofs.DiskLemmas.{came_same}
use Rattle.sack_state.proofs.MomentLemmas.{still_disk}
use Rattle.sack_state.proofs.ReadingLemmas.{untouched}
use Rattle.sack_state.specs.Holding.{as_they_were, mounted_anew}
use Rattle.shelf_records.specs.Shelved.{Shelved}
use Rattle.split_store.specs.Turn.{WritesBlocks, none as none_written}
use Rattle.sack_state.specs.Committing.{CameByCommit, CommitsFrom, IsWork, WritesFrom, WritesTurn, broke, commit_fault_of, differs, done, not_held, undone, unwritten, written}
use Rattle.sack_state.specs.SackCalls.{HandsBack, MatchCommitOnDisk}
use Rattle.sack_state.proofs.CommitDone.{commit_done, commit_entry, commit_real, done_of_work, same_fault}

-- a fact of a fault of a disk, and one of damage, of how a commit answers a fault
pub told_of_commit : (p : PreparedView) (e : SackFault) (P : Fault → Type 0) (Q : Type 0) → MatchOnDisk e P Q → MatchCommitOnDisk (commit_fault_of p e) P Q
told_of_commit p (sack_fault.DiskFault f) P Q told = told
told_of_commit p (sack_fault.Damaged d) P Q told = told
told_of_commit p sack_fault.Unknown P Q told = tt
told_of_commit p (sack_fault.Spent s) P Q told = tt
told_of_commit p sack_fault.Memory P Q told = tt

pub handed_back : (p : PreparedView) (e : SackFault) → HandsBack p (commit_fault_of p e)
handed_back p (sack_fault.DiskFault f) = tt
handed_back p (sack_fault.Damaged d) = tt
handed_back p sack_fault.Unknown = refl
handed_back p (sack_fault.Spent s) = refl
handed_back p sack_fault.Memory = refl

pub handed_failure : (p : PreparedView) (x : Failure) → commit_fault_of p (sack_failure x) ≡ commit_failure p x
handed_failure p no_memory = refl
handed_failure p (on_disk f) = refl
handed_failure p (damage d) = refl

module _ {D : Type 0} (g : Ghosts D) (tells : (n : ℕ) (old new : D) → g.came n old new → is_some (g.told new) ≡ is_some (g.told old)) (reads : (disk : D) → IfSome (g.told disk) (g.may_leave disk)) (came_none : (disk : D) → g.came 0 disk disk)
    (came_more : (m n : ℕ) (old new : D) → m ≤ n → g.came m old new → g.came n old new) (came_then : (m n : ℕ) (old mid new : D) → g.came m old mid → g.came n mid new → g.came (m + n) old new)
    (came_later : (n : ℕ) (old new : D) → g.came n old new → g.faults old ≤ g.faults new)
    (goes_on : (n : ℕ) (a b : D) → g.came n a b → TimeGoesOn (g.moment a) (g.moment b) (g.left_since a) (g.left_since b))
    (only_now : (disk : D) (image : List ℕ) → g.left_since disk (g.moment disk) image → g.may_leave disk image)
    (place : Place) (opening : Opening D) (keeping then : Option (Keeping D)) (claim left : Option HeldClaim) (tickets n k : ℕ) (p : PreparedView) where
  -- the books were taken
  module _ (books new : Books D) (anew : Bool) (result : Result ℕ CommitFault) (takes : TakesBooks g place keeping books anew) (of_place : AreOfPlace place books) (then_is : then ≡ Some (Mounted new))
      (outcome : CommitsFrom g (cond anew None claim) p books new result) where
    abbrev whole : AreWhole books
    whole = taken_whole g place keeping books anew takes

    abbrev lasting : AreLasting g books
    lasting = taken_lasting g place keeping books anew takes

    pub commit_stands : TurnIsFromScratch → left ≡ cond (is_ok result || are_broken new) None (cond anew None claim) → k ≡ capped (n + entries_of_call anew)
        → (h : List Entry) → StandsFor g h (view_of keeping place opening claim tickets n)
        → StandsAfter g h (λ counts. Some (counted.Done p.job.metric p.job.upto)) (view_of keeping place opening claim tickets n) (view_of then place opening left tickets k) (IsCommitting p result)
    commit_stands turn left_claim count h stands = call_after_if g tells reads came_later place opening keeping then claim left tickets tickets n k (Some p.job.metric)
        (CommitsNow p result) (λ failure. result ≡ Err (commit_failure p failure)) (λ counts. Some (done_of_work p)) books new anew then_is (commit_entry g books new (cond anew None claim) p result outcome) count
        (λ none. commit_real g came_none came_more came_then came_later only_now books new p (HasNoEarlier g place opening) none (cond anew None claim) result outcome)
        (λ v v_place held v_tickets history scratch. commit_done g turn tells came_none came_more came_then came_later goes_on only_now place books new whole lasting of_place p
        v (view_of then place opening left tickets k) v_place refl history scratch (cond anew None claim) held (sym v_tickets) result left_claim outcome)
        takes h stands

    -- what is told of its answer
    answers_with : (Told : CommitFault → Type 0) → ((given : Ticket) (holder : Option Ticket) → Told (commit_fault.NotHolder given holder)) → Told (commit_fault.Differs p) → ((f : Fault) → IsFault (sack_faults g (disks_of books)) (sack_faults g (disks_of new)) f → Told (commit_fault_of p (sack_fault.DiskFault f)))
        → ((e : SackFault) → AreOnlyRead g books new → FailsRead g books new e → Told (commit_fault_of p e)) → IfErr result Told
    answers_with Told stale other faulty fails = by outcome
      where
        at : (r : Result ℕ CommitFault) → result ≡ r → IfErr r Told → IfErr result Told
        at r is told = subst (λ x. IfErr x Told) (sym is) told

        by_write : (c : HeldClaim) (e : SackFault) → WritesFrom g (IsWork g books c) p books new (Err e) → Told (commit_fault_of p e)
        by_write c e (written mid ready same writes has whole_new lasting_new is) = absurd cc
        by_write c e (broke mid f ready same writes has fault is) = subst (λ x. Told (commit_fault_of p x)) (sym (same_fault e (sack_fault.DiskFault f) is)) (faulty f fault)
        by_write c e (unwritten x only fails_read is) = subst (λ y. Told (commit_fault_of p y)) (sym (same_fault e x is)) (fails x only fails_read)

        by : CommitsFrom g (cond anew None claim) p books new result → IfErr result Told
        by (not_held differ same res) = at (Err (commit_fault.NotHolder p.job.ticket (option_map (λ (c : HeldClaim). c.ticket) (cond anew None claim)))) res (stale p.job.ticket (option_map (λ (c : HeldClaim). c.ticket) (cond anew None claim)))
        by (differs c holds only whole_new lasting_new no_work res) = at (Err (commit_fault.Differs p)) res other
        by (done c holds wrote res) = at (Ok p.job.upto) res tt
        by (undone c e holds wrote res) = at (Err (commit_fault_of p e)) res (by_write c e wrote)

    pub commit_back : IfErr result (HandsBack p)
    commit_back = answers_with (HandsBack p) (λ given holder. tt) refl (λ f fault. tt) (λ e only fails. handed_back p e)

    pub commit_cause : IfErr result (λ e. MatchCommitOnDisk e (λ f. MatchOption (option_map state_of keeping) ⊥ (λ s. MatchOption (option_map state_of then) ⊥ (λ t. IsSackFault g s.disks t.disks f))) (MatchOption (option_map state_of keeping) ⊥ (λ s. (s.broken ≡ true) ⊎ KeepsNone g s.books)))
    commit_cause = answers_with Told (λ given holder. tt) tt (λ f fault. call_fault g came_none came_more came_then came_later place keeping then books new anew takes then_is f fault) (λ e only fails. told_of_commit p e _ _ (by e fails))
      where
        Told : CommitFault → Type 0
        Told e = MatchCommitOnDisk e (λ f. MatchOption (option_map state_of keeping) ⊥ (λ s. MatchOption (option_map state_of then) ⊥ (λ t. IsSackFault g s.disks t.disks f))) (MatchOption (option_map state_of keeping) ⊥ (λ s. (s.broken ≡ true) ⊎ KeepsNone g s.books))

        OnDisk : SackFault → Type 0
        OnDisk e = MatchOnDisk e (λ f. MatchOption (option_map state_of keeping) ⊥ (λ s. MatchOption (option_map state_of then) ⊥ (λ t. IsSackFault g s.disks t.disks f))) (MatchOption (option_map state_of keeping) ⊥ (λ s. (s.broken ≡ true) ⊎ KeepsNone g s.books))

        by : (e : SackFault) → FailsRead g books new e → OnDisk e
        by e (failed f broken fault is) = subst OnDisk (sym is) (call_fault g came_none came_more came_then came_later place keeping then books new anew takes then_is f fault)
        by e (damaged d broken none is) = subst OnDisk (sym is) (damage_none g place keeping books anew takes none)
        by e (starved whole_new lasting_new is) = subst OnDisk (sym is) tt

    pub commit_sound : (d : Durable) → HasDurable g books d → IfErr result (λ (e : CommitFault). MatchCommitOnDisk e (λ f. ⊤) ⊥)
    commit_sound d has = answers_with (λ e. MatchCommitOnDisk e (λ f. ⊤) ⊥) (λ given holder. tt) tt (λ f fault. tt) (λ e only fails. told_of_commit p e (λ f. ⊤) ⊥ (by e only fails))
      where
        by : (e : SackFault) → AreOnlyRead g books new → FailsRead g books new e → MatchOnDisk e (λ f. ⊤) ⊥
        by e only (failed f broken fault is) = subst (λ x. MatchOnDisk x (λ f. ⊤) ⊥) (sym is) tt
        by e only (damaged x broken none is) = absurd (never_none g books new only none d has)
        by e only (starved whole_new lasting_new is) = subst (λ x. MatchOnDisk x (λ f. ⊤) ⊥) (sym is) tt

    -- how the disks came from the books that were taken
    record ComesByWork : Type 0 where
      mid : D
      incoming_a : g.came 0 books.incoming.first new.incoming.first
      incoming_b : g.came 0 books.incoming.second new.incoming.second
      shelf_a : g.came 4 books.shelf.first new.shelf.first
      shelf_b : g.came 4 books.shelf.second new.shelf.second
      first : g.came 0 books.shelf.blocks mid
      metrics : List Shelved
      rest : WritesBlocks g metrics p mid new.shelf.blocks

    comes_read : AreOnlyRead g books new → ComesByWork
    comes_read only = record {
      mid = new.shelf.blocks;
      incoming_a = only.came_first;
      incoming_b = only.came_second;
      shelf_a = came_same g came_none came_more 4 books.shelf.first new.shelf.first only.shelf.first;
      shelf_b = came_same g came_none came_more 4 books.shelf.second new.shelf.second only.shelf.second;
      first = only.shelf.blocks.came;
      metrics = [];
      rest = none_written (record { told = refl; size = refl; unwritten = still_disk g only_now new.shelf.blocks; came = came_none new.shelf.blocks });
    }

    comes_written : (mid : Books D) → AreOnlyRead g books mid → new.incoming ≡ mid.incoming → WritesTurn g p mid.shelf new.shelf → ComesByWork
    comes_written mid only same writes = record {
      mid = mid.shelf.blocks;
      incoming_a = subst (λ (i : IncomingView D). g.came 0 books.incoming.first i.first) (sym same) only.came_first;
      incoming_b = subst (λ (i : IncomingView D). g.came 0 books.incoming.second i.second) (sym same) only.came_second;
      shelf_a = subst (λ d. g.came 4 d new.shelf.first) only.shelf.first writes.came_first;
      shelf_b = subst (λ d. g.came 4 d new.shelf.second) only.shelf.second writes.came_second;
      first = only.shelf.blocks.came;
      metrics = writes.metrics;
      rest = writes.blocks;
    }

    comes : ComesByWork
    comes = by outcome
      where
        by_write : (c : HeldClaim) (r : Result (Unit {0}) SackFault) → WritesFrom g (IsWork g books c) p books new r → ComesByWork
        by_write c r (written mid ready same writes has whole_new lasting_new is) = comes_written mid ready.read same writes
        by_write c r (broke mid f ready same writes has fault is) = comes_written mid ready.read same writes
        by_write c r (unwritten x only fails_read is) = comes_read only

        by : CommitsFrom g (cond anew None claim) p books new result → ComesByWork
        by (not_held differ same res) = comes_read (subst (AreOnlyRead g books) (sym same) (untouched g only_now came_none came_later books))
        by (differs c holds only whole_new lasting_new no_work res) = comes_read only
        by (done c holds wrote res) = by_write c (Ok tt) wrote
        by (undone c e holds wrote res) = by_write c (Err e) wrote

    pub commit_came : MatchOption (option_map state_of keeping) ⊥ (λ s. MatchOption (option_map state_of then) ⊥ (λ t. CameByCommit g p s.disks t.disks))
    commit_came = by takes
      where
        both : (was : Keeping D) → keeping ≡ Some was → CameByCommit g p (state_of was).disks (disks_of new) → MatchOption (option_map state_of keeping) ⊥ (λ s. MatchOption (option_map state_of then) ⊥ (λ t. CameByCommit g p s.disks t.disks))
        both was is came =
            subst (λ (o : Option (Keeping D)). MatchOption (option_map state_of o) ⊥ (λ s. MatchOption (option_map state_of then) ⊥ (λ t. CameByCommit g p s.disks t.disks))) (sym is)
            (subst (λ (o : Option (Keeping D)). MatchOption (option_map state_of o) ⊥ (λ t. CameByCommit g p (state_of was).disks t.disks)) (sym then_is) came)

        more : (m n : ℕ) (a b : D) → m ≤ n → g.came m a b → g.came n a b
        more = came_more

        by : TakesBooks g place keeping books anew → MatchOption (option_map state_of keeping) ⊥ (λ s. MatchOption (option_map state_of then) ⊥ (λ t. CameByCommit g p s.disks t.disks))
        by (as_they_were is unbroken lasting_books not_anew) = both (Mounted books) is (record {
          incoming_a = more 0 2 _ _ (omega arith) comes.incoming_a;
          incoming_b = more 0 2 _ _ (omega arith) comes.incoming_b;
          shelf_a = more 4 6 _ _ (omega arith) comes.shelf_a;
          shelf_b = more 4 6 _ _ (omega arith) comes.shelf_b;
          mid = comes.mid;
          first = more 0 1 _ _ (omega arith) comes.first;
          metrics = comes.metrics;
          then = comes.rest;
        })
        by (mounted_anew was is broken from is_anew) = both was is (record {
          incoming_a = came_then 2 0 _ _ _ from.came.incoming_a comes.incoming_a;
          incoming_b = came_then 2 0 _ _ _ from.came.incoming_b comes.incoming_b;
          shelf_a = came_then 2 4 _ _ _ from.came.shelf_a comes.shelf_a;
          shelf_b = came_then 2 4 _ _ _ from.came.shelf_b comes.shelf_b;
          mid = comes.mid;
          first = came_then 1 0 _ _ _ from.came.blocks_disk comes.first;
          metrics = comes.metrics;
          then = comes.rest;
        })

  -- mounting failed
  pub failed_commit_came : (fault : MountFault) → StaysBroken g place keeping then fault → MatchOption (option_map state_of keeping) ⊥ (λ s. MatchOption (option_map state_of then) ⊥ (λ t. CameByCommit g p s.disks t.disks))
  failed_commit_came fault stays =
      let came = stays.unmounted.came in
      let less : 2 ≤ 6 = omega arith in
      subst (λ (o : Option (Keeping D)). MatchOption (option_map state_of o) ⊥ (λ s. MatchOption (option_map state_of then) ⊥ (λ t. CameByCommit g p s.disks t.disks))) (sym stays.old_is)
      (subst (λ (o : Option (Keeping D)). MatchOption (option_map state_of o) ⊥ (λ t. CameByCommit g p (state_of stays.before).disks t.disks)) (sym stays.new_is) (record {
        incoming_a = came.incoming_a;
        incoming_b = came.incoming_b;
        shelf_a = came_more 2 6 _ _ less came.shelf_a;
        shelf_b = came_more 2 6 _ _ less came.shelf_b;
        mid = (state_of stays.now).disks.blocks;
        first = came.blocks_disk;
        metrics = [];
        then = none_written (record { told = refl; size = refl; unwritten = still_disk g only_now (state_of stays.now).disks.blocks; came = came_none (state_of stays.now).disks.blocks });
      }))

  pub uncommitted : (fault : MountFault) → StaysBroken g place keeping then fault → (r : SackFault) → MatchMountFault fault (λ f. r ≡ sack_fault.DiskFault f) (λ d. r ≡ sack_fault.Damaged d) (r ≡ sack_fault.Memory) → (e : CommitFault) → e ≡ commit_fault_of p r
      → left ≡ claim → k ≡ capped (n + 1) → (h : List Entry) → StandsFor g h (view_of keeping place opening claim tickets n)
      → StandsAfter g h (λ counts. Some (counted.Done p.job.metric p.job.upto)) (view_of keeping place opening claim tickets n) (view_of then place opening left tickets k) (IsCommitting p (Err e))
  uncommitted fault stays r is e e_is same_claim count h stands = failed_after g tells reads came_later place opening keeping then claim left tickets tickets n k (Some p.job.metric)
      (CommitsNow p (Err e)) (λ failure. (let x : Result ℕ CommitFault = Err e in x) ≡ Err (commit_failure p failure)) (λ counts. Some (done_of_work p)) fault stays same_claim refl count h stands
      (failure_of fault) (failure_is fault) (ap (λ x. Err x) (e_is ∙ ap (commit_fault_of p) (refused_as fault r is) ∙ handed_failure p (failure_of fault)))
