-- A sack after its live metrics have changed.
use Rattle.std.proofs.Common.{◌≡◌, ◌⊎◌, inl, inr, ℕ, ◌≤◌, Bool, true, false, cond, not, List, [], ◌∷◌, ◌++◌, map, Option, Some, None, Result, Ok, Err, refl, sym, ap, subst, ◌∙◌}
use Rattle.std.specs.Option.{IfSome, is_some}
use Rattle.std.specs.Result.{IfErr, is_ok}
use Rattle.std.proofs.lemmas.Bool.{or_right}
use Rattle.gno_num.specs.declared.faults.DiskFault.{DiskFault as Fault}
use Rattle.gno_disk.specs.Phases.{EachMoment}
use Rattle.gno_disk.specs.declared.disk.Disk.{Ghosts}
use Rattle.gate_log.specs.LogView.{IsFault, MatchFault}
use Rattle.gate_log.specs.declared.fault.LogFault.{LogFault}
use Rattle.gate_log.specs.declared.fault.LogFault.TheVariants.{DiskFault as LogDisk, Memory as LogMemory}
use Rattle.log_pair.specs.declared.place.Place.{Place}
use Rattle.series_model.specs.declared.metric.MetricId.{MetricId}
use Rattle.incoming.specs.IncomingView.{IncomingView, IsLastingIncoming}
use Rattle.incoming.specs.Posts.{HoldsIncoming, Post}
use Rattle.split_update.specs.Live.{Live}
use Rattle.shelf_records.specs.Shelved.{Shelved}
use Rattle.split_store.specs.Shelf.{HoldsShelf}
use Rattle.split_store.specs.ShelfView.{AreOldOrChanged, HasFailed, Keeps, ShelfView}
use Rattle.sack_history.specs.declared.entry.Counted.{Counted}
use Rattle.sack_history.specs.declared.entry.Entry.{Entry}
use Rattle.sack_history.specs.declared.entry.Entry.TheVariants as entries
use Rattle.sack_history.specs.declared.holding.HeldClaim.{HeldClaim}
use Rattle.sack_history.specs.Calls.{IsSimple}
use Rattle.sack_history.specs.Entries.{kept}
use Rattle.sack_history.specs.Failing.{Failure, failed as call_failed, given as call_given, no_memory, on_disk, refused as call_refused}
use Rattle.sack_history.specs.Holding.{held_after, held_claim, last_ticket, ticket_after}
use Rattle.sack_history.specs.Legal.{MayCount}
use Rattle.sack_history.specs.Lives.{next_post, pending_posts}
use Rattle.sack_history.specs.Scratch.{durable, metrics_from_scratch}
use Rattle.sack_history.proofs.Keeping.{kept-counted, kept-noted}
use Rattle.sack_state.specs.declared.books.Books.{Books}
use Rattle.sack_state.specs.Books.{AreLasting, AreOfPlace, AreWhole, disks_of}
use Rattle.sack_state.specs.Changing.{ChangesMetrics, HasBrokenShelf, HasChanged, WritesMetrics, changed, failed, refused, starved}
use Rattle.sack_state.specs.Disks.{CameWithin, OfFive, OnShelfLog, sack_faults, sack_phases}
use Rattle.sack_state.specs.Holding.{are_broken}
use Rattle.sack_state.specs.Posting.{knows}
use Rattle.sack_state.specs.SackHolding.{AreOldOrWritten, HoldsSack, waiting_among}
use Rattle.sack_state.specs.SackView.{AreReal, HasDurable, IsScratch, SackView, standing_by}
use Rattle.sack_state.proofs.DiskLemmas.{came_same, came_still, faults_later, no_less}
use Rattle.sack_state.proofs.DoneLemmas.{IsDone, state_with, whole_books}
use Rattle.sack_state.proofs.EntryLemmas.{fault_real, fault_risen, left_broken, left_whole, unbroken}
use Rattle.sack_state.proofs.KnowLemmas.{same_waiting}
use Rattle.sack_state.proofs.MomentLemmas.{shelf_moments, still_moments}
use Rattle.sack_state.proofs.MountLemmas.{books_leave, incoming_moved, shelf_moved}
use Rattle.sack_state.proofs.RealLemmas.{rose_among_three}

-- how a change works on the disks
pub on_shelf_log : {D : Type 0} (g : Ghosts D) (came_none : (disk : D) → g.came 0 disk disk) (came_more : (m n : ℕ) (old new : D) → m ≤ n → g.came m old new → g.came n old new) (n : ℕ) (old new : Books D)
    → OnShelfLog g n (disks_of old) (disks_of new) → CameWithin g 0 n 0 (disks_of old) (disks_of new)
on_shelf_log g came_none came_more n old new on = record {
  incoming_a = came_same g came_none came_more 0 _ _ on.incoming_a;
  incoming_b = came_same g came_none came_more 0 _ _ on.incoming_b;
  shelf_a = on.shelf_a;
  shelf_b = on.shelf_b;
  blocks_disk = came_same g came_none came_more 0 _ _ on.blocks;
}

module _ {D : Type 0} (g : Ghosts D) (tells : (n : ℕ) (old new : D) → g.came n old new → is_some (g.told new) ≡ is_some (g.told old)) (came_none : (disk : D) → g.came 0 disk disk)
    (came_more : (m n : ℕ) (old new : D) → m ≤ n → g.came m old new → g.came n old new) (only_now : (disk : D) (image : List ℕ) → g.left_since disk (g.moment disk) image → g.may_leave disk image)
    {F : Type 0} (m : MetricId) (wanted : Bool) (refusal : F) (fault : Failure → F) (change : List Live → List Live) (old new : Books D) (result : Result (Unit {0}) F) (whole : AreWhole old) (lasting : AreLasting g old)
    (incoming : new.incoming ≡ old.incoming) (place : Place) (of_place : AreOfPlace place old) (new_place : new.shelf.place ≡ old.shelf.place) (more : Counted) where
  -- what it adds
  abbrev pub change_entry : ChangesMetrics g m wanted refusal fault change old new result → Entry
  change_entry (changed done known writes has is) = entries.Counted more
  change_entry (failed f known writes has is) = entries.Fault (Some more) f.before f.after
  change_entry (refused known same is) = entries.Look (Some m)
  change_entry (starved same is) = entries.Look (Some m)

  pub change_of_place : AreOfPlace place new
  change_of_place = record { incoming = ap (λ (s : IncomingView D). s.place) incoming ∙ of_place.incoming; shelf = new_place ∙ of_place.shelf }

  writes_on : WritesMetrics g change old.shelf new.shelf → OnShelfLog g 4 (disks_of old) (disks_of new)
  writes_on writes = record {
    incoming_a = ap (λ (s : IncomingView D). s.first) incoming;
    incoming_b = ap (λ (s : IncomingView D). s.second) incoming;
    shelf_a = writes.came_first;
    shelf_b = writes.came_second;
    blocks = writes.blocks;
  }

  same_books_on : new ≡ old → OnShelfLog g 4 (disks_of old) (disks_of new)
  same_books_on same = subst (λ (b : Books D). OnShelfLog g 4 (disks_of old) (disks_of b)) (sym same) (record {
    incoming_a = refl;
    incoming_b = refl;
    shelf_a = came_still g came_none came_more 4 old.shelf.first;
    shelf_b = came_still g came_none came_more 4 old.shelf.second;
    blocks = refl;
  })

  -- how it came on the disks
  pub change_on : ChangesMetrics g m wanted refusal fault change old new result → OnShelfLog g 4 (disks_of old) (disks_of new)
  change_on (changed done known writes has is) = writes_on writes
  change_on (failed f known writes has is) = writes_on writes
  change_on (refused known same is) = same_books_on same
  change_on (starved same is) = same_books_on same

  change_within : OnShelfLog g 4 (disks_of old) (disks_of new) → CameWithin g 0 4 0 (disks_of old) (disks_of new)
  change_within on = on_shelf_log g came_none came_more 4 old new on

  -- its fault is real
  pub change_real : ((n : ℕ) (a b : D) → g.came n a b → g.faults a ≤ g.faults b) → (p : ChangesMetrics g m wanted refusal fault change old new result) (N : Type 0)
      → AreReal N (sack_faults g (disks_of old)) (change_entry p ∷ []) (sack_faults g (disks_of new))
  change_real later (changed done known writes has is) N = faults_later g later 0 4 0 (disks_of old) (disks_of new) (change_within (writes_on writes))
  change_real later (failed f known writes has is) N = fault_real g old new f has.fault (Some more) N
  change_real later (refused known same is) N = faults_later g later 0 4 0 (disks_of old) (disks_of new) (change_within (same_books_on same))
  change_real later (starved same is) N = faults_later g later 0 4 0 (disks_of old) (disks_of new) (change_within (same_books_on same))

  -- why it is answered
  pub change_cause : (Told : F → Type 0) → ((f : Fault) → IsFault (sack_faults g (disks_of old)) (sack_faults g (disks_of new)) f → Told (fault (on_disk f))) → Told refusal → Told (fault no_memory)
      → ChangesMetrics g m wanted refusal fault change old new result → IfErr result Told
  change_cause Told disk not_wanted memory (changed done known writes has is) = subst (λ r. IfErr r Told) (sym is) tt
  change_cause Told disk not_wanted memory (failed f known writes has is) = subst (λ r. IfErr r Told) (sym is) (disk f has.fault)
  change_cause Told disk not_wanted memory (refused known same is) = subst (λ r. IfErr r Told) (sym is) not_wanted
  change_cause Told disk not_wanted memory (starved same is) = subst (λ r. IfErr r Told) (sym is) memory

  -- ---- by a history

  module _ (v w : SackView D) (v_place : v.place ≡ place) (w_place : w.place ≡ place) (held : w.held ≡ cond (are_broken new) None (cond (is_ok result) (held_after v.held (entries.Counted more)) v.held)) (tickets : w.tickets ≡ v.tickets)
      (history : List Entry) (scratch : IsScratch g v (record { disks = disks_of old; books = old; broken = false }) history)
      (ticket : (t : ℕ) → ticket_after t (entries.Counted more) ≡ t) (refused_by : List Counted → Option F)
      (free : knows m old ≡ wanted → refused_by (kept history) ≡ None) (taken : knows m old ≡ not wanted → refused_by (kept history) ≡ Some refusal)
      (may : knows m old ≡ wanted → MayCount (kept history) more)
      (later_metrics : knows m old ≡ wanted → metrics_from_scratch (kept history ++ more ∷ []) ≡ change (metrics_from_scratch (kept history)))
      (later_next : next_post (kept history ++ more ∷ []) ≡ next_post (kept history))
      (later_pending : (posts : List Post) → knows m old ≡ wanted → old.incoming.posts ≡ Some posts → pending_posts (kept history) ≡ waiting_among (metrics_from_scratch (kept history)) posts
      → pending_posts (kept history ++ more ∷ []) ≡ waiting_among (metrics_from_scratch (kept history ++ more ∷ [])) posts) where
    abbrev counts : List Counted
    counts = kept history

    abbrev later : List Counted
    later = kept history ++ more ∷ []

    had : HasDurable g old (durable counts)
    had = scratch.has refl

    whole_old : are_broken old ≡ false
    whole_old = whole_books old whole

    -- images of the shelf, with those of the incoming disks
    module _ (known : knows m old ≡ wanted) where
      images_either : (a b z c e : List ℕ) → AreOldOrChanged old.shelf.place (metrics_from_scratch counts) change c e z → g.may_leave old.incoming.first a → g.may_leave old.incoming.second b
          → HoldsSack place (durable counts) a b z c e ⊎ HoldsSack place (durable later) a b z c e
      images_either a b z c e of left_a left_b = by of
        where
          holds : HoldsIncoming place had.posts (next_post counts) a b
          holds = incoming_moved old.incoming.place place had.posts old.incoming.next (next_post counts) a b of_place.incoming had.next
              (subst (λ o. IfSome o (λ posts. HoldsIncoming old.incoming.place posts old.incoming.next a b)) had.told (lasting.incoming a b left_a left_b))

          by : HoldsShelf old.shelf.place (metrics_from_scratch counts) c e z ⊎ HoldsShelf old.shelf.place (change (metrics_from_scratch counts)) c e z → HoldsSack place (durable counts) a b z c e ⊎ HoldsSack place (durable later) a b z c e
          by (inl there) = inl (record { posts = had.posts; incoming = holds; shelf = shelf_moved old.shelf.place place (metrics_from_scratch counts) c e z of_place.shelf there; pending = had.pending })
          by (inr there) = inr (record {
            posts = had.posts;
            incoming = subst (λ n. HoldsIncoming place had.posts n a b) (sym later_next) holds;
            shelf = subst (λ ms. HoldsShelf place ms c e z) (sym (later_metrics known)) (shelf_moved old.shelf.place place (change (metrics_from_scratch counts)) c e z of_place.shelf there);
            pending = later_pending had.posts known had.told had.pending;
          })

      change_moments : WritesMetrics g change old.shelf new.shelf → EachMoment g (sack_phases (disks_of old) (disks_of new)) (OfFive (AreOldOrWritten place counts (Some more)))
      change_moments writes = shelf_moments g only_now (disks_of old) (disks_of new) (ap (λ (s : IncomingView D). s.first) incoming) (ap (λ (s : IncomingView D). s.second) incoming)
          (AreOldOrChanged old.shelf.place (metrics_from_scratch counts) change) (AreOldOrWritten place counts (Some more)) images_either
          (λ z c e left_z left_c left_e. inl (lasting.shelf (metrics_from_scratch counts) c e z had.keeps left_c left_e left_z))
          (writes.moments (metrics_from_scratch counts) had.keeps)

      -- the change counts
      changed_scratch : (done : Unit {0}) → result ≡ Ok done → WritesMetrics g change old.shelf new.shelf → HasChanged g change old.shelf new.shelf → IsScratch g w (state_with new) (history ++ entries.Counted more ∷ [])
      changed_scratch done is writes now =
          let e = entries.Counted more in
          left_whole g tells place old new v w v_place w_place history scratch 0 4 0 (change_within (writes_on writes)) e
          (record { whole = unbroken g tells place old new v w v_place w_place history scratch 0 4 0 (change_within (writes_on writes)); counts = may known }) refl
          (held ∙ ap (λ b. cond b None (cond (is_ok result) (held_after v.held e) v.held)) (whole_books new new_whole) ∙ ap (λ r. cond (is_ok r) (held_after v.held e) v.held) is ∙ ap (λ o. held_after o e) scratch.held)
          (tickets ∙ scratch.tickets ∙ sym (ticket (last_ticket history)))
          (subst (λ c. HasDurable g new (durable c)) (sym (kept-counted history more)) (record {
            posts = had.posts;
            told = ap (λ (s : IncomingView D). s.posts) incoming ∙ had.told;
            marks = ap (λ (s : IncomingView D). s.marks) incoming ∙ had.marks;
            next = ap (λ (s : IncomingView D). s.next) incoming ∙ had.next ∙ sym later_next;
            keeps = subst (λ ms. Keeps g new.shelf ms) (sym (later_metrics known)) (now.keeps (metrics_from_scratch counts) had.keeps);
            pending = later_pending had.posts known had.told had.pending;
          }))
          new_whole
          (record { incoming = subst (λ (s : IncomingView D). IsLastingIncoming g s) (sym incoming) lasting.incoming; shelf = now.lasting })
          change_of_place
        where
          new_whole : AreWhole new
          new_whole = record { incoming = ap (λ (s : IncomingView D). s.broken) incoming ∙ whole.incoming; shelf = now.whole }

      -- a disk has failed
      failed_scratch : (f : Fault) → WritesMetrics g change old.shelf new.shelf → HasBrokenShelf g old new f → IsScratch g w (state_with new) (history ++ entries.Fault (Some more) f.before f.after ∷ [])
      failed_scratch f writes now =
          left_broken g tells place old new v w v_place w_place history scratch 0 4 0 (change_within (writes_on writes)) (Some more) f.before f.after (may known) new_broken
          (held ∙ ap (λ b. cond b None (cond (is_ok result) (held_after v.held (entries.Counted more)) v.held)) new_broken)
          (tickets ∙ scratch.tickets)
          (record {
            next = ap (λ (s : IncomingView D). s.next) incoming ∙ had.next;
            standings = ap (λ (ms : List Shelved). map standing_by ms) now.metrics ∙ scratch.remembers.standings;
            waiting = same_waiting old new now.metrics (ap (λ (s : IncomingView D). s.marks) incoming) ∙ scratch.remembers.waiting;
          })
          (λ a b z c e left_a left_b left_z left_c left_e. images_either a b z c e (writes.left (metrics_from_scratch counts) (z ∷ c ∷ e ∷ []) had.keeps (left_z, (left_c, (left_e, tt))))
          (subst (λ (s : IncomingView D). g.may_leave s.first a) incoming left_a) (subst (λ (s : IncomingView D). g.may_leave s.second b) incoming left_b))
        where
          new_broken : are_broken new ≡ true
          new_broken = or_right new.incoming.broken new.shelf.broken now.broken

    -- nothing has changed
    look_scratch : (e : F) → result ≡ Err e → new ≡ old → IsScratch g w (state_with new) (history ++ entries.Look (Some m) ∷ [])
    look_scratch e is same =
        let l = entries.Look (Some m) in
        left_whole g tells place old new v w v_place w_place history scratch 0 4 0 (change_within (same_books_on same)) l tt refl
        (held ∙ ap (λ b. cond b None (cond (is_ok result) (held_after v.held (entries.Counted more)) v.held)) (ap (λ (b : Books D). are_broken b) same ∙ whole_old)
        ∙ ap (λ r. cond (is_ok r) (held_after v.held (entries.Counted more)) v.held) is ∙ scratch.held ∙ sym (held_look (held_claim history)))
        (tickets ∙ scratch.tickets)
        (subst (λ c. HasDurable g new (durable c)) (sym (kept-noted history l refl refl)) (subst (λ (b : Books D). HasDurable g b (durable counts)) (sym same) had))
        (subst (λ (b : Books D). AreWhole b) (sym same) whole) (subst (λ (b : Books D). AreLasting g b) (sym same) lasting) (subst (λ (b : Books D). AreOfPlace place b) (sym same) of_place)
      where
        held_look : (o : Option HeldClaim) → held_after o (entries.Look (Some m)) ≡ o
        held_look None = refl
        held_look (Some claim) = refl

    look_moments : new ≡ old → EachMoment g (sack_phases (disks_of old) (disks_of new)) (OfFive (AreOldOrWritten place counts (Some more)))
    look_moments same = subst (λ (b : Books D). EachMoment g (sack_phases (disks_of old) (disks_of b)) (OfFive (AreOldOrWritten place counts (Some more)))) (sym same)
        (still_moments g only_now (disks_of old) (AreOldOrWritten place counts (Some more))
        (λ a b z c e left_a left_b left_z left_c left_e. inl (books_leave g place old (durable counts) of_place lasting had a b z c e left_a left_b left_z left_c left_e)))

    pub change_done : (p : ChangesMetrics g m wanted refusal fault change old new result)
        → IsDone g place (λ now added. IsSimple (refused_by (kept now)) fault (Some m) (Some more) (λ (done : Unit {0}) l. l ≡ entries.Counted more ∷ []) result added) (λ l. Some more) old new w (change_entry p) history
    change_done (changed done known writes now is) = record {
      does = call_given done (free known, refl) is;
      scratch = changed_scratch known done is writes now;
      moments = change_moments known writes;
    }
    change_done (failed f known writes now is) = record {
      does = call_failed (on_disk f) (free known, (fault_risen g old new f now.fault, (Some more, inr refl, refl))) is;
      scratch = failed_scratch known f writes now;
      moments = change_moments known writes;
    }
    change_done (refused known same is) = record {
      does = call_refused refusal (taken known) refl is;
      scratch = look_scratch refusal is same;
      moments = look_moments same;
    }
    change_done (starved same is) = record {
      does = call_failed no_memory (tt, refl) is;
      scratch = look_scratch (fault no_memory) is same;
      moments = look_moments same;
    }

-- ---- a change of the shelf that failed

module _ {D F : Type 0} (g : Ghosts D) (m : MetricId) (wanted : Bool) (refusal : F) (fault : Failure → F) (change : List Live → List Live) (old : Books D) (now : ShelfView D) (known : knows m old ≡ wanted) (writes : WritesMetrics g change old.shelf now) where
  abbrev pub with_shelf : Books D
  with_shelf = record { incoming = old.incoming; shelf = now }

  pub unchanged : (x : LogFault) (r : F) (before after : ℕ) → before ≡ sack_faults g (disks_of old) → after ≡ sack_faults g (disks_of with_shelf) → now.metrics ≡ old.shelf.metrics
      → MatchFault x (HasFailed g old.shelf now) (now ≡ old.shelf)
      → MatchFault x (λ f. r ≡ fault (on_disk (record { before = before; after = after }))) (r ≡ fault no_memory)
      → ChangesMetrics g m wanted refusal fault change old (record { incoming = old.incoming; shelf = now }) (Err r)
  unchanged LogMemory r before after before_is after_is metrics cause is =
      starved (ap (λ (s : ShelfView D). let b : Books D = record { incoming = old.incoming; shelf = s } in b) cause) (ap (λ x. Err x) is)
  unchanged (LogDisk f) r before after before_is after_is metrics cause is = failed (record { before = before; after = after }) known writes (record {
    metrics = metrics;
    broken = cause.broken;
    fault = record {
      before_is = before_is;
      after_is = after_is;
      rose = rose_among_three (g.faults old.incoming.first) (g.faults old.incoming.second) (g.faults old.incoming.first) (g.faults old.incoming.second) (g.faults old.shelf.first) (g.faults old.shelf.second) (g.faults old.shelf.blocks)
          (g.faults now.first) (g.faults now.second) (g.faults now.blocks) (no_less (g.faults old.incoming.first)) (no_less (g.faults old.incoming.second)) cause.fault.rose;
    };
  }) (ap (λ x. Err x) is)
