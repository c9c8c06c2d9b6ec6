-- A post of a sack, which mounts its books first where they are broken.
use Rattle.std.proofs.Common.{◌≡◌, ℕ, ◌+◌, ◌≤◌, Bool, true, false, cond, ◌||◌, List, length, Option, Some, None, Result, Err, refl, sym, ap, subst, ◌∙◌}
use Rattle.std.specs.Bool.{⊤}
use Rattle.std.specs.Option.{IfSome, MatchOption, is_some, option_map}
use Rattle.std.specs.Result.{IfErr}
use Rattle.gno_disk.specs.declared.disk.Disk.{Ghosts}
use Rattle.gate_log.specs.LogView.{MatchMountFault}
use Rattle.gate_log.specs.declared.fault.MountFault.{MountFault}
use Rattle.log_pair.specs.declared.place.Place.{Place}
use Rattle.series_model.specs.declared.measure.Measure.{Measure}
use Rattle.series_model.specs.declared.metric.MetricId.{MetricId}
use Rattle.sack_history.specs.declared.entry.Counted.{Counted}
use Rattle.sack_history.specs.declared.entry.Counted.TheVariants as counted
use Rattle.sack_history.specs.declared.entry.Entry.{Entry}
use Rattle.sack_history.specs.declared.fault.SackFault.{SackFault}
use Rattle.sack_history.specs.declared.fault.SackFault.TheVariants as sack_fault
use Rattle.sack_history.specs.declared.holding.HeldClaim.{HeldClaim}
use Rattle.sack_history.specs.Calls.{IsPosting, PostsNow}
use Rattle.sack_history.specs.Failing.{sack_failure}
use Rattle.sack_history.specs.Lives.{next_post}
use Rattle.sack_state.specs.declared.books.Books.{Books}
use Rattle.sack_state.specs.declared.disks.Opening.{Opening}
use Rattle.sack_state.specs.declared.holding.Keeping.{Keeping}
use Rattle.sack_state.specs.declared.holding.Keeping.TheVariants.{Mounted}
use Rattle.sack_state.specs.Books.{AreLasting, AreOfPlace, AreWhole, disks_of}
use Rattle.sack_state.specs.Disks.{CameWithin, IsSackFault, OnIncoming}
use Rattle.sack_state.specs.Holding.{StaysBroken, TakesBooks, are_broken, as_they_were, mounted_anew, state_of}
use Rattle.sack_state.specs.Posting.{PostsTo, failed, posted, spent, starved, unknown}
use Rattle.sack_state.specs.SackCalls.{MatchOnDisk, entries_of_call}
use Rattle.sack_state.specs.SackView.{StandsAfter, StandsFor, capped}
use Rattle.sack_state.proofs.CallFacts.{call_came, call_fault, call_uses, failure_is, failure_of, refused_as}
use Rattle.sack_state.proofs.CallLemmas.{call_after, failed_after, view_of}
use Rattle.sack_state.proofs.DiskLemmas.{on_incoming}
use Rattle.sack_state.proofs.PostLemmas.{post_done, post_entry, post_on, post_real}

pub taken_whole : {D : Type 0} (g : Ghosts D) (place : Place) (old : Option (Keeping D)) (books : Books D) (anew : Bool) → TakesBooks g place old books anew → AreWhole books
taken_whole g place old books anew (as_they_were is unbroken lasting not_anew) = unbroken
taken_whole g place old books anew (mounted_anew was is broken from is_anew) = from.whole

pub taken_lasting : {D : Type 0} (g : Ghosts D) (place : Place) (old : Option (Keeping D)) (books : Books D) (anew : Bool) → TakesBooks g place old books anew → AreLasting g books
taken_lasting g place old books anew (as_they_were is unbroken lasting not_anew) = lasting
taken_lasting g place old books anew (mounted_anew was is broken from is_anew) = from.lasting

left_is : (anew broken : Bool) (claim left : Option HeldClaim) → left ≡ cond (anew || broken) None claim → (held : Option HeldClaim) → held ≡ cond anew None claim → left ≡ cond broken None held
left_is true true claim left is held same = is
left_is true false claim left is held same = is ∙ sym same
left_is false true claim left is held same = is
left_is false false claim left is held same = is ∙ sym same

module _ {D : Type 0} (g : Ghosts D) (tells : (n : ℕ) (old new : D) → g.came n old new → is_some (g.told new) ≡ is_some (g.told old)) (reads : (disk : D) → IfSome (g.told disk) (g.may_leave disk)) (came_none : (disk : D) → g.came 0 disk disk)
    (came_more : (m n : ℕ) (old new : D) → m ≤ n → g.came m old new → g.came n old new) (came_then : (m n : ℕ) (old mid new : D) → g.came m old mid → g.came n mid new → g.came (m + n) old new)
    (came_later : (n : ℕ) (old new : D) → g.came n old new → g.faults old ≤ g.faults new)
    (counts_now : (disk : D) (since : ℕ) (image : List ℕ) → since ≤ g.moment disk → g.may_leave disk image → g.left_since disk since image)
    (only_now : (disk : D) (image : List ℕ) → g.left_since disk (g.moment disk) image → g.may_leave disk image)
    (place : Place) (opening : Opening D) (keeping then : Option (Keeping D)) (claim left : Option HeldClaim) (tickets n k : ℕ) (m : MetricId) (measures : List Measure) where
  pub written : List Counted → Option Counted
  written = λ counts. Some (counted.Post (next_post counts) m measures)

  -- the books were taken
  module _ (few : length measures ≤ 50000) (books new : Books D) (anew : Bool) (result : Result ℕ SackFault) (takes : TakesBooks g place keeping books anew) (of_place : AreOfPlace place books) (then_is : then ≡ Some (Mounted new))
      (shelf : new.shelf ≡ books.shelf) (new_place : new.incoming.place ≡ books.incoming.place) (outcome : PostsTo g m measures books new result) where
    abbrev whole : AreWhole books
    whole = taken_whole g place keeping books anew takes

    abbrev lasting : AreLasting g books
    lasting = taken_lasting g place keeping books anew takes

    abbrev entry : Entry
    entry = post_entry g tells came_none came_more counts_now only_now m measures few books new result whole lasting shelf place of_place new_place outcome

    abbrev on : OnIncoming g 4 (disks_of books) (disks_of new)
    on = post_on g tells came_none came_more counts_now only_now m measures few books new result whole lasting shelf place of_place new_place outcome

    pub post_stands : left ≡ cond (anew || are_broken new) None claim → k ≡ capped (n + entries_of_call anew) → (h : List Entry) → StandsFor g h (view_of keeping place opening claim tickets n)
        → StandsAfter g h (λ counts. Some (counted.Post (next_post counts) m measures)) (view_of keeping place opening claim tickets n) (view_of then place opening left tickets k) (IsPosting m measures result)
    post_stands left_claim count h stands = call_after g tells reads came_later place opening keeping then claim left tickets tickets n k (Some m)
        (PostsNow m measures result) (λ failure. result ≡ Err (sack_failure failure)) (λ counts. Some (counted.Post (next_post counts) m measures)) books new anew then_is entry count
        (post_real g tells came_none came_more counts_now only_now m measures few books new result whole lasting shelf place of_place new_place came_later outcome)
        (λ v v_place held v_tickets history scratch. post_done g tells came_none came_more counts_now only_now m measures few books new result whole lasting shelf place of_place new_place
        v (view_of then place opening left tickets k) v_place refl (left_is anew (are_broken new) claim left left_claim v.held held) (sym v_tickets) history scratch outcome)
        takes h stands

    pub post_came : MatchOption (option_map state_of keeping) ⊥ (λ s. MatchOption (option_map state_of then) ⊥ (λ t. CameWithin g 6 2 1 s.disks t.disks))
    post_came = call_came g came_none came_more came_then came_later place keeping then books new anew takes then_is 4 0 0 (on_incoming g came_none came_more 4 0 0 (disks_of books) (disks_of new) on)

    pub post_uses : MatchOption (option_map state_of keeping) ⊥ (λ s. MatchOption (option_map state_of then) ⊥ (λ t. s.broken ≡ false → OnIncoming g 4 s.disks t.disks))
    post_uses = call_uses g came_none came_more came_then came_later place keeping then books new anew takes then_is (OnIncoming g 4) on

    pub post_cause : IfErr result (λ e. MatchOnDisk e (λ f. MatchOption (option_map state_of keeping) ⊥ (λ s. MatchOption (option_map state_of then) ⊥ (λ t. IsSackFault g s.disks t.disks f))) (MatchOption (option_map state_of keeping) ⊥ (λ s. s.broken ≡ true)))
    post_cause = by outcome
      where
        by : PostsTo g m measures books new result → IfErr result (λ e. MatchOnDisk e (λ f. MatchOption (option_map state_of keeping) ⊥ (λ s. MatchOption (option_map state_of then) ⊥ (λ t. IsSackFault g s.disks t.disks f))) (MatchOption (option_map state_of keeping) ⊥ (λ s. s.broken ≡ true)))
        by (posted known free writes has is) = subst (λ r. IfErr r (λ e. MatchOnDisk e (λ f. MatchOption (option_map state_of keeping) ⊥ (λ s. MatchOption (option_map state_of then) ⊥ (λ t. IsSackFault g s.disks t.disks f))) (MatchOption (option_map state_of keeping) ⊥ (λ s. s.broken ≡ true)))) (sym is) tt
        by (failed f known free writes has is) = subst (λ r. IfErr r (λ e. MatchOnDisk e (λ f. MatchOption (option_map state_of keeping) ⊥ (λ s. MatchOption (option_map state_of then) ⊥ (λ t. IsSackFault g s.disks t.disks f))) (MatchOption (option_map state_of keeping) ⊥ (λ s. s.broken ≡ true)))) (sym is)
            (call_fault g came_none came_more came_then came_later place keeping then books new anew takes then_is f has.fault)
        by (unknown none same is) = subst (λ r. IfErr r (λ e. MatchOnDisk e (λ f. MatchOption (option_map state_of keeping) ⊥ (λ s. MatchOption (option_map state_of then) ⊥ (λ t. IsSackFault g s.disks t.disks f))) (MatchOption (option_map state_of keeping) ⊥ (λ s. s.broken ≡ true)))) (sym is) tt
        by (spent known last same is) = subst (λ r. IfErr r (λ e. MatchOnDisk e (λ f. MatchOption (option_map state_of keeping) ⊥ (λ s. MatchOption (option_map state_of then) ⊥ (λ t. IsSackFault g s.disks t.disks f))) (MatchOption (option_map state_of keeping) ⊥ (λ s. s.broken ≡ true)))) (sym is) tt
        by (starved same is) = subst (λ r. IfErr r (λ e. MatchOnDisk e (λ f. MatchOption (option_map state_of keeping) ⊥ (λ s. MatchOption (option_map state_of then) ⊥ (λ t. IsSackFault g s.disks t.disks f))) (MatchOption (option_map state_of keeping) ⊥ (λ s. s.broken ≡ true)))) (sym is) tt

    pub post_sound : IfErr result (λ (e : SackFault). MatchOnDisk e (λ f. ⊤) ⊥)
    post_sound = by outcome
      where
        by : PostsTo g m measures books new result → IfErr result (λ (e : SackFault). MatchOnDisk e (λ f. ⊤) ⊥)
        by (posted known free writes has is) = subst (λ r. IfErr r (λ (e : SackFault). MatchOnDisk e (λ f. ⊤) ⊥)) (sym is) tt
        by (failed f known free writes has is) = subst (λ r. IfErr r (λ (e : SackFault). MatchOnDisk e (λ f. ⊤) ⊥)) (sym is) tt
        by (unknown none same is) = subst (λ r. IfErr r (λ (e : SackFault). MatchOnDisk e (λ f. ⊤) ⊥)) (sym is) tt
        by (spent known last same is) = subst (λ r. IfErr r (λ (e : SackFault). MatchOnDisk e (λ f. ⊤) ⊥)) (sym is) tt
        by (starved same is) = subst (λ r. IfErr r (λ (e : SackFault). MatchOnDisk e (λ f. ⊤) ⊥)) (sym is) tt

  -- mounting failed
  pub unposted : (fault : MountFault) → StaysBroken g place keeping then fault → (r : SackFault) → MatchMountFault fault (λ f. r ≡ sack_fault.DiskFault f) (λ d. r ≡ sack_fault.Damaged d) (r ≡ sack_fault.Memory) → left ≡ claim → k ≡ capped (n + 1)
      → (h : List Entry) → StandsFor g h (view_of keeping place opening claim tickets n)
      → StandsAfter g h (λ counts. Some (counted.Post (next_post counts) m measures)) (view_of keeping place opening claim tickets n) (view_of then place opening left tickets k) (IsPosting m measures (Err r))
  unposted fault stays r is same_claim count h stands = failed_after g tells reads came_later place opening keeping then claim left tickets tickets n k (Some m)
      (PostsNow m measures (Err r)) (λ failure. (let x : Result ℕ SackFault = Err r in x) ≡ Err (sack_failure failure)) (λ counts. Some (counted.Post (next_post counts) m measures)) fault stays same_claim refl count h stands
      (failure_of fault) (failure_is fault) (ap (λ x. Err x) (refused_as fault r is))
