-- Dropping a metric on a sack, which mounts its books first where they are broken.
use Rattle.std.proofs.Common.{◌≡◌, ℕ, ◌+◌, ◌≤◌, Bool, true, false, cond, ◌||◌, List, Option, Some, None, Result, Err, refl, sym, ap, ◌∙◌}
use Rattle.std.specs.Bool.{⊤}
use Rattle.std.specs.Option.{IfSome, MatchOption, is_some, option_map}
use Rattle.std.specs.Result.{IfErr, is_ok}
use Rattle.gno_disk.specs.declared.disk.Disk.{Ghosts}
use Rattle.gate_log.specs.LogView.{MatchMountFault}
use Rattle.gate_log.specs.declared.fault.MountFault.{MountFault}
use Rattle.log_pair.specs.declared.place.Place.{Place}
use Rattle.series_model.specs.declared.metric.MetricId.{MetricId}
use Rattle.sack_history.specs.declared.entry.Counted.{Counted}
use Rattle.sack_history.specs.declared.entry.Counted.TheVariants as counted
use Rattle.sack_history.specs.declared.entry.Entry.{Entry}
use Rattle.sack_history.specs.declared.entry.Entry.TheVariants as entries
use Rattle.sack_history.specs.declared.fault.SackFault.{SackFault}
use Rattle.sack_history.specs.declared.fault.SackFault.TheVariants as sack_fault
use Rattle.sack_history.specs.declared.holding.HeldClaim.{HeldClaim}
use Rattle.sack_history.specs.Calls.{DropsNow, IsDropping, unknown}
use Rattle.sack_history.specs.Entries.{kept}
use Rattle.sack_history.specs.Failing.{sack_failure}
use Rattle.sack_history.specs.Holding.{held_after}
use Rattle.sack_history.specs.Legal.{IsLegalCount}
use Rattle.sack_history.specs.Lives.{is_live}
use Rattle.sack_history.specs.Scratch.{without_live}
use Rattle.sack_history.proofs.Keeping.{kept_legal}
use Rattle.sack_state.specs.declared.books.Books.{Books}
use Rattle.sack_state.specs.declared.disks.Opening.{Opening}
use Rattle.sack_state.specs.declared.holding.Keeping.{Keeping}
use Rattle.sack_state.specs.declared.holding.Keeping.TheVariants.{Mounted}
use Rattle.sack_state.specs.Books.{AreLasting, AreOfPlace, AreWhole, disks_of}
use Rattle.sack_state.specs.Changing.{ChangesMetrics}
use Rattle.sack_state.specs.Disks.{CameWithin, IsSackFault, OnShelfLog}
use Rattle.sack_state.specs.Holding.{StaysBroken, TakesBooks, are_broken, state_of}
use Rattle.sack_state.specs.Posting.{knows}
use Rattle.sack_state.specs.SackCalls.{MatchOnDisk, entries_of_call}
use Rattle.sack_state.specs.SackView.{IsScratch, SackView, StandsAfter, StandsFor, capped}
use Rattle.sack_state.proofs.CallFacts.{call_came, call_fault, call_uses, failure_is, failure_of, refused_as}
use Rattle.sack_state.proofs.CallLemmas.{call_after, failed_after, view_of}
use Rattle.sack_state.proofs.ChangeLemmas.{change_cause, change_done, change_entry, change_on, change_real, on_shelf_log}
use Rattle.sack_state.proofs.EntryLemmas.{left_after}
use Rattle.sack_state.proofs.KnowLemmas.{knows_live}
use Rattle.sack_state.proofs.LifeLemmas.{dropped_metrics, dropped_next, dropped_pending}
use Rattle.sack_state.proofs.PostCalls.{taken_lasting, taken_whole}

module _ {D : Type 0} (g : Ghosts D) (tells : (n : ℕ) (old new : D) → g.came n old new → is_some (g.told new) ≡ is_some (g.told old)) (reads : (disk : D) → IfSome (g.told disk) (g.may_leave disk)) (came_none : (disk : D) → g.came 0 disk disk)
    (came_more : (m n : ℕ) (old new : D) → m ≤ n → g.came m old new → g.came n old new) (came_then : (m n : ℕ) (old mid new : D) → g.came m old mid → g.came n mid new → g.came (m + n) old new)
    (came_later : (n : ℕ) (old new : D) → g.came n old new → g.faults old ≤ g.faults new)
    (only_now : (disk : D) (image : List ℕ) → g.left_since disk (g.moment disk) image → g.may_leave disk image)
    (place : Place) (opening : Opening D) (keeping then : Option (Keeping D)) (claim left : Option HeldClaim) (tickets n k : ℕ) (m : MetricId) where
  -- the books were taken
  module _ (books new : Books D) (anew : Bool) (result : Result (Unit {0}) SackFault) (takes : TakesBooks g place keeping books anew) (of_place : AreOfPlace place books) (then_is : then ≡ Some (Mounted new))
      (incoming : new.incoming ≡ books.incoming) (new_place : new.shelf.place ≡ books.shelf.place)
      (outcome : ChangesMetrics g m true sack_fault.Unknown sack_failure (without_live m) books new result) where
    abbrev whole : AreWhole books
    whole = taken_whole g place keeping books anew takes

    abbrev lasting : AreLasting g books
    lasting = taken_lasting g place keeping books anew takes

    abbrev entry : Entry
    entry = change_entry g tells came_none came_more only_now m true sack_fault.Unknown sack_failure (without_live m) books new result whole lasting incoming place of_place new_place (counted.Drop m) outcome

    abbrev on : OnShelfLog g 4 (disks_of books) (disks_of new)
    on = change_on g tells came_none came_more only_now m true sack_fault.Unknown sack_failure (without_live m) books new result whole lasting incoming place of_place new_place (counted.Drop m) outcome

    module _ (v : SackView D) (history : List Entry) (scratch : IsScratch g v (record { disks = disks_of books; books = books; broken = false }) history) where
      abbrev counts : List Counted
      counts = kept history

      legal : IsLegalCount counts
      legal = kept_legal v.place.sack history scratch.legal

      live : knows m books ≡ is_live m counts
      live = knows_live books counts m scratch.remembers

      drop_answers : (b : Bool) → knows m books ≡ b → unknown m counts ≡ cond b None (Some sack_fault.Unknown)
      drop_answers b is = ap (λ c. cond c None (Some sack_fault.Unknown)) (sym live ∙ is)

    pub drop_stands : left ≡ cond (anew || are_broken new) None (cond (is_ok result) (held_after claim (entries.Counted (counted.Drop m))) claim) → k ≡ capped (n + entries_of_call anew) → (h : List Entry) → StandsFor g h (view_of keeping place opening claim tickets n)
        → StandsAfter g h (λ (counts : List Counted). Some (counted.Drop m)) (view_of keeping place opening claim tickets n) (view_of then place opening left tickets k) (IsDropping m result)
    drop_stands left_claim count h stands = call_after g tells reads came_later place opening keeping then claim left tickets tickets n k (Some m)
        (DropsNow m result) (λ failure. result ≡ Err (sack_failure failure)) (λ (counts : List Counted). Some (counted.Drop m)) books new anew then_is entry count
        (change_real g tells came_none came_more only_now m true sack_fault.Unknown sack_failure (without_live m) books new result whole lasting incoming place of_place new_place (counted.Drop m) came_later outcome)
        (λ v v_place held v_tickets history scratch. change_done g tells came_none came_more only_now m true sack_fault.Unknown sack_failure (without_live m) books new result whole lasting incoming place of_place new_place (counted.Drop m)
        v (view_of then place opening left tickets k) v_place refl (left_after anew (are_broken new) (is_ok result) claim left (entries.Counted (counted.Drop m)) refl left_claim v.held held) (sym v_tickets) history scratch
        (λ t. refl) (unknown m) (λ known. drop_answers v history scratch true known) (λ known. drop_answers v history scratch false known)
        (λ known. sym (live v history scratch) ∙ known) (λ known. dropped_metrics m (kept history)) (dropped_next m (kept history)) (λ posts known told is. dropped_pending m (kept history) posts is) outcome)
        takes h stands

    pub drop_came : MatchOption (option_map state_of keeping) ⊥ (λ s. MatchOption (option_map state_of then) ⊥ (λ t. CameWithin g 2 6 1 s.disks t.disks))
    drop_came = call_came g came_none came_more came_then came_later place keeping then books new anew takes then_is 0 4 0 (on_shelf_log g came_none came_more 4 books new on)

    pub drop_uses : MatchOption (option_map state_of keeping) ⊥ (λ s. MatchOption (option_map state_of then) ⊥ (λ t. s.broken ≡ false → OnShelfLog g 4 s.disks t.disks))
    drop_uses = call_uses g came_none came_more came_then came_later place keeping then books new anew takes then_is (OnShelfLog g 4) on

    pub drop_cause : IfErr result (λ (e : SackFault). MatchOnDisk e (λ f. MatchOption (option_map state_of keeping) ⊥ (λ s. MatchOption (option_map state_of then) ⊥ (λ t. IsSackFault g s.disks t.disks f))) (MatchOption (option_map state_of keeping) ⊥ (λ s. s.broken ≡ true)))
    drop_cause = change_cause g tells came_none came_more only_now m true sack_fault.Unknown sack_failure (without_live m) books new result whole lasting incoming place of_place new_place (counted.Drop m) (λ (e : SackFault). MatchOnDisk e (λ f. MatchOption (option_map state_of keeping) ⊥ (λ s. MatchOption (option_map state_of then) ⊥ (λ t. IsSackFault g s.disks t.disks f))) (MatchOption (option_map state_of keeping) ⊥ (λ s. s.broken ≡ true))) (λ f is. call_fault g came_none came_more came_then came_later place keeping then books new anew takes then_is f is) tt tt outcome

    pub drop_sound : IfErr result (λ (e : SackFault). MatchOnDisk e (λ f. ⊤) ⊥)
    drop_sound = change_cause g tells came_none came_more only_now m true sack_fault.Unknown sack_failure (without_live m) books new result whole lasting incoming place of_place new_place (counted.Drop m) (λ (e : SackFault). MatchOnDisk e (λ f. ⊤) ⊥) (λ f is. tt) tt tt outcome

  -- mounting failed
  pub undropped : (fault : MountFault) → StaysBroken g place keeping then fault → (r : SackFault) → MatchMountFault fault (λ f. r ≡ sack_fault.DiskFault f) (λ d. r ≡ sack_fault.Damaged d) (r ≡ sack_fault.Memory) → left ≡ claim → k ≡ capped (n + 1)
      → (h : List Entry) → StandsFor g h (view_of keeping place opening claim tickets n)
      → StandsAfter g h (λ (counts : List Counted). Some (counted.Drop m)) (view_of keeping place opening claim tickets n) (view_of then place opening left tickets k) (IsDropping m (Err r))
  undropped fault stays r is same_claim count h stands = failed_after g tells reads came_later place opening keeping then claim left tickets tickets n k (Some m)
      (DropsNow m (Err r)) (λ failure. (let x : Result (Unit {0}) SackFault = Err r in x) ≡ Err (sack_failure failure)) (λ (counts : List Counted). Some (counted.Drop m)) fault stays same_claim refl count h stands
      (failure_of fault) (failure_is fault) (ap (λ x. Err x) (refused_as fault r is))
