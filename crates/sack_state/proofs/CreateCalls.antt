-- Creating a metric on a sack, which mounts its books first where they are broken.
use Rattle.std.proofs.Common.{◌≡◌, ℕ, ◌+◌, ◌-◌, ◌≤◌, Bool, true, false, cond, ◌||◌, List, [], Option, Some, None, Result, Err, refl, sym, ap, ◌∙◌}
use Rattle.std.specs.Bool.{⊤}
use Rattle.std.specs.Option.{IfSome, MatchOption, is_some, option_map}
use Rattle.std.specs.Result.{IfErr, is_ok}
use Rattle.gno_disk.specs.declared.disk.Disk.{Ghosts}
use Rattle.gate_log.specs.LogView.{MatchMountFault}
use Rattle.gate_log.specs.declared.fault.MountFault.{MountFault}
use Rattle.log_pair.specs.declared.place.Place.{Place}
use Rattle.archive_policy.specs.Policies.{ArchivePolicy}
use Rattle.series_model.specs.declared.metric.MetricId.{MetricId}
use Rattle.split_update.specs.Live.{live_from_scratch}
use Rattle.sack_history.specs.declared.entry.Counted.{Counted}
use Rattle.sack_history.specs.declared.entry.Counted.TheVariants as counted
use Rattle.sack_history.specs.declared.entry.Entry.{Entry}
use Rattle.sack_history.specs.declared.entry.Entry.TheVariants as entries
use Rattle.sack_history.specs.declared.fault.CreateFault.{CreateFault}
use Rattle.sack_history.specs.declared.fault.CreateFault.TheVariants as create_fault
use Rattle.sack_history.specs.declared.holding.HeldClaim.{HeldClaim}
use Rattle.sack_history.specs.Calls.{CreatesNow, IsCreating, create_refusal}
use Rattle.sack_history.specs.Entries.{kept}
use Rattle.sack_history.specs.Failing.{create_failure}
use Rattle.sack_history.specs.Holding.{held_after}
use Rattle.sack_history.specs.Legal.{IsLegalCount}
use Rattle.sack_history.specs.Lives.{is_live, last_post, life_of}
use Rattle.sack_history.specs.Scratch.{with_live}
use Rattle.sack_history.proofs.Keeping.{kept_legal}
use Rattle.sack_state.specs.declared.books.Books.{Books}
use Rattle.sack_state.specs.declared.disks.Opening.{Opening}
use Rattle.sack_state.specs.declared.holding.Keeping.{Keeping}
use Rattle.sack_state.specs.declared.holding.Keeping.TheVariants.{Mounted}
use Rattle.sack_state.specs.Books.{AreLasting, AreOfPlace, AreWhole, disks_of}
use Rattle.sack_state.specs.Changing.{ArePostsBelow, ChangesMetrics, IsValid}
use Rattle.sack_state.specs.Disks.{CameWithin, IsSackFault, OnShelfLog}
use Rattle.sack_state.specs.Holding.{StaysBroken, TakesBooks, are_broken, state_of}
use Rattle.sack_state.specs.Posting.{knows}
use Rattle.sack_state.specs.SackCalls.{MatchCreateOnDisk, entries_of_call}
use Rattle.sack_state.specs.SackView.{IsScratch, SackView, StandsAfter, StandsFor, capped}
use Rattle.sack_state.proofs.CallFacts.{call_came, call_fault, call_uses, created_as, failure_is, failure_of}
use Rattle.sack_state.proofs.CallLemmas.{call_after, failed_after, view_of}
use Rattle.sack_state.proofs.ChangeLemmas.{change_cause, change_done, change_entry, change_on, change_real, on_shelf_log}
use Rattle.sack_state.proofs.EntryLemmas.{left_after}
use Rattle.sack_state.proofs.KnowLemmas.{knows_live}
use Rattle.sack_state.proofs.LifeLemmas.{created_metrics, created_next, created_pending, not_live, posts_most, valid_policy}
use Rattle.sack_state.proofs.PostCalls.{taken_lasting, taken_whole}

-- a creating leaves the claim that is held
create_keeps : (b : Bool) (o : Option HeldClaim) (m : MetricId) (policy : ArchivePolicy) → cond b (held_after o (entries.Counted (counted.Create m policy))) o ≡ o
create_keeps true None m policy = refl
create_keeps true (Some claim) m policy = refl
create_keeps false o m policy = refl

module _ {D : Type 0} (g : Ghosts D) (tells : (n : ℕ) (old new : D) → g.came n old new → is_some (g.told new) ≡ is_some (g.told old)) (reads : (disk : D) → IfSome (g.told disk) (g.may_leave disk)) (came_none : (disk : D) → g.came 0 disk disk)
    (came_more : (m n : ℕ) (old new : D) → m ≤ n → g.came m old new → g.came n old new) (came_then : (m n : ℕ) (old mid new : D) → g.came m old mid → g.came n mid new → g.came (m + n) old new)
    (came_later : (n : ℕ) (old new : D) → g.came n old new → g.faults old ≤ g.faults new)
    (only_now : (disk : D) (image : List ℕ) → g.left_since disk (g.moment disk) image → g.may_leave disk image)
    (place : Place) (opening : Opening D) (keeping then : Option (Keeping D)) (claim left : Option HeldClaim) (tickets n k : ℕ) (m : MetricId) where
  -- the books were taken
  module _ (policy : ArchivePolicy) (valid : IsValid policy) (books new : Books D) (anew : Bool) (result : Result (Unit {0}) CreateFault) (takes : TakesBooks g place keeping books anew) (of_place : AreOfPlace place books) (then_is : then ≡ Some (Mounted new))
      (incoming : new.incoming ≡ books.incoming) (new_place : new.shelf.place ≡ books.shelf.place) (below : ArePostsBelow books.incoming)
      (outcome : ChangesMetrics g m false create_fault.Exists create_failure (with_live (live_from_scratch m policy (books.incoming.next - 1) [])) books new result) where
    abbrev whole : AreWhole books
    whole = taken_whole g place keeping books anew takes

    abbrev lasting : AreLasting g books
    lasting = taken_lasting g place keeping books anew takes

    abbrev entry : Entry
    entry = change_entry g tells came_none came_more only_now m false create_fault.Exists create_failure (with_live (live_from_scratch m policy (books.incoming.next - 1) [])) books new result whole lasting incoming place of_place new_place (counted.Create m policy) outcome

    abbrev on : OnShelfLog g 4 (disks_of books) (disks_of new)
    on = change_on g tells came_none came_more only_now m false create_fault.Exists create_failure (with_live (live_from_scratch m policy (books.incoming.next - 1) [])) books new result whole lasting incoming place of_place new_place (counted.Create m policy) outcome

    module _ (v : SackView D) (history : List Entry) (scratch : IsScratch g v (record { disks = disks_of books; books = books; broken = false }) history) where
      abbrev counts : List Counted
      counts = kept history

      legal : IsLegalCount counts
      legal = kept_legal v.place.sack history scratch.legal

      live : knows m books ≡ is_live m counts
      live = knows_live books counts m scratch.remembers

      absent : knows m books ≡ false → life_of m counts ≡ None
      absent known = not_live (life_of m counts) (sym live ∙ known)

      create_answers : (b : Bool) → knows m books ≡ b → create_refusal m counts ≡ cond b (Some create_fault.Exists) None
      create_answers b is = ap (λ c. cond c (Some create_fault.Exists) None) (sym live ∙ is)

    pub create_stands : left ≡ cond (anew || are_broken new) None claim → k ≡ capped (n + entries_of_call anew) → (h : List Entry) → StandsFor g h (view_of keeping place opening claim tickets n)
        → StandsAfter g h (λ (counts : List Counted). Some (counted.Create m policy)) (view_of keeping place opening claim tickets n) (view_of then place opening left tickets k) (IsCreating m policy result)
    create_stands left_claim count h stands = call_after g tells reads came_later place opening keeping then claim left tickets tickets n k (Some m)
        (CreatesNow m policy result) (λ failure. result ≡ Err (create_failure failure)) (λ (counts : List Counted). Some (counted.Create m policy)) books new anew then_is entry count
        (change_real g tells came_none came_more only_now m false create_fault.Exists create_failure (with_live (live_from_scratch m policy (books.incoming.next - 1) [])) books new result whole lasting incoming place of_place new_place (counted.Create m policy) came_later outcome)
        (λ v v_place held v_tickets history scratch. change_done g tells came_none came_more only_now m false create_fault.Exists create_failure (with_live (live_from_scratch m policy (books.incoming.next - 1) [])) books new result whole lasting incoming place of_place new_place (counted.Create m policy)
        v (view_of then place opening left tickets k) v_place refl (left_after anew (are_broken new) (is_ok result) claim left (entries.Counted (counted.Create m policy)) refl (left_claim ∙ ap (λ o. cond (anew || are_broken new) None o) (sym (create_keeps (is_ok result) claim m policy))) v.held held) (sym v_tickets) history scratch
        (λ t. refl) (create_refusal m) (λ known. create_answers v history scratch false known) (λ known. create_answers v history scratch true known)
        (λ known. record { absent = absent v history scratch known; policy_is = valid_policy policy valid }) (λ known. created_metrics m policy (kept history) (legal v history scratch) (absent v history scratch known) books.incoming.next (scratch.has refl).next) (created_next m policy (kept history))
        (λ posts known told is. created_pending m policy (kept history) (legal v history scratch) (absent v history scratch known) posts (posts_most books.incoming posts (last_post (kept history)) below told (scratch.has refl).next) is) outcome)
        takes h stands

    pub create_came : MatchOption (option_map state_of keeping) ⊥ (λ s. MatchOption (option_map state_of then) ⊥ (λ t. CameWithin g 2 6 1 s.disks t.disks))
    create_came = call_came g came_none came_more came_then came_later place keeping then books new anew takes then_is 0 4 0 (on_shelf_log g came_none came_more 4 books new on)

    pub create_uses : MatchOption (option_map state_of keeping) ⊥ (λ s. MatchOption (option_map state_of then) ⊥ (λ t. s.broken ≡ false → OnShelfLog g 4 s.disks t.disks))
    create_uses = call_uses g came_none came_more came_then came_later place keeping then books new anew takes then_is (OnShelfLog g 4) on

    pub create_cause : IfErr result (λ (e : CreateFault). MatchCreateOnDisk e (λ f. MatchOption (option_map state_of keeping) ⊥ (λ s. MatchOption (option_map state_of then) ⊥ (λ t. IsSackFault g s.disks t.disks f))) (MatchOption (option_map state_of keeping) ⊥ (λ s. s.broken ≡ true)))
    create_cause = change_cause g tells came_none came_more only_now m false create_fault.Exists create_failure (with_live (live_from_scratch m policy (books.incoming.next - 1) [])) books new result whole lasting incoming place of_place new_place (counted.Create m policy) (λ (e : CreateFault). MatchCreateOnDisk e (λ f. MatchOption (option_map state_of keeping) ⊥ (λ s. MatchOption (option_map state_of then) ⊥ (λ t. IsSackFault g s.disks t.disks f))) (MatchOption (option_map state_of keeping) ⊥ (λ s. s.broken ≡ true))) (λ f is. call_fault g came_none came_more came_then came_later place keeping then books new anew takes then_is f is) tt tt outcome

    pub created_sound : IfErr result (λ (e : CreateFault). MatchCreateOnDisk e (λ f. ⊤) ⊥)
    created_sound = change_cause g tells came_none came_more only_now m false create_fault.Exists create_failure (with_live (live_from_scratch m policy (books.incoming.next - 1) [])) books new result whole lasting incoming place of_place new_place (counted.Create m policy) (λ (e : CreateFault). MatchCreateOnDisk e (λ f. ⊤) ⊥) (λ f is. tt) tt tt outcome

  -- mounting failed
  pub uncreated : (policy : ArchivePolicy) → (fault : MountFault) → StaysBroken g place keeping then fault → (r : CreateFault) → MatchMountFault fault (λ f. r ≡ create_fault.DiskFault f) (λ d. r ≡ create_fault.Damaged d) (r ≡ create_fault.Memory) → left ≡ claim → k ≡ capped (n + 1)
      → (h : List Entry) → StandsFor g h (view_of keeping place opening claim tickets n)
      → StandsAfter g h (λ (counts : List Counted). Some (counted.Create m policy)) (view_of keeping place opening claim tickets n) (view_of then place opening left tickets k) (IsCreating m policy (Err r))
  uncreated policy fault stays r is same_claim count h stands = failed_after g tells reads came_later place opening keeping then claim left tickets tickets n k (Some m)
      (CreatesNow m policy (Err r)) (λ failure. (let x : Result (Unit {0}) CreateFault = Err r in x) ≡ Err (create_failure failure)) (λ (counts : List Counted). Some (counted.Create m policy)) fault stays same_claim refl count h stands
      (failure_of fault) (failure_is fault) (ap (λ x. Err x) (created_as fault r is))
