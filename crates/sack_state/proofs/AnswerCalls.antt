-- A query of a sack, which mounts its books first where they are broken.
use Rattle.std.proofs.Common.{◌≡◌, ◌⊎◌, not, ℕ, [], ◌∷◌, ◌++◌, ◌+◌, ◌≤◌, Bool, true, false, cond, ◌||◌, List, Option, Some, None, Result, Err, refl, sym, ap, subst, ◌∙◌}
use Rattle.std.specs.Bool.{⊤}
use Rattle.std.specs.Option.{IfSome, MatchOption, is_some, option_map}
use Rattle.std.specs.Result.{IfErr}
use Rattle.gno_disk.specs.Disk.{TimeGoesOn}
use Rattle.gno_disk.specs.Phases.{AreUnwritten}
use Rattle.gno_disk.specs.declared.disk.Disk.{Ghosts}
use Rattle.gno_num.specs.declared.faults.DiskFault.{DiskFault as Fault}
use Rattle.gate_log.specs.LogView.{MatchMountFault}
use Rattle.gate_log.specs.declared.fault.MountFault.{MountFault}
use Rattle.log_pair.specs.declared.place.Place.{Place}
use Rattle.sack_history.specs.declared.entry.Counted.{Counted}
use Rattle.sack_history.specs.declared.entry.Entry.{Entry}
use Rattle.sack_history.specs.declared.fault.SackFault.{SackFault}
use Rattle.sack_history.specs.declared.fault.SackFault.TheVariants as sack_fault
use Rattle.sack_history.specs.declared.holding.HeldClaim.{HeldClaim}
use Rattle.sack_history.specs.Scratch.{Durable}
use Rattle.sack_history.specs.Failing.{Failure, damage, no_memory, on_disk, sack_failure}
use Rattle.sack_state.specs.declared.books.Books.{Books}
use Rattle.sack_state.specs.declared.disks.Opening.{Opening}
use Rattle.sack_state.specs.declared.holding.Keeping.{Keeping}
use Rattle.sack_state.specs.declared.holding.Keeping.TheVariants.{Mounted}
use Rattle.sack_state.specs.Books.{AreLasting, AreOfPlace, AreWhole, disks_of}
use Rattle.sack_state.specs.Claiming.{AreOnlyRead, FailsRead, KeepsNone, damaged, failed, starved}
use Rattle.sack_state.specs.Disks.{CameWithin, IsSackFault, sack_faults, sack_phases}
use Rattle.sack_state.specs.Holding.{StaysBroken, TakesBooks, are_broken, state_of}
use Rattle.sack_state.specs.SackCalls.{MatchOnDisk, entries_of_call}
use Rattle.sack_state.specs.SackView.{HasDurable, HasNoEarlier, StandsAfter, StandsFor, capped}
use Rattle.sack_state.proofs.CallFacts.{call_came, call_fault, failure_is, failure_of, refused_as}
use Rattle.sack_state.proofs.CallLemmas.{call_after_if, failed_after, view_of}
use Rattle.sack_state.proofs.ClaimEntry.{never_none, read_came, read_unwritten}
use Rattle.sack_state.proofs.ReadCalls.{call_reads, damage_none}
use Rattle.sack_state.proofs.PostCalls.{taken_lasting, taken_whole}
use Rattle.sack_history.specs.Scratch.{Durable}
use Rattle.sack_state.proofs.ReadingLemmas.{untouched}
use Rattle.sack_state.specs.SackCalls.{MatchAnswerOnDisk}
use Rattle.archive_policy.specs.declared.kind.Kind.{Kind}
use Rattle.archive_policy.specs.Kinds.{is_among}
use Rattle.archive_policy.specs.Policies.{ArchivePolicy}
use Rattle.archive_policy.proofs.KindLemmas.{is_among-true}
use Rattle.series_model.specs.declared.answer.Row.{Row}
use Rattle.series_model.specs.declared.metric.MetricId.{MetricId}
use Rattle.series_model.specs.declared.query.Query.{Query}
use Rattle.series_model.specs.Query.{answer_under}
use Rattle.series_model.specs.Tail.{accepted_under}
use Rattle.shelf_records.specs.Shelved.{Shelved, metric_of}
use Rattle.sack_history.specs.declared.entry.Counted.{Counted}
use Rattle.sack_history.specs.declared.entry.Entry.TheVariants as entries
use Rattle.sack_history.specs.declared.fault.AnswerFault.{AnswerFault}
use Rattle.sack_history.specs.declared.fault.AnswerFault.TheVariants as answer_fault
use Rattle.sack_history.specs.Answering.{answer_refusal, answer_rows, lacks_granularity, lacks_kind, query_refusal, rows_by}
use Rattle.split_update.specs.Live.{Live}
use Rattle.gno_disk.specs.Phases.{EachMoment}
use Rattle.sack_state.specs.Disks.{OfFive}
use Rattle.sack_state.specs.SackHolding.{AreOldOrWritten}
use Rattle.sack_state.proofs.DoneLemmas.{state_with}
use Rattle.sack_history.specs.Calls.{AnswersNow, IsAnswering}
use Rattle.sack_history.specs.Entries.{kept}
use Rattle.sack_history.specs.Failing.{answer_failure, failed as call_failed, given as call_given, refused as call_refused}
use Rattle.sack_history.specs.Holding.{held_claim}
use Rattle.sack_history.specs.Legal.{IsLegalCount}
use Rattle.sack_history.specs.Lives.{Life, batches_of, life_of, live_policy}
use Rattle.sack_history.specs.Scratch.{durable, metrics_from_scratch}
use Rattle.sack_history.proofs.Keeping.{kept_legal}
use Rattle.sack_state.specs.Answering.{AnswersFrom, AreRowsOf, answer_fault_of, answered, policy_in_record, refused, unanswered}
use Rattle.sack_state.specs.SackView.{AreReal, IsScratch, Remembers, SackView}
use Rattle.sack_state.proofs.CommitDone.{may_fail}
use Rattle.sack_state.proofs.DoneLemmas.{IsDone, whole_books}
use Rattle.sack_state.proofs.KnowLemmas.{knows_live}
use Rattle.sack_state.proofs.LifeLemmas.{not_live}
use Rattle.sack_state.proofs.MetricLemmas.{held, life_as}
use Rattle.sack_state.proofs.ReadDone.{fail_entry, failure_by, failure_is as read_failure_is, fails_behind, fails_real, read_failed, read_look, read_moments, read_rises}

-- ---- by what counted

asked_kind : (policy : ArchivePolicy) (query : Query) (kind : Kind) → query_refusal query (Some policy) ≡ None → query.kind ≡ Some kind → is_among policy.kinds kind ≡ true
asked_kind policy query kind none is = by (is_among policy.kinds kind) refl
  where
    by : (b : Bool) → is_among policy.kinds kind ≡ b → is_among policy.kinds kind ≡ true
    by true among = among
    by false absent =
        let x = sym (ap (λ (o : Option Kind). cond (lacks_kind policy o) (Some answer_fault.NoAggregation) (cond (lacks_granularity policy query.granularity) (Some answer_fault.NoGranularity) None)) is
        ∙ ap (λ b. cond (not b) (Some answer_fault.NoAggregation) (cond (lacks_granularity policy query.granularity) (Some answer_fault.NoGranularity) None)) absent) ∙ none in
        absurd cc

module _ {D : Type 0} (g : Ghosts D) (b : Books D) (counts : List Counted) (has : HasDurable g b (durable counts)) (remembers : Remembers b (durable counts)) (legal : IsLegalCount counts) (metric : MetricId) where
  pub policy_known : policy_in_record (metric_of metric b.shelf.metrics) ≡ live_policy metric counts
  policy_known = by (metric_of metric b.shelf.metrics) refl
    where
      by : (o : Option Shelved) → metric_of metric b.shelf.metrics ≡ o → policy_in_record (metric_of metric b.shelf.metrics) ≡ live_policy metric counts
      by None is =
          ap policy_in_record is
          ∙ sym (ap (option_map (λ (life : Life). life.policy)) (not_live (life_of metric counts) (sym (knows_live b counts metric remembers) ∙ ap is_some is)))
      by (Some known) is =
          let lived = life_as g b counts has legal metric known is in
          let kept_as = held g b counts has legal metric known is in
          ap policy_in_record is ∙ ap (λ (p : ArchivePolicy). Some p) (sym kept_as.holds.policy ∙ ap (λ (l : Live). l.policy) lived.live) ∙ sym (ap (option_map (λ (life : Life). life.policy)) lived.is)

  pub rows_known : (query : Query) (kind : Kind) (rows : List Row) → query_refusal query (policy_in_record (metric_of metric b.shelf.metrics)) ≡ None → query.kind ≡ Some kind → AreRowsOf g b metric kind query rows → rows ≡ answer_rows metric query counts
  rows_known query kind rows none is are = by (metric_of metric b.shelf.metrics) refl
    where
      by : (o : Option Shelved) → metric_of metric b.shelf.metrics ≡ o → rows ≡ answer_rows metric query counts
      by None absent = let x = sym (ap (λ (o : Option Shelved). query_refusal query (policy_in_record o)) absent) ∙ none in absurd cc
      by (Some known) found =
          let lived = life_as g b counts has legal metric known found in
          let kept_as = held g b counts has legal metric known found in
          let life = lived.life in
          let policy_is : policy_in_record (metric_of metric b.shelf.metrics) ≡ Some life.policy = policy_known ∙ ap (option_map (λ (x : Life). x.policy)) lived.is in
          are life.policy (accepted_under life.policy (batches_of metric counts)) (record {
            lives = metrics_from_scratch counts;
            keeps = has.keeps;
            done = life.done;
            batches = batches_of metric counts;
            live = kept_as.there ∙ ap (λ (l : Live). Some l) lived.live;
            accepted_is = refl;
            kind_is = is_among-true life.policy.kinds kind (asked_kind life.policy query kind (sym (ap (query_refusal query) policy_is) ∙ none) is);
          })
          ∙ sym (ap (λ (o : Option ArchivePolicy). rows_by query [] (λ policy k. answer_under policy query k (accepted_under policy (batches_of metric counts))) o query.kind) (ap (option_map (λ (x : Life). x.policy)) lived.is)
          ∙ ap (λ (o : Option Kind). rows_by query [] (λ policy k. answer_under policy query k (accepted_under policy (batches_of metric counts))) (Some life.policy) o) is)

-- ---- what a query adds

abbrev pub answer_entry : {D : Type 0} (g : Ghosts D) (metric : MetricId) (query : Query) (old new : Books D) (result : Result (List Row) AnswerFault) → AnswersFrom g metric query old new result → Entry
answer_entry g metric query old new result (refused refusal why same res) = entries.Look (Some metric)
answer_entry g metric query old new result (answered kind rows none is are only whole lasting res) = entries.Look (Some metric)
answer_entry g metric query old new result (unanswered e none only fails res) = fail_entry g old new (Some metric) e fails

answer_failed : (x : Failure) → answer_fault_of (sack_failure x) ≡ answer_failure x
answer_failed no_memory = refl
answer_failed (on_disk f) = refl
answer_failed (damage d) = refl

-- a fact of a fault of a disk, and one of damage, of how a query answers a fault
pub told_of_answer : (e : SackFault) (P : Fault → Type 0) (Q : Type 0) → MatchOnDisk e P Q → MatchAnswerOnDisk (answer_fault_of e) P Q
told_of_answer (sack_fault.DiskFault f) P Q told = told
told_of_answer (sack_fault.Damaged d) P Q told = told
told_of_answer sack_fault.Unknown P Q told = tt
told_of_answer (sack_fault.Spent s) P Q told = tt
told_of_answer sack_fault.Memory P Q told = tt

-- a refusal is none of a disk
refusal_told : (query : Query) (o : Option ArchivePolicy) (refusal : AnswerFault) (P : Fault → Type 0) (Q : Type 0) → query_refusal query o ≡ Some refusal → MatchAnswerOnDisk refusal P Q
refusal_told query None refusal P Q is = subst (λ (o : Option AnswerFault). MatchOption o ⊤ (λ r. MatchAnswerOnDisk r P Q)) is tt
refusal_told query (Some policy) refusal P Q is = subst (λ (o : Option AnswerFault). MatchOption o ⊤ (λ r. MatchAnswerOnDisk r P Q)) is (by (lacks_kind policy query.kind) (lacks_granularity policy query.granularity))
  where
    by : (a b : Bool) → MatchOption (cond a (Some answer_fault.NoAggregation) (cond b (Some answer_fault.NoGranularity) None)) ⊤ (λ r. MatchAnswerOnDisk r P Q)
    by true b = tt
    by false true = tt
    by false false = tt

module _ {D : Type 0} (g : Ghosts D) (came_none : (disk : D) → g.came 0 disk disk) (came_more : (m n : ℕ) (old new : D) → m ≤ n → g.came m old new → g.came n old new)
    (came_later : (n : ℕ) (old new : D) → g.came n old new → g.faults old ≤ g.faults new)
    (only_now : (disk : D) (image : List ℕ) → g.left_since disk (g.moment disk) image → g.may_leave disk image) (metric : MetricId) (query : Query) (old new : Books D) (result : Result (List Row) AnswerFault) where
  pub answer_only : AnswersFrom g metric query old new result → AreOnlyRead g old new
  answer_only (refused refusal why same res) = subst (AreOnlyRead g old) (sym same) (untouched g only_now came_none came_later old)
  answer_only (answered kind rows none is are only whole lasting res) = only
  answer_only (unanswered e none only fails res) = only

  pub answer_real : (N : Type 0) → (((d : Durable) → HasDurable g old d → ⊥) → N) → (a : AnswersFrom g metric query old new result)
      → AreReal N (sack_faults g (disks_of old)) (answer_entry g metric query old new result a ∷ []) (sack_faults g (disks_of new))
  answer_real N never (refused refusal why same res) = read_rises g came_none came_more came_later old new (answer_only (refused refusal why same res)) N
  answer_real N never (answered kind rows none is are only whole lasting res) = read_rises g came_none came_more came_later old new only N
  answer_real N never (unanswered e none only fails res) = fails_real g came_none came_more came_later old new only N never (Some metric) e fails

module _ {D : Type 0} (g : Ghosts D) (tells : (n : ℕ) (old new : D) → g.came n old new → is_some (g.told new) ≡ is_some (g.told old)) (came_none : (disk : D) → g.came 0 disk disk)
    (came_more : (m n : ℕ) (old new : D) → m ≤ n → g.came m old new → g.came n old new) (came_later : (n : ℕ) (old new : D) → g.came n old new → g.faults old ≤ g.faults new)
    (time : (n : ℕ) (a b : D) → g.came n a b → g.moment a ≤ g.moment b) (only_now : (disk : D) (image : List ℕ) → g.left_since disk (g.moment disk) image → g.may_leave disk image)
    (place : Place) (metric : MetricId) (query : Query) (old new : Books D) (result : Result (List Row) AnswerFault) (whole : AreWhole old) (lasting : AreLasting g old) (of_place : AreOfPlace place old)
    (v w : SackView D) (v_place : v.place ≡ place) (w_place : w.place ≡ place) (w_tickets : w.tickets ≡ v.tickets) (w_held : w.held ≡ cond (are_broken new) None v.held)
    (history : List Entry) (scratch : IsScratch g v (record { disks = disks_of old; books = old; broken = false }) history) where
  counts_legal : IsLegalCount (kept history)
  counts_legal = kept_legal v.place.sack history scratch.legal

  refusals : query_refusal query (policy_in_record (metric_of metric old.shelf.metrics)) ≡ answer_refusal metric query (kept history)
  refusals = ap (query_refusal query) (policy_known g old (kept history) (scratch.has refl) scratch.remembers counts_legal metric)

  held_then : w.held ≡ cond (are_broken new) None (held_claim history)
  held_then = w_held ∙ ap (λ o. cond (are_broken new) None o) scratch.held

  looked : AreOnlyRead g old new → AreWhole new → AreLasting g new → IsScratch g w (state_with new) (history ++ entries.Look (Some metric) ∷ [])
  looked only whole_new lasting_new = read_look g tells came_none came_more time only_now place old new whole lasting of_place only v w v_place w_place history scratch (w_tickets ∙ scratch.tickets) (Some metric) whole_new lasting_new
      (held_then ∙ ap (λ b. cond b None (held_claim history)) (whole_books new whole_new))

  moments : AreOnlyRead g old new → EachMoment g (sack_phases (disks_of old) (disks_of new)) (OfFive (AreOldOrWritten place (kept history) None))
  moments only = read_moments g tells came_none came_more time only_now place old new whole lasting of_place only v w v_place w_place history scratch (w_tickets ∙ scratch.tickets) None

  pub answer_done : (a : AnswersFrom g metric query old new result) → IsDone g place (AnswersNow metric query result) (λ l. None) old new w (answer_entry g metric query old new result a) history
  answer_done (refused refusal why same res) =
      let only = answer_only g came_none came_more came_later only_now metric query old new result (refused refusal why same res) in
      record {
        does = call_refused refusal (sym refusals ∙ why) refl res;
        scratch = looked only (subst (λ (b : Books D). AreWhole b) (sym same) whole) (subst (AreLasting g) (sym same) lasting);
        moments = moments only;
      }
  answer_done (answered kind rows none is are only whole_new lasting_new res) = record {
    does = call_given rows (sym refusals ∙ none, (rows_known g old (kept history) (scratch.has refl) scratch.remembers counts_legal metric query kind rows none is are, refl)) res;
    scratch = looked only whole_new (lasting_new lasting);
    moments = moments only;
  }
  answer_done (unanswered e none only fails res) =
      let failure = failure_by g old new (Some metric) e fails in
      record {
        does = call_failed failure (may_fail failure (sym refusals ∙ none), fails_behind g old new (Some metric) e fails)
            (res ∙ ap (λ y. Err (answer_fault_of y)) (read_failure_is g old new (Some metric) e fails) ∙ ap (λ y. Err y) (answer_failed failure));
        scratch = read_failed g tells came_none came_more time only_now place old new whole lasting of_place only v w v_place w_place history scratch (w_tickets ∙ scratch.tickets) held_then (Some metric) e fails;
        moments = moments only;
      }

-- ---- the call

left_as : (anew broken : Bool) (claim left : Option HeldClaim) → left ≡ cond (anew || broken) None claim → (o : Option HeldClaim) → o ≡ cond anew None claim → left ≡ cond broken None o
left_as true true claim left is o same = is
left_as true false claim left is o same = is ∙ sym same
left_as false true claim left is o same = is
left_as false false claim left is o same = is ∙ sym same

module _ {D : Type 0} (g : Ghosts D) (tells : (n : ℕ) (old new : D) → g.came n old new → is_some (g.told new) ≡ is_some (g.told old)) (reads : (disk : D) → IfSome (g.told disk) (g.may_leave disk)) (came_none : (disk : D) → g.came 0 disk disk)
    (came_more : (m n : ℕ) (old new : D) → m ≤ n → g.came m old new → g.came n old new) (came_then : (m n : ℕ) (old mid new : D) → g.came m old mid → g.came n mid new → g.came (m + n) old new)
    (came_later : (n : ℕ) (old new : D) → g.came n old new → g.faults old ≤ g.faults new)
    (goes_on : (n : ℕ) (a b : D) → g.came n a b → TimeGoesOn (g.moment a) (g.moment b) (g.left_since a) (g.left_since b))
    (only_now : (disk : D) (image : List ℕ) → g.left_since disk (g.moment disk) image → g.may_leave disk image)
    (place : Place) (opening : Opening D) (keeping then : Option (Keeping D)) (claim left : Option HeldClaim) (tickets n k : ℕ) (metric : MetricId) (query : Query) where
  module _ (books new : Books D) (anew : Bool) (result : Result (List Row) AnswerFault) (takes : TakesBooks g place keeping books anew) (of_place : AreOfPlace place books) (then_is : then ≡ Some (Mounted new))
      (outcome : AnswersFrom g metric query books new result) where
    pub answer_stands : left ≡ cond (anew || are_broken new) None claim → k ≡ capped (n + entries_of_call anew) → (h : List Entry) → StandsFor g h (view_of keeping place opening claim tickets n)
        → StandsAfter g h (λ counts. None) (view_of keeping place opening claim tickets n) (view_of then place opening left tickets k) (IsAnswering metric query result)
    answer_stands left_claim count h stands = call_after_if g tells reads came_later place opening keeping then claim left tickets tickets n k (Some metric)
        (AnswersNow metric query result) (λ failure. result ≡ Err (answer_failure failure)) (λ counts. None) books new anew then_is (answer_entry g metric query books new result outcome) count
        (λ never. answer_real g came_none came_more came_later only_now metric query books new result (HasNoEarlier g place opening) never outcome)
        (λ v v_place held v_tickets history scratch. answer_done g tells came_none came_more came_later (λ m a b came. (goes_on m a b came).later) only_now place metric query books new result
        (taken_whole g place keeping books anew takes) (taken_lasting g place keeping books anew takes) of_place v (view_of then place opening left tickets k) v_place refl (sym v_tickets)
        (left_as anew (are_broken new) claim left left_claim v.held held) history scratch outcome)
        takes h stands

    abbrev only : AreOnlyRead g books new
    only = answer_only g came_none came_more came_later only_now metric query books new result outcome

    pub answer_came : MatchOption (option_map state_of keeping) ⊥ (λ s. MatchOption (option_map state_of then) ⊥ (λ t. CameWithin g 2 2 1 s.disks t.disks))
    answer_came = call_came g came_none came_more came_then came_later place keeping then books new anew takes then_is 0 0 0 (read_came g books new only came_none came_more)

    pub answer_reads : MatchOption (option_map state_of keeping) ⊥ (λ s. MatchOption (option_map state_of then) ⊥ (λ t. AreUnwritten g (sack_phases s.disks t.disks)))
    answer_reads = call_reads g goes_on place keeping then books new anew takes then_is (read_came g books new only came_none came_more) (read_unwritten g books new only only_now)

    -- what is told of its answer
    answers_with : (P : Fault → Type 0) (Q : Type 0) → ((e : SackFault) → FailsRead g books new e → MatchOnDisk e P Q) → IfErr result (λ e. MatchAnswerOnDisk e P Q)
    answers_with P Q bad = by outcome
      where
        by : AnswersFrom g metric query books new result → IfErr result (λ e. MatchAnswerOnDisk e P Q)
        by (refused refusal why same res) = subst (λ r. IfErr r (λ e. MatchAnswerOnDisk e P Q)) (sym res) (refusal_told query (policy_in_record (metric_of metric books.shelf.metrics)) refusal P Q why)
        by (answered kind rows none is are read whole lasting res) = subst (λ r. IfErr r (λ e. MatchAnswerOnDisk e P Q)) (sym res) tt
        by (unanswered e none read fails res) = subst (λ r. IfErr r (λ e. MatchAnswerOnDisk e P Q)) (sym res) (told_of_answer e P Q (bad e fails))

    pub answer_cause : IfErr result (λ e. MatchAnswerOnDisk e (λ f. MatchOption (option_map state_of keeping) ⊥ (λ s. MatchOption (option_map state_of then) ⊥ (λ t. IsSackFault g s.disks t.disks f))) (MatchOption (option_map state_of keeping) ⊥ (λ s. (s.broken ≡ true) ⊎ KeepsNone g s.books)))
    answer_cause = answers_with _ _ by
      where
        OnDisk : SackFault → Type 0
        OnDisk e = MatchOnDisk e (λ f. MatchOption (option_map state_of keeping) ⊥ (λ s. MatchOption (option_map state_of then) ⊥ (λ t. IsSackFault g s.disks t.disks f))) (MatchOption (option_map state_of keeping) ⊥ (λ s. (s.broken ≡ true) ⊎ KeepsNone g s.books))

        by : (e : SackFault) → FailsRead g books new e → OnDisk e
        by e (failed f broken fault is) = subst OnDisk (sym is) (call_fault g came_none came_more came_then came_later place keeping then books new anew takes then_is f fault)
        by e (damaged d broken none is) = subst OnDisk (sym is) (damage_none g place keeping books anew takes none)
        by e (starved whole_new lasting_new is) = subst OnDisk (sym is) tt

    pub answer_sound : (d : Durable) → HasDurable g books d → IfErr result (λ (e : AnswerFault). MatchAnswerOnDisk e (λ f. ⊤) ⊥)
    answer_sound d has = answers_with (λ f. ⊤) ⊥ by
      where
        by : (e : SackFault) → FailsRead g books new e → MatchOnDisk e (λ f. ⊤) ⊥
        by e (failed f broken fault is) = subst (λ x. MatchOnDisk x (λ f. ⊤) ⊥) (sym is) tt
        by e (damaged x broken none is) = absurd (never_none g books new only none d has)
        by e (starved whole_new lasting_new is) = subst (λ x. MatchOnDisk x (λ f. ⊤) ⊥) (sym is) tt

  -- mounting failed
  pub not_answered : (fault : MountFault) → StaysBroken g place keeping then fault → (r : SackFault) → MatchMountFault fault (λ f. r ≡ sack_fault.DiskFault f) (λ d. r ≡ sack_fault.Damaged d) (r ≡ sack_fault.Memory) → (e : AnswerFault) → e ≡ answer_fault_of r
      → left ≡ claim → k ≡ capped (n + 1) → (h : List Entry) → StandsFor g h (view_of keeping place opening claim tickets n)
      → StandsAfter g h (λ counts. None) (view_of keeping place opening claim tickets n) (view_of then place opening left tickets k) (IsAnswering metric query (Err e))
  not_answered fault stays r is e e_is same_claim count h stands = failed_after g tells reads came_later place opening keeping then claim left tickets tickets n k (Some metric)
      (AnswersNow metric query (Err e)) (λ failure. (let x : Result (List Row) AnswerFault = Err e in x) ≡ Err (answer_failure failure)) (λ counts. None) fault stays same_claim refl count h stands
      (failure_of fault) (failure_is fault) (ap (λ x. Err x) (e_is ∙ ap answer_fault_of (refused_as fault r is) ∙ answer_failed (failure_of fault)))
