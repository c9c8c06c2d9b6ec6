-- A refresh and a drain of a sack, which mount its books first where they are broken.
use Rattle.std.proofs.Common.{◌≡◌, ◌≢◌, ℕ, ◌+◌, ◌≤◌, Bool, true, false, cond, List, [], ◌∷◌, ◌++◌, length, Option, Some, None, Result, Ok, Err, refl, sym, ap, subst, ◌∙◌, append-nil, arith}
use Rattle.std.specs.Bool.{⊤}
use Rattle.std.specs.Option.{IfSome, MatchOption, is_some, option_map}
use Rattle.std.specs.Result.{IfErr, is_ok}
use Rattle.gno_num.specs.Faults.{Rose}
use Rattle.gno_num.specs.declared.faults.DiskFault.{DiskFault as Fault}
use Rattle.gno_disk.specs.Disk.{TimeGoesOn}
use Rattle.gno_disk.specs.declared.disk.Disk.{Ghosts}
use Rattle.gate_log.specs.LogView.{IsFault}
use Rattle.log_pair.specs.declared.place.Place.{Place}
use Rattle.series_model.specs.declared.metric.MetricId.{MetricId}
use Rattle.shelf_records.specs.Shelved.{metric_of}
use Rattle.sack_history.specs.declared.entry.Counted.{Counted}
use Rattle.sack_history.specs.declared.entry.Entry.{Entry}
use Rattle.sack_history.specs.declared.entry.Entry.TheVariants as entries
use Rattle.sack_history.specs.declared.fault.SackFault.{SackFault}
use Rattle.sack_history.specs.declared.fault.SackFault.TheVariants as sack_fault
use Rattle.sack_history.specs.declared.holding.HeldClaim.{HeldClaim}
use Rattle.sack_history.specs.Calls.{DrainsNow, IsDraining, IsRefreshing, RefreshesNow, done_or_look}
use Rattle.sack_history.specs.Entries.{kept}
use Rattle.sack_history.specs.Failing.{failed as call_failed, given as call_given, refused as call_refused, sack_failure}
use Rattle.sack_history.specs.Legal.{IsLegalCount}
use Rattle.sack_history.specs.Lives.{done_of, is_live}
use Rattle.sack_history.specs.Scratch.{Durable}
use Rattle.sack_history.specs.Turns.{drain_turns, refresh_turns, turns_by}
use Rattle.sack_history.proofs.Committed.{TurnIsFromScratch}
use Rattle.sack_history.proofs.Keeping.{kept-all_counted, kept-noted, kept_legal}
use Rattle.sack_state.specs.declared.books.Books.{Books}
use Rattle.sack_state.specs.declared.disks.Opening.{Opening}
use Rattle.sack_state.specs.declared.holding.Keeping.{Keeping}
use Rattle.sack_state.specs.declared.holding.Keeping.TheVariants.{Mounted}
use Rattle.sack_state.specs.Books.{AreLasting, AreOfPlace, AreWhole, disks_of}
use Rattle.sack_state.specs.Claiming.{AreOnlyRead, FailsRead, damaged, failed, starved}
use Rattle.sack_state.specs.Committing.{DrainsFrom, RefreshesFrom, TakesTurn, TakesTurns, TurnsTaken, broke, done_in_record, drained, ended, entries_of_turns, failed_at, map_ok, took, turned, unknown, unread, unwritten, written}
use Rattle.sack_state.specs.Disks.{IsSackFault, sack_faults}
use Rattle.sack_state.specs.Holding.{TakesBooks, are_broken, as_they_were, mounted_anew, state_of}
use Rattle.sack_state.specs.SackCalls.{MatchOnDisk}
use Rattle.sack_state.specs.SackTurns.{StandsAfterTurns, none as no_turns}
use Rattle.sack_state.specs.SackView.{AreReal, HasDurable, HasNoEarlier, IsScratch, SackView, StandsFor, capped, marks_waiting}
use Rattle.sack_state.specs.Waiting.{numbers_waiting}
use Rattle.sack_state.proofs.CallLemmas.{view_of}
use Rattle.sack_state.proofs.ClaimEntry.{never_none}
use Rattle.sack_state.proofs.CommitDone.{may_fail, same_fault}
use Rattle.sack_state.proofs.DiskLemmas.{faults_later}
use Rattle.sack_state.proofs.DoneLemmas.{whole_books}
use Rattle.sack_state.proofs.DueLemmas.{waiting_of_all, waiting_of_metric, whose}
use Rattle.sack_state.proofs.KnowLemmas.{done_known, knows_live}
use Rattle.sack_state.proofs.PostCalls.{taken_lasting, taken_whole}
use Rattle.sack_state.proofs.ReadDone.{read_look}
use Rattle.sack_state.proofs.ReadingLemmas.{untouched}
use Rattle.sack_state.proofs.TurnsCalls.{IsTaken, call_turns, entries_of_mounting}
use Rattle.sack_state.proofs.TurnsEnd.{EndsSo, IsTurnedTo, ends, fails, own_length, scratch_seen, turned_to, turns_end, turns_own, turns_place, turns_real, turns_rise, walk}

-- ---- what they add

abbrev pub refresh_own : {D : Type 0} (g : Ghosts D) (metric : MetricId) (held : Option HeldClaim) (old new : Books D) (result : Result ℕ SackFault) (turns : ℕ) (left : Option HeldClaim) → RefreshesFrom g metric held old new result turns left → List Entry
refresh_own g metric held old new result turns left (unknown none same res zero_turns same_claim) = entries.Look (Some metric) ∷ []
refresh_own g metric held old new result turns left (turned given live t res) = turns_own g (Some metric) (Some metric) (length (numbers_waiting old metric)) held old new given turns left t

abbrev pub drain_own : {D : Type 0} (g : Ghosts D) (held : Option HeldClaim) (old new : Books D) (result : Result ℕ SackFault) (turns : ℕ) (left : Option HeldClaim) → DrainsFrom g held old new result turns left → List Entry
drain_own g held old new result turns left (drained given t res) = turns_own g None None (length (marks_waiting old)) held old new given turns left t

map_is_ok : {A B F : Type 0} (f : A → B) (r : Result A F) → is_ok (map_ok f r) ≡ is_ok r
map_is_ok f (Ok a) = refl
map_is_ok f (Err e) = refl

refresh_length : {D : Type 0} (g : Ghosts D) (metric : MetricId) (held : Option HeldClaim) (old new : Books D) (result : Result ℕ SackFault) (turns : ℕ) (left : Option HeldClaim) (r : RefreshesFrom g metric held old new result turns left)
    → length (refresh_own g metric held old new result turns left r) ≡ entries_of_turns turns (is_ok result)
refresh_length g metric held old new result turns left (unknown none same res zero_turns same_claim) = sym (ap (λ n. entries_of_turns n (is_ok result)) zero_turns)
refresh_length g metric held old new result turns left (turned given live t res) =
    own_length g (Some metric) (Some metric) (length (numbers_waiting old metric)) held old new given turns left t
    ∙ ap (entries_of_turns turns) (sym (ap (λ (r : Result ℕ SackFault). is_ok r) res ∙ map_is_ok (λ (done : Unit {0}). done_in_record (metric_of metric new.shelf.metrics)) given))

drain_length : {D : Type 0} (g : Ghosts D) (held : Option HeldClaim) (old new : Books D) (result : Result ℕ SackFault) (turns : ℕ) (left : Option HeldClaim) (r : DrainsFrom g held old new result turns left)
    → length (drain_own g held old new result turns left r) ≡ entries_of_turns turns (is_ok result)
drain_length g held old new result turns left (drained given t res) =
    own_length g None None (length (marks_waiting old)) held old new given turns left t
    ∙ ap (entries_of_turns turns) (sym (ap (λ (r : Result ℕ SackFault). is_ok r) res ∙ map_is_ok (λ (done : Unit {0}). turns) given))

-- ---- the books are of the sack's place still

pub refresh_place : {D : Type 0} (g : Ghosts D) (place : Place) (metric : MetricId) (held : Option HeldClaim) (old new : Books D) (result : Result ℕ SackFault) (turns : ℕ) (left : Option HeldClaim) → RefreshesFrom g metric held old new result turns left
    → AreOfPlace place old → AreOfPlace place new
refresh_place g place metric held old new result turns left (unknown none same res zero_turns same_claim) of_place = subst (λ (b : Books _). AreOfPlace place b) (sym same) of_place
refresh_place g place metric held old new result turns left (turned given live t res) of_place = turns_place g place (Some metric) (length (numbers_waiting old metric)) held old new given turns left t of_place

pub drain_place : {D : Type 0} (g : Ghosts D) (place : Place) (held : Option HeldClaim) (old new : Books D) (result : Result ℕ SackFault) (turns : ℕ) (left : Option HeldClaim) → DrainsFrom g held old new result turns left
    → AreOfPlace place old → AreOfPlace place new
drain_place g place held old new result turns left (drained given t res) of_place = turns_place g place None (length (marks_waiting old)) held old new given turns left t of_place

-- ---- why a turn failed

module _ {D : Type 0} (g : Ghosts D) (came_none : (disk : D) → g.came 0 disk disk) (came_more : (m n : ℕ) (old new : D) → m ≤ n → g.came m old new → g.came n old new)
    (came_then : (m n : ℕ) (old mid new : D) → g.came m old mid → g.came n mid new → g.came (m + n) old new) (came_later : (n : ℕ) (old new : D) → g.came n old new → g.faults old ≤ g.faults new)
    (only_now : (disk : D) (image : List ℕ) → g.left_since disk (g.moment disk) image → g.may_leave disk image) (only : Option MetricId) (most : ℕ) (held : Option HeldClaim) (old new : Books D) (turns : ℕ) (left : Option HeldClaim) where
  abbrev OnDisk : SackFault → Type 0
  OnDisk e = MatchOnDisk e (IsSackFault g (disks_of old) (disks_of new)) ⊤

  since_old : (mid : Books D) → sack_faults g (disks_of old) ≤ sack_faults g (disks_of mid) → (f : Fault) → IsFault (sack_faults g (disks_of mid)) (sack_faults g (disks_of new)) f → IsSackFault g (disks_of old) (disks_of new) f
  since_old mid le f fault = record {
    before = subst (λ n. sack_faults g (disks_of old) ≤ n) (sym fault.before_is) le;
    after = fault.after_is;
    rose = subst (λ n. Rose n f.after) (sym fault.before_is) (subst (λ n. Rose (sack_faults g (disks_of mid)) n) (sym fault.after_is) fault.rose);
  }

  read_told : (mid : Books D) → sack_faults g (disks_of old) ≤ sack_faults g (disks_of mid) → (e x : SackFault) → e ≡ x → FailsRead g mid new x → OnDisk e
  read_told mid le e x same (failed f broken fault is) = subst OnDisk (sym (same ∙ is)) (since_old mid le f fault)
  read_told mid le e x same (damaged d broken none is) = subst OnDisk (sym (same ∙ is)) tt
  read_told mid le e x same (starved whole lasting is) = subst OnDisk (sym (same ∙ is)) tt

  turn_told : (mid : Books D) → sack_faults g (disks_of old) ≤ sack_faults g (disks_of mid) → (metric : MetricId) (e : SackFault) → TakesTurn g metric mid new (Err e) → OnDisk e
  turn_told mid le metric e (took p (written mid_read ready same writes has whole lasting is)) = absurd cc
  turn_told mid le metric e (took p (broke mid_read f ready same writes has fault is)) = subst OnDisk (sym (same_fault e (sack_fault.DiskFault f) is)) (since_old mid le f fault)
  turn_told mid le metric e (took p (unwritten x read bad is)) = read_told mid le e x (same_fault e x is) bad
  turn_told mid le metric e (unread x read bad is) = read_told mid le e x (same_fault e x is) bad

  -- a fault of a disk has its counts
  pub turns_told : (given : Result (Unit {0}) SackFault) → TakesTurns g only most held old new given turns left → IfErr given (λ e. MatchOnDisk e (IsSackFault g (disks_of old) (disks_of new)) ⊤)
  turns_told given (ended t le last whole lasting res) = subst (λ r. IfErr r OnDisk) (sym res) tt
  turns_told given (failed_at mid metric e t less whole lasting due take res) = subst (λ r. IfErr r OnDisk) (sym res)
      (turn_told mid (turns_rise g came_none came_more came_then came_later only_now only held old mid turns left t) metric e take)

  -- no answer is `Unknown`
  turn_known : (mid : Books D) (metric : MetricId) (e : SackFault) → TakesTurn g metric mid new (Err e) → e ≢ sack_fault.Unknown
  turn_known mid metric e (took p (written mid_read ready same writes has whole lasting is)) wrong = absurd cc
  turn_known mid metric e (took p (broke mid_read f ready same writes has fault is)) wrong = let x = sym (same_fault e (sack_fault.DiskFault f) is) ∙ wrong in absurd cc
  turn_known mid metric e (took p (unwritten x read bad is)) wrong = read_known x bad (sym (same_fault e x is) ∙ wrong)
    where
      read_known : (x : SackFault) → FailsRead g mid new x → x ≢ sack_fault.Unknown
      read_known x (failed f broken fault is) w = let y = sym is ∙ w in absurd cc
      read_known x (damaged d broken none is) w = let y = sym is ∙ w in absurd cc
      read_known x (starved whole lasting is) w = let y = sym is ∙ w in absurd cc
  turn_known mid metric e (unread x read bad is) wrong = read_known x bad (sym (same_fault e x is) ∙ wrong)
    where
      read_known : (x : SackFault) → FailsRead g mid new x → x ≢ sack_fault.Unknown
      read_known x (failed f broken fault is) w = let y = sym is ∙ w in absurd cc
      read_known x (damaged d broken none is) w = let y = sym is ∙ w in absurd cc
      read_known x (starved whole lasting is) w = let y = sym is ∙ w in absurd cc

  pub turns_known : (given : Result (Unit {0}) SackFault) → TakesTurns g only most held old new given turns left → IfErr given (λ e. e ≢ sack_fault.Unknown)
  turns_known given (ended t le last whole lasting res) = subst (λ r. IfErr r (λ e. e ≢ sack_fault.Unknown)) (sym res) tt
  turns_known given (failed_at mid metric e t less whole lasting due take res) = subst (λ r. IfErr r (λ e. e ≢ sack_fault.Unknown)) (sym res) (turn_known mid metric e take)

  -- no damage where the books that are read have a durable state
  turn_sound : (mid : Books D) (d : Durable) → HasDurable g mid d → (metric : MetricId) (e : SackFault) → TakesTurn g metric mid new (Err e) → MatchOnDisk e (λ f. ⊤) ⊥
  turn_sound mid d has metric e (took p (written mid_read ready same writes whole lasting was is)) = absurd cc
  turn_sound mid d has metric e (took p (broke mid_read f ready same writes no_write fault is)) = subst (λ x. MatchOnDisk x (λ f. ⊤) ⊥) (sym (same_fault e (sack_fault.DiskFault f) is)) tt
  turn_sound mid d has metric e (took p (unwritten x read bad is)) = subst (λ y. MatchOnDisk y (λ f. ⊤) ⊥) (sym (same_fault e x is)) (by x read bad)
    where
      by : (x : SackFault) → AreOnlyRead g mid new → FailsRead g mid new x → MatchOnDisk x (λ f. ⊤) ⊥
      by x read (failed f broken fault is) = subst (λ y. MatchOnDisk y (λ f. ⊤) ⊥) (sym is) tt
      by x read (damaged y broken none is) = absurd (never_none g mid new read none d has)
      by x read (starved whole lasting is) = subst (λ y. MatchOnDisk y (λ f. ⊤) ⊥) (sym is) tt
  turn_sound mid d has metric e (unread x read bad is) = subst (λ y. MatchOnDisk y (λ f. ⊤) ⊥) (sym (same_fault e x is)) (by x read bad)
    where
      by : (x : SackFault) → AreOnlyRead g mid new → FailsRead g mid new x → MatchOnDisk x (λ f. ⊤) ⊥
      by x read (failed f broken fault is) = subst (λ y. MatchOnDisk y (λ f. ⊤) ⊥) (sym is) tt
      by x read (damaged y broken none is) = absurd (never_none g mid new read none d has)
      by x read (starved whole lasting is) = subst (λ y. MatchOnDisk y (λ f. ⊤) ⊥) (sym is) tt

  pub turns_sound : (given : Result (Unit {0}) SackFault) (t : TakesTurns g only most held old new given turns left) → ((mid : Books D) (k : ℕ) (between : Option HeldClaim) → TurnsTaken g only held old mid k between → k ≤ most → (d : Durable) × HasDurable g mid d)
      → IfErr given (λ (e : SackFault). MatchOnDisk e (λ f. ⊤) ⊥)
  turns_sound given (ended t le last whole lasting res) have = subst (λ r. IfErr r (λ (e : SackFault). MatchOnDisk e (λ f. ⊤) ⊥)) (sym res) tt
  turns_sound given (failed_at mid metric e t less whole lasting due take res) have =
      let has = have mid turns left t (omega (arith, less)) in
      subst (λ r. IfErr r (λ (e : SackFault). MatchOnDisk e (λ f. ⊤) ⊥)) (sym res) (turn_sound mid has.0 has.1 metric e take)

-- ---- answers, by those of the turns

no_less : (a : ℕ) → a ≤ a
no_less a = omega arith

told_through : {A B F : Type 0} (given : Result A F) (result : Result B F) (f : A → B) (Told : F → Type 0) → result ≡ map_ok f given → IfErr given Told → IfErr result Told
told_through (Ok a) result f Told is told = subst (λ r. IfErr r Told) (sym is) tt
told_through (Err e) result f Told is told = subst (λ r. IfErr r Told) (sym is) told

weaker_err : {A F : Type 0} {P Q : F → Type 0} (given : Result A F) → ((e : F) → P e → Q e) → IfErr given P → IfErr given Q
weaker_err (Ok a) weaker told = tt
weaker_err (Err e) weaker told = weaker e told

kept_looked : (h : List Entry) (of : Option MetricId) (ts : List Counted) → kept (h ++ done_or_look of ts) ≡ kept h ++ ts
kept_looked h of [] = kept-noted h (entries.Look of) refl refl ∙ sym (append-nil (kept h))
kept_looked h of (c ∷ ts) = kept-all_counted h (c ∷ ts)

-- ---- the calls

module _ {D : Type 0} (g : Ghosts D) (tells : (n : ℕ) (old new : D) → g.came n old new → is_some (g.told new) ≡ is_some (g.told old)) (reads : (disk : D) → IfSome (g.told disk) (g.may_leave disk)) (came_none : (disk : D) → g.came 0 disk disk)
    (came_more : (m n : ℕ) (old new : D) → m ≤ n → g.came m old new → g.came n old new) (came_then : (m n : ℕ) (old mid new : D) → g.came m old mid → g.came n mid new → g.came (m + n) old new)
    (came_later : (n : ℕ) (old new : D) → g.came n old new → g.faults old ≤ g.faults new)
    (goes_on : (n : ℕ) (a b : D) → g.came n a b → TimeGoesOn (g.moment a) (g.moment b) (g.left_since a) (g.left_since b))
    (only_now : (disk : D) (image : List ℕ) → g.left_since disk (g.moment disk) image → g.may_leave disk image)
    (turn : TurnIsFromScratch) (place : Place) (opening : Opening D) (keeping then : Option (Keeping D)) (claim left : Option HeldClaim) (tickets n k : ℕ) where
  abbrev after : SackView D
  after = view_of then place opening left tickets k

  module _ (books new : Books D) (anew : Bool) (takes : TakesBooks g place keeping books anew) (of_place : AreOfPlace place books) (then_is : then ≡ Some (Mounted new)) where
    abbrev whole : AreWhole books
    whole = taken_whole g place keeping books anew takes

    abbrev lasting : AreLasting g books
    lasting = taken_lasting g place keeping books anew takes

    -- a fault's counts are of all disks, also where they were mounted first
    since_mounting : (e : SackFault) → MatchOnDisk e (IsSackFault g (disks_of books) (disks_of new)) ⊤ → MatchOnDisk e (λ f. MatchOption (option_map state_of keeping) ⊥ (λ s. MatchOption (option_map state_of then) ⊥ (λ t. IsSackFault g s.disks t.disks f))) ⊤
    since_mounting (sack_fault.DiskFault f) told = by takes
      where
        both : (was : Keeping D) → keeping ≡ Some was → sack_faults g (state_of was).disks ≤ sack_faults g (disks_of books) → MatchOption (option_map state_of keeping) ⊥ (λ s. MatchOption (option_map state_of then) ⊥ (λ t. IsSackFault g s.disks t.disks f))
        both was is le =
            let lower = told.before in
            subst (λ (o : Option (Keeping D)). MatchOption (option_map state_of o) ⊥ (λ s. MatchOption (option_map state_of then) ⊥ (λ t. IsSackFault g s.disks t.disks f))) (sym is)
            (subst (λ (o : Option (Keeping D)). MatchOption (option_map state_of o) ⊥ (λ t. IsSackFault g (state_of was).disks t.disks f)) (sym then_is) (record { before = omega (arith, le, lower); after = told.after; rose = told.rose }))

        by : TakesBooks g place keeping books anew → MatchOption (option_map state_of keeping) ⊥ (λ s. MatchOption (option_map state_of then) ⊥ (λ t. IsSackFault g s.disks t.disks f))
        by (as_they_were is unbroken was_lasting not_anew) = both (Mounted books) is (no_less (sack_faults g (disks_of books)))
        by (mounted_anew was is broken from is_anew) = both was is (faults_later g came_later 2 2 1 (state_of was).disks (disks_of books) from.came)
    since_mounting (sack_fault.Damaged d) told = told
    since_mounting sack_fault.Unknown told = told
    since_mounting (sack_fault.Spent s) told = told
    since_mounting sack_fault.Memory told = told

    abbrev Taken : SackView D → List Entry → Type 0
    Taken v history = IsTaken g tells reads came_later place opening keeping then claim left tickets n k None (λ c. c) books anew v history

    -- ---- what a history says of turns of the books

    module _ (v : SackView D) (history : List Entry) (taken : Taken v history) where
      abbrev view : Option HeldClaim → SackView D
      view o = view_of keeping place opening o tickets n

      abbrev held : Option HeldClaim
      held = cond anew None claim

      start : IsScratch g (view_of keeping place opening (cond anew None claim) tickets n) (record { disks = disks_of books; books = books; broken = false }) history
      start = scratch_seen g v (view held) (record { disks = disks_of books; books = books; broken = false }) history (sym taken.0) (sym taken.1) (sym taken.2) taken.3

      legal : IsLegalCount (kept history)
      legal = kept_legal v.place.sack history taken.3.legal

      module _ (only of : Option MetricId) (most : ℕ) (turns : ℕ) (over : Option HeldClaim) (given : Result (Unit {0}) SackFault) (left_is : left ≡ cond (are_broken new) None over) (t : TakesTurns g only most (cond anew None claim) books new given turns over) where
        pub its_end : EndsSo of (turns_by (whose only) most (kept history)) turns given (turns_own g of only most (cond anew None claim) books new given turns over t)
        its_end = turns_end g turn tells came_none came_more came_then came_later goes_on only_now place view (λ o. refl) (λ o. refl) (λ o p. refl) only most held books history start whole lasting of_place of new turns over given after refl refl left_is t

        pub its_turned : IsTurnedTo g place (turns_by (whose only) most (kept history)) books new after history (turns_own g of only most (cond anew None claim) books new given turns over t)
        its_turned = turned_to g turn tells came_none came_more came_then came_later goes_on only_now place view (λ o. refl) (λ o. refl) (λ o p. refl) only most held books history start whole lasting of_place of new turns over given after refl refl left_is t

      pub walked_has : (only : Option MetricId) (most : ℕ) (mid : Books D) (i : ℕ) (between : Option HeldClaim) → TurnsTaken g only (cond anew None claim) books mid i between → i ≤ most → (d : Durable) × HasDurable g mid d
      walked_has only most mid i between t le =
          let w = walk g turn tells came_none came_more came_then came_later goes_on only_now place view (λ o. refl) (λ o. refl) (λ o p. refl) only most held books history start whole lasting of_place None mid i between (Ok tt)
          (view_of (Some (Mounted mid)) place opening (cond (are_broken mid) None between) tickets n) refl refl refl mid i between t le in
          (_, w.scratch.has refl)

    -- ---- a refresh

    module _ (metric : MetricId) (result : Result ℕ SackFault) (turns : ℕ) (over : Option HeldClaim) (left_is : left ≡ cond (are_broken new) None over) (outcome : RefreshesFrom g metric (cond anew None claim) books new result turns over) where
      abbrev own : List Entry
      own = refresh_own g metric (cond anew None claim) books new result turns over outcome

      by_history : (v : SackView D) (history : List Entry) → Taken v history → (r : RefreshesFrom g metric (cond anew None claim) books new result turns over)
          → RefreshesNow metric result history (refresh_own g metric (cond anew None claim) books new result turns over r)
          × IsTurnedTo g place (refresh_turns metric (kept history)) books new after history (refresh_own g metric (cond anew None claim) books new result turns over r)
      by_history v history taken (unknown none same res zero_turns same_claim) =
          let from = start v history taken in
          let counts = kept history in
          let dead : is_live metric counts ≡ false = sym (knows_live books counts metric from.remembers) ∙ ap is_some none in
          let whole_new : AreWhole new = subst (λ (b : Books D). AreWhole b) (sym same) whole in (
            call_refused sack_fault.Unknown (ap (λ b. cond b None (Some sack_fault.Unknown)) dead) refl res,
            record {
              scratch = read_look g tells came_none came_more (λ n a b came. (goes_on n a b came).later) only_now place books new whole lasting of_place
                  (subst (AreOnlyRead g books) (sym same) (untouched g only_now came_none came_later books)) (view_of keeping place opening (cond anew None claim) tickets n) after refl refl history from from.tickets (Some metric)
                  whole_new (subst (AreLasting g) (sym same) lasting) (left_is ∙ ap (λ b. cond b None over) (whole_books new whole_new) ∙ same_claim ∙ from.held);
              pieces = 0;
              at = no_turns (disks_of new) 0 (ap (λ (b : Books D). disks_of b) same) refl;
            },
          )
      by_history v history taken (turned given live t res) = (does ending, subst (λ ts. IsTurnedTo g place ts books new after history its_own) due to)
        where
          most : ℕ
          most = length (numbers_waiting books metric)

          from : IsScratch g (view_of keeping place opening (cond anew None claim) tickets n) (record { disks = disks_of books; books = books; broken = false }) history
          from = start v history taken

          its_own : List Entry
          its_own = turns_own g (Some metric) (Some metric) (length (numbers_waiting books metric)) (cond anew None claim) books new given turns over t

          is_live_then : is_live metric (kept history) ≡ true
          is_live_then = sym (knows_live books (kept history) metric from.remembers) ∙ live

          due : turns_by (whose (Some metric)) (length (numbers_waiting books metric)) (kept history) ≡ refresh_turns metric (kept history)
          due = ap (λ m. turns_by (whose (Some metric)) m (kept history)) (waiting_of_metric g books (kept history) (from.has refl) from.remembers (legal v history taken) metric)

          to : IsTurnedTo g place (turns_by (whose (Some metric)) (length (numbers_waiting books metric)) (kept history)) books new after history (turns_own g (Some metric) (Some metric) (length (numbers_waiting books metric)) (cond anew None claim) books new given turns over t)
          to = its_turned v history taken (Some metric) (Some metric) (length (numbers_waiting books metric)) turns over given left_is t

          ending : EndsSo (Some metric) (refresh_turns metric (kept history)) turns given (turns_own g (Some metric) (Some metric) (length (numbers_waiting books metric)) (cond anew None claim) books new given turns over t)
          ending = subst (λ ts. EndsSo (Some metric) ts turns given its_own) due (its_end v history taken (Some metric) (Some metric) (length (numbers_waiting books metric)) turns over given left_is t)

          does : EndsSo (Some metric) (refresh_turns metric (kept history)) turns given (turns_own g (Some metric) (Some metric) (length (numbers_waiting books metric)) (cond anew None claim) books new given turns over t)
              → RefreshesNow metric result history (turns_own g (Some metric) (Some metric) (length (numbers_waiting books metric)) (cond anew None claim) books new given turns over t)
          does (ends own_is number ok) = call_given (done_in_record (metric_of metric new.shelf.metrics))
              (is_live_then, done_known new (kept (history ++ its_own)) metric to.scratch.remembers ∙ ap (done_of metric) (ap (λ l. kept (history ++ l)) own_is ∙ kept_looked history (Some metric) (refresh_turns metric (kept history))), own_is)
              (res ∙ ap (map_ok (λ (done : Unit {0}). done_in_record (metric_of metric new.shelf.metrics))) ok)
          does (fails failure among err) = call_failed failure (may_fail failure is_live_then, among) (res ∙ ap (map_ok (λ (done : Unit {0}). done_in_record (metric_of metric new.shelf.metrics))) err)

      refresh_has : (v : SackView D) (history : List Entry) → Taken v history → (mid : Books D) (i : ℕ) (between : Option HeldClaim) → TurnsTaken g (Some metric) (cond anew None claim) books mid i between → i ≤ length (numbers_waiting books metric)
          → (d : Durable) × HasDurable g mid d
      refresh_has v history taken mid i between t le = walked_has v history taken (Some metric) (length (numbers_waiting books metric)) mid i between t le

      refresh_real : (N : Type 0) → (((v : SackView D) (history : List Entry) → Taken v history → ⊥) → N) → (r : RefreshesFrom g metric (cond anew None claim) books new result turns over)
          → AreReal N (sack_faults g (disks_of books)) (refresh_own g metric (cond anew None claim) books new result turns over r) (sack_faults g (disks_of new))
      refresh_real N none (unknown absent same res zero_turns same_claim) = subst (λ (b : Books D). sack_faults g (disks_of books) ≤ sack_faults g (disks_of b)) (sym same) (no_less (sack_faults g (disks_of books)))
      refresh_real N none (turned given live t res) = turns_real g came_none came_more came_then came_later only_now (Some metric) (cond anew None claim) books N (Some metric) (length (numbers_waiting books metric)) new given turns over t
          (λ mid i between taken_turns le never. none (λ v history taken. let has = refresh_has v history taken mid i between taken_turns le in never has.0 has.1))

      pub refresh_stands : k ≡ capped (n + (entries_of_mounting anew + entries_of_turns turns (is_ok result))) → (h : List Entry) → StandsFor g h (view_of keeping place opening claim tickets n)
          → StandsAfterTurns g h (refresh_turns metric) (view_of keeping place opening claim tickets n) (view_of then place opening left tickets k) (IsRefreshing metric result)
      refresh_stands count h stands = call_turns g tells reads came_later place opening keeping then claim left tickets n k (Some metric) (refresh_turns metric)
          (RefreshesNow metric result) (λ failure. result ≡ Err (sack_failure failure)) books new anew then_is own
          (count ∙ ap (λ m. capped (n + (entries_of_mounting anew + m))) (sym (refresh_length g metric (cond anew None claim) books new result turns over outcome)))
          (λ none. refresh_real (HasNoEarlier g place opening) none outcome) (λ v history taken. by_history v history taken outcome) takes h stands

      pub refresh_cause : IfErr result (λ e. MatchOnDisk e (λ f. MatchOption (option_map state_of keeping) ⊥ (λ s. MatchOption (option_map state_of then) ⊥ (λ t. IsSackFault g s.disks t.disks f))) ⊤)
      refresh_cause = by outcome
        where
          by : RefreshesFrom g metric (cond anew None claim) books new result turns over → IfErr result (λ e. MatchOnDisk e (λ f. MatchOption (option_map state_of keeping) ⊥ (λ s. MatchOption (option_map state_of then) ⊥ (λ t. IsSackFault g s.disks t.disks f))) ⊤)
          by (unknown absent same res zero_turns same_claim) = subst (λ r. IfErr r (λ e. MatchOnDisk e (λ f. MatchOption (option_map state_of keeping) ⊥ (λ s. MatchOption (option_map state_of then) ⊥ (λ t. IsSackFault g s.disks t.disks f))) ⊤)) (sym res) tt
          by (turned given live t res) = told_through given result (λ (done : Unit {0}). done_in_record (metric_of metric new.shelf.metrics)) (λ e. MatchOnDisk e (λ f. MatchOption (option_map state_of keeping) ⊥ (λ s. MatchOption (option_map state_of then) ⊥ (λ t. IsSackFault g s.disks t.disks f))) ⊤) res
              (weaker_err given (λ e told. since_mounting e told) (turns_told g came_none came_more came_then came_later only_now (Some metric) (length (numbers_waiting books metric)) (cond anew None claim) books new turns over given t))

      pub refresh_sound : (v : SackView D) (history : List Entry) → Taken v history → IfErr result (λ (e : SackFault). MatchOnDisk e (λ f. ⊤) ⊥)
      refresh_sound v history taken = by outcome
        where
          by : RefreshesFrom g metric (cond anew None claim) books new result turns over → IfErr result (λ (e : SackFault). MatchOnDisk e (λ f. ⊤) ⊥)
          by (unknown absent same res zero_turns same_claim) = subst (λ r. IfErr r (λ (e : SackFault). MatchOnDisk e (λ f. ⊤) ⊥)) (sym res) tt
          by (turned given live t res) = told_through given result (λ (done : Unit {0}). done_in_record (metric_of metric new.shelf.metrics)) (λ (e : SackFault). MatchOnDisk e (λ f. ⊤) ⊥) res
              (turns_sound g came_none came_more came_then came_later only_now (Some metric) (length (numbers_waiting books metric)) (cond anew None claim) books new turns over given t (λ mid i between taken_turns le. refresh_has v history taken mid i between taken_turns le))

    -- ---- a drain

    module _ (result : Result ℕ SackFault) (turns : ℕ) (over : Option HeldClaim) (left_is : left ≡ cond (are_broken new) None over) (outcome : DrainsFrom g (cond anew None claim) books new result turns over) where
      drain_by_history : (v : SackView D) (history : List Entry) → Taken v history → (r : DrainsFrom g (cond anew None claim) books new result turns over)
          → DrainsNow result history (drain_own g (cond anew None claim) books new result turns over r)
          × IsTurnedTo g place (drain_turns (kept history)) books new after history (drain_own g (cond anew None claim) books new result turns over r)
      drain_by_history v history taken (drained given t res) = (does ending, subst (λ ts. IsTurnedTo g place ts books new after history its_own) due to)
        where
          from : IsScratch g (view_of keeping place opening (cond anew None claim) tickets n) (record { disks = disks_of books; books = books; broken = false }) history
          from = start v history taken

          its_own : List Entry
          its_own = turns_own g None None (length (marks_waiting books)) (cond anew None claim) books new given turns over t

          due : turns_by (whose None) (length (marks_waiting books)) (kept history) ≡ drain_turns (kept history)
          due = ap (λ m. turns_by (whose None) m (kept history)) (waiting_of_all g books (kept history) (from.has refl) from.remembers (legal v history taken))

          to : IsTurnedTo g place (turns_by (whose None) (length (marks_waiting books)) (kept history)) books new after history (turns_own g None None (length (marks_waiting books)) (cond anew None claim) books new given turns over t)
          to = its_turned v history taken None None (length (marks_waiting books)) turns over given left_is t

          ending : EndsSo None (drain_turns (kept history)) turns given (turns_own g None None (length (marks_waiting books)) (cond anew None claim) books new given turns over t)
          ending = subst (λ ts. EndsSo None ts turns given its_own) due (its_end v history taken None None (length (marks_waiting books)) turns over given left_is t)

          does : EndsSo None (drain_turns (kept history)) turns given (turns_own g None None (length (marks_waiting books)) (cond anew None claim) books new given turns over t)
              → DrainsNow result history (turns_own g None None (length (marks_waiting books)) (cond anew None claim) books new given turns over t)
          does (ends own_is number ok) = call_given turns (sym number, own_is) (res ∙ ap (map_ok (λ (done : Unit {0}). turns)) ok)
          does (fails failure among err) = call_failed failure among (res ∙ ap (map_ok (λ (done : Unit {0}). turns)) err)

      drain_has : (v : SackView D) (history : List Entry) → Taken v history → (mid : Books D) (i : ℕ) (between : Option HeldClaim) → TurnsTaken g None (cond anew None claim) books mid i between → i ≤ length (marks_waiting books)
          → (d : Durable) × HasDurable g mid d
      drain_has v history taken mid i between t le = walked_has v history taken None (length (marks_waiting books)) mid i between t le

      drain_real : (N : Type 0) → (((v : SackView D) (history : List Entry) → Taken v history → ⊥) → N) → (r : DrainsFrom g (cond anew None claim) books new result turns over)
          → AreReal N (sack_faults g (disks_of books)) (drain_own g (cond anew None claim) books new result turns over r) (sack_faults g (disks_of new))
      drain_real N none (drained given t res) = turns_real g came_none came_more came_then came_later only_now None (cond anew None claim) books N None (length (marks_waiting books)) new given turns over t
          (λ mid i between taken_turns le never. none (λ v history taken. let has = drain_has v history taken mid i between taken_turns le in never has.0 has.1))

      pub drain_stands : k ≡ capped (n + (entries_of_mounting anew + entries_of_turns turns (is_ok result))) → (h : List Entry) → StandsFor g h (view_of keeping place opening claim tickets n)
          → StandsAfterTurns g h drain_turns (view_of keeping place opening claim tickets n) (view_of then place opening left tickets k) (IsDraining result)
      drain_stands count h stands = call_turns g tells reads came_later place opening keeping then claim left tickets n k None drain_turns
          (DrainsNow result) (λ failure. result ≡ Err (sack_failure failure)) books new anew then_is (drain_own g (cond anew None claim) books new result turns over outcome)
          (count ∙ ap (λ m. capped (n + (entries_of_mounting anew + m))) (sym (drain_length g (cond anew None claim) books new result turns over outcome)))
          (λ none. drain_real (HasNoEarlier g place opening) none outcome) (λ v history taken. drain_by_history v history taken outcome) takes h stands

      pub drain_cause : IfErr result (λ e. MatchOnDisk e (λ f. MatchOption (option_map state_of keeping) ⊥ (λ s. MatchOption (option_map state_of then) ⊥ (λ t. IsSackFault g s.disks t.disks f))) ⊤)
      drain_cause = by outcome
        where
          by : DrainsFrom g (cond anew None claim) books new result turns over → IfErr result (λ e. MatchOnDisk e (λ f. MatchOption (option_map state_of keeping) ⊥ (λ s. MatchOption (option_map state_of then) ⊥ (λ t. IsSackFault g s.disks t.disks f))) ⊤)
          by (drained given t res) = told_through given result (λ (done : Unit {0}). turns) (λ e. MatchOnDisk e (λ f. MatchOption (option_map state_of keeping) ⊥ (λ s. MatchOption (option_map state_of then) ⊥ (λ t. IsSackFault g s.disks t.disks f))) ⊤) res
              (weaker_err given (λ e told. since_mounting e told) (turns_told g came_none came_more came_then came_later only_now None (length (marks_waiting books)) (cond anew None claim) books new turns over given t))

      pub drain_known : IfErr result (λ e. e ≢ sack_fault.Unknown)
      drain_known = by outcome
        where
          by : DrainsFrom g (cond anew None claim) books new result turns over → IfErr result (λ e. e ≢ sack_fault.Unknown)
          by (drained given t res) = told_through given result (λ (done : Unit {0}). turns) (λ e. e ≢ sack_fault.Unknown) res
              (turns_known g came_none came_more came_then came_later only_now None (length (marks_waiting books)) (cond anew None claim) books new turns over given t)

      pub drain_sound : (v : SackView D) (history : List Entry) → Taken v history → IfErr result (λ (e : SackFault). MatchOnDisk e (λ f. ⊤) ⊥)
      drain_sound v history taken = by outcome
        where
          by : DrainsFrom g (cond anew None claim) books new result turns over → IfErr result (λ (e : SackFault). MatchOnDisk e (λ f. ⊤) ⊥)
          by (drained given t res) = told_through given result (λ (done : Unit {0}). turns) (λ (e : SackFault). MatchOnDisk e (λ f. ⊤) ⊥) res
              (turns_sound g came_none came_more came_then came_later only_now None (length (marks_waiting books)) (cond anew None claim) books new turns over given t (λ mid i between taken_turns le. drain_has v history taken mid i between taken_turns le))
