-- A sack after a call that read its books, and wrote nothing.
use Rattle.std.proofs.Common.{◌≡◌, inl, inr, ℕ, ◌≤◌, true, false, cond, List, [], ◌∷◌, ◌++◌, Option, Some, None, refl, sym, ap, subst, ◌∙◌}
use Rattle.std.specs.Option.{is_some}
use Rattle.gno_disk.specs.Phases.{EachMoment}
use Rattle.gno_disk.specs.declared.disk.Disk.{Ghosts}
use Rattle.log_pair.specs.declared.place.Place.{Place}
use Rattle.series_model.specs.declared.metric.MetricId.{MetricId}
use Rattle.sack_history.specs.declared.entry.Counted.{Counted}
use Rattle.sack_history.specs.declared.entry.Entry.{Entry}
use Rattle.sack_history.specs.declared.entry.Entry.TheVariants as entries
use Rattle.sack_history.specs.declared.fault.SackFault.{SackFault}
use Rattle.sack_history.specs.declared.holding.HeldClaim.{HeldClaim}
use Rattle.sack_history.specs.Entries.{kept}
use Rattle.sack_history.specs.Failing.{Failure, FailsBehind, damage, no_memory, on_disk, sack_failure}
use Rattle.sack_history.specs.Holding.{held_after, held_claim, last_ticket}
use Rattle.sack_history.specs.Scratch.{Durable, durable}
use Rattle.sack_history.proofs.Keeping.{kept-noted}
use Rattle.sack_state.specs.declared.books.Books.{Books}
use Rattle.sack_state.specs.Books.{AreLasting, AreOfPlace, AreWhole, disks_of}
use Rattle.sack_state.specs.Claiming.{AreOnlyRead, FailsRead, damaged, failed, starved}
use Rattle.sack_state.specs.Disks.{OfFive, sack_faults, sack_phases}
use Rattle.sack_state.specs.Holding.{are_broken}
use Rattle.sack_state.specs.SackHolding.{AreOldOrWritten}
use Rattle.sack_state.specs.SackView.{AreReal, HasDurable, IsScratch, SackView}
use Rattle.sack_state.proofs.ClaimEntry.{never_none, read_came, read_has, read_later, read_place, read_unwritten}
use Rattle.sack_state.proofs.DiskLemmas.{faults_later, no_less}
use Rattle.sack_state.proofs.DoneLemmas.{state_with, whole_books}
use Rattle.sack_state.proofs.EntryLemmas.{fault_real, fault_risen, left_broken, left_whole, unwritten_moments}
use Rattle.sack_state.proofs.MountLemmas.{books_leave, remembers_of}

pub held_look : (metric : Option MetricId) (o : Option HeldClaim) → held_after o (entries.Look metric) ≡ o
held_look metric None = refl
held_look metric (Some claim) = refl

module _ {D : Type 0} (g : Ghosts D) (old new : Books D) (metric : Option MetricId) where
  -- what a read that failed adds
  abbrev pub fail_entry : (e : SackFault) → FailsRead g old new e → Entry
  fail_entry e (failed f broken fault is) = entries.Fault None f.before f.after
  fail_entry e (damaged d broken none is) = entries.Fault None (sack_faults g (disks_of new)) (sack_faults g (disks_of new))
  fail_entry e (starved whole lasting is) = entries.Look metric

  abbrev pub failure_by : (e : SackFault) → FailsRead g old new e → Failure
  failure_by e (failed f broken fault is) = on_disk f
  failure_by e (damaged d broken none is) = damage d
  failure_by e (starved whole lasting is) = no_memory

  pub failure_is : (e : SackFault) (fails : FailsRead g old new e) → e ≡ sack_failure (failure_by e fails)
  failure_is e (failed f broken fault is) = is
  failure_is e (damaged d broken none is) = is
  failure_is e (starved whole lasting is) = is

  pub fails_behind : (e : SackFault) (fails : FailsRead g old new e) → FailsBehind [] None metric (failure_by e fails) (fail_entry e fails ∷ [])
  fails_behind e (failed f broken fault is) = (fault_risen g old new f fault, (None, inl refl, refl))
  fails_behind e (damaged d broken none is) = let last = sack_faults g (disks_of new) in (last, last, no_less last, refl)
  fails_behind e (starved whole lasting is) = refl

module _ {D : Type 0} (g : Ghosts D) (came_none : (disk : D) → g.came 0 disk disk) (came_more : (m n : ℕ) (old new : D) → m ≤ n → g.came m old new → g.came n old new)
    (came_later : (n : ℕ) (old new : D) → g.came n old new → g.faults old ≤ g.faults new) (old new : Books D) (only : AreOnlyRead g old new) (N : Type 0) where
  pub read_rises : sack_faults g (disks_of old) ≤ sack_faults g (disks_of new)
  read_rises = faults_later g came_later 0 0 0 (disks_of old) (disks_of new) (read_came g old new only came_none came_more)

  -- damage is real where no list may have counted before
  pub fails_real : (((d : Durable) → HasDurable g old d → ⊥) → N) → (metric : Option MetricId) (e : SackFault) (fails : FailsRead g old new e)
      → AreReal N (sack_faults g (disks_of old)) (fail_entry g old new metric e fails ∷ []) (sack_faults g (disks_of new))
  fails_real none metric e (failed f broken fault is) = fault_real g old new f fault None N
  fails_real none metric e (damaged d broken keeps is) = (inr (inr (refl, refl, none (never_none g old new only keeps))), read_rises, no_less (sack_faults g (disks_of new)))
  fails_real none metric e (starved whole lasting is) = read_rises

module _ {D : Type 0} (g : Ghosts D) (tells : (n : ℕ) (old new : D) → g.came n old new → is_some (g.told new) ≡ is_some (g.told old)) (came_none : (disk : D) → g.came 0 disk disk)
    (came_more : (m n : ℕ) (old new : D) → m ≤ n → g.came m old new → g.came n old new) (time : (n : ℕ) (a b : D) → g.came n a b → g.moment a ≤ g.moment b)
    (only_now : (disk : D) (image : List ℕ) → g.left_since disk (g.moment disk) image → g.may_leave disk image)
    (place : Place) (old new : Books D) (whole : AreWhole old) (lasting : AreLasting g old) (of_place : AreOfPlace place old) (only : AreOnlyRead g old new)
    (v w : SackView D) (v_place : v.place ≡ place) (w_place : w.place ≡ place) (history : List Entry) (scratch : IsScratch g v (record { disks = disks_of old; books = old; broken = false }) history)
    (w_tickets : w.tickets ≡ last_ticket history) where
  abbrev counts : List Counted
  counts = kept history

  has : HasDurable g old (durable counts)
  has = scratch.has refl

  -- nothing has changed
  pub read_look : (metric : Option MetricId) → AreWhole new → AreLasting g new → w.held ≡ held_claim history → IsScratch g w (state_with new) (history ++ entries.Look metric ∷ [])
  read_look metric whole_new lasting_new w_held =
      left_whole g tells place old new v w v_place w_place history scratch 0 0 0 (read_came g old new only came_none came_more) (entries.Look metric) tt refl
      (w_held ∙ sym (held_look metric (held_claim history))) w_tickets
      (subst (λ c. HasDurable g new (durable c)) (sym (kept-noted history (entries.Look metric) refl refl)) (read_has g old new only (durable counts) has)) whole_new lasting_new (read_place g old new only place of_place)

  -- the books have broken
  pub read_broke : are_broken new ≡ true → (before after : ℕ) → w.held ≡ None → IsScratch g w (state_with new) (history ++ entries.Fault None before after ∷ [])
  read_broke broken before after w_held =
      let u = read_unwritten g old new only only_now in
      left_broken g tells place old new v w v_place w_place history scratch 0 0 0 (read_came g old new only came_none came_more) None before after tt broken
      w_held w_tickets (remembers_of g new (durable counts) (read_has g old new only (durable counts) has))
      (λ a b z c e left_a left_b left_z left_c left_e. books_leave g place old (durable counts) of_place lasting has a b z c e
      (u.0.no_more a left_a) (u.1.0.no_more b left_b) (u.1.1.0.no_more z left_z) (u.1.1.1.0.no_more c left_c) (u.1.1.1.1.0.no_more e left_e))

  pub read_failed : w.held ≡ cond (are_broken new) None (held_claim history) → (metric : Option MetricId) (e : SackFault) (fails : FailsRead g old new e)
      → IsScratch g w (state_with new) (history ++ fail_entry g old new metric e fails ∷ [])
  read_failed w_held metric e (failed f broken fault is) = read_broke broken f.before f.after (w_held ∙ ap (λ b. cond b None (held_claim history)) broken)
  read_failed w_held metric e (damaged d broken none is) =
      let last = sack_faults g (disks_of new) in read_broke broken last last (w_held ∙ ap (λ b. cond b None (held_claim history)) broken)
  read_failed w_held metric e (starved whole_new lasting_new is) = read_look metric whole_new (lasting_new lasting) (w_held ∙ ap (λ b. cond b None (held_claim history)) (whole_books new whole_new))

  pub read_moments : (written : Option Counted) → EachMoment g (sack_phases (disks_of old) (disks_of new)) (OfFive (AreOldOrWritten place (kept history) written))
  read_moments written = unwritten_moments g tells place old new v w v_place w_place history scratch 0 0 0 (read_came g old new only came_none came_more) whole lasting of_place
      (read_unwritten g old new only only_now) (read_later g old new only time came_none came_more) written
