-- Books that were read and not written.
use Rattle.std.proofs.Common.{◌≡◌, inl, inr, ℕ, ◌+◌, ◌-◌, ◌^◌, ◌<◌, ◌≤◌, Bool, true, false, ◌||◌, List, [], ◌∷◌, map, take, min, Option, Some, None, refl, sym, ap, subst, ◌∙◌}
use Rattle.std.specs.Option.{IfSome, option_map}
use Rattle.std.proofs.lemmas.Option.{same_Some}
use Rattle.gno_disk.specs.declared.disk.Disk.{Ghosts}
use Rattle.gno_disk.specs.Phases.{AreUnwritten}
use Rattle.gate_log.specs.LogView.{IsFault, MatchMountFault}
use Rattle.gate_log.specs.declared.fault.MountFault.{MountFault}
use Rattle.gate_log.specs.declared.fault.MountFault.TheVariants.{DiskFault as MountDisk, Damaged as MountDamaged, Memory as MountMemory}
use Rattle.log_pair.specs.PairView.{both_faults}
use Rattle.archive_policy.specs.Policies.{ArchivePolicy}
use Rattle.series_model.specs.declared.measure.Measure.{Measure}
use Rattle.series_model.specs.declared.metric.MetricId.{MetricId}
use Rattle.series_model.specs.declared.ticket.Ticket.{Ticket}
use Rattle.series_model.specs.Tail.{Tail}
use Rattle.incoming.specs.IncomingView.{IncomingView, IsLastingIncoming, incoming_phases}
use Rattle.incoming.specs.Posts.{Post, numbers_above, posts_above}
use Rattle.incoming.specs.Reading.{answer_of}
use Rattle.split_update.specs.Live.{Live}
use Rattle.shelf_records.specs.Shelved.{Shelved, metric_of}
use Rattle.split_store.specs.Shelf.{live_by}
use Rattle.split_store.specs.ShelfView.{IsCause, IsLastingShelf, IsOnlySeen, Keeps, ShelfView}
use Rattle.split_store.proofs.Seen.{not_touched}
use Rattle.sack_history.specs.declared.fault.SackFault.{SackFault}
use Rattle.sack_history.specs.declared.fault.SackFault.TheVariants as sack_fault
use Rattle.sack_state.specs.declared.books.Books.{Books}
use Rattle.sack_state.specs.Books.{AreWhole, disks_of}
use Rattle.sack_state.specs.Claiming.{AreOnlyRead, FailsRead, IsJobFrom, damaged, failed, last_number_of, posts_per_turn, starved}
use Rattle.sack_state.specs.Disks.{sack_faults}
use Rattle.sack_state.proofs.DiskLemmas.{no_less}
use Rattle.sack_state.proofs.MomentLemmas.{still_disk}
use Rattle.sack_state.proofs.RealLemmas.{rose_among, rose_among_three}

pub or_right : (b c : Bool) → c ≡ true → (b || c) ≡ true
or_right true c is = refl
or_right false c is = is

or_first : (b c : Bool) → b ≡ true → (b || c) ≡ true
or_first b c is = ap (λ x. x || c) is

module _ {D : Type 0} (g : Ghosts D) (only_now : (disk : D) (image : List ℕ) → g.left_since disk (g.moment disk) image → g.may_leave disk image) (came_none : (disk : D) → g.came 0 disk disk)
    (came_later : (n : ℕ) (old new : D) → g.came n old new → g.faults old ≤ g.faults new) (old : Books D) where
  -- nothing was read
  pub untouched : AreOnlyRead g old old
  untouched = record {
    marks = refl;
    next = refl;
    posts = refl;
    place = refl;
    unwritten = (still_disk g only_now old.incoming.first, (still_disk g only_now old.incoming.second, tt));
    came_first = came_none old.incoming.first;
    came_second = came_none old.incoming.second;
    shelf = not_touched g only_now came_none old.shelf old.shelf refl;
  }

  pub untouched_starved : AreWhole old → FailsRead g old old sack_fault.Memory
  untouched_starved whole = starved whole (λ lasting. lasting) refl

  -- the posts were read, and then the shelf, or not
  module _ (log : IncomingView D) (kept : (log.marks ≡ old.incoming.marks) × (log.next ≡ old.incoming.next) × (log.posts ≡ old.incoming.posts)) (place : log.place ≡ old.incoming.place)
      (unwritten : AreUnwritten g (incoming_phases old.incoming log)) (came : g.came 0 old.incoming.first log.first × g.came 0 old.incoming.second log.second) where
    pub then_read : (shelf : ShelfView D) → IsOnlySeen g old.shelf shelf → AreOnlyRead g old (record { incoming = log; shelf = shelf })
    then_read shelf seen = record {
      marks = kept.0;
      next = kept.1;
      posts = kept.2;
      place = place;
      unwritten = unwritten;
      came_first = came.0;
      came_second = came.1;
      shelf = seen;
    }

    pub log_read : AreOnlyRead g old (record { incoming = log; shelf = old.shelf })
    log_read = then_read old.shelf (not_touched g only_now came_none old.shelf old.shelf refl)

    abbrev pub after_log : Books D
    after_log = record { incoming = log; shelf = old.shelf }

    pub log_failed : (x : MountFault) (r : SackFault) (before after : ℕ) → AreWhole old → before ≡ sack_faults g (disks_of old) → after ≡ sack_faults g (disks_of after_log) → IsLastingIncoming g log
        → MatchMountFault x (λ f. IsFault (both_faults g old.incoming.first old.incoming.second) (both_faults g log.first log.second) f × (log.broken ≡ true)) (λ d. (log.broken ≡ true) × (d.disk < 2) × (old.incoming.posts ≡ None)) (log.broken ≡ false)
        → MatchMountFault x (λ f. r ≡ sack_fault.DiskFault (record { before = before; after = after })) (λ d. r ≡ sack_fault.Damaged d) (r ≡ sack_fault.Memory)
        → FailsRead g old after_log r
    log_failed (MountDisk f) r before after whole before_is after_is lasting cause is = failed (record { before = before; after = after }) (or_first log.broken old.shelf.broken cause.1) (record {
      before_is = before_is;
      after_is = after_is;
      rose = rose_among (g.faults old.incoming.first) (g.faults old.incoming.second) (g.faults log.first) (g.faults log.second) (g.faults old.shelf.first) (g.faults old.shelf.second) (g.faults old.shelf.blocks)
          (g.faults old.shelf.first) (g.faults old.shelf.second) (g.faults old.shelf.blocks) (no_less (g.faults old.shelf.first)) (no_less (g.faults old.shelf.second)) (no_less (g.faults old.shelf.blocks)) cause.0.rose;
    }) is
    log_failed (MountDamaged d) r before after whole before_is after_is lasting cause is = damaged d (or_first log.broken old.shelf.broken cause.0) (inl cause.2) is
    log_failed MountMemory r before after whole before_is after_is lasting cause is =
        starved (record { incoming = cause; shelf = whole.shelf }) (λ was. record { incoming = lasting; shelf = was.shelf }) is

    module _ (shelf : ShelfView D) where
      abbrev pub after_both : Books D
      after_both = record { incoming = log; shelf = shelf }

      pub both_starved : log.broken ≡ false → shelf.broken ≡ false → IsLastingIncoming g log → IsLastingShelf g shelf → FailsRead g old after_both sack_fault.Memory
      both_starved whole whole_shelf lasting lasting_shelf = starved (record { incoming = whole; shelf = whole_shelf }) (λ was. record { incoming = lasting; shelf = lasting_shelf }) refl

      pub shelf_failed : (P : List ℕ → ℕ → Type 0) (x : MountFault) (r : SackFault) (before after : ℕ) → before ≡ sack_faults g (disks_of old) → after ≡ sack_faults g (disks_of after_both) → log.broken ≡ false → IsLastingIncoming g log → IsLastingShelf g shelf
          → IsCause g P old.shelf shelf x
          → MatchMountFault x (λ f. r ≡ sack_fault.DiskFault (record { before = before; after = after })) (λ d. r ≡ sack_fault.Damaged (record { disk = min (d.disk + 2) (2 ^ 16 - 1); at = d.at })) (r ≡ sack_fault.Memory)
          → FailsRead g old after_both r
      shelf_failed P (MountDisk f) r before after before_is after_is whole lasting lasting_shelf cause is = failed (record { before = before; after = after }) (or_right log.broken shelf.broken cause.broken) (record {
        before_is = before_is;
        after_is = after_is;
        rose = rose_among_three (g.faults old.incoming.first) (g.faults old.incoming.second) (g.faults log.first) (g.faults log.second) (g.faults old.shelf.first) (g.faults old.shelf.second) (g.faults old.shelf.blocks)
            (g.faults shelf.first) (g.faults shelf.second) (g.faults shelf.blocks) (came_later 0 old.incoming.first log.first came.0) (came_later 0 old.incoming.second log.second came.1) cause.fault.rose;
      }) is
      shelf_failed P (MountDamaged d) r before after before_is after_is whole lasting lasting_shelf cause is =
          damaged (record { disk = min (d.disk + 2) (2 ^ 16 - 1); at = d.at }) (or_right log.broken shelf.broken cause.broken) (inr cause.none) is
      shelf_failed P MountMemory r before after before_is after_is whole lasting lasting_shelf cause is =
          starved (record { incoming = whole; shelf = cause }) (λ was. record { incoming = lasting; shelf = lasting_shelf }) is

-- ---- the job

batches_of_answers : (posts : List Post) → map (λ (p : ℕ × List Measure). p.1) (map answer_of posts) ≡ map (λ (p : Post). p.measures) posts
batches_of_answers [] = refl
batches_of_answers (p ∷ posts) = ap (λ l. p.measures ∷ l) (batches_of_answers posts)

module _ {D : Type 0} (g : Ghosts D) (b : Books D) (metric : MetricId) (ticket : Ticket) (done : ℕ) (policy : ArchivePolicy) (answers : List (ℕ × List Measure)) where
  told_batches : (o : Option (List Post)) → IfSome o (λ posts. answers ≡ map answer_of (take posts_per_turn (posts_above metric done posts)))
      → IfSome o (λ posts. map (λ (p : ℕ × List Measure). p.1) answers ≡ map (λ (p : Post). p.measures) (take posts_per_turn (posts_above metric done posts)))
  told_batches None is = tt
  told_batches (Some posts) is = ap (map (λ (p : ℕ × List Measure). p.1)) is ∙ batches_of_answers (take posts_per_turn (posts_above metric done posts))

  -- it is that of the metric's first posts that wait
  pub job_is : option_map (λ (m : Shelved). m.done) (metric_of metric b.shelf.metrics) ≡ Some done → option_map (λ (m : Shelved). m.policy) (metric_of metric b.shelf.metrics) ≡ Some policy
      → map (λ (p : ℕ × List Measure). p.0) answers ≡ take posts_per_turn (numbers_above metric done b.incoming.marks)
      → IfSome b.incoming.posts (λ posts. answers ≡ map answer_of (take posts_per_turn (posts_above metric done posts)))
      → (base : Tail) → ((lives : List Live) → Keeps g b.shelf lives → option_map (λ (l : Live). l.raw) (live_by metric lives) ≡ Some base)
      → (upto : ℕ) → upto ≡ last_number_of 0 (map (λ (p : ℕ × List Measure). p.0) answers) → (batches : List (List Measure)) → batches ≡ map (λ (p : ℕ × List Measure). p.1) answers
      → IsJobFrom g b metric ticket (record { ticket = ticket; metric = metric; policy = policy; base = base; batches = batches; upto = upto })
  job_is done_is policy_is numbers told base base_is upto upto_is batches batches_is = by (metric_of metric b.shelf.metrics) refl done_is policy_is
    where
      by : (o : Option Shelved) → metric_of metric b.shelf.metrics ≡ o → option_map (λ (m : Shelved). m.done) o ≡ Some done → option_map (λ (m : Shelved). m.policy) o ≡ Some policy
          → IsJobFrom g b metric ticket (record { ticket = ticket; metric = metric; policy = policy; base = base; batches = batches; upto = upto })
      by None is d p = absurd cc
      by (Some known) is d p = record {
        known = known;
        found = is;
        ticket_is = refl;
        metric_is = refl;
        policy = sym (same_Some known.policy policy p);
        upto = upto_is ∙ ap (last_number_of 0) numbers ∙ ap (λ (n : ℕ). last_number_of 0 (take posts_per_turn (numbers_above metric n b.incoming.marks))) (sym (same_Some known.done done d));
        batches = subst (λ (n : ℕ). IfSome b.incoming.posts (λ posts. batches ≡ map (λ (p : Post). p.measures) (take posts_per_turn (posts_above metric n posts)))) (sym (same_Some known.done done d))
            (subst (λ (l : List (List Measure)). IfSome b.incoming.posts (λ posts. l ≡ map (λ (p : Post). p.measures) (take posts_per_turn (posts_above metric done posts)))) (sym batches_is) (told_batches b.incoming.posts told));
        base = base_is;
      }
