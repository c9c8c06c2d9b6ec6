-- Turns on the books of a sack: work is read, prepared, and written.
use Rattle.std.proofs.Common.{◌≡◌, inr, ℕ, ◌+◌, ◌-◌, ◌≤◌, ◌^◌, min, false, List, Option, Some, None, Result, Ok, Err, refl, sym, ap, subst, ◌∙◌, arith}
use Rattle.std.specs.Bool.{⊤}
use Rattle.std.specs.List.{slice_get}
use Rattle.std.specs.Option.{IsSome, option_map}
use Rattle.std.proofs.lemmas.Option.{same_Some}
use Rattle.gno_num.specs.Faults.{Rose-from}
use Rattle.gno_disk.specs.Disk.{TimeGoesOn}
use Rattle.gno_disk.specs.declared.disk.Disk.{Ghosts}
use Rattle.gate_log.specs.LogView.{MatchMountFault}
use Rattle.gate_log.specs.declared.fault.MountFault.{MountFault}
use Rattle.gate_log.specs.declared.fault.MountFault.TheVariants.{DiskFault as MountDisk, Damaged as MountDamaged, Memory as MountMemory}
use Rattle.series_model.specs.declared.metric.MetricId.{MetricId}
use Rattle.bound_series.specs.Jobs.{JobView, PreparedView}
use Rattle.incoming.specs.declared.mark.Mark.{Mark}
use Rattle.shelf_records.specs.Shelved.{Shelved, metric_of}
use Rattle.log_pair.specs.declared.place.Place.{Place}
use Rattle.shelf_blocks.specs.Blocks.{HoldsMetrics}
use Rattle.split_store.specs.Shelf.{HoldsShelf}
use Rattle.split_store.specs.ShelfView.{IsCause, IsKeptAs, IsLastingShelf, IsOnlySeen, Keeps, ShelfView, shelf_faults}
use Rattle.split_store.proofs.Seen.{seen_kept}
use Rattle.sack_history.specs.declared.fault.SackFault.{SackFault}
use Rattle.sack_history.specs.declared.fault.SackFault.TheVariants as sack_fault
use Rattle.sack_state.specs.declared.books.Books.{Books}
use Rattle.sack_state.specs.Books.{AreLasting, AreWhole, disks_of}
use Rattle.series_model.specs.declared.ticket.Ticket.{Ticket}
use Rattle.sack_state.specs.Claiming.{AreOnlyRead, IsJobFrom, ReadsJob, damaged, first_waiting, not_read, read, starved}
use Rattle.sack_state.specs.Committing.{HasWritten, IsReadied, TakesTurn, WritesFrom, WritesTurn, broke, no_ticket, took, turn_due, unread, unwritten, written}
use Rattle.sack_state.specs.Disks.{sack_faults}
use Rattle.sack_state.specs.SackView.{marks_waiting}
use Rattle.sack_state.specs.Waiting.{numbers_over}
use Rattle.sack_state.proofs.FirstLemmas.{first_live}
use Rattle.sack_state.proofs.ReadCalls.{unwritten_then}
use Rattle.sack_state.proofs.ReadingLemmas.{or_right}
use Rattle.sack_state.proofs.RealLemmas.{rose_among_three}

-- ---- what was read

-- a job was read
pub record IsRead {D : Type 0} (g : Ghosts D) (metric : MetricId) (ticket : Ticket) (old mid : Books D) (job : JobView) : Type 0 where
  pub from : IsJobFrom g old metric ticket job
  pub only : AreOnlyRead g old mid
  pub whole : AreWhole mid
  pub lasting : AreLasting g old → AreLasting g mid

pub job_read : {D : Type 0} (g : Ghosts D) (metric : MetricId) (ticket : Ticket) (old mid : Books D) (job : JobView) → ReadsJob g metric ticket old mid (Ok job) → IsRead g metric ticket old mid job
job_read g metric ticket old mid job (read other from only whole lasting is) = record {
  from = subst (IsJobFrom g old metric ticket) (sym (same_Ok is)) from;
  only = only;
  whole = whole;
  lasting = lasting;
}
  where
    same_Ok : (let x : Result JobView SackFault = Ok job in x) ≡ Ok other → job ≡ other
    same_Ok e = ap (λ (r : Result JobView SackFault). elim r [ Ok j ↦ j | Err x ↦ job ]) e
job_read g metric ticket old mid job (not_read e only fails is) = absurd cc

pub turn_unread : {D : Type 0} (g : Ghosts D) (metric : MetricId) (old new : Books D) (e : SackFault) → ReadsJob g metric no_ticket old new (Err e) → TakesTurn g metric old new (Err e)
turn_unread g metric old new e (read job from only whole lasting is) = absurd cc
turn_unread g metric old new e (not_read fault only fails is) = unread fault only fails (ap no_job is)
  where
    no_job : Result JobView SackFault → Result (Unit {0}) SackFault
    no_job (Ok job) = Ok tt
    no_job (Err x) = Err x

-- ---- whose turn is next

pub record IsFrom {A B : Type 0} (f : A → B) (o : Option A) (b : B) : Type 0 where
  pub from : A
  pub is : o ≡ Some from
  pub gives : f from ≡ b

pub from_some : {A B : Type 0} (f : A → B) (o : Option A) (b : B) → option_map f o ≡ Some b → IsFrom f o b
from_some f None b is = absurd cc
from_some f (Some a) b is = record { from = a; is = refl; gives = same_Some (f a) b is }

-- a metric of which a post waits is live
own_live : {D : Type 0} (b : Books D) (metric : MetricId) (mark : Mark) → first_waiting b metric ≡ Some mark → IsSome (metric_of metric b.shelf.metrics)
own_live b metric mark is = by (metric_of metric b.shelf.metrics) is
  where
    by : (o : Option Shelved)
        → option_map (λ (number : ℕ). let m : Mark = record { number = number; metric = metric } in m) (slice_get (numbers_over (option_map (λ (m : Shelved). m.done) o) metric b.incoming.marks) 0) ≡ Some mark → IsSome o
    by None first = absurd cc
    by (Some m) first = refl

pub due_live : {D : Type 0} (only : Option MetricId) (b : Books D) (metric : MetricId) → turn_due only b ≡ Some metric → IsSome (metric_of metric b.shelf.metrics)
due_live None b metric is =
    let due = from_some (λ (mark : Mark). mark.metric) (slice_get (marks_waiting b) 0) metric is in
    subst (λ (m : MetricId). IsSome (metric_of m b.shelf.metrics)) due.gives (first_live b due.from due.is)
due_live (Some one) b metric is =
    let due = from_some (λ (mark : Mark). one) (first_waiting b one) metric is in
    subst (λ (m : MetricId). IsSome (metric_of m b.shelf.metrics)) due.gives (own_live b one due.from due.is)

module _ {D : Type 0} (g : Ghosts D) (goes_on : (n : ℕ) (old new : D) → g.came n old new → TimeGoesOn (g.moment old) (g.moment new) (g.left_since old) (g.left_since new))
    (came_then : (m n : ℕ) (old mid new : D) → g.came m old mid → g.came n mid new → g.came (m + n) old new) (came_later : (n : ℕ) (old new : D) → g.came n old new → g.faults old ≤ g.faults new) where
  -- ---- a shelf that is read once more

  seen_then : (old mid new : ShelfView D) → IsOnlySeen g old mid → IsOnlySeen g mid new → IsOnlySeen g old new
  seen_then old mid new first second = record {
    place = second.place ∙ first.place;
    epoch = second.epoch ∙ first.epoch;
    metrics = second.metrics ∙ first.metrics;
    first = second.first ∙ first.first;
    second = second.second ∙ first.second;
    blocks = record {
      told = second.blocks.told ∙ first.blocks.told;
      size = second.blocks.size ∙ first.blocks.size;
      unwritten = unwritten_then g old.blocks mid.blocks new.blocks (goes_on 0 old.blocks mid.blocks first.blocks.came).later (goes_on 0 mid.blocks new.blocks second.blocks.came) first.blocks.unwritten second.blocks.unwritten;
      came = came_then 0 0 old.blocks mid.blocks new.blocks first.blocks.came second.blocks.came;
    };
  }

  -- what a stop leaves has what it had
  seen_lasting : (old new : ShelfView D) → IsOnlySeen g old new → IsLastingShelf g old → IsLastingShelf g new
  seen_lasting old new seen lasting lives a b z keeps left_a left_b left_z =
      let had : Keeps g old lives = record {
        bytes = keeps.bytes;
        first = subst (λ d. IsSome (g.told d)) seen.first keeps.first;
        second = subst (λ d. IsSome (g.told d)) seen.second keeps.second;
        told = sym seen.blocks.told ∙ keeps.told;
        held = subst (λ ms. HoldsMetrics keeps.bytes ms lives) seen.metrics keeps.held;
      } in
      subst (λ (p : Place). HoldsShelf p lives a b z) (sym seen.place)
      (lasting lives a b z had (subst (λ d. g.may_leave d a) seen.first left_a) (subst (λ d. g.may_leave d b) seen.second left_b) (seen.blocks.unwritten.no_more z left_z))

  module _ (old mid : Books D) (only : AreOnlyRead g old mid) where
    abbrev pub with_shelf : ShelfView D → Books D
    with_shelf shelf = record { incoming = mid.incoming; shelf = shelf }

    more_read : (shelf : ShelfView D) → IsOnlySeen g mid.shelf shelf → AreOnlyRead g old (record { incoming = mid.incoming; shelf = shelf })
    more_read shelf seen = record {
      marks = only.marks;
      next = only.next;
      posts = only.posts;
      place = only.place;
      unwritten = only.unwritten;
      came_first = only.came_first;
      came_second = only.came_second;
      shelf = seen_then old.shelf mid.shelf shelf only.shelf seen;
    }

    shelf_later : shelf_faults g old.shelf ≤ shelf_faults g mid.shelf
    shelf_later =
        let a = ap g.faults only.shelf.first in
        let b = ap g.faults only.shelf.second in
        let c = came_later 0 old.shelf.blocks mid.shelf.blocks only.shelf.blocks.came in
        omega (arith, a, b, c)

    module _ (IsJob : JobView → Type 0) (p : PreparedView) (ready : IsReadied g IsJob p old mid) (whole : AreWhole mid) (lasting : AreLasting g old → AreLasting g mid) (shelf : ShelfView D) (writes : WritesTurn g p mid.shelf shelf) where
      -- the shelf was written
      pub turn_written : HasWritten g p mid.shelf shelf → shelf.broken ≡ false → WritesFrom g IsJob p old (record { incoming = mid.incoming; shelf = shelf }) (Ok tt)
      turn_written has unbroken =
          written mid ready refl writes has (record { incoming = whole.incoming; shelf = unbroken }) (λ was. record { incoming = (lasting was).incoming; shelf = has.lasting }) refl

      -- it wasn't, or not whole
      pub turn_not_written : (P : List ℕ → ℕ → Type 0) (x : MountFault) (r : SackFault) (before after : ℕ) → shelf.metrics ≡ mid.shelf.metrics → IsKeptAs g mid.shelf shelf
          → before ≡ sack_faults g (disks_of old) → after ≡ sack_faults g (disks_of (with_shelf shelf)) → IsCause g P mid.shelf shelf x
          → MatchMountFault x (λ f. ⊤) (λ d. IsOnlySeen g mid.shelf shelf) (IsOnlySeen g mid.shelf shelf)
          → MatchMountFault x (λ f. r ≡ sack_fault.DiskFault (record { before = before; after = after })) (λ d. r ≡ sack_fault.Damaged (record { disk = min (d.disk + 2) (2 ^ 16 - 1); at = d.at })) (r ≡ sack_fault.Memory)
          → WritesFrom g IsJob p old (record { incoming = mid.incoming; shelf = shelf }) (Err r)
      turn_not_written P (MountDisk f) r before after metrics kept before_is after_is cause seen is =
          let rose = Rose-from (shelf_faults g old.shelf) shelf_later cause.fault.rose in
          broke mid (record { before = before; after = after }) ready refl writes (record { kept = kept; metrics = metrics; broken = cause.broken }) (record {
            before_is = before_is;
            after_is = after_is;
            rose = rose_among_three (g.faults old.incoming.first) (g.faults old.incoming.second) (g.faults mid.incoming.first) (g.faults mid.incoming.second) (g.faults old.shelf.first) (g.faults old.shelf.second) (g.faults old.shelf.blocks)
                (g.faults shelf.first) (g.faults shelf.second) (g.faults shelf.blocks) (came_later 0 old.incoming.first mid.incoming.first only.came_first) (came_later 0 old.incoming.second mid.incoming.second only.came_second) rose;
          }) (ap (λ x. Err x) is)
      turn_not_written P (MountDamaged d) r before after metrics kept before_is after_is cause seen is =
          unwritten r (more_read shelf seen) (damaged (record { disk = min (d.disk + 2) (2 ^ 16 - 1); at = d.at }) (or_right mid.incoming.broken shelf.broken cause.broken)
          (inr (λ lives keeps. cause.none lives (seen_kept g old.shelf mid.shelf only.shelf lives keeps))) is) refl
      turn_not_written P MountMemory r before after metrics kept before_is after_is cause seen is =
          unwritten r (more_read shelf seen) (starved (record { incoming = whole.incoming; shelf = cause }) (λ was. record { incoming = (lasting was).incoming; shelf = seen_lasting mid.shelf shelf seen (lasting was).shelf }) is) refl

-- after a turn that was taken the books haven't broken
pub turn_lasting : {D : Type 0} (g : Ghosts D) (metric : MetricId) (old new : Books D) → TakesTurn g metric old new (Ok tt) → AreWhole new × (AreLasting g old → AreLasting g new)
turn_lasting g metric old new (took p (written mid ready same writes has whole lasting is)) = (whole, lasting)
turn_lasting g metric old new (took p (broke mid f ready same writes has fault is)) = absurd cc
turn_lasting g metric old new (took p (unwritten e only fails is)) = absurd cc
turn_lasting g metric old new (unread e only fails is) = absurd cc
