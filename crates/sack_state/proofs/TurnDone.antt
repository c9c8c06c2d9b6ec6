-- A sack after a turn on its books: work was read, and then written to the shelf.
use Rattle.std.proofs.Common.{◌≡◌, ◌⊎◌, inl, inr, ℕ, ◌+◌, ◌≤◌, false, List, [], ◌∷◌, ◌++◌, map, Some, None, refl, sym, ap, subst, ◌∙◌, arith}
use Rattle.std.specs.Option.{IfSome, is_some}
use Rattle.std.proofs.lemmas.Bool.{or_right}
use Rattle.gno_disk.specs.Disk.{TimeGoesOn}
use Rattle.gno_disk.specs.Phases.{AreUnwritten, EachMoment, phase}
use Rattle.gno_disk.specs.declared.disk.Disk.{Ghosts}
use Rattle.gno_disk.proofs.PhaseLemmas.{AtMoment-unwritten, EachMoment-join}
use Rattle.log_pair.specs.declared.place.Place.{Place}
use Rattle.bound_series.specs.Jobs.{IsPrepared, PreparedView}
use Rattle.incoming.specs.Posts.{HoldsIncoming}
use Rattle.split_update.specs.Live.{Live}
use Rattle.shelf_records.specs.Shelved.{Shelved}
use Rattle.split_store.specs.Shelf.{HoldsShelf}
use Rattle.split_store.specs.ShelfView.{AreOldOrChanged, Keeps, ShelfView}
use Rattle.split_store.specs.Turn.{WritesBlocks, none, some}
use Rattle.sack_history.specs.declared.entry.Counted.{Counted}
use Rattle.sack_history.specs.declared.entry.Counted.TheVariants as counted
use Rattle.sack_history.specs.declared.entry.Entry.{Entry}
use Rattle.sack_history.specs.declared.entry.Entry.TheVariants as entries
use Rattle.sack_history.specs.declared.holding.HeldClaim.{HeldClaim}
use Rattle.sack_history.specs.Calls.{IsJobOf}
use Rattle.sack_history.specs.Entries.{kept}
use Rattle.sack_history.specs.Holding.{held_after, held_claim, last_ticket}
use Rattle.sack_history.specs.Legal.{IsLegalCount, MayProcess}
use Rattle.sack_history.specs.Lives.{done_of, next_post}
use Rattle.sack_history.specs.Scratch.{commit_live, durable, metrics_from_scratch}
use Rattle.sack_history.proofs.Committed.{TurnIsFromScratch}
use Rattle.sack_history.proofs.Keeping.{kept-counted}
use Rattle.sack_history.proofs.Stating.{metrics-done}
use Rattle.sack_history.proofs.Turning.{done_later}
use Rattle.sack_state.specs.declared.books.Books.{Books}
use Rattle.sack_state.specs.declared.disks.SackDisks.{SackDisks}
use Rattle.sack_state.specs.Books.{AreLasting, AreOfPlace, AreWhole, disks_of}
use Rattle.sack_state.specs.Claiming.{AreOnlyRead}
use Rattle.sack_state.specs.Committing.{HasNotWritten, HasWritten, WritesTurn}
use Rattle.sack_state.specs.Disks.{CameWithin, OfFive, sack_phases}
use Rattle.sack_state.specs.SackHolding.{AreOldOrWritten, HoldsSack}
use Rattle.sack_state.specs.SackView.{HasDurable, IsScratch, SackView, standing_by}
use Rattle.sack_state.proofs.ClaimEntry.{read_has, read_place}
use Rattle.sack_state.proofs.DoneLemmas.{state_with}
use Rattle.sack_state.proofs.EntryLemmas.{left_broken, left_whole}
use Rattle.sack_state.proofs.KnowLemmas.{same_waiting}
use Rattle.sack_state.proofs.LifeLemmas.{done_next, done_pending}
use Rattle.sack_state.proofs.MomentLemmas.{five_entry, shelf_moments, still_disk}
use Rattle.sack_state.proofs.MountLemmas.{books_leave, incoming_moved, shelf_moved}

-- how often the blocks were changed
pub record ChangesBlocks {D : Type 0} (g : Ghosts D) (old new : D) : Type 0 where
  pub times : ℕ
  pub came : g.came times old new

pub changes_blocks : {D : Type 0} (g : Ghosts D) (metrics : List Shelved) (p : PreparedView) (old new : D) → WritesBlocks g metrics p old new → ChangesBlocks g old new
changes_blocks g metrics p old new (none read) = record { times = 0; came = read.came }
changes_blocks g metrics p old new (some slots are came) = record { times = slots + 1; came = came }

module _ {D : Type 0} (g : Ghosts D) (came_then : (m n : ℕ) (old mid new : D) → g.came m old mid → g.came n mid new → g.came (m + n) old new) (old mid : Books D) (only : AreOnlyRead g old mid) (p : PreparedView) (shelf : ShelfView D) (writes : WritesTurn g p mid.shelf shelf) where
  pub blocks_came : ChangesBlocks g mid.shelf.blocks shelf.blocks
  blocks_came = changes_blocks g writes.metrics p mid.shelf.blocks shelf.blocks writes.blocks

  -- how the disks came
  pub turn_came : CameWithin g 0 4 blocks_came.times (disks_of old) (disks_of (record { incoming = mid.incoming; shelf = shelf }))
  turn_came = record {
    incoming_a = only.came_first;
    incoming_b = only.came_second;
    shelf_a = subst (λ d. g.came 4 d shelf.first) only.shelf.first writes.came_first;
    shelf_b = subst (λ d. g.came 4 d shelf.second) only.shelf.second writes.came_second;
    blocks_disk =
        let sum : 0 + blocks_came.times ≡ blocks_came.times = omega arith in
        subst (λ n. g.came n old.shelf.blocks shelf.blocks) sum (came_then 0 blocks_came.times old.shelf.blocks mid.shelf.blocks shelf.blocks only.shelf.blocks.came blocks_came.came);
  }

module _ {D : Type 0} (g : Ghosts D) (turn : TurnIsFromScratch) (tells : (n : ℕ) (old new : D) → g.came n old new → is_some (g.told new) ≡ is_some (g.told old)) (came_none : (disk : D) → g.came 0 disk disk)
    (came_more : (m n : ℕ) (old new : D) → m ≤ n → g.came m old new → g.came n old new) (came_then : (m n : ℕ) (old mid new : D) → g.came m old mid → g.came n mid new → g.came (m + n) old new)
    (goes_on : (n : ℕ) (old new : D) → g.came n old new → TimeGoesOn (g.moment old) (g.moment new) (g.left_since old) (g.left_since new))
    (only_now : (disk : D) (image : List ℕ) → g.left_since disk (g.moment disk) image → g.may_leave disk image)
    (place : Place) (old mid : Books D) (only : AreOnlyRead g old mid) (lasting : AreLasting g old) (lasting_mid : AreLasting g mid) (of_place : AreOfPlace place old) (p : PreparedView) (shelf : ShelfView D) (writes : WritesTurn g p mid.shelf shelf)
    (v w : SackView D) (v_place : v.place ≡ place) (w_place : w.place ≡ place) (history : List Entry) (scratch : IsScratch g v (record { disks = disks_of old; books = old; broken = false }) history)
    (claim : HeldClaim) (legal : IsLegalCount (kept history)) (may : MayProcess (kept history) claim.metric claim.upto) (job : IsJobOf claim (kept history) p.job) (prepared : IsPrepared p) where
  abbrev pub turned : Books D
  turned = record { incoming = mid.incoming; shelf = shelf }

  abbrev counts : List Counted
  counts = kept history

  abbrev pub more : Counted
  more = counted.Done claim.metric claim.upto

  abbrev later : List Counted
  later = counts ++ more ∷ []

  abbrev change : List Live → List Live
  change = commit_live p.job.metric p

  has_mid : HasDurable g mid (durable counts)
  has_mid = read_has g old mid only (durable counts) (scratch.has refl)

  place_mid : AreOfPlace place mid
  place_mid = read_place g old mid only place of_place

  later_metrics : metrics_from_scratch later ≡ change (metrics_from_scratch counts)
  later_metrics = metrics-done counts turn claim p legal may job prepared ∙ ap (λ m. commit_live m p (metrics_from_scratch counts)) (sym job.metric)

  done_before : done_of claim.metric counts ≤ claim.upto
  done_before = let lt = done_later claim.metric claim.upto counts may in omega (arith, lt)

  later_next : next_post later ≡ next_post counts
  later_next = done_next claim.metric claim.upto counts done_before

  -- ---- what a stop leaves

  images_either : (a b z c e : List ℕ) → AreOldOrChanged mid.shelf.place (metrics_from_scratch counts) change c e z → g.may_leave mid.incoming.first a → g.may_leave mid.incoming.second b
      → HoldsSack place (durable counts) a b z c e ⊎ HoldsSack place (durable later) a b z c e
  images_either a b z c e of left_a left_b = by of
    where
      holds : HoldsIncoming place has_mid.posts (next_post counts) a b
      holds = incoming_moved mid.incoming.place place has_mid.posts mid.incoming.next (next_post counts) a b place_mid.incoming has_mid.next
          (subst (λ o. IfSome o (λ posts. HoldsIncoming mid.incoming.place posts mid.incoming.next a b)) has_mid.told (lasting_mid.incoming a b left_a left_b))

      by : HoldsShelf mid.shelf.place (metrics_from_scratch counts) c e z ⊎ HoldsShelf mid.shelf.place (change (metrics_from_scratch counts)) c e z → HoldsSack place (durable counts) a b z c e ⊎ HoldsSack place (durable later) a b z c e
      by (inl there) = inl (record { posts = has_mid.posts; incoming = holds; shelf = shelf_moved mid.shelf.place place (metrics_from_scratch counts) c e z place_mid.shelf there; pending = has_mid.pending })
      by (inr there) = inr (record {
        posts = has_mid.posts;
        incoming = subst (λ n. HoldsIncoming place has_mid.posts n a b) (sym later_next) holds;
        shelf = subst (λ ms. HoldsShelf place ms c e z) (sym later_metrics) (shelf_moved mid.shelf.place place (change (metrics_from_scratch counts)) c e z place_mid.shelf there);
        pending = done_pending claim.metric claim.upto counts done_before has_mid.posts has_mid.pending;
      })

  abbrev Left : List ℕ → List ℕ → List ℕ → List ℕ → List ℕ → Type 0
  Left = AreOldOrWritten place counts (Some more)

  -- the disks once the work was read
  abbrev read_disks : SackDisks D
  read_disks = record { incoming_a = mid.incoming.first; incoming_b = mid.incoming.second; blocks = mid.shelf.blocks; shelf_a = old.shelf.first; shelf_b = old.shelf.second }

  while_read : EachMoment g (sack_phases (disks_of old) read_disks) (OfFive Left)
  while_read = record {
    later = (
      (goes_on 0 _ _ only.came_first).later,
      ((goes_on 0 _ _ only.came_second).later, ((goes_on 0 _ _ only.shelf.blocks.came).later, (omega arith, (omega arith, tt)))),
    );
    each = λ images at. five_entry g (disks_of old) read_disks Left
        (λ a b z c e left_a left_b left_z left_c left_e. inl (books_leave g place old (durable counts) of_place lasting (scratch.has refl) a b z c e left_a left_b left_z left_c left_e)) images
        (AtMoment-unwritten g (sack_phases (disks_of old) read_disks) images unwritten at);
  }
    where
      unwritten : AreUnwritten g (sack_phases (disks_of old) read_disks)
      unwritten = (only.unwritten.0, (only.unwritten.1.0, (only.shelf.blocks.unwritten, (still_disk g only_now old.shelf.first, (still_disk g only_now old.shelf.second, tt)))))

  while_written : EachMoment g (sack_phases (disks_of mid) (disks_of turned)) (OfFive Left)
  while_written = shelf_moments g only_now (disks_of mid) (disks_of turned) refl refl (AreOldOrChanged mid.shelf.place (metrics_from_scratch counts) change) Left images_either
      (λ z c e left_z left_c left_e. inl (lasting_mid.shelf (metrics_from_scratch counts) c e z has_mid.keeps left_c left_e left_z))
      (writes.any_moment (metrics_from_scratch counts) has_mid.keeps)

  abbrev blocks : ChangesBlocks g mid.shelf.blocks shelf.blocks
  blocks = blocks_came g came_then old mid only p shelf writes

  -- at every moment
  pub turn_moments : EachMoment g (sack_phases (disks_of old) (disks_of (record { incoming = mid.incoming; shelf = shelf }))) (OfFive (AreOldOrWritten place (kept history) (Some (counted.Done claim.metric claim.upto))))
  turn_moments = EachMoment-join g (phase old.incoming.first mid.incoming.first ∷ phase old.incoming.second mid.incoming.second ∷ []) old.shelf.blocks mid.shelf.blocks shelf.blocks
      (phase old.shelf.first shelf.first ∷ phase old.shelf.second shelf.second ∷ []) (OfFive Left) (goes_on blocks.times mid.shelf.blocks shelf.blocks blocks.came) while_read
      (subst (λ d. EachMoment g (phase mid.incoming.first mid.incoming.first ∷ phase mid.incoming.second mid.incoming.second ∷ phase mid.shelf.blocks shelf.blocks ∷ phase d shelf.first ∷ phase old.shelf.second shelf.second ∷ []) (OfFive Left)) only.shelf.first
      (subst (λ d. EachMoment g (phase mid.incoming.first mid.incoming.first ∷ phase mid.incoming.second mid.incoming.second ∷ phase mid.shelf.blocks shelf.blocks ∷ phase mid.shelf.first shelf.first ∷ phase d shelf.second ∷ []) (OfFive Left)) only.shelf.second while_written))

  -- ---- what the sack is then

  -- the turn counts
  pub turn_scratch : HasWritten g p mid.shelf shelf → AreWhole (record { incoming = mid.incoming; shelf = shelf }) → w.held ≡ held_after (held_claim history) (entries.Counted (counted.Done claim.metric claim.upto)) → w.tickets ≡ last_ticket history
      → IsScratch g w (state_with (record { incoming = mid.incoming; shelf = shelf })) (history ++ entries.Counted (counted.Done claim.metric claim.upto) ∷ [])
  turn_scratch now whole_new held tickets =
      left_whole g tells place old turned v w v_place w_place history scratch 0 4 blocks.times (turn_came g came_then old mid only p shelf writes) (entries.Counted more) (record { whole = sym scratch.broken; counts = may }) refl held tickets
      (subst (λ c. HasDurable g turned (durable c)) (sym (kept-counted history more)) (record {
        posts = has_mid.posts;
        told = has_mid.told;
        marks = has_mid.marks;
        next = has_mid.next ∙ sym later_next;
        keeps = subst (λ ms. Keeps g shelf ms) (sym later_metrics) (now.changed (metrics_from_scratch counts) has_mid.keeps);
        pending = done_pending claim.metric claim.upto counts done_before has_mid.posts has_mid.pending;
      }))
      whole_new (record { incoming = lasting_mid.incoming; shelf = now.lasting }) (record { incoming = place_mid.incoming; shelf = writes.place ∙ place_mid.shelf })

  -- a disk has failed
  pub turn_failed : HasNotWritten g mid.shelf shelf → (before after : ℕ) → w.held ≡ None → w.tickets ≡ last_ticket history
      → IsScratch g w (state_with (record { incoming = mid.incoming; shelf = shelf })) (history ++ entries.Fault (Some (counted.Done claim.metric claim.upto)) before after ∷ [])
  turn_failed now before after held tickets =
      left_broken g tells place old turned v w v_place w_place history scratch 0 4 blocks.times (turn_came g came_then old mid only p shelf writes) (Some more) before after may (or_right mid.incoming.broken shelf.broken now.broken) held tickets
      (record {
        next = has_mid.next;
        standings = ap (map standing_by) (now.metrics ∙ only.shelf.metrics) ∙ scratch.remembers.standings;
        waiting = same_waiting old turned (now.metrics ∙ only.shelf.metrics) only.marks ∙ scratch.remembers.waiting;
      })
      (λ a b z c e left_a left_b left_z left_c left_e. images_either a b z c e (writes.left (metrics_from_scratch counts) (z ∷ c ∷ e ∷ []) has_mid.keeps (left_z, (left_c, (left_e, tt)))) left_a left_b)
