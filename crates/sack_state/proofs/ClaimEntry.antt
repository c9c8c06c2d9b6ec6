-- A sack after a claim on its books.
use Rattle.std.proofs.Common.{◌≡◌, inl, inr, ℕ, ◌≤◌, cond, List, [], ◌∷◌, Option, Some, None, refl, sym, ap, subst, ◌∙◌}
use Rattle.std.specs.List.{filter, slice_get}
use Rattle.std.specs.Option.{option_map}
use Rattle.std.proofs.lemmas.Bool.{eq-eqb}
use Rattle.std.proofs.lemmas.Option.{same_Some}
use Rattle.gno_disk.specs.Phases.{AreLater, AreUnwritten, IsUnwritten, phase}
use Rattle.gno_disk.specs.declared.disk.Disk.{Ghosts}
use Rattle.log_pair.specs.declared.place.Place.{Place}
use Rattle.incoming.specs.declared.mark.Mark.{Mark}
use Rattle.series_model.specs.declared.metric.MetricId.{MetricId}
use Rattle.split_store.proofs.Seen.{seen_kept}
use Rattle.sack_history.specs.declared.entry.Counted.{Counted}
use Rattle.sack_history.specs.declared.entry.Entry.TheVariants as entries
use Rattle.sack_history.specs.declared.holding.HeldClaim.{HeldClaim}
use Rattle.sack_history.specs.Holding.{held_after}
use Rattle.sack_history.specs.Legal.{IsLegalCount}
use Rattle.sack_history.specs.Lives.{Posted, is_to, pending_of, pending_posts}
use Rattle.sack_history.specs.Scratch.{Durable, durable}
use Rattle.sack_history.specs.Turns.{longest_waiting}
use Rattle.sack_history.proofs.Turning.{part_of_metric}
use Rattle.sack_state.specs.declared.books.Books.{Books}
use Rattle.sack_state.specs.Books.{AreOfPlace, disks_of}
use Rattle.sack_state.specs.Claiming.{AreOnlyRead, KeepsNone}
use Rattle.sack_state.specs.Disks.{CameWithin, sack_phases}
use Rattle.sack_state.specs.SackView.{HasDurable, Remembers, marks_waiting}
use Rattle.sack_state.proofs.DiskLemmas.{came_same}
use Rattle.sack_state.proofs.JobLemmas.{longest_known}
use Rattle.sack_state.proofs.MomentLemmas.{still_disk}

-- ---- what reading leaves

module _ {D : Type 0} (g : Ghosts D) (old new : Books D) (only : AreOnlyRead g old new) where
  pub read_has : (d : Durable) → HasDurable g old d → HasDurable g new d
  read_has d has = record {
    posts = has.posts;
    told = only.posts ∙ has.told;
    marks = only.marks ∙ has.marks;
    next = only.next ∙ has.next;
    keeps = seen_kept g old.shelf new.shelf only.shelf d.metrics has.keeps;
    pending = has.pending;
  }

  pub read_place : (place : Place) → AreOfPlace place old → AreOfPlace place new
  read_place place of_place = record { incoming = only.place ∙ of_place.incoming; shelf = only.shelf.place ∙ of_place.shelf }

  pub read_came : (came_none : (disk : D) → g.came 0 disk disk) → ((m n : ℕ) (a b : D) → m ≤ n → g.came m a b → g.came n a b) → CameWithin g 0 0 0 (disks_of old) (disks_of new)
  read_came came_none came_more = record {
    incoming_a = only.came_first;
    incoming_b = only.came_second;
    shelf_a = came_same g came_none came_more 0 old.shelf.first new.shelf.first only.shelf.first;
    shelf_b = came_same g came_none came_more 0 old.shelf.second new.shelf.second only.shelf.second;
    blocks_disk = only.shelf.blocks.came;
  }

  pub read_unwritten : (only_now : (disk : D) (image : List ℕ) → g.left_since disk (g.moment disk) image → g.may_leave disk image) → AreUnwritten g (sack_phases (disks_of old) (disks_of new))
  read_unwritten only_now = (
    only.unwritten.0,
    (
      only.unwritten.1.0,
      (
        only.shelf.blocks.unwritten,
        (
          subst (λ (x : D). IsUnwritten g (phase old.shelf.first x)) (sym only.shelf.first) (still_disk g only_now old.shelf.first),
          (subst (λ (x : D). IsUnwritten g (phase old.shelf.second x)) (sym only.shelf.second) (still_disk g only_now old.shelf.second), tt),
        ),
      ),
    ),
  )

  pub read_later : ((n : ℕ) (a b : D) → g.came n a b → g.moment a ≤ g.moment b) → (came_none : (disk : D) → g.came 0 disk disk) → ((m n : ℕ) (a b : D) → m ≤ n → g.came m a b → g.came n a b)
      → AreLater g (sack_phases (disks_of old) (disks_of new))
  read_later later came_none came_more =
      let came = read_came came_none came_more in
      (later 0 _ _ came.incoming_a, (later 0 _ _ came.incoming_b, (later 0 _ _ came.blocks_disk, (later 0 _ _ came.shelf_a, (later 0 _ _ came.shelf_b, tt)))))

  -- books that have a durable state aren't damaged
  pub never_none : KeepsNone g old → (d : Durable) → HasDurable g old d → ⊥
  never_none (inl untold) d has = let told = sym untold ∙ has.told in absurd cc
  never_none (inr none) d has = none d.metrics has.keeps

-- ---- what the history says of the first post that waits

module _ {D : Type 0} (b : Books D) (counts : List Counted) (remembers : Remembers b (durable counts)) (first : Mark) (stands : slice_get (marks_waiting b) 0 ≡ Some first) where
  pub first_is : longest_waiting counts ≡ Some first.metric
  first_is = longest_known b counts remembers ∙ ap (option_map (λ (m : Mark). m.metric)) stands

  -- a post of its metric waits
  pub record IsPending : Type 0 where
    pub post : Posted
    pub rest : List Posted
    pub is : pending_of first.metric counts ≡ post ∷ rest

  pub some_pending : IsLegalCount counts → IsPending
  some_pending legal = by (pending_posts counts) refl first_is
    where
      by : (posts : List Posted) → pending_posts counts ≡ posts → longest_waiting counts ≡ Some first.metric → IsPending
      by posts same longest = from posts same (sym (ap (λ l. option_map (λ (p : Posted). p.metric) (slice_get l 0)) same) ∙ longest)
        where
          from : (l : List Posted) → pending_posts counts ≡ l → option_map (λ (p : Posted). p.metric) (slice_get l 0) ≡ Some first.metric → IsPending
          from [] there metric = absurd cc
          from (p ∷ l) there metric = record {
            post = p;
            rest = filter (is_to first.metric) l;
            is = sym (part_of_metric first.metric counts legal) ∙ ap (filter (is_to first.metric)) there
                ∙ ap (λ t. cond t (p ∷ filter (is_to first.metric) l) (filter (is_to first.metric) l))
                (eq-eqb p.metric.0 first.metric.0 (ap (λ (k : MetricId). k.0) (same_Some p.metric first.metric metric)));
          }

pub none_longest : {D : Type 0} (b : Books D) (counts : List Counted) → Remembers b (durable counts) → slice_get (marks_waiting b) 0 ≡ None → longest_waiting counts ≡ None
none_longest b counts remembers is = longest_known b counts remembers ∙ ap (option_map (λ (m : Mark). m.metric)) is

pub held_look : (o : Option HeldClaim) → held_after o (entries.Look None) ≡ o
held_look None = refl
held_look (Some claim) = refl
