-- A live metric of a sack, by what counted.
use Rattle.std.proofs.Common.{◌≡◌, ℕ, Bool, true, false, cond, eqb, ltb, ◌&&◌, List, [], ◌∷◌, map, Option, Some, None, refl, sym, ap, ◌∙◌}
use Rattle.std.specs.List.{filter}
use Rattle.std.specs.Option.{option_map}
use Rattle.std.proofs.lemmas.Bool.{eqb-true}
use Rattle.std.proofs.lemmas.Option.{same_Some}
use Rattle.gno_disk.specs.declared.disk.Disk.{Ghosts}
use Rattle.series_model.specs.declared.metric.MetricId.{MetricId}
use Rattle.incoming.specs.declared.mark.Mark.{Mark}
use Rattle.incoming.specs.Posts.{Post, is_above, marks_of, numbers_above, posts_above}
use Rattle.split_update.specs.Live.{Live, live_from_scratch}
use Rattle.shelf_records.specs.Shelved.{Shelved, metric_of}
use Rattle.split_store.specs.Shelf.{live_by}
use Rattle.split_store.proofs.Found.{IsHeldAs, live_held}
use Rattle.sack_history.specs.declared.entry.Counted.{Counted}
use Rattle.sack_history.specs.Legal.{IsLegalCount}
use Rattle.sack_history.specs.Lives.{Life, Posted, batches_of, is_to, life_of, pending_of}
use Rattle.sack_history.specs.Scratch.{durable, live_of, metrics_from_scratch}
use Rattle.sack_history.proofs.Numbers.{numbers}
use Rattle.sack_history.proofs.Stating.{scratch_found}
use Rattle.sack_history.proofs.Turning.{part_of_metric}
use Rattle.sack_state.specs.declared.books.Books.{Books}
use Rattle.sack_state.specs.SackHolding.{posted_of, waiting_among, waits_among, waits_for}
use Rattle.sack_state.specs.SackView.{HasDurable}

-- ---- a metric's posts that wait

same_id : (m n : MetricId) → m.0 ≡ n.0 → m ≡ n
same_id m n is = ap (λ (i : ℕ). let x : MetricId = record { 0 = i } in x) is

-- a metric's part of the posts that wait are its posts above its done number
own_posts : (m : MetricId) (lives : List Live) (l : Live) → live_of m lives ≡ Some l → (posts : List Post) → filter (is_to m) (waiting_among lives posts) ≡ map posted_of (posts_above m l.done posts)
own_posts m lives l live [] = refl
own_posts m lives l live (p ∷ posts) = by (eqb p.metric.0 m.0) refl (own_posts m lives l live posts)
  where
    by : (t : Bool) → eqb p.metric.0 m.0 ≡ t → filter (is_to m) (waiting_among lives posts) ≡ map posted_of (posts_above m l.done posts)
        → filter (is_to m) (waiting_among lives (p ∷ posts)) ≡ map posted_of (posts_above m l.done (p ∷ posts))
    by true is rest =
        ap (λ c. filter (is_to m) (cond c (posted_of p ∷ waiting_among lives posts) (waiting_among lives posts)))
        (ap (λ (k : MetricId). waits_for p.number (live_of k lives)) (same_id p.metric m (eqb-true p.metric.0 m.0 is)) ∙ ap (waits_for p.number) live)
        ∙ chosen (ltb l.done p.number)
        ∙ sym (ap (λ t. map posted_of (cond (t && ltb l.done p.number) (p ∷ posts_above m l.done posts) (posts_above m l.done posts))) is)
      where
        chosen : (c : Bool) → filter (is_to m) (cond c (posted_of p ∷ waiting_among lives posts) (waiting_among lives posts)) ≡ map posted_of (cond c (p ∷ posts_above m l.done posts) (posts_above m l.done posts))
        chosen true = ap (λ t. cond t (posted_of p ∷ filter (is_to m) (waiting_among lives posts)) (filter (is_to m) (waiting_among lives posts))) is ∙ ap (λ k. posted_of p ∷ k) rest
        chosen false = rest
    by false is rest =
        left (waits_among lives (posted_of p))
        ∙ rest
        ∙ sym (ap (λ t. map posted_of (cond (t && ltb l.done p.number) (p ∷ posts_above m l.done posts) (posts_above m l.done posts))) is)
      where
        left : (c : Bool) → filter (is_to m) (cond c (posted_of p ∷ waiting_among lives posts) (waiting_among lives posts)) ≡ filter (is_to m) (waiting_among lives posts)
        left true = ap (λ t. cond t (posted_of p ∷ filter (is_to m) (waiting_among lives posts)) (filter (is_to m) (waiting_among lives posts))) is
        left false = refl

-- their numbers
numbers_of_posts : (m : MetricId) (done : ℕ) (posts : List Post) → numbers_above m done (marks_of posts) ≡ numbers (map posted_of (posts_above m done posts))
numbers_of_posts m done [] = refl
numbers_of_posts m done (p ∷ posts) = by (eqb p.metric.0 m.0 && ltb done p.number) (numbers_of_posts m done posts)
  where
    by : (c : Bool) → numbers_above m done (marks_of posts) ≡ numbers (map posted_of (posts_above m done posts))
        → map (λ (mark : Mark). mark.number) (cond c (record { number = p.number; metric = p.metric } ∷ filter (is_above m done) (marks_of posts)) (filter (is_above m done) (marks_of posts)))
        ≡ numbers (map posted_of (cond c (p ∷ posts_above m done posts) (posts_above m done posts)))
    by true rest = ap (λ l. p.number ∷ l) rest
    by false rest = rest

pub measures_posted : (posts : List Post) → map (λ (p : Posted). p.measures) (map posted_of posts) ≡ map (λ (p : Post). p.measures) posts
measures_posted [] = refl
measures_posted (p ∷ posts) = ap (λ l. p.measures ∷ l) (measures_posted posts)

-- ---- the metric as it is live

pub same_live : (m : MetricId) (lives : List Live) → live_by m lives ≡ live_of m lives
same_live m [] = refl
same_live m (l ∷ lives) = ap (λ o. cond (eqb l.id.0 m.0) (Some l) o) (same_live m lives)

module _ {D : Type 0} (g : Ghosts D) (b : Books D) (counts : List Counted) (has : HasDurable g b (durable counts)) (legal : IsLegalCount counts) (metric : MetricId) (known : Shelved) (found : metric_of metric b.shelf.metrics ≡ Some known) where
  abbrev lives : List Live
  lives = metrics_from_scratch counts

  pub held : IsHeldAs has.keeps.bytes known metric lives
  held = live_held has.keeps.bytes b.shelf.metrics lives metric known has.keeps.held found

  pub live_is : live_of metric lives ≡ Some held.live
  live_is = sym (same_live metric lives) ∙ held.there

  pub record IsLifeAs : Type 0 where
    pub life : Life
    pub is : life_of metric counts ≡ Some life
    pub live : held.live ≡ live_from_scratch metric life.policy life.done (batches_of metric counts)

  pub life_as : IsLifeAs
  life_as = by (life_of metric counts) refl (sym (scratch_found counts metric) ∙ live_is)
    where
      by : (o : Option Life) → life_of metric counts ≡ o → option_map (λ (x : Life). live_from_scratch metric x.policy x.done (batches_of metric counts)) o ≡ Some held.live → IsLifeAs
      by None is there = absurd cc
      by (Some x) is there = record { life = x; is = is; live = sym (same_Some (live_from_scratch metric x.policy x.done (batches_of metric counts)) held.live there) }

  -- the posts of the metric that wait
  pub pending_is : pending_of metric counts ≡ map posted_of (posts_above metric known.done has.posts)
  pending_is =
      sym (part_of_metric metric counts legal) ∙ ap (filter (is_to metric)) has.pending ∙ own_posts metric lives held.live live_is has.posts
      ∙ ap (λ n. map posted_of (posts_above metric n has.posts)) held.holds.done

  pub numbers_are : numbers_above metric known.done b.incoming.marks ≡ numbers (pending_of metric counts)
  numbers_are = ap (numbers_above metric known.done) has.marks ∙ numbers_of_posts metric known.done has.posts ∙ ap numbers (sym pending_is)
