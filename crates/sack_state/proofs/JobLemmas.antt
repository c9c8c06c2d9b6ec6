-- The job of a claim, by what counted.
use Rattle.std.proofs.Common.{◌≡◌, ℕ, leb, List, [], ◌∷◌, map, take, Option, Some, refl, sym, ap, subst, ◌∙◌}
use Rattle.std.specs.List.{filter, slice_get}
use Rattle.std.specs.Option.{IfSome, option_map}
use Rattle.std.proofs.lemmas.List.{take-map}
use Rattle.std.proofs.lemmas.Option.{same_Some}
use Rattle.gno_disk.specs.declared.disk.Disk.{Ghosts}
use Rattle.archive_policy.specs.Policies.{ArchivePolicy}
use Rattle.series_model.specs.declared.metric.MetricId.{MetricId}
use Rattle.series_model.specs.declared.ticket.Ticket.{Ticket}
use Rattle.series_model.specs.Tail.{accepted_under, kept_window}
use Rattle.bound_series.specs.Jobs.{JobView}
use Rattle.incoming.specs.declared.mark.Mark.{Mark}
use Rattle.incoming.specs.Posts.{Post, posts_above}
use Rattle.split_update.specs.Live.{Live}
use Rattle.split_store.proofs.Found.{IsHeldAs}
use Rattle.sack_history.specs.declared.entry.Counted.{Counted}
use Rattle.sack_history.specs.declared.holding.HeldClaim.{HeldClaim}
use Rattle.sack_history.specs.Calls.{IsJobOf}
use Rattle.sack_history.specs.Legal.{IsLegalCount}
use Rattle.sack_history.specs.Lives.{Life, Posted, batches_of, done_of, life_of, pending_of, pending_posts}
use Rattle.sack_history.specs.Scratch.{durable, metrics_from_scratch}
use Rattle.sack_history.specs.Turns.{longest_waiting, turn_end}
use Rattle.sack_history.proofs.Numbers.{numbers}
use Rattle.sack_history.proofs.Turning.{up_to-turn}
use Rattle.sack_history.proofs.Walking.{turn_by}
use Rattle.sack_state.specs.declared.books.Books.{Books}
use Rattle.sack_state.specs.Claiming.{IsJobFrom, last_number_of, posts_per_turn}
use Rattle.sack_state.specs.SackHolding.{posted_of}
use Rattle.sack_state.specs.SackView.{HasDurable, Remembers, mark_by, marks_waiting}
use Rattle.sack_state.proofs.MetricLemmas.{IsLifeAs, held, life_as, measures_posted, numbers_are, pending_is}

-- ---- the metric whose post has waited longest

first_by : (posts : List Posted) → option_map (λ (m : Mark). m.metric) (slice_get (map mark_by posts) 0) ≡ option_map (λ (p : Posted). p.metric) (slice_get posts 0)
first_by [] = refl
first_by (p ∷ posts) = refl

pub longest_known : {D : Type 0} (b : Books D) (counts : List Counted) → Remembers b (durable counts) → longest_waiting counts ≡ option_map (λ (m : Mark). m.metric) (slice_get (marks_waiting b) 0)
longest_known b counts remembers = sym (ap (λ (l : List Mark). option_map (λ (m : Mark). m.metric) (slice_get l 0)) remembers.waiting ∙ first_by (pending_posts counts))

-- the last of the first numbers, where there is one
last_of_some : (before other : ℕ) (l : List ℕ) (n : ℕ) (rest : List ℕ) → l ≡ n ∷ rest → last_number_of before l ≡ last_number_of other l
last_of_some before other l n rest is = subst (λ (k : List ℕ). last_number_of before k ≡ last_number_of other k) (sym is) refl

module _ {D : Type 0} (g : Ghosts D) (b : Books D) (counts : List Counted) (has : HasDurable g b (durable counts)) (legal : IsLegalCount counts) (metric : MetricId) (ticket : Ticket) (job : JobView) (from : IsJobFrom g b metric ticket job) where
  abbrev life_as_is : IsLifeAs g b counts has legal metric from.known from.found
  life_as_is = life_as g b counts has legal metric from.known from.found

  abbrev held_as : IsHeldAs has.keeps.bytes from.known metric (metrics_from_scratch counts)
  held_as = held g b counts has legal metric from.known from.found

  policy_is : life_as_is.life.policy ≡ job.policy
  policy_is = sym (ap (λ (l : Live). l.policy) life_as_is.live) ∙ held_as.holds.policy ∙ sym from.policy

  base_is : job.base ≡ kept_window job.policy (accepted_under job.policy (batches_of metric counts))
  base_is =
      sym (same_Some held_as.live.raw job.base (sym (ap (option_map (λ (l : Live). l.raw)) held_as.there) ∙ from.base (metrics_from_scratch counts) has.keeps))
      ∙ ap (λ (l : Live). l.raw) life_as_is.live
      ∙ ap (λ (p : ArchivePolicy). kept_window p (accepted_under p (batches_of metric counts))) policy_is

  module _ (p : Posted) (rest : List Posted) (some : pending_of metric counts ≡ p ∷ rest) where
    upto_is : job.upto ≡ turn_end metric counts
    upto_is =
        from.upto ∙ ap (λ l. last_number_of 0 (take posts_per_turn l)) (numbers_are g b counts has legal metric from.known from.found)
        ∙ last_of_some 0 (done_of metric counts) (take posts_per_turn (numbers (pending_of metric counts))) p.number (take 63 (numbers rest)) (ap (λ l. take posts_per_turn (numbers l)) some)
        ∙ turn_by metric counts

    batches_are : job.batches ≡ map (λ (q : Posted). q.measures) (filter (λ (q : Posted). leb q.number (turn_end metric counts)) (pending_of metric counts))
    batches_are =
        subst (λ (o : Option (List Post)). IfSome o (λ posts. job.batches ≡ map (λ (q : Post). q.measures) (take posts_per_turn (posts_above metric from.known.done posts)))) has.told from.batches
        ∙ sym (measures_posted (take posts_per_turn (posts_above metric from.known.done has.posts)))
        ∙ ap (map (λ (q : Posted). q.measures)) (sym (take-map posted_of posts_per_turn (posts_above metric from.known.done has.posts)) ∙ ap (take posts_per_turn) (sym (pending_is g b counts has legal metric from.known from.found)) ∙ sym (up_to-turn metric counts legal))

    -- it is the job of the next claim on the metric
    pub job_of : (claim : HeldClaim) → claim.metric ≡ metric → claim.upto ≡ turn_end metric counts → IsJobOf claim counts job
    job_of claim metric_of_claim upto_of_claim = record {
      metric = from.metric_is ∙ sym metric_of_claim;
      upto = upto_is ∙ sym upto_of_claim;
      policy = subst (λ (m : MetricId). option_map (λ (x : Life). x.policy) (life_of m counts) ≡ Some job.policy) (sym metric_of_claim)
          (ap (option_map (λ (x : Life). x.policy)) life_as_is.is ∙ ap (λ (x : ArchivePolicy). Some x) policy_is);
      base = subst (λ (m : MetricId). job.base ≡ kept_window job.policy (accepted_under job.policy (batches_of m counts))) (sym metric_of_claim) base_is;
      batches = subst (λ (c : HeldClaim). job.batches ≡ map (λ (q : Posted). q.measures) (filter (λ (q : Posted). leb q.number c.upto) (pending_of c.metric counts)))
          (ap (λ (m : MetricId). let c : HeldClaim = record { ticket = claim.ticket; metric = m; upto = turn_end metric counts } in c) (sym metric_of_claim)
          ∙ ap (λ (n : ℕ). let c : HeldClaim = record { ticket = claim.ticket; metric = claim.metric; upto = n } in c) (sym upto_of_claim)) batches_are;
    }
