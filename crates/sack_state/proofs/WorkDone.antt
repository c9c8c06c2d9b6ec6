-- The work of a claim, by the books and by what counted.
use Rattle.std.proofs.Common.{◌≡◌, ℕ, zero, suc, Bool, true, false, cond, leb, List, [], ◌∷◌, map, take, Option, Some, None, refl, sym, ap, subst, ◌∙◌}
use Rattle.std.specs.List.{Contains, filter}
use Rattle.std.specs.Option.{is_some, option_map}
use Rattle.std.proofs.Math.Logic.{⊎_elim}
use Rattle.std.proofs.lemmas.Bool.{false≢true}
use Rattle.std.proofs.lemmas.List.{take-map}
use Rattle.std.proofs.lemmas.Option.{same_Some}
use Rattle.gno_disk.specs.declared.disk.Disk.{Ghosts}
use Rattle.archive_policy.specs.Policies.{ArchivePolicy}
use Rattle.series_model.specs.declared.metric.MetricId.{MetricId}
use Rattle.series_model.specs.Tail.{Tail, accepted_under, kept_window}
use Rattle.series_model.proofs.Members.{Contains-cases, Contains-none}
use Rattle.series_model.proofs.Rising.{Rises}
use Rattle.bound_series.specs.Jobs.{JobView}
use Rattle.incoming.specs.Posts.{Post, posts_above}
use Rattle.split_update.specs.Live.{Live}
use Rattle.shelf_records.specs.Shelved.{Shelved, metric_of}
use Rattle.split_store.specs.Shelf.{live_by}
use Rattle.split_store.proofs.Found.{IsHeldAs}
use Rattle.sack_history.specs.declared.entry.Counted.{Counted}
use Rattle.sack_history.specs.declared.holding.HeldClaim.{HeldClaim}
use Rattle.sack_history.specs.Calls.{IsJobOf}
use Rattle.sack_history.specs.Legal.{IsLegalCount, MayProcess}
use Rattle.sack_history.specs.Lives.{Life, Posted, batches_of, live_policy, pending_of}
use Rattle.sack_history.specs.Scratch.{durable, metrics_from_scratch}
use Rattle.sack_history.proofs.Numbers.{Above-take, numbers, up_to, up_to-none}
use Rattle.sack_history.proofs.Turning.{pending_of-rises}
use Rattle.sack_state.specs.declared.books.Books.{Books}
use Rattle.sack_state.specs.Claiming.{posts_per_turn}
use Rattle.sack_state.specs.Committing.{IsWorkBy, done_in_record}
use Rattle.sack_state.specs.SackHolding.{posted_of}
use Rattle.sack_state.specs.SackView.{HasDurable, Remembers}
use Rattle.sack_state.proofs.KnowLemmas.{knows_live}
use Rattle.sack_state.proofs.MetricLemmas.{IsLifeAs, held, life_as, measures_posted, pending_is}

-- the posts up to the number of one of the first ones are among the first ones
up_to_first : (n u : ℕ) (posts : List Posted) → Rises (numbers posts) → Contains (numbers (take n posts)) u → up_to u posts ≡ up_to u (take n posts)
up_to_first zero u posts rises c = absurd (Contains-none u c)
up_to_first (suc n) u [] rises c = refl
up_to_first (suc n) u (p ∷ posts) rises c =
    ⊎_elim
    (λ is. subst (λ v. up_to v (p ∷ posts) ≡ up_to v (p ∷ take n posts)) is
    (ap (λ l. cond (leb p.number p.number) (p ∷ l) l) (up_to-none p.number posts rises.0 ∙ sym (up_to-none p.number (take n posts) (Above-take p.number n posts rises.0)))))
    (λ later. ap (λ l. cond (leb p.number u) (p ∷ l) l) (up_to_first n u posts rises.1 later))
    (Contains-cases p.number (numbers (take n posts)) u c)

-- the same posts, as the log has them
posted_up_to : (u : ℕ) (posts : List Post) → up_to u (map posted_of posts) ≡ map posted_of (filter (λ (p : Post). leb p.number u) posts)
posted_up_to u [] = refl
posted_up_to u (p ∷ posts) = by (leb p.number u) (posted_up_to u posts)
  where
    by : (b : Bool) → up_to u (map posted_of posts) ≡ map posted_of (filter (λ (q : Post). leb q.number u) posts)
        → cond b (posted_of p ∷ up_to u (map posted_of posts)) (up_to u (map posted_of posts)) ≡ map posted_of (cond b (p ∷ filter (λ (q : Post). leb q.number u) posts) (filter (λ (q : Post). leb q.number u) posts))
    by true rest = ap (λ l. posted_of p ∷ l) rest
    by false rest = rest

record IsShelved (o : Option Shelved) : Type 0 where
  known : Shelved
  found : o ≡ Some known

some_shelved : (o : Option Shelved) → is_some o ≡ true → IsShelved o
some_shelved None is = absurd (false≢true is)
some_shelved (Some m) is = record { known = m; found = refl }

module _ {D : Type 0} (g : Ghosts D) (b : Books D) (counts : List Counted) (has : HasDurable g b (durable counts)) (remembers : Remembers b (durable counts)) (legal : IsLegalCount counts) (claim : HeldClaim) (may : MayProcess counts claim.metric claim.upto) (job : JobView) where
  abbrev m : MetricId
  m = claim.metric

  abbrev lives : List Live
  lives = metrics_from_scratch counts

  shelved : IsShelved (metric_of claim.metric b.shelf.metrics)
  shelved = some_shelved (metric_of claim.metric b.shelf.metrics) (knows_live b counts claim.metric remembers ∙ may.live)

  abbrev known : Shelved
  known = shelved.known

  abbrev kept_as : IsHeldAs has.keeps.bytes known m lives
  kept_as = held g b counts has legal m known shelved.found

  abbrev lived : IsLifeAs g b counts has legal m known shelved.found
  lived = life_as g b counts has legal m known shelved.found

  policies : option_map (λ (x : Shelved). x.policy) (metric_of claim.metric b.shelf.metrics) ≡ live_policy claim.metric counts
  policies =
      ap (option_map (λ (x : Shelved). x.policy)) shelved.found ∙ ap (λ (p : ArchivePolicy). Some p) (sym kept_as.holds.policy ∙ ap (λ (l : Live). l.policy) lived.live)
      ∙ sym (ap (option_map (λ (x : Life). x.policy)) lived.is)

  policy_then : live_policy claim.metric counts ≡ Some job.policy → lived.life.policy ≡ job.policy
  policy_then is = same_Some lived.life.policy job.policy (sym (ap (option_map (λ (x : Life). x.policy)) lived.is) ∙ is)

  raws : option_map (λ (l : Live). l.raw) (live_by claim.metric lives) ≡ Some (kept_window lived.life.policy (accepted_under lived.life.policy (batches_of claim.metric counts)))
  raws = ap (option_map (λ (l : Live). l.raw)) kept_as.there ∙ ap (λ (l : Live). Some l.raw) lived.live

  batches_known : map (λ (p : Post). p.measures) (filter (λ (p : Post). leb p.number claim.upto) (take posts_per_turn (posts_above claim.metric (done_in_record (metric_of claim.metric b.shelf.metrics)) has.posts)))
      ≡ map (λ (p : Posted). p.measures) (filter (λ (p : Posted). leb p.number claim.upto) (pending_of claim.metric counts))
  batches_known =
      let above = posts_above m known.done has.posts in
      let pending = pending_is g b counts has legal m known shelved.found in
      ap (λ (o : Option Shelved). map (λ (p : Post). p.measures) (filter (λ (p : Post). leb p.number claim.upto) (take posts_per_turn (posts_above m (done_in_record o) has.posts)))) shelved.found
      ∙ sym (measures_posted (filter (λ (p : Post). leb p.number claim.upto) (take posts_per_turn above)))
      ∙ ap (map (λ (p : Posted). p.measures)) (sym (posted_up_to claim.upto (take posts_per_turn above)) ∙ ap (up_to claim.upto) (sym (take-map posted_of posts_per_turn above) ∙ ap (take posts_per_turn) (sym pending))
      ∙ sym (up_to_first posts_per_turn claim.upto (pending_of m counts) (pending_of-rises m counts legal) may.among))

  -- what the books say is what counted says
  pub work_job : IsWorkBy b.shelf.metrics has.posts (metrics_from_scratch counts) claim job → IsJobOf claim counts job
  work_job work =
      let policy = sym policies ∙ work.policy in
      record {
        metric = work.metric;
        upto = work.upto;
        policy = policy;
        base = sym (same_Some _ _ (sym raws ∙ work.base)) ∙ ap (λ (p : ArchivePolicy). kept_window p (accepted_under p (batches_of claim.metric counts))) (policy_then policy);
        batches = work.batches ∙ batches_known;
      }

  pub job_work : IsJobOf claim counts job → IsWorkBy b.shelf.metrics has.posts (metrics_from_scratch counts) claim job
  job_work of = record {
    metric = of.metric;
    upto = of.upto;
    policy = policies ∙ of.policy;
    base = raws ∙ ap (λ (t : Tail). Some t) (ap (λ (p : ArchivePolicy). kept_window p (accepted_under p (batches_of claim.metric counts))) (policy_then of.policy) ∙ sym of.base);
    batches = of.batches ∙ sym batches_known;
  }
