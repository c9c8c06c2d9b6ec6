-- Whether a job is the work of a claim, by what was read off the books.
use Rattle.std.proofs.Common.{◌≡◌, ℕ, Bool, true, false, cond, leb, List, [], ◌∷◌, map, take, Option, Some, None, Ok, refl, sym, ap, subst, ◌∙◌}
use Rattle.std.specs.List.{filter}
use Rattle.std.specs.Option.{IfSome, option_map}
use Rattle.std.proofs.lemmas.Bool.{false≢true}
use Rattle.std.proofs.lemmas.Option.{same_Some}
use Rattle.gno_disk.specs.declared.disk.Disk.{Ghosts}
use Rattle.archive_policy.specs.Policies.{ArchivePolicy}
use Rattle.series_model.specs.declared.measure.Measure.{Measure}
use Rattle.series_model.specs.Tail.{Tail}
use Rattle.bound_series.specs.Jobs.{JobView}
use Rattle.incoming.specs.Reading.{answer_of}
use Rattle.incoming.specs.Posts.{Post, posts_above}
use Rattle.split_update.specs.Live.{Live}
use Rattle.shelf_records.specs.Shelved.{Shelved, metric_of}
use Rattle.split_store.specs.Shelf.{live_by}
use Rattle.split_store.specs.ShelfView.{Keeps}
use Rattle.sack_history.specs.declared.holding.HeldClaim.{HeldClaim}
use Rattle.sack_state.specs.declared.books.Books.{Books}
use Rattle.sack_state.specs.Books.{AreLasting, AreWhole}
use Rattle.sack_state.specs.Claiming.{AreOnlyRead, posts_per_turn}
use Rattle.sack_state.specs.Committing.{IsNoWork, IsWork, ReadsWork, done_in_record, other, same}
use Rattle.sack_state.proofs.BatchLemmas.{batches_to}

answers_to : (upto : ℕ) (posts : List Post) → batches_to upto (map answer_of posts) ≡ map (λ (p : Post). p.measures) (filter (λ (p : Post). leb p.number upto) posts)
answers_to upto [] = refl
answers_to upto (p ∷ posts) = by (leb p.number upto) (answers_to upto posts)
  where
    by : (b : Bool) → batches_to upto (map answer_of posts) ≡ map (λ (q : Post). q.measures) (filter (λ (q : Post). leb q.number upto) posts)
        → map (λ (q : ℕ × List Measure). q.1) (cond b (answer_of p ∷ filter (λ (q : ℕ × List Measure). leb q.0 upto) (map answer_of posts)) (filter (λ (q : ℕ × List Measure). leb q.0 upto) (map answer_of posts)))
        ≡ map (λ (q : Post). q.measures) (cond b (p ∷ filter (λ (q : Post). leb q.number upto) posts) (filter (λ (q : Post). leb q.number upto) posts))
    by true rest = ap (λ l. p.measures ∷ l) rest
    by false rest = rest

record_done : (o : Option Shelved) (done : ℕ) → option_map (λ (m : Shelved). m.done) o ≡ Some done → done_in_record o ≡ done
record_done None done is = absurd cc
record_done (Some m) done is = same_Some m.done done is

record IsKnown (o : Option Shelved) (of : ArchivePolicy) : Type 0 where
  shelved : Shelved
  found : o ≡ Some shelved
  policy : of ≡ shelved.policy

policy_of : (o : Option Shelved) {policy : ArchivePolicy} → option_map (λ (m : Shelved). m.policy) o ≡ Some policy → IsKnown o policy
policy_of None is = absurd cc
policy_of (Some m) is = record { shelved = m; found = refl; policy = sym (same_Some _ _ is) }

module _ {D : Type 0} (g : Ghosts D) (b : Books D) (claim : HeldClaim) (job : JobView) where
  module _ (answers : List (ℕ × List Measure)) (done : ℕ) (done_is : option_map (λ (m : Shelved). m.done) (metric_of claim.metric b.shelf.metrics) ≡ Some done)
      (found : IfSome b.incoming.posts (λ posts. answers ≡ map answer_of (take posts_per_turn (posts_above claim.metric done posts)))) where
    -- the batches that the posts have
    wanted : (posts : List Post) → b.incoming.posts ≡ Some posts
        → batches_to claim.upto answers ≡ map (λ (p : Post). p.measures) (filter (λ (p : Post). leb p.number claim.upto) (take posts_per_turn (posts_above claim.metric (done_in_record (metric_of claim.metric b.shelf.metrics)) posts)))
    wanted posts told =
        ap (batches_to claim.upto) (subst (λ o. IfSome o (λ ps. answers ≡ map answer_of (take posts_per_turn (posts_above claim.metric done ps)))) told found)
        ∙ answers_to claim.upto (take posts_per_turn (posts_above claim.metric done posts))
        ∙ ap (λ n. map (λ (p : Post). p.measures) (filter (λ (p : Post). leb p.number claim.upto) (take posts_per_turn (posts_above claim.metric n posts)))) (sym (record_done (metric_of claim.metric b.shelf.metrics) done done_is))

    pub other_batches : (job.batches ≡ batches_to claim.upto answers → ⊥) → IsNoWork g b claim job
    other_batches differ posts lives told keeps work = differ (work.batches ∙ sym (wanted posts told))

    module _ (base : Tail) (base_is : (lives : List Live) → Keeps g b.shelf lives → option_map (λ (l : Live). l.raw) (live_by claim.metric lives) ≡ Some base) where
      pub other_base : (base ≡ job.base → ⊥) → IsNoWork g b claim job
      other_base differ posts lives told keeps work = differ (same_Some base job.base (sym (base_is lives keeps) ∙ work.base))

      pub same_work : job.metric ≡ claim.metric → job.upto ≡ claim.upto → option_map (λ (m : Shelved). m.policy) (metric_of claim.metric b.shelf.metrics) ≡ Some job.policy → job.batches ≡ batches_to claim.upto answers → base ≡ job.base
          → IsWork g b claim job
      same_work metric upto policy batches equal posts lives told keeps = record {
        metric = metric;
        upto = upto;
        policy = policy;
        base = base_is lives keeps ∙ ap (λ (t : Tail). Some t) equal;
        batches = batches ∙ wanted posts told;
      }

      -- what the look says
      pub looked : (new : Books D) → job.metric ≡ claim.metric → job.upto ≡ claim.upto → option_map (λ (m : Shelved). m.policy) (metric_of claim.metric b.shelf.metrics) ≡ Some job.policy → job.batches ≡ batches_to claim.upto answers
          → AreOnlyRead g b new → AreWhole new → (AreLasting g b → AreLasting g new) → (same_base : Bool) → (same_base ≡ true → base ≡ job.base) → (base ≡ job.base → same_base ≡ true) → ReadsWork g claim job b new (Ok same_base)
      looked new metric upto policy batches only whole lasting true is has =
          let known = policy_of (metric_of claim.metric b.shelf.metrics) policy in
          same known.shelved known.found metric known.policy upto (same_work metric upto policy batches (is refl)) only whole lasting refl
      looked new metric upto policy batches only whole lasting false is has = other (other_base (λ e. absurd (false≢true (has e)))) only whole lasting refl
