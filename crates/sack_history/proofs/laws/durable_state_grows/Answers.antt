use Rattle.std.proofs.Common.{◌≡◌, ℕ, ◌+◌, List, ap, ◌∙◌}
use Rattle.split_update.specs.Live.{Live}
use Rattle.sack_history.specs.declared.entry.Counted.TheVariants as counted
use Rattle.sack_history.specs.Lives.{Posted}
use Rattle.sack_history.specs.Scratch.{Durable}
use Rattle.sack_history.proofs.Living.{last_post-more}
use Rattle.sack_history.proofs.Stating.{metrics-created, metrics-done, metrics-dropped, metrics-posted, pending-created_other, pending_posts-dropped, pending_posts-posted, pending_posts-taken, scratch_found, scratch_ids}
use Rattle.sack_history.proofs.laws.durable_state_grows.Goals as goal

-- states with equal parts are equal
same_state : (ms ns : List Live) (ps qs : List Posted) (m n : ℕ) → ms ≡ ns → ps ≡ qs → m ≡ n
    → (let s : Durable = record { metrics = ms; pending = ps; next = m } in s) ≡ record { metrics = ns; pending = qs; next = n }
same_state ms ns ps qs m n e f g =
    ap (λ (l : List Live). let s : Durable = record { metrics = l; pending = ps; next = m } in s) e
    ∙ ap (λ (l : List Posted). let s : Durable = record { metrics = ns; pending = l; next = m } in s) f
    ∙ ap (λ (k : ℕ). let s : Durable = record { metrics = ns; pending = qs; next = k } in s) g

pub returns : goal.returns
returns c = record {
  created = λ m policy counts legal absent. same_state _ _ _ _ _ _ (metrics-created counts m policy) (pending-created_other counts m policy legal absent) (ap (λ n. n + 1) (last_post-more counts (counted.Create m policy)));
  posted = λ m number measures counts legal may. same_state _ _ _ _ _ _ (metrics-posted counts m number measures legal may) (pending_posts-posted counts m number measures legal may) (ap (λ n. n + 1) (last_post-more counts (counted.Post number m measures) ∙ may.number_is));
  processed = λ counts claim p legal may job is_prepared. same_state _ _ _ _ _ _ (metrics-done counts c.turn_is_from_scratch.ensures claim p legal may job is_prepared) (pending_posts-taken counts claim.metric claim.upto may) (ap (λ n. n + 1) (last_post-more counts (counted.Done claim.metric claim.upto)));
  dropped = λ m counts. same_state _ _ _ _ _ _ (metrics-dropped counts m) (pending_posts-dropped counts m) (ap (λ n. n + 1) (last_post-more counts (counted.Drop m)));
  each = λ counts. scratch_ids counts;
  found = λ m counts. scratch_found counts m;
}
