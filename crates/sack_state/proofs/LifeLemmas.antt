-- What a metric that comes or goes changes of the posts that wait.
use Rattle.std.proofs.Common.{◌≡◌, inl, inr, ℕ, ◌+◌, ◌-◌, ◌≤◌, Bool, true, false, cond, eqb, not, List, [], ◌∷◌, ◌++◌, map, Option, Some, None, refl, sym, ap, subst, ◌∙◌, arith}
use Rattle.std.specs.List.{filter}
use Rattle.std.specs.Option.{IfSome, is_some, option_map}
use Rattle.std.proofs.lemmas.Bool.{cases_eq, eq-eqb, ne_eqb, le-ltb, ltb-false}
use Rattle.std.proofs.lemmas.List.Elements.{filter_agree}
use Rattle.archive_policy.specs.Policies.{ArchivePolicy, IsArchivePolicy}
use Rattle.series_model.specs.declared.measure.Measure.{Measure}
use Rattle.series_model.specs.declared.metric.MetricId.{MetricId}
use Rattle.incoming.specs.declared.mark.Mark.{Mark}
use Rattle.incoming.specs.IncomingView.{IncomingView}
use Rattle.incoming.specs.Posts.{Post, RiseFrom, last_from, marks_of}
use Rattle.split_update.specs.Live.{live_from_scratch}
use Rattle.sack_history.specs.declared.entry.Counted.{Counted}
use Rattle.sack_history.specs.declared.entry.Counted.TheVariants as counted
use Rattle.sack_history.specs.Legal.{IsLegalCount}
use Rattle.sack_history.specs.Lives.{Life, Posted, batches_of, done_in, done_of, done_up_to, is_waiting, last_post, life_of, next_post, pending_posts, waits_in}
use Rattle.sack_history.specs.Scratch.{metrics_from_scratch, with_live, without_live}
use Rattle.sack_history.proofs.Draining.{pending_posts-done}
use Rattle.sack_history.proofs.Living.{last_post-more, life-created, life-done, life-dropped, life-other, same_id}
use Rattle.sack_history.proofs.Numbers.{AtMost}
use Rattle.sack_history.proofs.Stating.{metrics-created, metrics-dropped, pending-created_other, pending_posts-dropped, scratch_found}
use Rattle.sack_state.specs.Changing.{ArePostsBelow, IsValid}
use Rattle.sack_state.specs.SackHolding.{posted_of, waiting_among, waits_among, waits_for}

-- ---- which posts of the log wait

waits_life : (p : Posted) (m : MetricId) (batches : List (List Measure)) (o : Option Life)
    → waits_for p.number (option_map (λ (life : Life). live_from_scratch m life.policy life.done batches) o) ≡ waits_in p o
waits_life p m batches None = refl
waits_life p m batches (Some life) = refl

waits_scratch : (counts : List Counted) (p : Posted) → waits_among (metrics_from_scratch counts) p ≡ is_waiting counts p
waits_scratch counts p = ap (waits_for p.number) (scratch_found counts p.metric) ∙ waits_life p p.metric (batches_of p.metric counts) (life_of p.metric counts)

-- those that wait by the live metrics are those that wait by what counts
pub waiting_is : (counts : List Counted) (posts : List Post) → waiting_among (metrics_from_scratch counts) posts ≡ filter (is_waiting counts) (map posted_of posts)
waiting_is counts posts = filter_agree (waits_among (metrics_from_scratch counts)) (is_waiting counts) (waits_scratch counts) (map posted_of posts)

-- ---- the numbers of the posts

last_least : (low : ℕ) (marks : List Mark) → RiseFrom low marks → low ≤ last_from low marks
last_least low [] rise = omega arith
last_least low (m ∷ marks) rise = let rest = last_least m.number marks rise.1 in let lt = rise.0 in omega (arith, rest, lt)

rise_most : (low n : ℕ) (posts : List Post) → RiseFrom low (marks_of posts) → last_from low (marks_of posts) ≤ n → AtMost n (map posted_of posts)
rise_most low n [] rise le = tt
rise_most low n (p ∷ posts) rise le = (let least = last_least p.number (marks_of posts) rise.1 in omega (arith, least, le), rise_most p.number n posts rise.1 le)

pub posts_most : {D : Type 0} (v : IncomingView D) (posts : List Post) (n : ℕ) → ArePostsBelow v → v.posts ≡ Some posts → v.next ≡ n + 1 → AtMost n (map posted_of posts)
posts_most v posts n below is next =
    let marks : v.marks ≡ marks_of posts = subst (λ o. IfSome o (λ (ps : List Post). v.marks ≡ marks_of ps)) is below.3 in
    let lt = below.2 in
    rise_most 0 n posts (subst (RiseFrom 0) marks below.1) (subst (λ ms. last_from 0 ms ≤ n) marks (omega (arith, lt, next)))

-- ---- a metric that comes

pub created_next : (k : MetricId) (policy : ArchivePolicy) (counts : List Counted) → next_post (counts ++ counted.Create k policy ∷ []) ≡ next_post counts
created_next k policy counts = ap (λ n. n + 1) (last_post-more counts (counted.Create k policy))

module _ (k : MetricId) (policy : ArchivePolicy) (counts : List Counted) (legal : IsLegalCount counts) (absent : life_of k counts ≡ None) where
  abbrev with_new : List Counted
  with_new = counts ++ counted.Create k policy ∷ []

  created_wait : (q : Posted) → q.number ≤ last_post counts → is_waiting with_new q ≡ is_waiting counts q
  created_wait q le = elim (cases_eq q.metric.0 k.0) [
    | inl is ↦
        let own = same_id q.metric k is in
        ap (λ (m : MetricId). waits_in q (life_of m with_new)) own ∙ ap (waits_in q) (life-created k policy counts) ∙ le-ltb (last_post counts) q.number le
        ∙ sym (ap (λ (m : MetricId). waits_in q (life_of m counts)) own ∙ ap (waits_in q) absent)
    | inr other ↦ ap (waits_in q) (life-other q.metric counts (counted.Create k policy) (ne_eqb k.0 q.metric.0 (λ e. other (sym e))))
  ]

  created_filter : (posts : List Posted) → AtMost (last_post counts) posts → filter (is_waiting with_new) posts ≡ filter (is_waiting counts) posts
  created_filter [] most = refl
  created_filter (q ∷ posts) most =
      ap (λ b. cond b (q ∷ filter (is_waiting with_new) posts) (filter (is_waiting with_new) posts)) (created_wait q most.0)
      ∙ ap (λ l. cond (is_waiting counts q) (q ∷ l) l) (created_filter posts most.1)

  pub created_metrics : (next : ℕ) → next ≡ next_post counts → metrics_from_scratch (counts ++ counted.Create k policy ∷ []) ≡ with_live (live_from_scratch k policy (next - 1) []) (metrics_from_scratch counts)
  created_metrics next is =
      let done : last_post counts ≡ next - 1 = omega (arith, is) in
      metrics-created counts k policy ∙ ap (λ n. with_live (live_from_scratch k policy n []) (metrics_from_scratch counts)) done

  pub created_pending : (posts : List Post) → AtMost (last_post counts) (map posted_of posts) → pending_posts counts ≡ waiting_among (metrics_from_scratch counts) posts
      → pending_posts (counts ++ counted.Create k policy ∷ []) ≡ waiting_among (metrics_from_scratch (counts ++ counted.Create k policy ∷ [])) posts
  created_pending posts most is =
      pending-created_other counts k policy legal absent ∙ is ∙ waiting_is counts posts ∙ sym (created_filter (map posted_of posts) most) ∙ sym (waiting_is with_new posts)

-- ---- a metric that goes

-- what two tests keep, one after the other
two_tests : {X : Type 0} (p q r : X → Bool) → ((x : X) → p x ≡ true → r x ≡ q x) → ((x : X) → p x ≡ false → r x ≡ false) → (xs : List X) → filter q (filter p xs) ≡ filter r xs
two_tests p q r keeps drops [] = refl
two_tests p q r keeps drops (x ∷ xs) = by (p x) refl (two_tests p q r keeps drops xs)
  where
    by : (a : Bool) → p x ≡ a → filter q (filter p xs) ≡ filter r xs → filter q (cond a (x ∷ filter p xs) (filter p xs)) ≡ cond (r x) (x ∷ filter r xs) (filter r xs)
    by true keep rest = ap (λ l. cond (q x) (x ∷ l) l) rest ∙ ap (λ d. cond d (x ∷ filter r xs) (filter r xs)) (sym (keeps x keep))
    by false skip rest = rest ∙ sym (ap (λ d. cond d (x ∷ filter r xs) (filter r xs)) (drops x skip))

module _ (k : MetricId) (counts : List Counted) where
  abbrev without_it : List Counted
  without_it = counts ++ counted.Drop k ∷ []

  abbrev of_others : Posted → Bool
  of_others = λ (q : Posted). not (eqb q.metric.0 k.0)

  dropped_wait : (q : Posted) (b : Bool) → is_waiting counts q ≡ b → is_waiting without_it q ≡ cond b (of_others q) false
  dropped_wait q b is = elim (cases_eq q.metric.0 k.0) [
    | inl same ↦
        let own = same_id q.metric k same in
        ap (λ (m : MetricId). waits_in q (life_of m without_it)) own ∙ ap (waits_in q) (life-dropped k counts)
        ∙ sym (ap (λ c. cond b (not c) false) (eq-eqb q.metric.0 k.0 same) ∙ none b)
    | inr other ↦
        ap (waits_in q) (life-other q.metric counts (counted.Drop k) (ne_eqb k.0 q.metric.0 (λ e. other (sym e)))) ∙ is
        ∙ sym (ap (λ c. cond b (not c) false) (ne_eqb q.metric.0 k.0 other) ∙ all b)
  ]
    where
      none : (c : Bool) → cond c false false ≡ false
      none true = refl
      none false = refl

      all : (c : Bool) → cond c true false ≡ c
      all true = refl
      all false = refl

  pub dropped_next : next_post (counts ++ counted.Drop k ∷ []) ≡ next_post counts
  dropped_next = ap (λ n. n + 1) (last_post-more counts (counted.Drop k))

  pub dropped_metrics : metrics_from_scratch (counts ++ counted.Drop k ∷ []) ≡ without_live k (metrics_from_scratch counts)
  dropped_metrics = metrics-dropped counts k

  pub dropped_pending : (posts : List Post) → pending_posts counts ≡ waiting_among (metrics_from_scratch counts) posts
      → pending_posts (counts ++ counted.Drop k ∷ []) ≡ waiting_among (metrics_from_scratch (counts ++ counted.Drop k ∷ [])) posts
  dropped_pending posts is =
      pending_posts-dropped counts k
      ∙ ap (filter of_others) (is ∙ waiting_is counts posts)
      ∙ two_tests (is_waiting counts) of_others (is_waiting without_it) (λ q w. dropped_wait q true w) (λ q w. dropped_wait q false w) (map posted_of posts)
      ∙ sym (waiting_is without_it posts)

-- ---- posts that are done

module _ (k : MetricId) (u : ℕ) (counts : List Counted) (later : done_of k counts ≤ u) where
  abbrev with_done : List Counted
  with_done = counts ++ counted.Done k u ∷ []

  -- what doesn't wait before doesn't wait then
  done_wait : (q : Posted) → is_waiting counts q ≡ false → is_waiting with_done q ≡ false
  done_wait q is = elim (cases_eq q.metric.0 k.0) [
    | inl same ↦
        let own = same_id q.metric k same in
        ap (λ (m : MetricId). waits_in q (life_of m with_done)) own ∙ ap (waits_in q) (life-done k u counts)
        ∙ by (life_of k counts) later (sym (ap (λ (m : MetricId). waits_in q (life_of m counts)) own) ∙ is)
    | inr other ↦ ap (waits_in q) (life-other q.metric counts (counted.Done k u) (ne_eqb k.0 q.metric.0 (λ e. other (sym e)))) ∙ is
  ]
    where
      by : (o : Option Life) → done_in o ≤ u → waits_in q o ≡ false → waits_in q (option_map (done_up_to u) o) ≡ false
      by None le none = refl
      by (Some life) le none = le-ltb u q.number (let n : q.number ≤ life.done = ltb-false life.done q.number none in omega (arith, n, le))

  pub done_next : next_post (counts ++ counted.Done k u ∷ []) ≡ next_post counts
  done_next = ap (λ n. n + 1) (last_post-more counts (counted.Done k u))

  pub done_pending : (posts : List Post) → pending_posts counts ≡ waiting_among (metrics_from_scratch counts) posts
      → pending_posts (counts ++ counted.Done k u ∷ []) ≡ waiting_among (metrics_from_scratch (counts ++ counted.Done k u ∷ [])) posts
  done_pending posts is =
      pending_posts-done k u counts later
      ∙ ap (filter (is_waiting with_done)) (is ∙ waiting_is counts posts)
      ∙ two_tests (is_waiting counts) (is_waiting with_done) (is_waiting with_done) (λ q w. refl) done_wait (map posted_of posts)
      ∙ sym (waiting_is with_done posts)

-- ---- whether a metric is live

pub not_live : (o : Option Life) → is_some o ≡ false → o ≡ None
not_live None e = refl
not_live (Some life) e = absurd cc

pub valid_policy : (policy : ArchivePolicy) → IsValid policy → IsArchivePolicy policy
valid_policy policy valid = record { name = valid.0; back_window = valid.1; definitions = valid.2; kinds = valid.3 }
