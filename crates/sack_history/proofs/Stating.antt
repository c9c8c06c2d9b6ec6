-- What an entry more does to what the disks hold.
use Rattle.std.proofs.Common.{◌≡◌, ◌⊎◌, ℕ, ◌<◌, ◌≤◌, Bool, true, false, cond, eqb, leb, ltb, not, ◌&&◌, List, [], ◌∷◌, ◌++◌, map, Option, Some, None, inl, inr, refl, sym, ap, subst, ◌∙◌, append-nil, arith}
use Rattle.std.specs.Option.{IfSome, is_some, option_map}
use Rattle.std.specs.List.{Contains, cons_option, filter, filter_map}
use Rattle.std.proofs.Math.Logic.{⊎_elim}
use Rattle.std.proofs.lemmas.Bool.{cases_eq, eq-eqb, ne_eqb, false≢true, le-ltb, lt-ltb, lt-leb, le-leb, ltb-true, cases_lt}
use Rattle.std.proofs.lemmas.List.Elements.{filter-append, filter_agree, filter_map-append}
use Rattle.std.proofs.lemmas.List.Sums.{fold-append}
use Rattle.std.proofs.lemmas.Option.{none-some, same_Some}
use Rattle.archive_policy.specs.Policies.{ArchivePolicy}
use Rattle.series_model.specs.declared.measure.Measure.{Measure}
use Rattle.series_model.specs.declared.metric.MetricId.{MetricId}
use Rattle.series_model.proofs.ByKey.{filter-keep, filter-skip, filter_kept, filter_within}
use Rattle.series_model.proofs.Members.{Contains-here, Contains-there, Contains-cases, Contains-none}
use Rattle.bound_series.specs.Jobs.{IsPrepared, PreparedView}
use Rattle.split_update.specs.Live.{Live, after_commit, live_from_scratch}
use Rattle.sack_history.specs.declared.entry.Counted.{Counted}
use Rattle.sack_history.specs.declared.entry.Counted.TheVariants as counted
use Rattle.sack_history.specs.declared.holding.HeldClaim.{HeldClaim}
use Rattle.sack_history.specs.Calls.{IsJobOf}
use Rattle.sack_history.specs.Legal.{IsLegalCount, MayPost, MayProcess}
use Rattle.sack_history.specs.Lives.{Life, Posted, all_posts, batches_in, batches_of, done_up_to, ids_after, is_live, is_waiting, last_post, life_of, live_ids, subject_of, pending_posts, waits_in, life_with}
use Rattle.sack_history.specs.Scratch.{commit_live, live_of, metric_from_scratch, metrics_from_scratch, with_live, without_live}
use Rattle.sack_history.proofs.Committed.{TurnIsFromScratch, turn_committed}
use Rattle.sack_history.proofs.Draining.{pending_posts-done}
use Rattle.sack_history.proofs.Identified.{live_ids-all, live_ids-live}
use Rattle.sack_history.proofs.Living.{all_posts-more, life-created, life-done, life-dropped, life-other, life-posted, same_id}
use Rattle.sack_history.proofs.Numbers.{AtMost}
use Rattle.sack_history.proofs.Ordered.{ordered}
use Rattle.sack_history.proofs.Posting.{batches-posted, behind}
use Rattle.sack_history.proofs.Turning.{done_later}

-- ---- lists

-- what a function gives of items, by another that agrees on them
same_map : {X Y : Type 0} (f g : X → Option Y) (xs : List X) → ((x : X) → Contains xs x → f x ≡ g x) → filter_map f xs ≡ filter_map g xs
same_map f g [] same = refl
same_map f g (x ∷ xs) same =
    ap (λ o. cons_option o (filter_map f xs)) (same x (Contains-here x xs x refl))
    ∙ ap (cons_option (g x)) (same_map f g xs (λ y c. same y (Contains-there x xs y c)))

-- what a test keeps, by another that agrees on them
same_filter : {X : Type 0} (p q : X → Bool) (xs : List X) → ((x : X) → Contains xs x → p x ≡ q x) → filter p xs ≡ filter q xs
same_filter p q [] same = refl
same_filter p q (x ∷ xs) same =
    ap (λ b. cond b (x ∷ filter p xs) (filter p xs)) (same x (Contains-here x xs x refl))
    ∙ ap (λ l. cond (q x) (x ∷ l) l) (same_filter p q xs (λ y c. same y (Contains-there x xs y c)))

-- a test of items as one of what they give
map_filtered : {X Y : Type 0} (f : X → Option Y) (p : X → Bool) (q : Y → Bool) → ((x : X) (y : Y) → f x ≡ Some y → q y ≡ p x) → (xs : List X) → filter_map f (filter p xs) ≡ filter q (filter_map f xs)
map_filtered f p q says [] = refl
map_filtered {Y = Y} f p q says (x ∷ xs) = by (f x) refl (p x) refl (map_filtered f p q says xs)
  where
    by : (o : Option Y) → f x ≡ o → (b : Bool) → p x ≡ b → filter_map f (filter p xs) ≡ filter q (filter_map f xs) → filter_map f (filter p (x ∷ xs)) ≡ filter q (filter_map f (x ∷ xs))
    by None none true keep rest =
        ap (filter_map f) (filter-keep p x xs keep) ∙ ap (λ o. cons_option o (filter_map f (filter p xs))) none ∙ rest
        ∙ sym (ap (λ o. filter q (cons_option o (filter_map f xs))) none)
    by None none false skip rest =
        ap (filter_map f) (filter-skip p x xs skip) ∙ rest ∙ sym (ap (λ o. filter q (cons_option o (filter_map f xs))) none)
    by (Some y) some true keep rest =
        ap (filter_map f) (filter-keep p x xs keep) ∙ ap (λ o. cons_option o (filter_map f (filter p xs))) some ∙ ap (λ l. y ∷ l) rest
        ∙ sym (ap (λ o. filter q (cons_option o (filter_map f xs))) some ∙ filter-keep q y (filter_map f xs) (says x y some ∙ keep))
    by (Some y) some false skip rest =
        ap (filter_map f) (filter-skip p x xs skip) ∙ rest
        ∙ sym (ap (λ o. filter q (cons_option o (filter_map f xs))) some ∙ filter-skip q y (filter_map f xs) (says x y some ∙ skip))

-- what is made of each
map_after : {X Y : Type 0} (f g : X → Option Y) (h : Y → Y) → ((x : X) → g x ≡ option_map h (f x)) → (xs : List X) → filter_map g xs ≡ map h (filter_map f xs)
map_after f g h says [] = refl
map_after {Y = Y} f g h says (x ∷ xs) = ap (λ o. cons_option o (filter_map g xs)) (says x) ∙ by (f x) (map_after f g h says xs)
  where
    by : (o : Option Y) → filter_map g xs ≡ map h (filter_map f xs) → cons_option (option_map h o) (filter_map g xs) ≡ map h (cons_option o (filter_map f xs))
    by None rest = rest
    by (Some y) rest = ap (λ l. h y ∷ l) rest

-- ---- a metric from scratch

abbrev by_life : MetricId → Option Life → Option Live
by_life m o = option_map (λ (life : Life). live_from_scratch m life.policy life.done (batches_in o)) o

-- its identifier
id_of_scratch : (m : MetricId) (o : Option Life) (l : Live) → by_life m o ≡ Some l → l.id ≡ m
id_of_scratch m None l is = absurd (none-some l is)
id_of_scratch m (Some life) l is = ap (λ (x : Live). x.id) (sym (same_Some (live_from_scratch m life.policy life.done (batches_in (Some life))) l is))

scratch_id : (counts : List Counted) (m : MetricId) (l : Live) → metric_from_scratch counts m ≡ Some l → l.id ≡ m
scratch_id counts m l is = id_of_scratch m (life_of m counts) l is

-- an entry of another metric
scratch_other : (counts : List Counted) (c : Counted) (m : MetricId) → eqb (subject_of c).0 m.0 ≡ false → metric_from_scratch (counts ++ c ∷ []) m ≡ metric_from_scratch counts m
scratch_other counts c m other = ap (by_life m) (life-other m counts c other)

apart : (k m : MetricId) → (m.0 ≡ k.0 → ⊥) → eqb k.0 m.0 ≡ false
apart k m other = ne_eqb k.0 m.0 (λ is. other (sym is))

-- each live metric has one
pub scratch_ids : (counts : List Counted) → map (λ (l : Live). l.id) (metrics_from_scratch counts) ≡ live_ids counts
scratch_ids counts = onto (live_ids counts) (λ m c. live_ids-live counts m c)
  where
    one : (m : MetricId) (o : Option Life) → is_some o ≡ true → option_map (λ (l : Live). l.id) (by_life m o) ≡ Some m
    one m None live = absurd (false≢true live)
    one m (Some life) live = refl

    cons : (o : Option Live) (m : MetricId) (ls : List Live) (ms : List MetricId) → option_map (λ (l : Live). l.id) o ≡ Some m → map (λ (l : Live). l.id) ls ≡ ms → map (λ (l : Live). l.id) (cons_option o ls) ≡ m ∷ ms
    cons None m ls ms is rest = absurd (none-some m is)
    cons (Some l) m ls ms is rest = ap (λ x. x ∷ map (λ (y : Live). y.id) ls) (same_Some l.id m is) ∙ ap (λ x. m ∷ x) rest

    onto : (ms : List MetricId) → ((m : MetricId) → Contains ms m → is_live m counts ≡ true) → map (λ (l : Live). l.id) (filter_map (metric_from_scratch counts) ms) ≡ ms
    onto [] live = refl
    onto (m ∷ ms) live =
        cons (metric_from_scratch counts m) m (filter_map (metric_from_scratch counts) ms) ms (one m (life_of m counts) (live m (Contains-here m ms m refl)))
        (onto ms (λ k c. live k (Contains-there m ms k c)))

-- a metric is found among these as it is from scratch; or it isn't among the identifiers, and none is found
abbrev IsFoundIn : List Counted → MetricId → List MetricId → List Live → Type 0
IsFoundIn counts m ms metrics = (live_of m metrics ≡ metric_from_scratch counts m) ⊎ ((Contains ms m → ⊥) × (live_of m metrics ≡ None))

-- and it is found by its identifier
found_in : (counts : List Counted) (m : MetricId) (ms : List MetricId)
    → IsFoundIn counts m ms (filter_map (metric_from_scratch counts) ms)
found_in counts m [] = inr ((λ c. Contains-none m c), refl)
found_in counts m (x ∷ ms) = by (metric_from_scratch counts x) refl (found_in counts m ms)
  where
    skip : metric_from_scratch counts x ≡ None → IsFoundIn counts m ms (filter_map (metric_from_scratch counts) ms)
        → IsFoundIn counts m (x ∷ ms) (cons_option None (filter_map (metric_from_scratch counts) ms))
    skip none (inl is) = inl is
    skip none (inr away) =
        ⊎_elim
        (λ is. inl (away.1 ∙ sym (ap (metric_from_scratch counts) (sym (same_id x m is)) ∙ none)))
        (λ other. inr ((λ c. ⊎_elim (λ e. other (ap (λ (k : MetricId). k.0) e)) away.0 (Contains-cases x ms m c)), away.1))
        (cases_eq x.0 m.0)

    keep : (l : Live) → metric_from_scratch counts x ≡ Some l → IsFoundIn counts m ms (filter_map (metric_from_scratch counts) ms)
        → IsFoundIn counts m (x ∷ ms) (cons_option (Some l) (filter_map (metric_from_scratch counts) ms))
    keep l some rest =
        let own : l.id.0 ≡ x.0 = ap (λ (k : MetricId). k.0) (scratch_id counts x l some) in
        let later = filter_map (metric_from_scratch counts) ms in
        ⊎_elim
        (λ is. inl (ap (λ b. cond b (Some l) (live_of m later)) (eq-eqb l.id.0 m.0 (own ∙ is)) ∙ sym (ap (metric_from_scratch counts) (sym (same_id x m is)) ∙ some)))
        (λ other.
        let past : live_of m (l ∷ later) ≡ live_of m later = ap (λ b. cond b (Some l) (live_of m later)) (ne_eqb l.id.0 m.0 (λ is. other (sym own ∙ is))) in
        ⊎_elim (λ is. inl (past ∙ is))
        (λ away. inr ((λ c. ⊎_elim (λ e. other (ap (λ (k : MetricId). k.0) e)) away.0 (Contains-cases x ms m c)), past ∙ away.1))
        rest)
        (cases_eq x.0 m.0)

    by : (o : Option Live) → metric_from_scratch counts x ≡ o → IsFoundIn counts m ms (filter_map (metric_from_scratch counts) ms)
        → IsFoundIn counts m (x ∷ ms) (filter_map (metric_from_scratch counts) (x ∷ ms))
    by None is rest =
        subst (λ o. IsFoundIn counts m (x ∷ ms) (cons_option o (filter_map (metric_from_scratch counts) ms)))
        (sym is) (skip is rest)
    by (Some l) is rest =
        subst (λ o. IsFoundIn counts m (x ∷ ms) (cons_option o (filter_map (metric_from_scratch counts) ms)))
        (sym is) (keep l is rest)

pub scratch_found : (counts : List Counted) (m : MetricId) → live_of m (metrics_from_scratch counts) ≡ metric_from_scratch counts m
scratch_found counts m =
    ⊎_elim (λ is. is)
    (λ away. away.1 ∙ sym (by (life_of m counts) refl away.0))
    (found_in counts m (live_ids counts))
  where
    by : (o : Option Life) → life_of m counts ≡ o → (Contains (live_ids counts) m → ⊥) → metric_from_scratch counts m ≡ None
    by None is away = ap (by_life m) is
    by (Some life) is away = absurd (away (live_ids-all counts m (ap is_some is)))

-- ---- the metrics after an entry

module _ (counts : List Counted) where
  abbrev then : Counted → List Counted
  then c = counts ++ c ∷ []

  ids_then : (c : Counted) → live_ids (then c) ≡ ids_after (live_ids counts) c
  ids_then c = fold-append ids_after [] counts (c ∷ [])

  pub metrics-created : (k : MetricId) (policy : ArchivePolicy) → metrics_from_scratch (then (counted.Create k policy)) ≡ with_live (live_from_scratch k policy (last_post counts) []) (metrics_from_scratch counts)
  metrics-created k policy =
      ap (filter_map new) (ids_then (counted.Create k policy))
      ∙ filter_map-append new (filter below (live_ids counts)) (k ∷ filter above (live_ids counts))
      ∙ ap (λ l. l ++ filter_map new (k ∷ filter above (live_ids counts)))
      (same_map new old (filter below (live_ids counts)) (λ m c. scratch_other counts (counted.Create k policy) m (apart k m (λ is. absurd (omega (arith, is, ltb-true m.0 k.0 (filter_kept below (live_ids counts) m c).1)))))
      ∙ map_filtered old below (λ (l : Live). ltb l.id.0 k.0) (λ m l is. ap (λ (x : MetricId). ltb x.0 k.0) (scratch_id counts m l is)) (live_ids counts))
      ∙ ap (λ o. filter (λ (l : Live). ltb l.id.0 k.0) (metrics_from_scratch counts) ++ cons_option o (filter_map new (filter above (live_ids counts)))) (ap (by_life k) (life-created k policy counts))
      ∙ ap (λ l. filter (λ (x : Live). ltb x.id.0 k.0) (metrics_from_scratch counts) ++ (live_from_scratch k policy (last_post counts) [] ∷ l))
      (same_map new old (filter above (live_ids counts)) (λ m c. scratch_other counts (counted.Create k policy) m (apart k m (λ is. absurd (omega (arith, is, ltb-true k.0 m.0 (filter_kept above (live_ids counts) m c).1)))))
      ∙ map_filtered old above (λ (l : Live). ltb k.0 l.id.0) (λ m l is. ap (λ (x : MetricId). ltb k.0 x.0) (scratch_id counts m l is)) (live_ids counts))
    where
      old : MetricId → Option Live
      old = metric_from_scratch counts

      new : MetricId → Option Live
      new = metric_from_scratch (counts ++ counted.Create k policy ∷ [])

      below : MetricId → Bool
      below = λ (m : MetricId). ltb m.0 k.0

      above : MetricId → Bool
      above = λ (m : MetricId). ltb k.0 m.0

  pub metrics-dropped : (k : MetricId) → metrics_from_scratch (then (counted.Drop k)) ≡ without_live k (metrics_from_scratch counts)
  metrics-dropped k =
      ap (filter_map (metric_from_scratch (counts ++ counted.Drop k ∷ []))) (ids_then (counted.Drop k))
      ∙ same_map (metric_from_scratch (counts ++ counted.Drop k ∷ [])) (metric_from_scratch counts) (filter others (live_ids counts))
      (λ m c. scratch_other counts (counted.Drop k) m (apart k m (λ is. false≢true (sym (ap not (eq-eqb m.0 k.0 is)) ∙ (filter_kept others (live_ids counts) m c).1))))
      ∙ map_filtered (metric_from_scratch counts) others (λ (l : Live). not (eqb l.id.0 k.0)) (λ m l is. ap (λ (x : MetricId). not (eqb x.0 k.0)) (scratch_id counts m l is)) (live_ids counts)
    where
      others : MetricId → Bool
      others = λ (m : MetricId). not (eqb m.0 k.0)

  -- an entry that leaves each metric as it is
  same_metrics : (c : Counted) → live_ids (then c) ≡ live_ids counts → ((m : MetricId) → metric_from_scratch (then c) m ≡ metric_from_scratch counts m) → metrics_from_scratch (then c) ≡ metrics_from_scratch counts
  same_metrics c ids same = ap (filter_map (metric_from_scratch (then c))) ids ∙ same_map (metric_from_scratch (then c)) (metric_from_scratch counts) (live_ids counts) (λ m among. same m)

  pub metrics-posted : (k : MetricId) (n : ℕ) (measures : List Measure) → IsLegalCount counts → MayPost counts n k measures → metrics_from_scratch (then (counted.Post n k measures)) ≡ metrics_from_scratch counts
  metrics-posted k n measures legal may = same_metrics (counted.Post n k measures) (ids_then (counted.Post n k measures)) each
    where
      grown : (o : Option Life) (later : List (List Measure)) → later ≡ batches_in o
          → option_map (λ (life : Life). live_from_scratch k life.policy life.done later) (option_map (life_with (record { number = n; metric = k; measures = measures })) o) ≡ by_life k o
      grown None later is = refl
      grown (Some life) later is = ap (λ l. Some (live_from_scratch k life.policy life.done l)) is

      own : metric_from_scratch (counts ++ counted.Post n k measures ∷ []) k ≡ metric_from_scratch counts k
      own =
          ap (option_map (λ (life : Life). live_from_scratch k life.policy life.done (batches_of k (counts ++ counted.Post n k measures ∷ [])))) (life-posted k n measures counts)
          ∙ grown (life_of k counts) (batches_of k (counts ++ counted.Post n k measures ∷ [])) (batches-posted k n measures counts legal may)

      each : (m : MetricId) → metric_from_scratch (counts ++ counted.Post n k measures ∷ []) m ≡ metric_from_scratch counts m
      each m =
          ⊎_elim
          (λ is. subst (λ x. metric_from_scratch (counts ++ counted.Post n k measures ∷ []) x ≡ metric_from_scratch counts x) (same_id k m is) own)
          (λ other. scratch_other counts (counted.Post n k measures) m (ne_eqb k.0 m.0 other))
          (cases_eq k.0 m.0)

  pub metrics-done : TurnIsFromScratch → (claim : HeldClaim) (p : PreparedView) → IsLegalCount counts → MayProcess counts claim.metric claim.upto → IsJobOf claim counts p.job → IsPrepared p
      → metrics_from_scratch (then (counted.Done claim.metric claim.upto)) ≡ commit_live claim.metric p (metrics_from_scratch counts)
  metrics-done turn claim p legal may job is_prepared =
      ap (filter_map (metric_from_scratch (counts ++ counted.Done claim.metric claim.upto ∷ []))) (ids_then (counted.Done claim.metric claim.upto))
      ∙ map_after (metric_from_scratch counts) (metric_from_scratch (counts ++ counted.Done claim.metric claim.upto ∷ [])) (after) each (live_ids counts)
    where
      after : Live → Live
      after = λ (l : Live). cond (eqb l.id.0 claim.metric.0) (after_commit p l) l

      committed_now : (o : Option Live) → ((l : Live) → o ≡ Some l → l.id ≡ claim.metric) → option_map (after_commit p) o ≡ option_map (λ (l : Live). cond (eqb l.id.0 claim.metric.0) (after_commit p l) l) o
      committed_now None own = refl
      committed_now (Some l) own = ap (λ b. Some (cond b (after_commit p l) l)) (sym (eq-eqb l.id.0 claim.metric.0 (ap (λ (x : MetricId). x.0) (own l refl))))

      stays : (m : MetricId) (o : Option Live) → (m.0 ≡ claim.metric.0 → ⊥) → ((l : Live) → o ≡ Some l → l.id ≡ m) → o ≡ option_map (λ (l : Live). cond (eqb l.id.0 claim.metric.0) (after_commit p l) l) o
      stays m None other own = refl
      stays m (Some l) other own = ap (λ b. Some (cond b (after_commit p l) l)) (sym (ne_eqb l.id.0 claim.metric.0 (λ is. other (sym (ap (λ (x : MetricId). x.0) (own l refl)) ∙ is))))

      each : (m : MetricId) → metric_from_scratch (counts ++ counted.Done claim.metric claim.upto ∷ []) m ≡ option_map (λ (l : Live). cond (eqb l.id.0 claim.metric.0) (after_commit p l) l) (metric_from_scratch counts m)
      each m =
          ⊎_elim
          (λ is. subst (λ x. metric_from_scratch (counts ++ counted.Done claim.metric claim.upto ∷ []) x ≡ option_map (λ (l : Live). cond (eqb l.id.0 claim.metric.0) (after_commit p l) l) (metric_from_scratch counts x)) (sym (same_id m claim.metric is))
          (turn_committed turn counts claim p legal may job is_prepared ∙ committed_now (metric_from_scratch counts claim.metric) (λ l e. scratch_id counts claim.metric l e)))
          (λ other. scratch_other counts (counted.Done claim.metric claim.upto) m (apart claim.metric m other) ∙ stays m (metric_from_scratch counts m) other (λ l e. scratch_id counts m l e))
          (cases_eq m.0 claim.metric.0)

  -- ---- the posts that wait after an entry

  waits_other : (c : Counted) (q : Posted) → eqb (subject_of c).0 q.metric.0 ≡ false → is_waiting (then c) q ≡ is_waiting counts q
  waits_other c q other = ap (waits_in q) (life-other q.metric counts c other)

  -- whether a post waits, by whether it is to a metric
  by_metric : (c : Counted) (r : Posted → Bool) (q : Posted) → (q.metric ≡ subject_of c → is_waiting (then c) q ≡ r q) → ((q.metric.0 ≡ (subject_of c).0 → ⊥) → is_waiting counts q ≡ r q) → is_waiting (then c) q ≡ r q
  by_metric c r q own other =
      ⊎_elim (λ is. own (same_id q.metric (subject_of c) is))
      (λ is_not. waits_other c q (apart (subject_of c) q.metric is_not) ∙ other is_not)
      (cases_eq q.metric.0 (subject_of c).0)

  same_posts : (c : Counted) → all_posts (then c) ≡ all_posts counts ++ [] → pending_posts (then c) ≡ filter (is_waiting (then c)) (all_posts counts)
  same_posts c posts = ap (filter (is_waiting (then c))) (posts ∙ append-nil (all_posts counts))

  pub pending-created_other : (k : MetricId) (policy : ArchivePolicy) → IsLegalCount counts → life_of k counts ≡ None → pending_posts (then (counted.Create k policy)) ≡ pending_posts counts
  pending-created_other k policy legal absent =
      same_posts (counted.Create k policy) (all_posts-more counts (counted.Create k policy))
      ∙ same_filter (is_waiting (then (counted.Create k policy))) (is_waiting counts) (all_posts counts) each
    where
      at_most : (n : ℕ) (posts : List Posted) (q : Posted) → AtMost n posts → Contains posts q → q.number ≤ n
      at_most n [] q h c = absurd (Contains-none q c)
      at_most n (p ∷ posts) q h c = ⊎_elim (λ is. subst (λ (x : Posted). x.number ≤ n) is h.0) (λ later. at_most n posts q h.1 later) (Contains-cases p posts q c)

      each : (q : Posted) → Contains (all_posts counts) q → is_waiting (counts ++ counted.Create k policy ∷ []) q ≡ is_waiting counts q
      each q c =
          by_metric (counted.Create k policy) (is_waiting counts) q
          (λ own.
          ap (λ (m : MetricId). waits_in q (life_of m (counts ++ counted.Create k policy ∷ []))) own
          ∙ ap (waits_in q) (life-created k policy counts)
          ∙ le-ltb (last_post counts) q.number (at_most (last_post counts) (all_posts counts) q (ordered counts legal).most c)
          ∙ sym (ap (λ (m : MetricId). waits_in q (life_of m counts)) own ∙ ap (waits_in q) absent))
          (λ other. refl)

  pub pending_posts-posted : (k : MetricId) (n : ℕ) (measures : List Measure) → IsLegalCount counts → MayPost counts n k measures
      → pending_posts (then (counted.Post n k measures)) ≡ pending_posts counts ++ record { number = n; metric = k; measures = measures } ∷ []
  pending_posts-posted k n measures legal may =
      ap (filter now) (all_posts-more counts c)
      ∙ filter-append now (all_posts counts) (p ∷ [])
      ∙ ap (λ l. l ++ filter now (p ∷ [])) (filter_agree now (is_waiting counts) alike (all_posts counts))
      ∙ ap (λ l. pending_posts counts ++ l) (filter-keep now p [] (ap (waits_in p) (life-posted k n measures counts) ∙ waits (life_of k counts) may.live (behind k n measures counts legal may)))
    where
      p : Posted
      p = record { number = n; metric = k; measures = measures }

      c : Counted
      c = counted.Post n k measures

      now : Posted → Bool
      now = is_waiting (counts ++ counted.Post n k measures ∷ [])

      waits : (o : Option Life) → is_some o ≡ true → IfSome o (λ (life : Life). life.done < n) → waits_in (record { number = n; metric = k; measures = measures }) (option_map (life_with (record { number = n; metric = k; measures = measures })) o) ≡ true
      waits None some lt = absurd (false≢true some)
      waits (Some life) some lt = lt-ltb life.done n lt

      with_it : (q : Posted) (o : Option Life) → waits_in q (option_map (life_with (record { number = n; metric = k; measures = measures })) o) ≡ waits_in q o
      with_it q None = refl
      with_it q (Some life) = refl

      alike : (q : Posted) → is_waiting (counts ++ counted.Post n k measures ∷ []) q ≡ is_waiting counts q
      alike q =
          by_metric (counted.Post n k measures) (is_waiting counts) q
          (λ own.
          ap (λ (m : MetricId). waits_in q (life_of m (counts ++ counted.Post n k measures ∷ []))) own
          ∙ ap (waits_in q) (life-posted k n measures counts) ∙ with_it q (life_of k counts)
          ∙ sym (ap (λ (m : MetricId). waits_in q (life_of m counts)) own))
          (λ other. refl)

  pub pending_posts-dropped : (k : MetricId) → pending_posts (then (counted.Drop k)) ≡ filter (λ (q : Posted). not (eqb q.metric.0 k.0)) (pending_posts counts)
  pending_posts-dropped k =
      same_posts (counted.Drop k) (all_posts-more counts (counted.Drop k))
      ∙ sym (filter_within now (is_waiting counts) waited (all_posts counts))
      ∙ same_filter now (λ (q : Posted). not (eqb q.metric.0 k.0)) (pending_posts counts) (λ q c. each q (filter_kept (is_waiting counts) (all_posts counts) q c).1)
    where
      now : Posted → Bool
      now = is_waiting (counts ++ counted.Drop k ∷ [])

      gone : (q : Posted) → q.metric ≡ k → is_waiting (counts ++ counted.Drop k ∷ []) q ≡ false
      gone q own = ap (λ (m : MetricId). waits_in q (life_of m (counts ++ counted.Drop k ∷ []))) own ∙ ap (waits_in q) (life-dropped k counts)

      waited : (q : Posted) → is_waiting (counts ++ counted.Drop k ∷ []) q ≡ true → is_waiting counts q ≡ true
      waited q w =
          ⊎_elim (λ is. absurd (false≢true (sym (gone q (same_id q.metric k is)) ∙ w)))
          (λ other. sym (waits_other (counted.Drop k) q (apart k q.metric other)) ∙ w)
          (cases_eq q.metric.0 k.0)

      each : (q : Posted) → is_waiting counts q ≡ true → is_waiting (counts ++ counted.Drop k ∷ []) q ≡ not (eqb q.metric.0 k.0)
      each q w =
          by_metric (counted.Drop k) (λ (x : Posted). not (eqb x.metric.0 k.0)) q
          (λ own. gone q own ∙ sym (ap not (eq-eqb q.metric.0 k.0 (ap (λ (x : MetricId). x.0) own))))
          (λ other. w ∙ sym (ap not (ne_eqb q.metric.0 k.0 other)))

  pub pending_posts-taken : (k : MetricId) (u : ℕ) → MayProcess counts k u
      → pending_posts (then (counted.Done k u)) ≡ filter (λ (q : Posted). not (eqb q.metric.0 k.0 && leb q.number u)) (pending_posts counts)
  pending_posts-taken k u may =
      pending_posts-done k u counts (omega (arith, done_later k u counts may))
      ∙ same_filter (is_waiting (then (counted.Done k u))) (λ (q : Posted). not (eqb q.metric.0 k.0 && leb q.number u)) (pending_posts counts) (λ q c. each q (filter_kept (is_waiting counts) (all_posts counts) q c).1)
    where
      above : (q : Posted) → ltb u q.number ≡ not (leb q.number u)
      above q = ⊎_elim (λ lt. lt-ltb u q.number lt ∙ sym (ap not (lt-leb q.number u lt))) (λ le. le-ltb u q.number le ∙ sym (ap not (le-leb q.number u le))) (cases_lt u q.number)

      moved : (q : Posted) (o : Option Life) → waits_in q o ≡ true → waits_in q (option_map (done_up_to u) o) ≡ not (leb q.number u)
      moved q None w = absurd (false≢true w)
      moved q (Some life) w = above q

      each : (q : Posted) → is_waiting counts q ≡ true → is_waiting (counts ++ counted.Done k u ∷ []) q ≡ not (eqb q.metric.0 k.0 && leb q.number u)
      each q w =
          by_metric (counted.Done k u) (λ (x : Posted). not (eqb x.metric.0 k.0 && leb x.number u)) q
          (λ own.
          ap (λ (m : MetricId). waits_in q (life_of m (counts ++ counted.Done k u ∷ []))) own
          ∙ ap (waits_in q) (life-done k u counts)
          ∙ moved q (life_of k counts) (sym (ap (λ (m : MetricId). waits_in q (life_of m counts)) own) ∙ w)
          ∙ sym (ap (λ b. not (b && leb q.number u)) (eq-eqb q.metric.0 k.0 (ap (λ (x : MetricId). x.0) own))))
          (λ other. w ∙ sym (ap (λ b. not (b && leb q.number u)) (ne_eqb q.metric.0 k.0 other)))
