-- What an entry more does to the life of a metric.
use Rattle.std.proofs.Common.{◌≡◌, ℕ, true, false, cond, eqb, List, [], ◌∷◌, ◌++◌, Option, Some, None, refl, ap, ◌∙◌, append-nil}
use Rattle.std.specs.Option.{option_map}
use Rattle.std.specs.List.{fold}
use Rattle.std.proofs.lemmas.Bool.{eq-eqb}
use Rattle.std.proofs.lemmas.Grind.{flat_map-append}
use Rattle.std.proofs.lemmas.List.Sums.{fold-append}
use Rattle.archive_policy.specs.Policies.{ArchivePolicy}
use Rattle.series_model.specs.declared.measure.Measure.{Measure}
use Rattle.series_model.specs.declared.metric.MetricId.{MetricId}
use Rattle.sack_history.specs.declared.entry.Counted.{Counted}
use Rattle.sack_history.specs.declared.entry.Counted.TheVariants as counted
use Rattle.sack_history.specs.Lives.{Life, all_posts, born, done_up_to, last_after, last_post, life_after, life_of, life_onto, subject_of, posted_by, life_with}

-- ---- an entry more

pub last_post-more : (counts : List Counted) (c : Counted) → last_post (counts ++ c ∷ []) ≡ last_after (last_post counts) c
last_post-more counts c = fold-append last_after 0 counts (c ∷ [])

pub all_posts-more : (counts : List Counted) (c : Counted) → all_posts (counts ++ c ∷ []) ≡ all_posts counts ++ posted_by c
all_posts-more counts c = flat_map-append posted_by counts (c ∷ []) ∙ ap (λ l. all_posts counts ++ l) (append-nil (posted_by c))

pub onto-append : (m : MetricId) (last : ℕ) (life : Option Life) (xs ys : List Counted) → life_onto m last life (xs ++ ys) ≡ life_onto m (fold last_after last xs) (life_onto m last life xs) ys
onto-append m last life [] ys = refl
onto-append m last life (c ∷ xs) ys = onto-append m (last_after last c) (life_after m last life c) xs ys

pub life-more : (m : MetricId) (counts : List Counted) (c : Counted) → life_of m (counts ++ c ∷ []) ≡ life_after m (last_post counts) (life_of m counts) c
life-more m counts c = onto-append m 0 None counts (c ∷ [])

own : (m : MetricId) → eqb m.0 m.0 ≡ true
own m = eq-eqb m.0 m.0 refl

-- ---- by what it is

-- a metric that is created starts empty
pub life-created : (m : MetricId) (policy : ArchivePolicy) (counts : List Counted) → life_of m (counts ++ counted.Create m policy ∷ []) ≡ Some (born policy (last_post counts))
life-created m policy counts =
    life-more m counts (counted.Create m policy) ∙ ap (λ b. cond b (Some (born policy (last_post counts))) (life_of m counts)) (own m)

pub life-posted : (m : MetricId) (number : ℕ) (measures : List Measure) (counts : List Counted)
    → life_of m (counts ++ counted.Post number m measures ∷ []) ≡ option_map (life_with (record { number = number; metric = m; measures = measures })) (life_of m counts)
life-posted m number measures counts =
    life-more m counts (counted.Post number m measures)
    ∙ ap (λ b. cond b (option_map (life_with (record { number = number; metric = m; measures = measures })) (life_of m counts)) (life_of m counts)) (own m)

pub life-done : (m : MetricId) (upto : ℕ) (counts : List Counted) → life_of m (counts ++ counted.Done m upto ∷ []) ≡ option_map (done_up_to upto) (life_of m counts)
life-done m upto counts =
    life-more m counts (counted.Done m upto) ∙ ap (λ b. cond b (option_map (done_up_to upto) (life_of m counts)) (life_of m counts)) (own m)

pub life-dropped : (m : MetricId) (counts : List Counted) → life_of m (counts ++ counted.Drop m ∷ []) ≡ None
life-dropped m counts = life-more m counts (counted.Drop m) ∙ ap (λ b. cond b None (life_of m counts)) (own m)

-- an entry of another metric
pub life-other : (m : MetricId) (counts : List Counted) (c : Counted) → eqb (subject_of c).0 m.0 ≡ false → life_of m (counts ++ c ∷ []) ≡ life_of m counts
life-other m counts (counted.Create k policy) other = life-more m counts (counted.Create k policy) ∙ ap (λ b. cond b (Some (born policy (last_post counts))) (life_of m counts)) other
life-other m counts (counted.Post n k measures) other =
    life-more m counts (counted.Post n k measures)
    ∙ ap (λ b. cond b (option_map (life_with (record { number = n; metric = k; measures = measures })) (life_of m counts)) (life_of m counts)) other
life-other m counts (counted.Done k upto) other = life-more m counts (counted.Done k upto) ∙ ap (λ b. cond b (option_map (done_up_to upto) (life_of m counts)) (life_of m counts)) other
life-other m counts (counted.Drop k) other = life-more m counts (counted.Drop k) ∙ ap (λ b. cond b None (life_of m counts)) other

-- identifiers with one number are one
pub same_id : (m n : MetricId) → m.0 ≡ n.0 → m ≡ n
same_id m n is = ap (λ (x : ℕ). let id : MetricId = record { 0 = x } in id) is
