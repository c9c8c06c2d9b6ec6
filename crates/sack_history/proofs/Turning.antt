-- What a turn does to the posts that wait.
use Rattle.std.proofs.Common.{◌≡◌, ℕ, ◌<◌, ◌≤◌, Bool, true, false, ltb, List, [], ◌∷◌, ◌++◌, map, take, drop, Option, Some, None, refl, sym, ap, subst, ◌∙◌, arith}
use Rattle.std.specs.Option.{IfSome, is_some, option_map}
use Rattle.std.specs.List.{Contains, filter}
use Rattle.std.proofs.Math.Logic.{⊎_elim}
use Rattle.std.proofs.lemmas.Bool.{cases_Bool, eqb-true}
use Rattle.std.proofs.lemmas.List.{map-append}
use Rattle.std.proofs.lemmas.List.Elements.{filter-append}
use Rattle.series_model.specs.declared.measure.Measure.{Measure}
use Rattle.series_model.specs.declared.metric.MetricId.{MetricId}
use Rattle.series_model.proofs.ByKey.{filter-keep, filter-skip}
use Rattle.series_model.proofs.Rising.{Above, Rises}
use Rattle.sack_history.specs.declared.entry.Counted.{Counted}
use Rattle.sack_history.specs.declared.entry.Counted.TheVariants as counted
use Rattle.sack_history.specs.Legal.{IsLegalCount, MayCount, MayProcess}
use Rattle.sack_history.specs.Lives.{Life, Posted, all_posts, batches_in, batches_of, done_in, done_of, done_up_to, is_to, is_waiting, life_of, pending_in, pending_of, pending_posts, waits_in}
use Rattle.sack_history.specs.Turns.{MovesFirst, last_among, next_turn, turn_end, turn_posts}
use Rattle.sack_history.proofs.Living.{life-done, same_id}
use Rattle.sack_history.proofs.Numbers.{Above-member, Above-take, IsCut, above, above-last, above-later, above-none, above_is, first_cut, last_among-grows, last_among-member, numbers, Rises-filter, up_to, up_to-last, up_to-later}
use Rattle.sack_history.proofs.Ordered.{IsLifeOf, ordered}

abbrev measures_of : Posted → List Measure
measures_of p = p.measures

-- ---- a metric's posts that wait are its part of all that wait

swapped : {X : Type 0} (p q r : X → Bool) → ((x : X) → p x ≡ true → q x ≡ r x) → (xs : List X) → filter p (filter q xs) ≡ filter r (filter p xs)
swapped p q r agree [] = refl
swapped p q r agree (x ∷ xs) = ⊎_elim passes fails (cases_Bool (p x)) (swapped p q r agree xs)
  where
    passes : p x ≡ true → filter p (filter q xs) ≡ filter r (filter p xs) → filter p (filter q (x ∷ xs)) ≡ filter r (filter p (x ∷ xs))
    passes does rest =
        ⊎_elim
        (λ kept. ap (filter p) (filter-keep q x xs kept) ∙ filter-keep p x (filter q xs) does ∙ ap (λ l. x ∷ l) rest
        ∙ sym (ap (filter r) (filter-keep p x xs does) ∙ filter-keep r x (filter p xs) (sym (agree x does) ∙ kept)))
        (λ left. ap (filter p) (filter-skip q x xs left) ∙ rest
        ∙ sym (ap (filter r) (filter-keep p x xs does) ∙ filter-skip r x (filter p xs) (sym (agree x does) ∙ left)))
        (cases_Bool (q x))

    fails : p x ≡ false → filter p (filter q xs) ≡ filter r (filter p xs) → filter p (filter q (x ∷ xs)) ≡ filter r (filter p (x ∷ xs))
    fails doesnt rest =
        ⊎_elim
        (λ kept. ap (filter p) (filter-keep q x xs kept) ∙ filter-skip p x (filter q xs) doesnt ∙ rest ∙ sym (ap (filter r) (filter-skip p x xs doesnt)))
        (λ left. ap (filter p) (filter-skip q x xs left) ∙ rest ∙ sym (ap (filter r) (filter-skip p x xs doesnt)))
        (cases_Bool (q x))

-- whether a post waits, once its metric is known
waits_alike : (m : MetricId) (counts : List Counted) (p : Posted) → is_to m p ≡ true → is_waiting counts p ≡ waits_in p (life_of m counts)
waits_alike m counts p is = ap (λ (k : MetricId). waits_in p (life_of k counts)) (same_id p.metric m (eqb-true p.metric.0 m.0 is))

none_passes : {X : Type 0} (xs : List X) → filter (λ x. false) xs ≡ []
none_passes [] = refl
none_passes (x ∷ xs) = none_passes xs

pub part_of_metric : (m : MetricId) (counts : List Counted) → IsLegalCount counts → filter (is_to m) (pending_posts counts) ≡ pending_of m counts
part_of_metric m counts legal =
    swapped (is_to m) (is_waiting counts) (λ p. waits_in p (life_of m counts)) (waits_alike m counts) (all_posts counts)
    ∙ by (life_of m counts) ((ordered counts legal).lives m)
  where
    by : (o : Option Life) → IfSome o (IsLifeOf m counts) → filter (λ p. waits_in p o) (filter (is_to m) (all_posts counts)) ≡ pending_in o
    by None l = none_passes (filter (is_to m) (all_posts counts))
    by (Some life) l =
        ap (above life.done) l.placed
        ∙ filter-append (λ (p : Posted). ltb life.done p.number) l.earlier life.posts
        ∙ ap (λ x. x ++ above life.done life.posts) (above-none life.done l.earlier l.before)

-- all posts that wait, by rising number
pub pending_rises : (counts : List Counted) → IsLegalCount counts → Rises (numbers (pending_posts counts))
pending_rises counts legal = Rises-filter (is_waiting counts) (all_posts counts) (ordered counts legal).rises

-- ---- a turn

abbrev after_done : MetricId → ℕ → List Counted → List Counted
after_done m upto counts = counts ++ counted.Done m upto ∷ []

-- the posts of a life that wait: they rise behind its done number
pending_in-rises : (m : MetricId) (counts : List Counted) (o : Option Life) → IfSome o (IsLifeOf m counts) → Rises (numbers (pending_in o))
pending_in-rises m counts None l = tt
pending_in-rises m counts (Some life) l = Rises-filter (λ (p : Posted). ltb life.done p.number) life.posts l.rises

pending_in-above : (o : Option Life) → Above (done_in o) (numbers (pending_in o))
pending_in-above None = tt
pending_in-above (Some life) = above_is life.done life.posts

pub pending_of-rises : (m : MetricId) (counts : List Counted) → IsLegalCount counts → Rises (numbers (pending_of m counts))
pending_of-rises m counts legal = pending_in-rises m counts (life_of m counts) ((ordered counts legal).lives m)

pub pending_of-above : (m : MetricId) (counts : List Counted) → Above (done_of m counts) (numbers (pending_of m counts))
pending_of-above m counts = pending_in-above (life_of m counts)

-- what a new done number makes of a life
batches_moved : (m : MetricId) (counts : List Counted) (u : ℕ) (o : Option Life) → IfSome o (IsLifeOf m counts) → done_in o ≤ u
    → batches_in (option_map (done_up_to u) o) ≡ batches_in o ++ map measures_of (up_to u (pending_in o))
batches_moved m counts u None l le = refl
batches_moved m counts u (Some life) l le =
    ap (map measures_of) (up_to-later life.done u life.posts le l.rises)
    ∙ map-append measures_of (up_to life.done life.posts) (up_to u (above life.done life.posts))

pending_moved : (u : ℕ) (o : Option Life) → done_in o ≤ u → pending_in (option_map (done_up_to u) o) ≡ above u (pending_in o)
pending_moved u None le = refl
pending_moved u (Some life) le = sym (above-later life.done u life.posts le)

pub batches-done : (m : MetricId) (u : ℕ) (counts : List Counted) → IsLegalCount counts → done_of m counts ≤ u
    → batches_of m (after_done m u counts) ≡ batches_of m counts ++ map measures_of (up_to u (pending_of m counts))
batches-done m u counts legal le = ap batches_in (life-done m u counts) ∙ batches_moved m counts u (life_of m counts) ((ordered counts legal).lives m) le

pub pending-done : (m : MetricId) (u : ℕ) (counts : List Counted) → done_of m counts ≤ u → pending_of m (after_done m u counts) ≡ above u (pending_of m counts)
pending-done m u counts le = ap pending_in (life-done m u counts) ∙ pending_moved u (life_of m counts) le

pub done_later : (m : MetricId) (u : ℕ) (counts : List Counted) → MayProcess counts m u → done_of m counts < u
done_later m u counts may =
    Above-member (done_of m counts) u (numbers (turn_posts m counts)) (Above-take (done_of m counts) 64 (pending_of m counts) (pending_of-above m counts)) may.among

pub moves_first : (m : MetricId) (u : ℕ) (counts : List Counted) → IsLegalCount counts → MayProcess counts m u → (k : ℕ) × MovesFirst m k counts (after_done m u counts)
moves_first m u counts legal may =
    let cut : IsCut 64 u (pending_of m counts) = first_cut 64 u (pending_of m counts) (pending_of-rises m counts legal) may.among in
    let le : done_of m counts ≤ u = omega (arith, done_later m u counts may) in (
      cut.count,
      record {
        some = cut.some;
        few = cut.few;
        within = cut.within;
        batches = batches-done m u counts legal le ∙ ap (λ l. batches_of m counts ++ map measures_of l) cut.front;
        pending = pending-done m u counts le ∙ cut.rest;
      },
    )

-- ---- the next turn of a metric

pub end_later : (m : MetricId) (counts : List Counted) → IsLegalCount counts → done_of m counts ≤ turn_end m counts
end_later m counts legal = last_among-grows (done_of m counts) 64 (pending_of m counts) (pending_of-above m counts) (pending_of-rises m counts legal)

-- what waits up to its end are its posts
pub up_to-turn : (m : MetricId) (counts : List Counted) → IsLegalCount counts → up_to (turn_end m counts) (pending_of m counts) ≡ turn_posts m counts
up_to-turn m counts legal = up_to-last (done_of m counts) 64 (pending_of m counts) (pending_of-above m counts) (pending_of-rises m counts legal)

pub pending-turn : (m : MetricId) (counts : List Counted) → IsLegalCount counts → pending_of m (counts ++ next_turn m counts ∷ []) ≡ drop 64 (pending_of m counts)
pending-turn m counts legal =
    pending-done m (turn_end m counts) counts (end_later m counts legal)
    ∙ above-last (done_of m counts) 64 (pending_of m counts) (pending_of-above m counts) (pending_of-rises m counts legal)

-- it may come next, where a post waits
pub turn_may : (m : MetricId) (counts : List Counted) (p : Posted) (rest : List Posted) → pending_of m counts ≡ p ∷ rest → MayCount counts (next_turn m counts)
turn_may m counts p rest is = record {
  live = by (life_of m counts) is;
  among = subst (λ l. Contains (numbers (take 64 l)) (last_among (done_of m counts) (take 64 l))) (sym is) (last_among-member (done_of m counts) p (take 63 rest));
}
  where
    by : (o : Option Life) → pending_in o ≡ p ∷ rest → is_some o ≡ true
    by None e = cc
    by (Some life) e = refl
