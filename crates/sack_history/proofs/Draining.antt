-- Turns until nothing waits.
use Rattle.std.proofs.Common.{◌≡◌, ℕ, zero, suc, ◌+◌, ◌/◌, ◌-◌, ◌<◌, ◌≤◌, Bool, true, false, List, [], ◌∷◌, ◌++◌, map, length, take, Option, Some, None, refl, sym, ap, subst, ◌∙◌, append-nil, append_assoc, arith}
use Rattle.std.specs.Option.{option_map}
use Rattle.std.specs.List.{Contains, filter, slice_get, sum_by}
use Rattle.std.proofs.lemmas.List.Sums.{fold-append, sum_by-cons}
use Rattle.std.proofs.Math.Logic.{⊎_elim}
use Rattle.std.proofs.lemmas.Bool.{cases_eq, cond_both, eq-eqb, ne_eqb, lt-ltb, ltb-true, le-ltb}
use Rattle.std.proofs.lemmas.List.{length-drop}
use Rattle.series_model.specs.declared.metric.MetricId.{MetricId}
use Rattle.series_model.proofs.ByKey.{filter-keep, filter-skip, filter_within}
use Rattle.series_model.proofs.Members.{Contains-here, Contains-there, Contains-cases, Contains-none}
use Rattle.series_model.proofs.Rising.{Above, Rises, Rises_from_rising}
use Rattle.sack_history.specs.declared.entry.Counted.{Counted}
use Rattle.sack_history.specs.declared.entry.Counted.TheVariants as counted
use Rattle.sack_history.specs.Legal.{IsLegalCount, MayCount}
use Rattle.sack_history.specs.Lives.{Life, Posted, all_posts, done_in, done_of, done_up_to, is_to, ids_after, is_waiting, life_of, live_ids, pending_in, pending_of, pending_posts, waits_in}
use Rattle.sack_history.specs.Turns.{drain_turns, if_waiting, last_among, longest_waiting, next_turn, refresh_turns, turn_and_later, turn_end, turns_by, turns_due}
use Rattle.sack_history.proofs.Following.{FollowOn-more}
use Rattle.sack_history.proofs.Identified.{live_ids-all, live_ids-rise}
use Rattle.sack_history.proofs.Living.{all_posts-more, life-done, life-other, same_id}
use Rattle.sack_history.proofs.Numbers.{last_among-grows, numbers}
use Rattle.sack_history.proofs.Turning.{end_later, part_of_metric, pending-turn, pending_of-rises, turn_may}

-- ---- the turns of a metric

-- nothing of a metric waits after these turns, which may follow and are as few as can be
pub record IsRefreshed (m : MetricId) (counts turns : List Counted) : Type 0 where
  pub legal : IsLegalCount (counts ++ turns)
  pub nothing : pending_of m (counts ++ turns) ≡ []
  pub number : length turns ≡ turns_due counts m

-- no turn, where nothing waits
no_turn : (m : MetricId) (counts : List Counted) → IsLegalCount counts → pending_of m counts ≡ [] → IsRefreshed m counts []
no_turn m counts legal none = record {
  legal = subst IsLegalCount (sym (append-nil counts)) legal;
  nothing = ap (pending_of m) (append-nil counts) ∙ none;
  number = sym (ap (λ l. (length l + 63) / 64) none);
}

-- one turn, and those behind it
turn_first : (m : MetricId) (counts later : List Counted) (p : Posted) (rest : List Posted) → IsLegalCount counts → pending_of m counts ≡ p ∷ rest
    → IsRefreshed m (counts ++ next_turn m counts ∷ []) later → IsRefreshed m counts (next_turn m counts ∷ later)
turn_first m counts later p rest legal is h =
    let t = next_turn m counts in
    let joined : (counts ++ t ∷ []) ++ later ≡ counts ++ (t ∷ later) = append_assoc counts (t ∷ []) later in
    let left : length (pending_of m (counts ++ t ∷ [])) ≡ length (pending_of m counts) - 64 = ap length (pending-turn m counts legal) ∙ length-drop 64 (pending_of m counts) in
    let some : length (pending_of m counts) ≡ suc (length rest) = ap length is in
    record {
      legal = subst IsLegalCount joined h.legal;
      nothing = ap (pending_of m) (sym joined) ∙ h.nothing;
      number = omega (arith, left, some, h.number);
    }

abbrev waiting_or_none : MetricId → List Posted → Option MetricId
waiting_or_none m posts = option_map (λ (p : Posted). m) (slice_get posts 0)

pub turns_refresh : (m : MetricId) (n : ℕ) (counts : List Counted) → IsLegalCount counts → length (pending_of m counts) ≤ n → IsRefreshed m counts (turns_by (if_waiting m) n counts)
turns_refresh m zero counts legal le = no_turn m counts legal (by (pending_of m counts) le)
  where
    by : (posts : List Posted) → length posts ≤ 0 → posts ≡ []
    by [] h = refl
    by (p ∷ posts) h = absurd (omega (arith, h))
turns_refresh m (suc n) counts legal le = by (pending_of m counts) refl (turns_refresh m n (counts ++ next_turn m counts ∷ []))
  where
    by : (posts : List Posted) → pending_of m counts ≡ posts
        → (IsLegalCount (counts ++ next_turn m counts ∷ []) → length (pending_of m (counts ++ next_turn m counts ∷ [])) ≤ n → IsRefreshed m (counts ++ next_turn m counts ∷ []) (turns_by (if_waiting m) n (counts ++ next_turn m counts ∷ [])))
        → IsRefreshed m counts (turn_and_later (if_waiting m counts) counts (turns_by (if_waiting m) n))
    by [] is later = subst (λ q. IsRefreshed m counts (turn_and_later (waiting_or_none m q) counts (turns_by (if_waiting m) n))) (sym is) (no_turn m counts legal is)
    by (p ∷ rest) is later =
        let left : length (pending_of m (counts ++ next_turn m counts ∷ [])) ≡ length (pending_of m counts) - 64 = ap length (pending-turn m counts legal) ∙ length-drop 64 (pending_of m counts) in
        subst (λ q. IsRefreshed m counts (turn_and_later (waiting_or_none m q) counts (turns_by (if_waiting m) n))) (sym is)
        (turn_first m counts (turns_by (if_waiting m) n (counts ++ next_turn m counts ∷ [])) p rest legal is
        (later (FollowOn-more MayCount counts (next_turn m counts) legal (turn_may m counts p rest is)) (omega (arith, le, left))))

pub refreshes : (m : MetricId) (counts : List Counted) → IsLegalCount counts → IsRefreshed m counts (refresh_turns m counts)
refreshes m counts legal = turns_refresh m (length (pending_of m counts)) counts legal (omega arith)

-- ---- the turns of all metrics

-- whether a post waits still, where it may be one that a turn processed
still_waits : (m : MetricId) (u : ℕ) (counts : List Counted) (p : Posted) → done_of m counts ≤ u → is_waiting (counts ++ counted.Done m u ∷ []) p ≡ true → is_waiting counts p ≡ true
still_waits m u counts p le waits = ⊎_elim own other (cases_eq m.0 p.metric.0)
  where
    own_waits : (o : Option Life) → done_in o ≤ u → waits_in p (option_map (done_up_to u) o) ≡ true → waits_in p o ≡ true
    own_waits None le w = w
    own_waits (Some life) le w = lt-ltb life.done p.number (omega (arith, le, ltb-true u p.number w))

    of_metric : (k : MetricId) → m ≡ k → waits_in p (life_of k (counts ++ counted.Done m u ∷ [])) ≡ true → waits_in p (life_of k counts) ≡ true
    of_metric k is w = subst (λ x. waits_in p (life_of x (counts ++ counted.Done m u ∷ [])) ≡ true → waits_in p (life_of x counts) ≡ true) is (λ v. own_waits (life_of m counts) le (sym (ap (waits_in p) (life-done m u counts)) ∙ v)) w

    own : m.0 ≡ p.metric.0 → is_waiting counts p ≡ true
    own is = of_metric p.metric (same_id m p.metric is) waits

    other : (m.0 ≡ p.metric.0 → ⊥) → is_waiting counts p ≡ true
    other is_not = sym (ap (waits_in p) (life-other p.metric counts (counted.Done m u) (ne_eqb m.0 p.metric.0 is_not))) ∙ waits

-- a turn takes from what waits
pub pending_posts-done : (m : MetricId) (u : ℕ) (counts : List Counted) → done_of m counts ≤ u
    → pending_posts (counts ++ counted.Done m u ∷ []) ≡ filter (is_waiting (counts ++ counted.Done m u ∷ [])) (pending_posts counts)
pending_posts-done m u counts le =
    let now = counts ++ counted.Done m u ∷ [] in
    ap (filter (is_waiting now)) (all_posts-more counts (counted.Done m u) ∙ append-nil (all_posts counts))
    ∙ sym (filter_within (is_waiting now) (is_waiting counts) (λ p w. still_waits m u counts p le w) (all_posts counts))

filter_no_longer : {X : Type 0} (test : X → Bool) (xs : List X) → length (filter test xs) ≤ length xs
filter_no_longer test [] = omega arith
filter_no_longer test (x ∷ xs) =
    cond_both (test x) (x ∷ filter test xs) (filter test xs) (λ l. length l ≤ suc (length xs)) (λ keep. omega (arith, filter_no_longer test xs)) (λ skip. omega (arith, filter_no_longer test xs))

-- the post that has waited longest waits no longer after a turn of its metric
first_done : (m : MetricId) (counts : List Counted) (p : Posted) (rest : List Posted) → IsLegalCount counts → pending_posts counts ≡ p ∷ rest → p.metric ≡ m
    → is_waiting (counts ++ next_turn m counts ∷ []) p ≡ false
first_done m counts p rest legal is own =
    let u = turn_end m counts in
    ap (λ (k : MetricId). waits_in p (life_of k (counts ++ counted.Done m u ∷ []))) own ∙ ap (waits_in p) (life-done m u counts) ∙ by (life_of m counts)
  where
    first : pending_of m counts ≡ p ∷ filter (is_to m) rest
    first =
        sym (part_of_metric m counts legal) ∙ ap (filter (is_to m)) is
        ∙ filter-keep (is_to m) p rest (eq-eqb p.metric.0 m.0 (ap (λ (k : MetricId). k.0) own))

    reached : p.number ≤ turn_end m counts
    reached =
        let rises : Rises (numbers (p ∷ filter (is_to m) rest)) = subst (λ l. Rises (numbers l)) first (pending_of-rises m counts legal) in
        subst (λ l. p.number ≤ last_among (done_of m counts) (take 64 l)) (sym first) (last_among-grows p.number 63 (filter (is_to m) rest) rises.0 rises.1)

    by : (o : Option Life) → waits_in p (option_map (done_up_to (turn_end m counts)) o) ≡ false
    by None = refl
    by (Some life) = le-ltb (turn_end m counts) p.number reached

-- fewer posts wait
fewer : (m : MetricId) (counts : List Counted) (p : Posted) (rest : List Posted) → IsLegalCount counts → pending_posts counts ≡ p ∷ rest → p.metric ≡ m
    → length (pending_posts (counts ++ next_turn m counts ∷ [])) ≤ length rest
fewer m counts p rest legal is own =
    let now = counts ++ next_turn m counts ∷ [] in
    let left : pending_posts now ≡ filter (is_waiting now) rest = pending_posts-done m (turn_end m counts) counts (end_later m counts legal) ∙ ap (filter (is_waiting now)) is ∙ filter-skip (is_waiting now) p rest (first_done m counts p rest legal is own) in
    omega (arith, ap length left, filter_no_longer (is_waiting now) rest)

-- ---- their number

-- the sum over metrics of which each has as many
same_sum : (f g : MetricId → ℕ) (ms : List MetricId) → ((k : MetricId) → Contains ms k → f k ≡ g k) → sum_by f ms ≡ sum_by g ms
same_sum f g [] same = refl
same_sum f g (m ∷ ms) same =
    sum_by-cons f m ms ∙ ap (λ n. n + sum_by f ms) (same m (Contains-here m ms m refl)) ∙ ap (λ n. g m + n) (same_sum f g ms (λ k c. same k (Contains-there m ms k c)))
    ∙ sym (sum_by-cons g m ms)

Above-id : (a : ℕ) (ms : List MetricId) (k : MetricId) → Above a (map (λ (m : MetricId). m.0) ms) → Contains ms k → a < k.0
Above-id a [] k h c = absurd (Contains-none k c)
Above-id a (m ∷ ms) k h c = ⊎_elim (λ is. subst (λ (x : MetricId). a < x.0) is h.0) (λ later. Above-id a ms k h.1 later) (Contains-cases m ms k c)

-- and over metrics of which one has one more
sum_one_more : (f g : MetricId → ℕ) (m : MetricId) (ms : List MetricId) → Rises (map (λ (k : MetricId). k.0) ms) → Contains ms m → f m ≡ g m + 1 → ((k : MetricId) → (m.0 ≡ k.0 → ⊥) → f k ≡ g k)
    → sum_by f ms ≡ sum_by g ms + 1
sum_one_more f g m [] rises c more same = absurd (Contains-none m c)
sum_one_more f g m (x ∷ ms) rises c more same =
    ⊎_elim
    (λ is. let first : f x ≡ g x + 1 = subst (λ k. f k ≡ g k + 1) (sym is) more in
    let rest : sum_by f ms ≡ sum_by g ms = same_sum f g ms (λ k there. same k (λ e. let lt : x.0 < k.0 = Above-id x.0 ms k rises.0 there in absurd (omega (arith, ap (λ (y : MetricId). y.0) is, e)))) in
    omega (arith, first, rest, sum_by-cons f x ms, sum_by-cons g x ms))
    (λ later. let lt : x.0 < m.0 = Above-id x.0 ms m rises.0 later in
    let rest : sum_by f ms ≡ sum_by g ms + 1 = sum_one_more f g m ms rises.1 later more same in
    let first : f x ≡ g x = same x (λ e. absurd (omega (arith, e))) in omega (arith, rest, first, sum_by-cons f x ms, sum_by-cons g x ms))
    (Contains-cases x ms m c)

no_sum : (f : MetricId → ℕ) (ms : List MetricId) → ((k : MetricId) → f k ≡ 0) → sum_by f ms ≡ 0
no_sum f [] none = refl
no_sum f (m ∷ ms) none = omega (arith, sum_by-cons f m ms, none m, no_sum f ms none)

-- no turn is due, where nothing waits
none_due : (counts : List Counted) → IsLegalCount counts → pending_posts counts ≡ [] → sum_by (turns_due counts) (live_ids counts) ≡ 0
none_due counts legal none =
    no_sum (turns_due counts) (live_ids counts)
    (λ k. ap (λ l. (length l + 63) / 64) (sym (part_of_metric k counts legal) ∙ ap (filter (is_to k)) none))

-- one turn less is due after a turn
one_due_less : (counts : List Counted) (m : MetricId) (p : Posted) (rest : List Posted) → IsLegalCount counts → pending_of m counts ≡ p ∷ rest
    → sum_by (turns_due counts) (live_ids counts) ≡ sum_by (turns_due (counts ++ next_turn m counts ∷ [])) (live_ids (counts ++ next_turn m counts ∷ [])) + 1
one_due_less counts m p rest legal is =
    let t = next_turn m counts in
    let now = counts ++ t ∷ [] in
    let ids_same : live_ids now ≡ live_ids counts = fold-append ids_after [] counts (t ∷ []) in
    let may = turn_may m counts p rest is in
    let left : length (pending_of m now) ≡ length (pending_of m counts) - 64 = ap length (pending-turn m counts legal) ∙ length-drop 64 (pending_of m counts) in
    let some : length (pending_of m counts) ≡ suc (length rest) = ap length is in
    sum_one_more (turns_due counts) (turns_due now) m (live_ids counts) (Rises_from_rising (map (λ (k : MetricId). k.0) (live_ids counts)) (live_ids-rise counts)) (live_ids-all counts m may.live)
    (omega (arith, left, some))
    (λ k other. ap (λ o. (length (pending_in o) + 63) / 64) (sym (life-other k counts t (ne_eqb m.0 k.0 other))))
    ∙ ap (λ l. sum_by (turns_due now) l + 1) (sym ids_same)

-- nothing waits after these turns, which may follow and are as few as can be
pub record IsDrained (counts turns : List Counted) : Type 0 where
  pub legal : IsLegalCount (counts ++ turns)
  pub nothing : pending_posts (counts ++ turns) ≡ []
  pub number : length turns ≡ sum_by (turns_due counts) (live_ids counts)

abbrev first_metric : List Posted → Option MetricId
first_metric posts = option_map (λ (p : Posted). p.metric) (slice_get posts 0)

pub turns_drain : (n : ℕ) (counts : List Counted) → IsLegalCount counts → length (pending_posts counts) ≤ n → IsDrained counts (turns_by longest_waiting n counts)
turns_drain zero counts legal le = record {
  legal = subst IsLegalCount (sym (append-nil counts)) legal;
  nothing = ap pending_posts (append-nil counts) ∙ by (pending_posts counts) le;
  number = sym (none_due counts legal (by (pending_posts counts) le));
}
  where
    by : (posts : List Posted) → length posts ≤ 0 → posts ≡ []
    by [] h = refl
    by (p ∷ posts) h = absurd (omega (arith, h))
turns_drain (suc n) counts legal le = by (pending_posts counts) refl (λ m. turns_drain n (counts ++ next_turn m counts ∷ []))
  where
    by : (posts : List Posted) → pending_posts counts ≡ posts
        → ((m : MetricId) → IsLegalCount (counts ++ next_turn m counts ∷ []) → length (pending_posts (counts ++ next_turn m counts ∷ [])) ≤ n → IsDrained (counts ++ next_turn m counts ∷ []) (turns_by longest_waiting n (counts ++ next_turn m counts ∷ [])))
        → IsDrained counts (turn_and_later (longest_waiting counts) counts (turns_by longest_waiting n))
    by [] is later =
        subst (λ q. IsDrained counts (turn_and_later (first_metric q) counts (turns_by longest_waiting n))) (sym is)
        (record { legal = subst IsLegalCount (sym (append-nil counts)) legal; nothing = ap pending_posts (append-nil counts) ∙ is; number = sym (none_due counts legal is) })
    by (p ∷ rest) is later =
        let m = p.metric in
        let t = next_turn m counts in
        let first : pending_of m counts ≡ p ∷ filter (is_to m) rest = sym (part_of_metric m counts legal) ∙ ap (filter (is_to m)) is ∙ filter-keep (is_to m) p rest (eq-eqb m.0 m.0 refl) in
        let joined : (counts ++ t ∷ []) ++ turns_by longest_waiting n (counts ++ t ∷ []) ≡ counts ++ (t ∷ turns_by longest_waiting n (counts ++ t ∷ [])) = append_assoc counts (t ∷ []) (turns_by longest_waiting n (counts ++ t ∷ [])) in
        let h : IsDrained (counts ++ t ∷ []) (turns_by longest_waiting n (counts ++ t ∷ [])) = later m (FollowOn-more MayCount counts t legal (turn_may m counts p (filter (is_to m) rest) first)) (omega (arith, le, ap length is, fewer m counts p rest legal is refl)) in
        subst (λ q. IsDrained counts (turn_and_later (first_metric q) counts (turns_by longest_waiting n))) (sym is)
        (record { legal = subst IsLegalCount joined h.legal; nothing = ap pending_posts (sym joined) ∙ h.nothing; number = omega (arith, h.number, one_due_less counts m p (filter (is_to m) rest) legal first) })

pub drains : (counts : List Counted) → IsLegalCount counts → IsDrained counts (drain_turns counts)
drains counts legal = turns_drain (length (pending_posts counts)) counts legal (omega arith)
