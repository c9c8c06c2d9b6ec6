-- The steps of the plain program.
use Rattle.std.proofs.Common.{◌≡◌, ℕ, ◌+◌, ◌<◌, true, false, ltb, get_or, List, [], ◌∷◌, ◌++◌, length, take, drop, Option, Some, None, refl, sym, ap, ◌∙◌, append-nil}
use Rattle.std.specs.Option.{is_some, option_map, unwrap_or}
use Rattle.std.specs.List.{filter, fold}
use Rattle.std.proofs.Math.Logic.{⊎_elim}
use Rattle.std.proofs.lemmas.Bool.{cases_Bool, false≢true}
use Rattle.std.proofs.lemmas.Grind.{flat_map-append}
use Rattle.std.proofs.lemmas.List.{take_more, take-append-drop, take-map}
use Rattle.std.proofs.lemmas.List.Elements.{filter-append}
use Rattle.std.proofs.lemmas.Option.{none-some, same_Some}
use Rattle.series_model.specs.declared.metric.MetricId.{MetricId}
use Rattle.series_model.proofs.ByKey.{filter-keep, filter-skip}
use Rattle.series_model.specs.declared.measure.Measure.{Measure}
use Rattle.sack_history.specs.declared.entry.Counted.{Counted}
use Rattle.sack_history.specs.declared.entry.Counted.TheVariants as counted
use Rattle.sack_history.specs.Lives.{Life, Posted, all_posts, done_in, done_of, is_waiting, last_after, last_post, life_after, life_of, pending_in, pending_of, posted_by}
use Rattle.sack_history.specs.Plain.{first_metric, numbers_in}
use Rattle.sack_history.specs.Turns.{last_among, longest_waiting, turn_end}
use Rattle.sack_history.proofs.Living.{all_posts-more, last_post-more, life-more}
use Rattle.sack_history.proofs.Numbers.{above, number_of, numbers}

-- the front with one item more
pub more_taken : {X : Type 0} (xs : List X) (i : ℕ) (x : X) → i < length xs → x ≡ get_or xs i x → take (i + 1) xs ≡ take i xs ++ x ∷ []
more_taken xs i x lt is = take_more xs i x lt ∙ ap (λ y. take i xs ++ y ∷ []) (sym is)

pub last_step : (counts : List Counted) (i : ℕ) (c : Counted) → i < length counts → c ≡ get_or counts i c → last_post (take (i + 1) counts) ≡ last_after (last_post (take i counts)) c
last_step counts i c lt is = ap last_post (more_taken counts i c lt is) ∙ last_post-more (take i counts) c

pub life_step : (m : MetricId) (counts : List Counted) (i : ℕ) (c : Counted) → i < length counts → c ≡ get_or counts i c
    → life_of m (take (i + 1) counts) ≡ life_after m (last_post (take i counts)) (life_of m (take i counts)) c
life_step m counts i c lt is = ap (life_of m) (more_taken counts i c lt is) ∙ life-more m (take i counts) c

-- ---- numbers of posts

numbers-above : (d : ℕ) (posts : List Posted) → numbers (above d posts) ≡ filter (λ n. ltb d n) (numbers posts)
numbers-above d [] = refl
numbers-above d (p ∷ posts) =
    ⊎_elim
    (λ keep. ap numbers (filter-keep (λ (q : Posted). ltb d q.number) p posts keep) ∙ ap (λ l. p.number ∷ l) (numbers-above d posts)
    ∙ sym (filter-keep (λ n. ltb d n) p.number (numbers posts) keep))
    (λ skip. ap numbers (filter-skip (λ (q : Posted). ltb d q.number) p posts skip) ∙ numbers-above d posts
    ∙ sym (filter-skip (λ n. ltb d n) p.number (numbers posts) skip))
    (cases_Bool (ltb d p.number))

pub pending_by : (o : Option Life) (d : ℕ) → option_map (λ (life : Life). life.done) o ≡ Some d → numbers (pending_in o) ≡ filter (λ n. ltb d n) (numbers_in o)
pending_by None d is = absurd (none-some d is)
pending_by (Some life) d is = numbers-above life.done life.posts ∙ ap (λ e. filter (λ n. ltb e n) (numbers life.posts)) (same_Some life.done d is)

pub done_or_0 : (o : Option Life) → unwrap_or (option_map (λ (life : Life). life.done) o) 0 ≡ done_in o
done_or_0 None = refl
done_or_0 (Some life) = refl

last_of_numbers : (d : ℕ) (posts : List Posted) → fold (λ (before n : ℕ). n) d (numbers posts) ≡ last_among d posts
last_of_numbers d [] = refl
last_of_numbers d (p ∷ posts) = last_of_numbers p.number posts

pub turn_by : (m : MetricId) (counts : List Counted) → fold (λ (before n : ℕ). n) (done_of m counts) (take 64 (numbers (pending_of m counts))) ≡ turn_end m counts
turn_by m counts =
    ap (fold (λ (before n : ℕ). n) (done_of m counts)) (take-map number_of 64 (pending_of m counts)) ∙ last_of_numbers (done_of m counts) (take 64 (pending_of m counts))

-- ---- the post that has waited longest

first_none : (posts : List Posted) → first_metric posts ≡ None → posts ≡ []
first_none [] is = refl
first_none (p ∷ posts) is = absurd (none-some p.metric (sym is))

first_of_front : (front behind : List Posted) (m : MetricId) → first_metric front ≡ Some m → first_metric (front ++ behind) ≡ Some m
first_of_front [] behind m is = absurd (none-some m is)
first_of_front (p ∷ front) behind m is = is

pub none_more : (counts : List Counted) (i : ℕ) (c : Counted) → i < length counts → c ≡ get_or counts i c → filter (is_waiting counts) (all_posts (take i counts)) ≡ []
    → first_metric (filter (is_waiting counts) (posted_by c)) ≡ None → filter (is_waiting counts) (all_posts (take (i + 1) counts)) ≡ []
none_more counts i c lt is before none =
    ap (λ l. filter (is_waiting counts) (all_posts l)) (more_taken counts i c lt is)
    ∙ ap (filter (is_waiting counts)) (all_posts-more (take i counts) c)
    ∙ filter-append (is_waiting counts) (all_posts (take i counts)) (posted_by c)
    ∙ ap (λ l. l ++ filter (is_waiting counts) (posted_by c)) before
    ∙ first_none (filter (is_waiting counts) (posted_by c)) none

pub first_found : (counts : List Counted) (i : ℕ) (c : Counted) (m : MetricId) → i < length counts → c ≡ get_or counts i c → filter (is_waiting counts) (all_posts (take i counts)) ≡ []
    → first_metric (filter (is_waiting counts) (posted_by c)) ≡ Some m → longest_waiting counts ≡ Some m
first_found counts i c m lt is before some =
    let rest = drop (i + 1) counts in
    let parts : counts ≡ (take i counts ++ c ∷ []) ++ rest = sym (take-append-drop (i + 1) counts) ∙ ap (λ l. l ++ rest) (more_taken counts i c lt is) in
    let test = is_waiting counts in
    ap (λ l. first_metric (filter test (all_posts l))) parts
    ∙ ap (λ l. first_metric (filter test l)) (flat_map-append posted_by (take i counts ++ c ∷ []) rest)
    ∙ ap first_metric (filter-append test (all_posts (take i counts ++ c ∷ [])) (all_posts rest))
    ∙ ap (λ l. first_metric (l ++ filter test (all_posts rest)))
    (ap (filter test) (all_posts-more (take i counts) c) ∙ filter-append test (all_posts (take i counts)) (posted_by c) ∙ ap (λ l. l ++ filter test (posted_by c)) before)
    ∙ first_of_front (filter test (posted_by c)) (filter test (all_posts rest)) m some

pub none_found : (counts : List Counted) (i : ℕ) → length counts ≡ i → filter (is_waiting counts) (all_posts (take i counts)) ≡ [] → longest_waiting counts ≡ None
none_found counts i is none = ap first_metric (sym (ap (λ l. filter (is_waiting counts) (all_posts l)) whole) ∙ none)
  where
    whole : take i counts ≡ counts
    whole = ap (λ k. take k counts) (sym is) ∙ sym (append-nil (take (length counts) counts)) ∙ ap (λ l. take (length counts) counts ++ l) (sym (past counts)) ∙ take-append-drop (length counts) counts
      where
        past : {X : Type 0} (xs : List X) → drop (length xs) xs ≡ []
        past [] = refl
        past (x ∷ xs) = past xs

pub some_found : (counts : List Counted) (i : ℕ) (c : Counted) (o : Option MetricId) → i < length counts → c ≡ get_or counts i c → filter (is_waiting counts) (all_posts (take i counts)) ≡ []
    → o ≡ first_metric (filter (is_waiting counts) (posted_by c)) → is_some o ≡ true → o ≡ longest_waiting counts
some_found counts i c None lt is before found some = absurd (false≢true some)
some_found counts i c (Some m) lt is before found some = sym (first_found counts i c m lt is before (sym found))

-- an entry that is a post
pub post_first : (counts : List Counted) (c : Counted) (n : ℕ) (m : MetricId) (measures : List Measure) → c ≡ counted.Post n m measures
    → is_waiting counts (record { number = n; metric = m; measures = measures }) ≡ true → first_metric (filter (is_waiting counts) (posted_by c)) ≡ Some m
post_first counts c n m measures is waits =
    ap (λ e. first_metric (filter (is_waiting counts) (posted_by e))) is
    ∙ ap first_metric (filter-keep (is_waiting counts) (record { number = n; metric = m; measures = measures }) [] waits)

pub post_none : (counts : List Counted) (c : Counted) (n : ℕ) (m : MetricId) (measures : List Measure) → c ≡ counted.Post n m measures
    → is_waiting counts (record { number = n; metric = m; measures = measures }) ≡ false → first_metric (filter (is_waiting counts) (posted_by c)) ≡ None
post_none counts c n m measures is waits =
    ap (λ e. first_metric (filter (is_waiting counts) (posted_by e))) is
    ∙ ap first_metric (filter-skip (is_waiting counts) (record { number = n; metric = m; measures = measures }) [] waits)
