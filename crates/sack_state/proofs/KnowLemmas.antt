-- What the books of a sack know of its history.
use Rattle.std.proofs.Common.{◌≡◌, inl, inr, ℕ, ◌+◌, ◌<◌, Bool, true, false, cond, eqb, ltb, not, ◌&&◌, List, [], ◌∷◌, ◌++◌, map, Option, Some, None, refl, sym, ap, ◌∙◌, arith}
use Rattle.std.specs.List.{filter}
use Rattle.std.specs.Option.{IfSome, is_some, option_map}
use Rattle.std.proofs.lemmas.Bool.{and_from, and_parts, cases_Bool, eq-eqb, eqb-true, false≢true, lt-ltb, not-false}
use Rattle.std.proofs.lemmas.List.{map-append}
use Rattle.std.proofs.lemmas.List.Elements.{filter-append}
use Rattle.series_model.specs.declared.measure.Measure.{Measure}
use Rattle.series_model.specs.declared.metric.MetricId.{MetricId}
use Rattle.incoming.specs.declared.mark.Mark.{Mark}
use Rattle.incoming.specs.Posts.{Post, mark_of, marks_of}
use Rattle.split_update.specs.Live.{Live, live_from_scratch}
use Rattle.shelf_records.specs.Shelved.{Shelved, metric_of}
use Rattle.sack_history.specs.declared.entry.Counted.{Counted}
use Rattle.sack_history.specs.declared.entry.Counted.TheVariants as counted
use Rattle.sack_history.specs.Legal.{IsLegalCount, MayCount, MayPost}
use Rattle.sack_history.specs.Lives.{Life, Posted, batches_of, born, done_in, done_of, done_up_to, is_live, last_post, life_of, live_ids, next_post, pending_posts}
use Rattle.sack_history.specs.Scratch.{durable, live_of, metrics_from_scratch}
use Rattle.sack_history.proofs.Living.{last_post-more, life-created, life-done, life-dropped}
use Rattle.sack_history.proofs.Posting.{behind}
use Rattle.sack_history.proofs.Stating.{metrics-posted, pending_posts-posted, scratch_found, scratch_ids}
use Rattle.sack_history.proofs.Turning.{done_later}
use Rattle.sack_state.specs.declared.books.Books.{Books}
use Rattle.sack_state.specs.Committing.{done_in_record}
use Rattle.sack_state.specs.Posting.{knows}
use Rattle.sack_state.specs.SackHolding.{posted_of, waiting_among, waits_among, waits_for}
use Rattle.sack_state.specs.SackView.{Remembers, Standing, is_above_done, mark_by, marks_waiting, standing_by, standing_of}

-- ---- the metrics

ids_by : (metrics : List Shelved) → map (λ (m : Shelved). m.id) metrics ≡ map (λ (s : Standing). s.id) (map standing_by metrics)
ids_by [] = refl
ids_by (m ∷ metrics) = ap (λ l. m.id ∷ l) (ids_by metrics)

ids_of : (lives : List Live) → map (λ (s : Standing). s.id) (map standing_of lives) ≡ map (λ (l : Live). l.id) lives
ids_of [] = refl
ids_of (l ∷ lives) = ap (λ ids. l.id ∷ ids) (ids_of lives)

pub ids_known : {D : Type 0} (b : Books D) (counts : List Counted) → Remembers b (durable counts) → map (λ (m : Shelved). m.id) b.shelf.metrics ≡ live_ids counts
ids_known b counts remembers = ids_by b.shelf.metrics ∙ ap (map (λ (s : Standing). s.id)) remembers.standings ∙ ids_of (metrics_from_scratch counts) ∙ scratch_ids counts

pub some_map : {A B : Type 0} (f : A → B) (o : Option A) → is_some (option_map f o) ≡ is_some o
some_map f None = refl
some_map f (Some x) = refl

-- ---- done numbers

-- the done number of a metric
abbrev done_among : MetricId → List Standing → Option ℕ
done_among m [] = None
done_among m (s ∷ standings) = cond (eqb s.id.0 m.0) (Some s.done) (done_among m standings)

done_live : (m : MetricId) (lives : List Live) → done_among m (map standing_of lives) ≡ option_map (λ (l : Live). l.done) (live_of m lives)
done_live m [] = refl
done_live m (l ∷ lives) = by (eqb l.id.0 m.0) (done_live m lives)
  where
    by : (b : Bool) → done_among m (map standing_of lives) ≡ option_map (λ (l : Live). l.done) (live_of m lives) → cond b (Some l.done) (done_among m (map standing_of lives)) ≡ option_map (λ (l : Live). l.done) (cond b (Some l) (live_of m lives))
    by true rest = refl
    by false rest = rest

done_life : (m : MetricId) (batches : List (List Measure)) (o : Option Life) → option_map (λ (l : Live). l.done) (option_map (λ (life : Life). live_from_scratch m life.policy life.done batches) o) ≡ option_map (λ (life : Life). life.done) o
done_life m batches None = refl
done_life m batches (Some life) = refl

done_standing : (counts : List Counted) (m : MetricId) → done_among m (map standing_of (metrics_from_scratch counts)) ≡ option_map (λ (life : Life). life.done) (life_of m counts)
done_standing counts m =
    done_live m (metrics_from_scratch counts) ∙ ap (option_map (λ (l : Live). l.done)) (scratch_found counts m) ∙ done_life m (batches_of m counts) (life_of m counts)

known_among : (m : MetricId) (metrics : List Shelved) → is_some (metric_of m metrics) ≡ is_some (done_among m (map standing_by metrics))
known_among m [] = refl
known_among m (x ∷ metrics) = by (eqb x.id.0 m.0) (known_among m metrics)
  where
    by : (b : Bool) → is_some (metric_of m metrics) ≡ is_some (done_among m (map standing_by metrics)) → is_some (cond b (Some x) (metric_of m metrics)) ≡ is_some (cond b (Some x.done) (done_among m (map standing_by metrics)))
    by true rest = refl
    by false rest = rest

pub none_known : {A : Type 0} (o : Option A) → is_some o ≡ false → o ≡ None
none_known None e = refl
none_known (Some x) e = absurd cc

-- a metric is known where it is live
pub knows_live : {D : Type 0} (b : Books D) (counts : List Counted) (m : MetricId) → Remembers b (durable counts) → knows m b ≡ is_live m counts
knows_live b counts m remembers =
    known_among m b.shelf.metrics ∙ ap (λ l. is_some (done_among m l)) remembers.standings ∙ ap is_some (done_standing counts m) ∙ some_map _ (life_of m counts)

-- its done number, 0 where it isn't live
abbrev number_or : Option ℕ → ℕ
number_or None = 0
number_or (Some n) = n

done_by_records : (m : MetricId) (metrics : List Shelved) → done_in_record (metric_of m metrics) ≡ number_or (done_among m (map standing_by metrics))
done_by_records m [] = refl
done_by_records m (x ∷ metrics) = by (eqb x.id.0 m.0) (done_by_records m metrics)
  where
    by : (b : Bool) → done_in_record (metric_of m metrics) ≡ number_or (done_among m (map standing_by metrics)) → done_in_record (cond b (Some x) (metric_of m metrics)) ≡ number_or (cond b (Some x.done) (done_among m (map standing_by metrics)))
    by true rest = refl
    by false rest = rest

done_by_life : (o : Option Life) → number_or (option_map (λ (life : Life). life.done) o) ≡ done_in o
done_by_life None = refl
done_by_life (Some life) = refl

pub done_known : {D : Type 0} (b : Books D) (counts : List Counted) (m : MetricId) → Remembers b (durable counts) → done_in_record (metric_of m b.shelf.metrics) ≡ done_of m counts
done_known b counts m remembers =
    done_by_records m b.shelf.metrics ∙ ap (λ l. number_or (done_among m l)) remembers.standings ∙ ap number_or (done_standing counts m) ∙ done_by_life (life_of m counts)

-- ---- which posts wait

-- whether a number is above a done number that there may be
abbrev above_some : Option ℕ → ℕ → Bool
above_some None number = false
above_some (Some done) number = ltb done number

above_shelved : (m : MetricId) (number : ℕ) (metrics : List Shelved) → is_above_done (metric_of m metrics) number ≡ above_some (done_among m (map standing_by metrics)) number
above_shelved m number [] = refl
above_shelved m number (x ∷ metrics) = by (eqb x.id.0 m.0) (above_shelved m number metrics)
  where
    by : (b : Bool) → is_above_done (metric_of m metrics) number ≡ above_some (done_among m (map standing_by metrics)) number
        → is_above_done (cond b (Some x) (metric_of m metrics)) number ≡ above_some (cond b (Some x.done) (done_among m (map standing_by metrics))) number
    by true rest = refl
    by false rest = rest

above_living : (m : MetricId) (number : ℕ) (lives : List Live) → waits_for number (live_of m lives) ≡ above_some (done_among m (map standing_of lives)) number
above_living m number [] = refl
above_living m number (l ∷ lives) = by (eqb l.id.0 m.0) (above_living m number lives)
  where
    by : (b : Bool) → waits_for number (live_of m lives) ≡ above_some (done_among m (map standing_of lives)) number
        → waits_for number (cond b (Some l) (live_of m lives)) ≡ above_some (cond b (Some l.done) (done_among m (map standing_of lives))) number
    by true rest = refl
    by false rest = rest

chosen : (c : Bool) (p : Post) (marks : List Mark) (waiting : List Posted) → marks ≡ map mark_by waiting → cond c (mark_of p ∷ marks) marks ≡ map mark_by (cond c (posted_of p ∷ waiting) waiting)
chosen true p marks waiting is = ap (λ l. mark_of p ∷ l) is
chosen false p marks waiting is = is

-- those that wait by the marks are those that wait by the live metrics
pub waiting_known : {D : Type 0} (b : Books D) (lives : List Live) (posts : List Post) → b.incoming.marks ≡ marks_of posts → map standing_by b.shelf.metrics ≡ map standing_of lives
    → marks_waiting b ≡ map mark_by (waiting_among lives posts)
waiting_known b lives posts marks same = ap (filter waits) marks ∙ all posts
  where
    waits : Mark → Bool
    waits = λ (mark : Mark). is_above_done (metric_of mark.metric b.shelf.metrics) mark.number

    one : (p : Post) → waits (mark_of p) ≡ waits_among lives (posted_of p)
    one p = above_shelved p.metric p.number b.shelf.metrics ∙ ap (λ ss. above_some (done_among p.metric ss) p.number) same ∙ sym (above_living p.metric p.number lives)

    all : (ps : List Post) → filter waits (marks_of ps) ≡ map mark_by (waiting_among lives ps)
    all [] = refl
    all (p ∷ ps) =
        ap (λ c. cond c (mark_of p ∷ filter waits (marks_of ps)) (filter waits (marks_of ps))) (one p)
        ∙ chosen (waits_among lives (posted_of p)) p (filter waits (marks_of ps)) (waiting_among lives ps) (all ps)

-- by the same metrics and marks the same posts wait
pub same_waiting : {D : Type 0} (old new : Books D) → new.shelf.metrics ≡ old.shelf.metrics → new.incoming.marks ≡ old.incoming.marks → marks_waiting new ≡ marks_waiting old
same_waiting old new metrics marks =
    ap (λ ms. filter (λ (mark : Mark). is_above_done (metric_of mark.metric ms) mark.number) new.incoming.marks) metrics
    ∙ ap (filter (λ (mark : Mark). is_above_done (metric_of mark.metric old.shelf.metrics) mark.number)) marks

-- ---- what a change changes

abbrev pub standings : List Counted → List Standing
standings counts = map standing_of (metrics_from_scratch counts)

module _ (counts : List Counted) (more : Counted) (same : standings counts ≡ standings (counts ++ more ∷ [])) where
  same_done : (m : MetricId) → option_map (λ (life : Life). life.done) (life_of m counts) ≡ option_map (λ (life : Life). life.done) (life_of m (counts ++ more ∷ []))
  same_done m = sym (done_standing counts m) ∙ ap (done_among m) same ∙ done_standing (counts ++ more ∷ []) m

created_differs : (o : Option Life) (k : Life) → o ≡ None → option_map (λ (life : Life). life.done) o ≡ Some k.done → ⊥
created_differs None k is e = absurd cc
created_differs (Some life) k is e = absurd cc

dropped_differs : (o : Option Life) → is_some o ≡ true → option_map (λ (life : Life). life.done) o ≡ None → ⊥
dropped_differs None is e = absurd cc
dropped_differs (Some life) is e = absurd cc

done_differs : (o : Option Life) (u : ℕ) → is_some o ≡ true → done_in o < u → option_map (λ (life : Life). life.done) o ≡ option_map (λ (life : Life). life.done) (option_map (done_up_to u) o) → ⊥
done_differs None u is lt e = absurd cc
done_differs (Some life) u is lt e = absurd (let same : life.done ≡ u = cc in omega (arith, same, lt))

-- The number of the next post, or the live metrics with their done numbers, differ once more counts.
pub changes : (counts : List Counted) (more : Counted) → IsLegalCount counts → MayCount counts more → next_post counts ≡ next_post (counts ++ more ∷ []) → standings counts ≡ standings (counts ++ more ∷ []) → ⊥
changes counts (counted.Create m policy) legal may next same =
    created_differs (life_of m counts) (born policy (last_post counts)) may.absent (same_done counts (counted.Create m policy) same m ∙ ap (option_map (λ (life : Life). life.done)) (life-created m policy counts))
changes counts (counted.Post n m measures) legal may next same =
    absurd (let is = may.number_is in let after = last_post-more counts (counted.Post n m measures) in omega (arith, next, is, after))
changes counts (counted.Done m u) legal may next same =
    done_differs (life_of m counts) u may.live (done_later m u counts may) (same_done counts (counted.Done m u) same m ∙ ap (option_map (λ (life : Life). life.done)) (life-done m u counts))
changes counts (counted.Drop m) legal may next same =
    dropped_differs (life_of m counts) may (same_done counts (counted.Drop m) same m ∙ ap (option_map (λ (life : Life). life.done)) (life-dropped m counts))

-- ---- whether books differ from others in what they know

abbrev pub same_standings : List Standing → List Standing → Bool
same_standings [] [] = true
same_standings [] (t ∷ ts) = false
same_standings (s ∷ ss) [] = false
same_standings (s ∷ ss) (t ∷ ts) = (eqb s.id.0 t.id.0 && eqb s.done t.done) && same_standings ss ts

same-standings : (ss : List Standing) → same_standings ss ss ≡ true
same-standings [] = refl
same-standings (s ∷ ss) = and_from _ _ (and_from (eqb s.id.0 s.id.0) (eqb s.done s.done) (eq-eqb s.id.0 s.id.0 refl) (eq-eqb s.done s.done refl)) (same-standings ss)

standing_is : (s t : Standing) → s.id.0 ≡ t.id.0 → s.done ≡ t.done → s ≡ t
standing_is s t id done = ap (λ (n : ℕ). let r : Standing = record { id = record { 0 = n }; done = s.done } in r) id ∙ ap (λ (n : ℕ). let r : Standing = record { id = t.id; done = n } in r) done

standings_are : (ss ts : List Standing) → same_standings ss ts ≡ true → ss ≡ ts
standings_are [] [] e = refl
standings_are [] (t ∷ ts) e = absurd cc
standings_are (s ∷ ss) [] e = absurd cc
standings_are (s ∷ ss) (t ∷ ts) e =
    let parts = and_parts (eqb s.id.0 t.id.0 && eqb s.done t.done) (same_standings ss ts) e in
    let heads = and_parts (eqb s.id.0 t.id.0) (eqb s.done t.done) parts.0 in
    ap (λ (x : Standing). x ∷ ss) (standing_is s t (eqb-true s.id.0 t.id.0 heads.0) (eqb-true s.done t.done heads.1)) ∙ ap (λ (l : List Standing). t ∷ l) (standings_are ss ts parts.1)

-- whether the books know another next number, or other metrics or done numbers
abbrev pub differ : {D : Type 0} → Books D → Books D → Bool
differ old new = not (eqb old.incoming.next new.incoming.next && same_standings (map standing_by old.shelf.metrics) (map standing_by new.shelf.metrics))

module _ {D : Type 0} (old new : Books D) (counts : List Counted) (before : Remembers old (durable counts)) where
  pub differ_none : Remembers new (durable counts) → differ old new ≡ false
  differ_none now = ap not (and_from _ _ (eq-eqb old.incoming.next new.incoming.next (before.next ∙ sym now.next))
      (ap (λ l. same_standings l (map standing_by new.shelf.metrics)) (before.standings ∙ sym now.standings) ∙ same-standings (map standing_by new.shelf.metrics)))

  pub differ_more : (more : Counted) → IsLegalCount counts → MayCount counts more → Remembers new (durable (counts ++ more ∷ [])) → differ old new ≡ true
  differ_more more legal may now = elim (cases_Bool (differ old new)) [
    | inl is ↦ is
    | inr none ↦
        let both = and_parts (eqb old.incoming.next new.incoming.next) (same_standings (map standing_by old.shelf.metrics) (map standing_by new.shelf.metrics)) (not-false _ none) in
        absurd (changes counts more legal may
        (sym before.next ∙ eqb-true old.incoming.next new.incoming.next both.0 ∙ now.next)
        (sym before.standings ∙ standings_are (map standing_by old.shelf.metrics) (map standing_by new.shelf.metrics) both.1 ∙ now.standings))
  ]

-- ---- posts

waits_by : (m : MetricId) (number : ℕ) (batches : List (List Measure)) (o : Option Life) → is_some o ≡ true → IfSome o (λ (life : Life). life.done < number)
    → waits_for number (option_map (λ (life : Life). live_from_scratch m life.policy life.done batches) o) ≡ true
waits_by m number batches None some lt = absurd (false≢true some)
waits_by m number batches (Some life) some lt = lt-ltb life.done number lt

module _ (m : MetricId) (number : ℕ) (measures : List Measure) (counts : List Counted) (legal : IsLegalCount counts) (may : MayPost counts number m measures) where
  abbrev pub post : Post
  post = record { number = number; metric = m; measures = measures }

  abbrev pub later : List Counted
  later = counts ++ counted.Post number m measures ∷ []

  new_waits : waits_among (metrics_from_scratch counts) (posted_of post) ≡ true
  new_waits = ap (waits_for number) (scratch_found counts m) ∙ waits_by m number (batches_of m counts) (life_of m counts) may.live (behind m number measures counts legal may)

  waiting_more : (posts : List Post) → waiting_among (metrics_from_scratch counts) (posts ++ post ∷ []) ≡ waiting_among (metrics_from_scratch counts) posts ++ posted_of post ∷ []
  waiting_more posts =
      ap (filter (waits_among (metrics_from_scratch counts))) (map-append posted_of posts (post ∷ []))
      ∙ filter-append (waits_among (metrics_from_scratch counts)) (map posted_of posts) (posted_of post ∷ [])
      ∙ ap (λ (b : Bool). waiting_among (metrics_from_scratch counts) posts ++ cond b (posted_of post ∷ []) []) new_waits

  pub later_metrics : metrics_from_scratch later ≡ metrics_from_scratch counts
  later_metrics = metrics-posted counts m number measures legal may

  pub later_next : next_post later ≡ next_post counts + 1
  later_next = ap (λ n. n + 1) (last_post-more counts (counted.Post number m measures) ∙ may.number_is)

  -- with the post at the end of the log, it is the last one that waits
  pub later_pending : (posts : List Post) → pending_posts counts ≡ waiting_among (metrics_from_scratch counts) posts → pending_posts later ≡ waiting_among (metrics_from_scratch later) (posts ++ post ∷ [])
  later_pending posts is =
      pending_posts-posted counts m number measures legal may
      ∙ ap (λ l. l ++ posted_of post ∷ []) is
      ∙ sym (waiting_more posts)
      ∙ ap (λ ms. waiting_among ms (posts ++ post ∷ [])) (sym later_metrics)
