-- A life is made of what followed the last `Create`.
use Rattle.std.proofs.Common.{◌≡◌, ℕ, Bool, true, false, cond, eqb, List, [], ◌∷◌, ◌++◌, Option, Some, None, refl, sym, ap, subst, ◌∙◌, append-nil, append_assoc}
use Rattle.std.specs.Option.{option_map}
use Rattle.std.specs.List.{All, filter}
use Rattle.std.proofs.Math.Logic.{⊎_elim}
use Rattle.std.proofs.lemmas.Bool.{cases_eq, eq-eqb, ne_eqb}
use Rattle.std.proofs.lemmas.List.Elements.{All-append, All-cons, All-nil, All-tail, All-head, filter-append}
use Rattle.std.proofs.lemmas.List.Sums.{fold-append}
use Rattle.std.proofs.lemmas.Option.{none-some, same_Some}
use Rattle.archive_policy.specs.Policies.{ArchivePolicy}
use Rattle.series_model.specs.declared.metric.MetricId.{MetricId}
use Rattle.series_model.proofs.ByKey.{filter-keep, filter-skip}
use Rattle.sack_history.specs.declared.entry.Counted.{Counted}
use Rattle.sack_history.specs.declared.entry.Counted.TheVariants as counted
use Rattle.sack_history.specs.Legal.{FollowOn}
use Rattle.sack_history.specs.Lives.{IsLastLife, IsWithinLife, Life, Posted, all_posts, born, done_by, done_up_to, is_to, last_after, last_done, last_post, life_after, life_of, life_onto, life_since, posted_by, life_with}
use Rattle.sack_history.proofs.Following.{induction}
use Rattle.sack_history.proofs.Living.{all_posts-more, life-created, life-more, onto-append, same_id}

-- ---- an entry within a life

-- what it makes of the life
abbrev grown : MetricId → Life → Counted → Life
grown m life c = record { policy = life.policy; done = done_by m life.done c; posts = life.posts ++ filter (is_to m) (posted_by c) }

same_posts : (life : Life) → life ≡ record { policy = life.policy; done = life.done; posts = life.posts ++ [] }
same_posts life = ap (λ l. let x : Life = record { policy = life.policy; done = life.done; posts = l } in x) (sym (append-nil life.posts))

within_grows : (m : MetricId) (last : ℕ) (life : Life) (c : Counted) → IsWithinLife m c → life_after m last (Some life) c ≡ Some (grown m life c)
within_grows m last life (counted.Create k policy) within =
    ap (λ b. cond b (Some (born policy last)) (Some life)) (ne_eqb k.0 m.0 (λ is. within (same_id k m is))) ∙ ap Some (same_posts life)
within_grows m last life (counted.Post n k measures) within = by (eqb k.0 m.0) refl
  where
    p : Posted
    p = record { number = n; metric = k; measures = measures }

    by : (b : Bool) → eqb k.0 m.0 ≡ b → cond (eqb k.0 m.0) (Some (life_with (record { number = n; metric = k; measures = measures }) life)) (Some life) ≡ Some (grown m life (counted.Post n k measures))
    by true is =
        ap (λ b. cond b (Some (life_with (record { number = n; metric = k; measures = measures }) life)) (Some life)) is
        ∙ ap (λ l. Some (let x : Life = record { policy = life.policy; done = life.done; posts = life.posts ++ l } in x)) (sym (filter-keep (is_to m) (record { number = n; metric = k; measures = measures }) [] is))
    by false is =
        ap (λ b. cond b (Some (life_with (record { number = n; metric = k; measures = measures }) life)) (Some life)) is
        ∙ ap Some (same_posts life)
        ∙ ap (λ l. Some (let x : Life = record { policy = life.policy; done = life.done; posts = life.posts ++ l } in x)) (sym (filter-skip (is_to m) (record { number = n; metric = k; measures = measures }) [] is))
within_grows m last life (counted.Done k upto) within = by (eqb k.0 m.0) ∙ ap Some (same_posts (record { policy = life.policy; done = cond (eqb k.0 m.0) upto life.done; posts = life.posts }))
  where
    by : (b : Bool) → cond b (Some (done_up_to upto life)) (Some life) ≡ Some (record { policy = life.policy; done = cond b upto life.done; posts = life.posts })
    by true = refl
    by false = refl
within_grows m last life (counted.Drop k) within =
    ap (λ b. cond b None (Some life)) (ne_eqb k.0 m.0 (λ is. within (same_id k m is))) ∙ ap Some (same_posts life)

-- ---- what follows a `Create`

-- what entries within a life make of it
abbrev grown_by : MetricId → Life → List Counted → Life
grown_by m life since = record { policy = life.policy; done = last_done m life.done since; posts = life.posts ++ filter (is_to m) (all_posts since) }

follows : (m : MetricId) (last : ℕ) (life : Life) (since : List Counted) → All (IsWithinLife m) since → life_onto m last (Some life) since ≡ Some (grown_by m life since)
follows m last life [] within = ap Some (same_posts life)
follows m last life (c ∷ since) within =
    ap (λ o. life_onto m (last_after last c) o since) (within_grows m last life c (All-head (IsWithinLife m) c since within))
    ∙ follows m (last_after last c) (grown m life c) since (All-tail (IsWithinLife m) c since within)
    ∙ ap (λ l. Some (let x : Life = record { policy = life.policy; done = last_done m (done_by m life.done c) since; posts = l } in x))
    (append_assoc life.posts (filter (is_to m) (posted_by c)) (filter (is_to m) (all_posts since)) ∙ ap (λ l. life.posts ++ l) (sym (filter-append (is_to m) (posted_by c) (all_posts since))))

pub life_that_followed : (m : MetricId) (before : List Counted) (policy : ArchivePolicy) (since : List Counted) → All (IsWithinLife m) since
    → life_of m (before ++ counted.Create m policy ∷ since) ≡ Some (life_since m before policy since)
life_that_followed m before policy since within =
    onto-append m 0 None before (counted.Create m policy ∷ since)
    ∙ ap (λ b. life_onto m (last_post before) (cond b (Some (born policy (last_post before))) (life_of m before)) since) (eq-eqb m.0 m.0 refl)
    ∙ follows m (last_post before) (born policy (last_post before)) since within

-- ---- a live metric has one

begun : (m : MetricId) (xs : List Counted) (policy : ArchivePolicy) → IsLastLife m (xs ++ counted.Create m policy ∷ []) (born policy (last_post xs))
begun m xs policy = record { before = xs; policy = policy; since = []; parts = refl; within = All-nil (IsWithinLife m); life_is = refl }

one_more : (m : MetricId) (xs : List Counted) (c : Counted) (life : Life) → IsWithinLife m c → IsLastLife m xs life → IsLastLife m (xs ++ c ∷ []) (grown m life c)
one_more m xs c life within h = record {
  before = h.before;
  policy = h.policy;
  since = h.since ++ c ∷ [];
  parts = ap (λ l. l ++ c ∷ []) h.parts ∙ append_assoc h.before (counted.Create m h.policy ∷ h.since) (c ∷ []);
  within = All-append (IsWithinLife m) h.since (c ∷ []) h.within (All-cons (IsWithinLife m) c [] within (All-nil (IsWithinLife m)));
  life_is =
      ap (λ l. grown m l c) h.life_is
      ∙ ap (λ d. let x : Life = record { policy = h.policy; done = d; posts = filter (is_to m) (all_posts h.since) ++ filter (is_to m) (posted_by c) } in x) (sym (fold-append (done_by m) (last_post h.before) h.since (c ∷ [])))
      ∙ ap (λ l. let x : Life = record { policy = h.policy; done = last_done m (last_post h.before) (h.since ++ c ∷ []); posts = l } in x)
      (sym (ap (filter (is_to m)) (all_posts-more h.since c) ∙ filter-append (is_to m) (all_posts h.since) (posted_by c)));
}

-- what an entry that isn't a `Create` of the metric makes of a life that it had
stepped : (m : MetricId) (xs : List Counted) (c : Counted) (life : Life) → IsWithinLife m c → ((l : Life) → life_of m xs ≡ Some l → IsLastLife m xs l)
    → ((last : ℕ) → life_after m last None c ≡ None) → life_of m (xs ++ c ∷ []) ≡ Some life → IsLastLife m (xs ++ c ∷ []) life
stepped m xs c life within before none is = by (life_of m xs) refl
  where
    by : (o : Option Life) → life_of m xs ≡ o → IsLastLife m (xs ++ c ∷ []) life
    by None e = absurd (none-some life (sym (none (last_post xs)) ∙ ap (λ o. life_after m (last_post xs) o c) (sym e) ∙ sym (life-more m xs c) ∙ is))
    by (Some l) e =
        subst (IsLastLife m (xs ++ c ∷ []))
        (same_Some (grown m l c) life (sym (within_grows m (last_post xs) l c within) ∙ ap (λ o. life_after m (last_post xs) o c) (sym e) ∙ sym (life-more m xs c) ∙ is))
        (one_more m xs c l within (before l e))

module _ (m : MetricId) where
  abbrev Known : List Counted → Type 0
  Known counts = (life : Life) → life_of m counts ≡ Some life → IsLastLife m counts life

  next : (xs : List Counted) (c : Counted) → Known xs → Known (xs ++ c ∷ [])
  next xs (counted.Create k policy) known life is = ⊎_elim own other (cases_eq k.0 m.0)
    where
      own : k.0 ≡ m.0 → IsLastLife m (xs ++ counted.Create k policy ∷ []) life
      own same =
          let e : k ≡ m = same_id k m same in
          subst (λ (x : MetricId). IsLastLife m (xs ++ counted.Create x policy ∷ []) life) (sym e)
          (subst (IsLastLife m (xs ++ counted.Create m policy ∷ []))
          (same_Some (born policy (last_post xs)) life (sym (life-created m policy xs) ∙ ap (λ (x : MetricId). life_of m (xs ++ counted.Create x policy ∷ [])) (sym e) ∙ is))
          (begun m xs policy))

      other : (k.0 ≡ m.0 → ⊥) → IsLastLife m (xs ++ counted.Create k policy ∷ []) life
      other is_not =
          stepped m xs (counted.Create k policy) life (λ e. is_not (ap (λ (x : MetricId). x.0) e)) known
          (λ last. ap (λ b. cond b (Some (born policy last)) None) (ne_eqb k.0 m.0 is_not)) is
  next xs (counted.Post n k measures) known life is = stepped m xs (counted.Post n k measures) life tt known (λ last. by (eqb k.0 m.0)) is
    where
      by : (b : Bool) → cond b (option_map (life_with (record { number = n; metric = k; measures = measures })) None) None ≡ None
      by true = refl
      by false = refl
  next xs (counted.Done k upto) known life is = stepped m xs (counted.Done k upto) life tt known (λ last. by (eqb k.0 m.0)) is
    where
      by : (b : Bool) → cond b (option_map (done_up_to upto) None) None ≡ None
      by true = refl
      by false = refl
  next xs (counted.Drop k) known life is = ⊎_elim own other (cases_eq k.0 m.0)
    where
      own : k.0 ≡ m.0 → IsLastLife m (xs ++ counted.Drop k ∷ []) life
      own same = absurd (none-some life (sym (life-more m xs (counted.Drop k) ∙ ap (λ b. cond b None (life_of m xs)) (eq-eqb k.0 m.0 same)) ∙ is))

      other : (k.0 ≡ m.0 → ⊥) → IsLastLife m (xs ++ counted.Drop k ∷ []) life
      other is_not =
          stepped m xs (counted.Drop k) life (λ e. is_not (ap (λ (x : MetricId). x.0) e)) known (λ last. ap (λ b. cond b None None) (ne_eqb k.0 m.0 is_not)) is

  any_follows : (before xs : List Counted) → FollowOn (λ l c. Unit {0}) before xs
  any_follows before [] = tt
  any_follows before (x ∷ xs) = (tt, any_follows (before ++ x ∷ []) xs)

  pub last_life : (counts : List Counted) (life : Life) → life_of m counts ≡ Some life → IsLastLife m counts life
  last_life counts = induction (λ l c. Unit {0}) Known (λ life is. absurd (none-some life is)) (λ xs c legal known may. next xs c known) counts (any_follows [] counts)
