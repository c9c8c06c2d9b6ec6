-- Members of resources, one after another.
use Rattle.std.proofs.Common.{◌≡◌, ℕ, zero, suc, ◌+◌, ◌<◌, Bool, true, false, cond, List, [], ◌∷◌, ◌++◌, length, get_or, set, take, drop, refl, sym, ap, subst, ◌∙◌, arith}
use Rattle.std.specs.List.{AllByRecursion, filter, fold}
use Rattle.std.proofs.lemmas.List.{set_split, take_more}
use Rattle.std.proofs.lemmas.Cmp.{nat_list_cmp_total}
use Rattle.std.specs.declared.cmp.Ordering.{Ordering}
use Rattle.series_model.specs.declared.metric.MetricId.{MetricId}
use Rattle.front_api.specs.declared.command.MetricDoc.{MetricDoc}
use Rattle.front_api.specs.Maps.{is_in}
use Rattle.front_api.specs.Replies.{with_member}
use Rattle.front_api.specs.Tables.{Rises, below, name_cmp, put}
use Rattle.front_api.proofs.SortedTables.{Rises-put}
use Rattle.metric_index.specs.Catalog.{IsNamed}
use Rattle.metric_index.specs.Places.{StandsAt}

pub replaced_at : {X : Type 0} (order : X → Ordering) (xs : List X) (i : ℕ) (x : X) → StandsAt order xs i → set xs i x ≡ put order x xs
replaced_at order xs i x s =
    set_split xs i x s.inside ∙ ap (λ (l : List _). l ++ x ∷ drop (suc i) xs) (sym s.lower) ∙ ap (λ (u : List _). below order xs ++ x ∷ u) (sym s.upper)

abbrev Members : Type 0
Members = List (List ℕ × MetricId)

pub members_rise : (name : List ℕ) (id : MetricId) (xs : Members) → Rises name_cmp (λ m. m.0) xs → Rises name_cmp (λ m. m.0) (put (λ m. name_cmp m.0 name) (name, id) xs)
members_rise name id xs s = Rises-put name_cmp nat_list_cmp_total (λ (m : List ℕ × MetricId). m.0) name (name, id) xs refl s

-- the fold over a list with one more at its end
fold-push : {A B : Type 0} (f : A → B → A) (a : A) (xs : List B) (x : B) → fold f a (xs ++ x ∷ []) ≡ f (fold f a xs) x
fold-push f a [] x = refl
fold-push f a (y ∷ xs) x = fold-push f (f a y) xs x

push_step : {X : Type 0} (b : Bool) (y : X) (xs ys : List X) → cond b (y ∷ (xs ++ ys)) (xs ++ ys) ≡ cond b (y ∷ xs) xs ++ ys
push_step true y xs ys = refl
push_step false y xs ys = refl

filter-push : {X : Type 0} (p : X → Bool) (xs : List X) (x : X) → filter p (xs ++ x ∷ []) ≡ filter p xs ++ cond (p x) (x ∷ []) []
filter-push p [] x = by (p x)
  where
    by : (b : Bool) → cond b (x ∷ []) [] ≡ [] ++ cond b (x ∷ []) []
    by true = refl
    by false = refl
filter-push p (y ∷ xs) x = ap (λ (l : List _). cond (p y) (y ∷ l) l) (filter-push p xs x) ∙ push_step (p y) y (filter p xs) (cond (p x) (x ∷ []) [])

one_more : (b : Bool) (xs : List MetricDoc) (x : MetricDoc) → fold with_member [] (xs ++ cond b (x ∷ []) []) ≡ cond b (with_member (fold with_member [] xs) x) (fold with_member [] xs)
one_more true xs x = fold-push with_member [] xs x
one_more false xs x = ap (fold with_member []) (nothing_more xs)
  where
    nothing_more : (ys : List MetricDoc) → ys ++ [] ≡ ys
    nothing_more [] = refl
    nothing_more (y ∷ ys) = ap (λ (l : List MetricDoc). y ∷ l) (nothing_more ys)

-- the members after one metric more
pub members_more : (resource : ℕ) (docs : List MetricDoc) (i : ℕ) (doc : MetricDoc) (old new : Members) → i < length docs → get_or docs i doc ≡ doc
    → old ≡ fold with_member [] (filter (is_in resource) (take i docs)) → new ≡ cond (is_in resource doc) (with_member old doc) old
    → new ≡ fold with_member [] (filter (is_in resource) (take (i + 1) docs))
members_more resource docs i doc old new lt is are step =
    step
    ∙ ap (λ (m : Members). cond (is_in resource doc) (with_member m doc) m) are
    ∙ sym (one_more (is_in resource doc) (filter (is_in resource) (take i docs)) doc)
    ∙ ap (fold with_member []) (sym (filter-push (is_in resource) (take i docs) doc))
    ∙ ap (λ (l : List MetricDoc). fold with_member [] (filter (is_in resource) l)) (ap (λ (x : MetricDoc). take i docs ++ x ∷ []) (sym is) ∙ sym (take_more docs i doc lt))

named_at : (docs : List MetricDoc) (i : ℕ) (d : MetricDoc) → AllByRecursion IsNamed docs → i < length docs → IsNamed (get_or docs i d)
named_at [] i d all lt = absurd (omega arith)
named_at (x ∷ docs) zero d all lt = all.0
named_at (x ∷ docs) (suc i) d all lt = named_at docs i d all.1 (omega arith)

pub named_item : (docs : List MetricDoc) (i : ℕ) (doc : MetricDoc) → AllByRecursion IsNamed docs → i < length docs → doc ≡ get_or docs i doc → IsNamed doc
named_item docs i doc all lt is = subst IsNamed (sym is) (named_at docs i doc all lt)
