-- What one entry more does to what a history says.
use Rattle.std.specs.Prelude.{◌≡◌, ℕ, ◌+◌, ◌<◌, nat_le, nat_lt, ◌==◌, Bool, true, false, if◌then◌else◌, List, [], ◌∷◌, ◌++◌, map, Option, refl}
use Rattle.std.specs.List.{filter}
use Rattle.std.proofs.Common.{sym, ap, subst, ◌∙◌, add_comm, zero-add, add-zero, add_assoc, append-nil}
use Rattle.std.proofs.lemmas.Bool.{eq-eqb, lt-leb, lt-ltb}
use Rattle.std.proofs.lemmas.List.{map-append}
use Rattle.std.proofs.lemmas.List.Elements.{filter-append}
use Rattle.series_model.specs.declared.measure.Measure.{Measure}
use Rattle.series_model.specs.History.{Entry, Post, Done, Look, Fault, Reopened, posts_of, done_onto, done_number, processed_batches, pending_numbers, post_count, next_number}
use Rattle.series_model.specs.Turns.{AreNumberedFrom, AreNumbered}

-- ---- a history and what follows it

-- a post in front, or none
under : {X : Type 0} (own : Bool) (x : X) (xs ys zs : List X) → xs ≡ ys ++ zs → (if own then x ∷ xs else xs) ≡ (if own then x ∷ ys else ys) ++ zs
under true x xs ys zs h = ap (λ rest. x ∷ rest) h
under false x xs ys zs h = h

pub posts_of-append : (m : ℕ) (g h : List Entry) → posts_of m (g ++ h) ≡ posts_of m g ++ posts_of m h
posts_of-append m [] h = refl
posts_of-append m (Post n k measures ∷ g) h = under (k == m) (n, measures) _ _ _ (posts_of-append m g h)
posts_of-append m (Done k upto ∷ g) h = posts_of-append m g h
posts_of-append m (Look k ∷ g) h = posts_of-append m g h
posts_of-append m (Fault tried before after ∷ g) h = posts_of-append m g h
posts_of-append m (Reopened kept ∷ g) h = posts_of-append m g h

pub done_onto-append : (m done : ℕ) (g h : List Entry) → done_onto m done (g ++ h) ≡ done_onto m (done_onto m done g) h
done_onto-append m done [] h = refl
done_onto-append m done (Post n k measures ∷ g) h = done_onto-append m done g h
done_onto-append m done (Done k upto ∷ g) h = done_onto-append m (if k == m then upto else done) g h
done_onto-append m done (Look k ∷ g) h = done_onto-append m done g h
done_onto-append m done (Fault tried before after ∷ g) h = done_onto-append m done g h
done_onto-append m done (Reopened kept ∷ g) h = done_onto-append m done g h

pub post_count-append : (g h : List Entry) → post_count (g ++ h) ≡ post_count g + post_count h
post_count-append [] h = sym (zero-add (post_count h))
post_count-append (Post n k measures ∷ g) h =
    ap (λ count. 1 + count) (post_count-append g h) ∙ sym (add_assoc 1 (post_count g) (post_count h))
post_count-append (Done k upto ∷ g) h = post_count-append g h
post_count-append (Look k ∷ g) h = post_count-append g h
post_count-append (Fault tried before after ∷ g) h = post_count-append g h
post_count-append (Reopened kept ∷ g) h = post_count-append g h

-- ---- the posts of a metric

pub posts_of-post : (m n : ℕ) (measures : List Measure) (h : List Entry) → posts_of m (h ++ Post n m measures ∷ []) ≡ posts_of m h ++ (n, measures) ∷ []
posts_of-post m n measures h =
    posts_of-append m h (Post n m measures ∷ [])
    ∙ ap (λ own. posts_of m h ++ (if own then (n, measures) ∷ [] else [])) (eq-eqb m m refl)

pub posts_of-other_post : (m n k : ℕ) (measures : List Measure) (h : List Entry) → (k == m) ≡ false → posts_of m (h ++ Post n k measures ∷ []) ≡ posts_of m h
posts_of-other_post m n k measures h other =
    posts_of-append m h (Post n k measures ∷ [])
    ∙ ap (λ own. posts_of m h ++ (if own then (n, measures) ∷ [] else [])) other
    ∙ append-nil (posts_of m h)

pub posts_of-done : (m k upto : ℕ) (h : List Entry) → posts_of m (h ++ Done k upto ∷ []) ≡ posts_of m h
posts_of-done m k upto h = posts_of-append m h (Done k upto ∷ []) ∙ append-nil (posts_of m h)

pub posts_of-look : (m : ℕ) (k : Option ℕ) (h : List Entry) → posts_of m (h ++ Look k ∷ []) ≡ posts_of m h
posts_of-look m k h = posts_of-append m h (Look k ∷ []) ∙ append-nil (posts_of m h)

-- ---- the number up to which a metric's posts were processed

pub done_number-post : (m n k : ℕ) (measures : List Measure) (h : List Entry) → done_number m (h ++ Post n k measures ∷ []) ≡ done_number m h
done_number-post m n k measures h = done_onto-append m 0 h (Post n k measures ∷ [])

pub done_number-done : (m upto : ℕ) (h : List Entry) → done_number m (h ++ Done m upto ∷ []) ≡ upto
done_number-done m upto h =
    done_onto-append m 0 h (Done m upto ∷ [])
    ∙ ap (λ own. if own then upto else done_number m h) (eq-eqb m m refl)

pub done_number-other_done : (m k upto : ℕ) (h : List Entry) → (k == m) ≡ false → done_number m (h ++ Done k upto ∷ []) ≡ done_number m h
done_number-other_done m k upto h other =
    done_onto-append m 0 h (Done k upto ∷ []) ∙ ap (λ own. if own then upto else done_number m h) other

pub done_number-look : (m : ℕ) (k : Option ℕ) (h : List Entry) → done_number m (h ++ Look k ∷ []) ≡ done_number m h
done_number-look m k h = done_onto-append m 0 h (Look k ∷ [])

-- ---- the measures of a metric's processed posts

-- the measures of the posts up to a number
abbrev pub batches_upto : ℕ → List (ℕ × List Measure) → List (List Measure)
batches_upto done posts = map (λ post. post.1) (filter (λ post. nat_le post.0 done) posts)

-- the numbers of the posts above a number
abbrev pub numbers_above : ℕ → List (ℕ × List Measure) → List ℕ
numbers_above done posts = filter (nat_lt done) (map (λ post. post.0) posts)

-- the same posts and the same number give the same
same_processed : (m : ℕ) (g h : List Entry) → posts_of m g ≡ posts_of m h → done_number m g ≡ done_number m h → processed_batches m g ≡ processed_batches m h
same_processed m g h posts done =
    ap (batches_upto (done_number m g)) posts ∙ ap (λ n. batches_upto n (posts_of m h)) done

same_pending : (m : ℕ) (g h : List Entry) → posts_of m g ≡ posts_of m h → done_number m g ≡ done_number m h → pending_numbers m g ≡ pending_numbers m h
same_pending m g h posts done =
    ap (numbers_above (done_number m g)) posts ∙ ap (λ n. numbers_above n (posts_of m h)) done

batches_upto-append : (done : ℕ) (xs ys : List (ℕ × List Measure)) → batches_upto done (xs ++ ys) ≡ batches_upto done xs ++ batches_upto done ys
batches_upto-append done xs ys =
    let upto : ℕ × List Measure → Bool = λ post. nat_le post.0 done in
    ap (map (λ (post : ℕ × List Measure). post.1)) (filter-append upto xs ys)
    ∙ map-append (λ (post : ℕ × List Measure). post.1) (filter upto xs) (filter upto ys)

numbers_above-append : (done : ℕ) (xs ys : List (ℕ × List Measure)) → numbers_above done (xs ++ ys) ≡ numbers_above done xs ++ numbers_above done ys
numbers_above-append done xs ys =
    ap (filter (nat_lt done)) (map-append (λ (post : ℕ × List Measure). post.0) xs ys)
    ∙ filter-append (nat_lt done) (map (λ (post : ℕ × List Measure). post.0) xs) (map (λ (post : ℕ × List Measure). post.0) ys)

-- a post above the done number isn't processed
pub processed_batches-post : (m n : ℕ) (measures : List Measure) (h : List Entry) → done_number m h < n → processed_batches m (h ++ Post n m measures ∷ []) ≡ processed_batches m h
processed_batches-post m n measures h above =
    let done = done_number m h in
    ap (λ d. batches_upto d (posts_of m (h ++ Post n m measures ∷ []))) (done_number-post m n m measures h)
    ∙ ap (batches_upto done) (posts_of-post m n measures h)
    ∙ batches_upto-append done (posts_of m h) ((n, measures) ∷ [])
    ∙ ap (λ upto. batches_upto done (posts_of m h) ++ map (λ (post : ℕ × List Measure). post.1) (if upto then (n, measures) ∷ [] else [])) (lt-leb n done above)
    ∙ append-nil (processed_batches m h)

pub processed_batches-other_post : (m n k : ℕ) (measures : List Measure) (h : List Entry) → (k == m) ≡ false → processed_batches m (h ++ Post n k measures ∷ []) ≡ processed_batches m h
processed_batches-other_post m n k measures h other =
    same_processed m (h ++ Post n k measures ∷ []) h (posts_of-other_post m n k measures h other) (done_number-post m n k measures h)

-- those up to the new number
pub processed_batches-done : (m upto : ℕ) (h : List Entry) → processed_batches m (h ++ Done m upto ∷ []) ≡ batches_upto upto (posts_of m h)
processed_batches-done m upto h =
    ap (λ d. batches_upto d (posts_of m (h ++ Done m upto ∷ []))) (done_number-done m upto h)
    ∙ ap (batches_upto upto) (posts_of-done m m upto h)

pub processed_batches-other_done : (m k upto : ℕ) (h : List Entry) → (k == m) ≡ false → processed_batches m (h ++ Done k upto ∷ []) ≡ processed_batches m h
processed_batches-other_done m k upto h other =
    same_processed m (h ++ Done k upto ∷ []) h (posts_of-done m k upto h) (done_number-other_done m k upto h other)

pub processed_batches-look : (m : ℕ) (k : Option ℕ) (h : List Entry) → processed_batches m (h ++ Look k ∷ []) ≡ processed_batches m h
processed_batches-look m k h = same_processed m (h ++ Look k ∷ []) h (posts_of-look m k h) (done_number-look m k h)

-- ---- the numbers of a metric's posts that wait

-- a post above the done number waits
pub pending_numbers-post : (m n : ℕ) (measures : List Measure) (h : List Entry) → done_number m h < n → pending_numbers m (h ++ Post n m measures ∷ []) ≡ pending_numbers m h ++ n ∷ []
pending_numbers-post m n measures h above =
    let done = done_number m h in
    ap (λ d. numbers_above d (posts_of m (h ++ Post n m measures ∷ []))) (done_number-post m n m measures h)
    ∙ ap (numbers_above done) (posts_of-post m n measures h)
    ∙ numbers_above-append done (posts_of m h) ((n, measures) ∷ [])
    ∙ ap (λ waits. numbers_above done (posts_of m h) ++ (if waits then n ∷ [] else [])) (lt-ltb done n above)

pub pending_numbers-other_post : (m n k : ℕ) (measures : List Measure) (h : List Entry) → (k == m) ≡ false → pending_numbers m (h ++ Post n k measures ∷ []) ≡ pending_numbers m h
pending_numbers-other_post m n k measures h other =
    same_pending m (h ++ Post n k measures ∷ []) h (posts_of-other_post m n k measures h other) (done_number-post m n k measures h)

-- those above the new number
pub pending_numbers-done : (m upto : ℕ) (h : List Entry) → pending_numbers m (h ++ Done m upto ∷ []) ≡ numbers_above upto (posts_of m h)
pending_numbers-done m upto h =
    ap (λ d. numbers_above d (posts_of m (h ++ Done m upto ∷ []))) (done_number-done m upto h)
    ∙ ap (numbers_above upto) (posts_of-done m m upto h)

pub pending_numbers-other_done : (m k upto : ℕ) (h : List Entry) → (k == m) ≡ false → pending_numbers m (h ++ Done k upto ∷ []) ≡ pending_numbers m h
pending_numbers-other_done m k upto h other =
    same_pending m (h ++ Done k upto ∷ []) h (posts_of-done m k upto h) (done_number-other_done m k upto h other)

pub pending_numbers-look : (m : ℕ) (k : Option ℕ) (h : List Entry) → pending_numbers m (h ++ Look k ∷ []) ≡ pending_numbers m h
pending_numbers-look m k h = same_pending m (h ++ Look k ∷ []) h (posts_of-look m k h) (done_number-look m k h)

-- ---- how many posts there were

pub post_count-post : (n k : ℕ) (measures : List Measure) (h : List Entry) → post_count (h ++ Post n k measures ∷ []) ≡ post_count h + 1
post_count-post n k measures h = post_count-append h (Post n k measures ∷ [])

pub post_count-done : (k upto : ℕ) (h : List Entry) → post_count (h ++ Done k upto ∷ []) ≡ post_count h
post_count-done k upto h = post_count-append h (Done k upto ∷ []) ∙ add-zero (post_count h)

pub post_count-look : (k : Option ℕ) (h : List Entry) → post_count (h ++ Look k ∷ []) ≡ post_count h
post_count-look k h = post_count-append h (Look k ∷ []) ∙ add-zero (post_count h)

-- ---- posts that are numbered in order

numbered-post : (n m : ℕ) (measures : List Measure) (h : List Entry) → AreNumberedFrom n h → AreNumberedFrom n (h ++ Post (n + post_count h) m measures ∷ [])
numbered-post n m measures [] a = (add-zero n, tt)
numbered-post n m measures (Post number k others ∷ h) a =
    (a.0, subst (λ next. AreNumberedFrom (n + 1) (h ++ Post next m measures ∷ [])) (add_assoc n 1 (post_count h)) (numbered-post (n + 1) m measures h a.1))
numbered-post n m measures (Done k upto ∷ h) a = numbered-post n m measures h a
numbered-post n m measures (Look k ∷ h) a = numbered-post n m measures h a
numbered-post n m measures (Fault tried before after ∷ h) a = numbered-post n m measures h a
numbered-post n m measures (Reopened kept ∷ h) a = numbered-post n m measures h a

pub AreNumbered-post : (m : ℕ) (measures : List Measure) (h : List Entry) → AreNumbered h → AreNumbered (h ++ Post (next_number h) m measures ∷ [])
AreNumbered-post m measures h a =
    subst (λ next. AreNumbered (h ++ Post next m measures ∷ [])) (add_comm 1 (post_count h)) (numbered-post 1 m measures h a)

numbered-done : (n k upto : ℕ) (h : List Entry) → AreNumberedFrom n h → AreNumberedFrom n (h ++ Done k upto ∷ [])
numbered-done n k upto [] a = tt
numbered-done n k upto (Post number m measures ∷ h) a = (a.0, numbered-done (n + 1) k upto h a.1)
numbered-done n k upto (Done m other ∷ h) a = numbered-done n k upto h a
numbered-done n k upto (Look m ∷ h) a = numbered-done n k upto h a
numbered-done n k upto (Fault tried before after ∷ h) a = numbered-done n k upto h a
numbered-done n k upto (Reopened kept ∷ h) a = numbered-done n k upto h a

pub AreNumbered-done : (k upto : ℕ) (h : List Entry) → AreNumbered h → AreNumbered (h ++ Done k upto ∷ [])
AreNumbered-done k upto h a = numbered-done 1 k upto h a

numbered-look : (n : ℕ) (k : Option ℕ) (h : List Entry) → AreNumberedFrom n h → AreNumberedFrom n (h ++ Look k ∷ [])
numbered-look n k [] a = tt
numbered-look n k (Post number m measures ∷ h) a = (a.0, numbered-look (n + 1) k h a.1)
numbered-look n k (Done m upto ∷ h) a = numbered-look n k h a
numbered-look n k (Look m ∷ h) a = numbered-look n k h a
numbered-look n k (Fault tried before after ∷ h) a = numbered-look n k h a
numbered-look n k (Reopened kept ∷ h) a = numbered-look n k h a

pub AreNumbered-look : (k : Option ℕ) (h : List Entry) → AreNumbered h → AreNumbered (h ++ Look k ∷ [])
AreNumbered-look k h a = numbered-look 1 k h a
