-- Posts whose numbers rise, cut at a number.
use Rattle.std.proofs.Common.{◌≡◌, ℕ, zero, suc, ◌<◌, ◌≤◌, Bool, leb, ltb, List, [], ◌∷◌, ◌++◌, map, length, take, drop, refl, sym, ap, subst, ◌∙◌, arith}
use Rattle.std.specs.List.{Contains, filter}
use Rattle.std.proofs.Math.Logic.{⊎_elim}
use Rattle.std.proofs.lemmas.Bool.{le-leb, lt-leb, lt-ltb, le-ltb, ltb-true, cases_lt, cond_both}
use Rattle.series_model.proofs.ByKey.{filter-keep, filter-skip, filter_within}
use Rattle.series_model.proofs.Members.{Contains-here, Contains-there, Contains-cases, Contains-none}
use Rattle.series_model.proofs.Rising.{Above, Above-lower, Rises}
use Rattle.sack_history.specs.Lives.{Posted}
use Rattle.sack_history.specs.Turns.{last_among}

abbrev pub number_of : Posted → ℕ
number_of p = p.number

abbrev pub numbers : List Posted → List ℕ
numbers posts = map number_of posts

-- the posts up to a number, and those above it
abbrev pub up_to : ℕ → List Posted → List Posted
up_to n posts = filter (λ (p : Posted). leb p.number n) posts

abbrev pub above : ℕ → List Posted → List Posted
above n posts = filter (λ (p : Posted). ltb n p.number) posts

-- no number is over this one
abbrev pub AtMost : ℕ → List Posted → Type 0
AtMost n [] = Unit {0}
AtMost n (p ∷ posts) = (p.number ≤ n) × AtMost n posts

pub AtMost-higher : (m n : ℕ) (posts : List Posted) → m ≤ n → AtMost m posts → AtMost n posts
AtMost-higher m n [] le h = tt
AtMost-higher m n (p ∷ posts) le h = (omega (arith, le, h.0), AtMost-higher m n posts le h.1)

pub AtMost-append : (n : ℕ) (xs ys : List Posted) → AtMost n xs → AtMost n ys → AtMost n (xs ++ ys)
AtMost-append n [] ys h k = k
AtMost-append n (x ∷ xs) ys h k = (h.0, AtMost-append n xs ys h.1 k)

pub AtMost-filter : (n : ℕ) (p : Posted → Bool) (posts : List Posted) → AtMost n posts → AtMost n (filter p posts)
AtMost-filter n p [] h = tt
AtMost-filter n p (x ∷ posts) h =
    cond_both (p x) (x ∷ filter p posts) (filter p posts) (AtMost n) (λ keep. (h.0, AtMost-filter n p posts h.1)) (λ skip. AtMost-filter n p posts h.1)

Above-push : (a y : ℕ) (posts : List Posted) (p : Posted) → Above a (numbers posts) → a < p.number → Above a (numbers (posts ++ p ∷ []))
Above-push a y [] p h lt = (lt, tt)
Above-push a y (x ∷ posts) p h lt = (h.0, Above-push a y posts p h.1 lt)

-- a post with a greater number at the end
pub Rises-push : (n : ℕ) (posts : List Posted) (p : Posted) → Rises (numbers posts) → AtMost n posts → n < p.number → Rises (numbers (posts ++ p ∷ []))
Rises-push n [] p h most lt = (tt, tt)
Rises-push n (x ∷ posts) p h most lt = (Above-push x.number n posts p h.0 (omega (arith, most.0, lt)), Rises-push n posts p h.1 most.1 lt)

Above-filter : (a : ℕ) (p : Posted → Bool) (posts : List Posted) → Above a (numbers posts) → Above a (numbers (filter p posts))
Above-filter a p [] h = tt
Above-filter a p (x ∷ posts) h =
    cond_both (p x) (x ∷ filter p posts) (filter p posts) (λ l. Above a (numbers l)) (λ keep. (h.0, Above-filter a p posts h.1)) (λ skip. Above-filter a p posts h.1)

pub Rises-filter : (p : Posted → Bool) (posts : List Posted) → Rises (numbers posts) → Rises (numbers (filter p posts))
Rises-filter p [] h = tt
Rises-filter p (x ∷ posts) h =
    cond_both (p x) (x ∷ filter p posts) (filter p posts) (λ l. Rises (numbers l))
    (λ keep. (Above-filter x.number p posts h.0, Rises-filter p posts h.1)) (λ skip. Rises-filter p posts h.1)

-- ---- cuts

pub up_to-all : (n : ℕ) (posts : List Posted) → AtMost n posts → up_to n posts ≡ posts
up_to-all n [] h = refl
up_to-all n (p ∷ posts) h = filter-keep (λ (q : Posted). leb q.number n) p posts (le-leb p.number n h.0) ∙ ap (λ l. p ∷ l) (up_to-all n posts h.1)

pub above-none : (n : ℕ) (posts : List Posted) → AtMost n posts → above n posts ≡ []
above-none n [] h = refl
above-none n (p ∷ posts) h = filter-skip (λ (q : Posted). ltb n q.number) p posts (le-ltb n p.number h.0) ∙ above-none n posts h.1

pub up_to-none : (n : ℕ) (posts : List Posted) → Above n (numbers posts) → up_to n posts ≡ []
up_to-none n [] h = refl
up_to-none n (p ∷ posts) h = filter-skip (λ (q : Posted). leb q.number n) p posts (lt-leb p.number n h.0) ∙ up_to-none n posts h.1

pub above-all : (n : ℕ) (posts : List Posted) → Above n (numbers posts) → above n posts ≡ posts
above-all n [] h = refl
above-all n (p ∷ posts) h = filter-keep (λ (q : Posted). ltb n q.number) p posts (lt-ltb n p.number h.0) ∙ ap (λ l. p ∷ l) (above-all n posts h.1)

-- what is above a number is above it
pub above_is : (n : ℕ) (posts : List Posted) → Above n (numbers (above n posts))
above_is n [] = tt
above_is n (p ∷ posts) =
    ⊎_elim
    (λ lt. subst (λ l. Above n (numbers l)) (sym (filter-keep (λ (q : Posted). ltb n q.number) p posts (lt-ltb n p.number lt))) (lt, above_is n posts))
    (λ le. subst (λ l. Above n (numbers l)) (sym (filter-skip (λ (q : Posted). ltb n q.number) p posts (le-ltb n p.number le))) (above_is n posts))
    (cases_lt n p.number)

-- those up to a later number: those up to the earlier one, and what of the rest is up to the later one
pub up_to-later : (d u : ℕ) (posts : List Posted) → d ≤ u → Rises (numbers posts) → up_to u posts ≡ up_to d posts ++ up_to u (above d posts)
up_to-later d u [] le rises = refl
up_to-later d u (p ∷ posts) le rises =
    ⊎_elim
    (λ later.
    let rest : Above d (numbers (p ∷ posts)) = (later, Above-lower d p.number (numbers posts) (omega arith) rises.0) in
    ap (up_to u) (sym (above-all d (p ∷ posts) rest)) ∙ ap (λ l. l ++ up_to u (above d (p ∷ posts))) (sym (up_to-none d (p ∷ posts) rest)))
    (λ early.
    filter-keep (λ (q : Posted). leb q.number u) p posts (le-leb p.number u (omega arith))
    ∙ ap (λ l. p ∷ l) (up_to-later d u posts le rises.1)
    ∙ ap (λ l. l ++ up_to u (above d posts)) (sym (filter-keep (λ (q : Posted). leb q.number d) p posts (le-leb p.number d early)))
    ∙ ap (λ l. up_to d (p ∷ posts) ++ up_to u l) (sym (filter-skip (λ (q : Posted). ltb d q.number) p posts (le-ltb d p.number early))))
    (cases_lt d p.number)

pub above-later : (d u : ℕ) (posts : List Posted) → d ≤ u → above u (above d posts) ≡ above u posts
above-later d u posts le =
    filter_within (λ (p : Posted). ltb u p.number) (λ (p : Posted). ltb d p.number) (λ p lt. lt-ltb d p.number (omega (arith, le, ltb-true u p.number lt))) posts

pub Above-member : (a u : ℕ) (xs : List ℕ) → Above a xs → Contains xs u → a < u
Above-member a u [] h c = absurd (Contains-none u c)
Above-member a u (x ∷ xs) h c = ⊎_elim (λ is. subst (λ n. a < n) is h.0) (λ later. Above-member a u xs h.1 later) (Contains-cases x xs u c)

pub Above-take : (a n : ℕ) (posts : List Posted) → Above a (numbers posts) → Above a (numbers (take n posts))
Above-take a zero posts h = tt
Above-take a (suc n) [] h = tt
Above-take a (suc n) (p ∷ posts) h = (h.0, Above-take a n posts h.1)

-- A number among the first of some posts: those up to it are the first so many.
pub record IsCut (n u : ℕ) (posts : List Posted) : Type 0 where
  pub count : ℕ
  pub some : 0 < count
  pub few : count ≤ n
  pub within : count ≤ length posts
  pub front : up_to u posts ≡ take count posts
  pub rest : above u posts ≡ drop count posts

-- a post in front that is the cut, or is before it
cut_here : (n u : ℕ) (p : Posted) (posts : List Posted) → Rises (numbers (p ∷ posts)) → p.number ≡ u → IsCut (suc n) u (p ∷ posts)
cut_here n u p posts rises is =
    let rest : Above u (numbers posts) = subst (λ a. Above a (numbers posts)) is rises.0 in
    record {
      count = 1;
      some = omega arith;
      few = omega arith;
      within = omega arith;
      front = filter-keep (λ (q : Posted). leb q.number u) p posts (le-leb p.number u (omega (arith, is))) ∙ ap (λ l. p ∷ l) (up_to-none u posts rest);
      rest = filter-skip (λ (q : Posted). ltb u q.number) p posts (le-ltb u p.number (omega (arith, is))) ∙ above-all u posts rest;
    }

cut_later : (n u : ℕ) (p : Posted) (posts : List Posted) → p.number < u → IsCut n u posts → IsCut (suc n) u (p ∷ posts)
cut_later n u p posts lt cut = record {
  count = suc cut.count;
  some = omega arith;
  few = omega (arith, cut.few);
  within = omega (arith, cut.within);
  front = filter-keep (λ (q : Posted). leb q.number u) p posts (le-leb p.number u (omega arith)) ∙ ap (λ l. p ∷ l) cut.front;
  rest = filter-skip (λ (q : Posted). ltb u q.number) p posts (le-ltb u p.number (omega arith)) ∙ cut.rest;
}

pub first_cut : (n u : ℕ) (posts : List Posted) → Rises (numbers posts) → Contains (numbers (take n posts)) u → IsCut n u posts
first_cut zero u posts rises among = absurd (Contains-none u among)
first_cut (suc n) u [] rises among = absurd (Contains-none u among)
first_cut (suc n) u (p ∷ posts) rises among =
    ⊎_elim (cut_here n u p posts rises)
    (λ later. cut_later n u p posts (Above-member p.number u (numbers (take n posts)) (Above-take p.number n posts rises.0) later) (first_cut n u posts rises.1 later))
    (Contains-cases p.number (numbers (take n posts)) u among)

-- ---- the last of the first

pub last_among-grows : (d n : ℕ) (posts : List Posted) → Above d (numbers posts) → Rises (numbers posts) → d ≤ last_among d (take n posts)
last_among-grows d zero posts h rises = omega arith
last_among-grows d (suc n) [] h rises = omega arith
last_among-grows d (suc n) (p ∷ posts) h rises = omega (arith, h.0, last_among-grows p.number n posts rises.0 rises.1)

-- those up to the last of the first are the first
pub up_to-last : (d n : ℕ) (posts : List Posted) → Above d (numbers posts) → Rises (numbers posts) → up_to (last_among d (take n posts)) posts ≡ take n posts
up_to-last d zero posts h rises = up_to-none d posts h
up_to-last d (suc n) [] h rises = refl
up_to-last d (suc n) (p ∷ posts) h rises =
    let u = last_among p.number (take n posts) in
    filter-keep (λ (q : Posted). leb q.number u) p posts (le-leb p.number u (last_among-grows p.number n posts rises.0 rises.1))
    ∙ ap (λ l. p ∷ l) (up_to-last p.number n posts rises.0 rises.1)

pub above-last : (d n : ℕ) (posts : List Posted) → Above d (numbers posts) → Rises (numbers posts) → above (last_among d (take n posts)) posts ≡ drop n posts
above-last d zero posts h rises = above-all d posts h
above-last d (suc n) [] h rises = refl
above-last d (suc n) (p ∷ posts) h rises =
    let u = last_among p.number (take n posts) in
    filter-skip (λ (q : Posted). ltb u q.number) p posts (le-ltb u p.number (last_among-grows p.number n posts rises.0 rises.1))
    ∙ above-last p.number n posts rises.0 rises.1

-- and it is one of them
pub last_among-member : (d : ℕ) (p : Posted) (posts : List Posted) → Contains (numbers (p ∷ posts)) (last_among d (p ∷ posts))
last_among-member d p [] = Contains-here p.number [] p.number refl
last_among-member d p (q ∷ posts) = Contains-there p.number (numbers (q ∷ posts)) (last_among d (p ∷ q ∷ posts)) (last_among-member p.number q posts)
