-- What a turn, and all turns, make of the posts that wait.
use Rattle.std.proofs.Common.{◌≡◌, ℕ, zero, suc, ◌+◌, ◌<◌, ◌≤◌, Bool, true, false, cond, leb, ltb, eqb, List, [], ◌∷◌, ◌++◌, map, length, take, drop, refl, sym, ap, subst, ◌∙◌, arith, append-nil, append_assoc, length-drop}
use Rattle.std.specs.List.{filter}
use Rattle.std.proofs.Math.Logic.{⊎_elim}
use Rattle.std.proofs.lemmas.Bool.{le-leb, lt-leb, lt-ltb, le-ltb, cases_lt, ltb-true}
use Rattle.std.proofs.lemmas.List.{length-map, map-append, drop-map, nil_from_length}
use Rattle.series_model.specs.declared.measure.Measure.{Measure}
use Rattle.series_model.specs.History.{Entry, Post, Done, Look, Fault, Reopened, posts_of, done_number, processed_batches, pending_numbers, turn_ends, turns_of}
use Rattle.series_model.specs.HistoryLaws.{AreNumbered-done, posts_of-append, processed_batches-done, pending_numbers-done}
use Rattle.series_model.specs.Turns.{AreNumberedFrom, AreNumbered, waiting_posts, last_number, turn_end}
use Rattle.series_model.proofs.Rising.{Above, Rises, Above-lower}
use Rattle.series_model.proofs.TurnCuts.{last_number-cons, turn_of}

-- ---- numbers rise

above_last : (at k x : ℕ) (xs : List ℕ) → Above at (x ∷ xs) → at < last_number (take (suc k) (x ∷ xs))
above_last at zero x xs a = a.0
above_last at (suc k) x [] a = a.0
above_last at (suc k) x (y ∷ xs) a =
    let same : last_number (take (suc (suc k)) (x ∷ y ∷ xs)) ≡ last_number (take (suc k) (y ∷ xs)) = last_number-cons x y (take k xs) in
    let rest = above_last at k y xs a.1 in
    omega (arith, same, rest)

abbrev numbers : List (ℕ × List Measure) → List ℕ
numbers posts = map (λ (post : ℕ × List Measure). post.0) posts

above_numbered : (m at n : ℕ) (h : List Entry) → at < n → AreNumberedFrom n h → Above at (numbers (posts_of m h))
above_numbered m at n [] less a = tt
above_numbered m at n (Post number k measures ∷ h) less a =
    by (eqb k m) (above_numbered m at (n + 1) h (omega arith) a.1)
  where
    by : (own : Bool) → Above at (numbers (posts_of m h)) → Above at (numbers (cond own ((number, measures) ∷ posts_of m h) (posts_of m h)))
    by true rest = (omega (arith, a.0), rest)
    by false rest = rest
above_numbered m at n (Done k upto ∷ h) less a = above_numbered m at n h less a
above_numbered m at n (Look k ∷ h) less a = above_numbered m at n h less a
above_numbered m at n (Fault tried before after ∷ h) less a = above_numbered m at n h less a
above_numbered m at n (Reopened kept ∷ h) less a = above_numbered m at n h less a

pub rises_numbered : (m n : ℕ) (h : List Entry) → AreNumberedFrom n h → Rises (numbers (posts_of m h))
rises_numbered m n [] a = tt
rises_numbered m n (Post number k measures ∷ h) a = by (eqb k m) (rises_numbered m (n + 1) h a.1)
  where
    by : (own : Bool) → Rises (numbers (posts_of m h)) → Rises (numbers (cond own ((number, measures) ∷ posts_of m h) (posts_of m h)))
    by true rest = (above_numbered m number (n + 1) h (omega (arith, a.0)) a.1, rest)
    by false rest = rest
rises_numbered m n (Done k upto ∷ h) a = rises_numbered m n h a
rises_numbered m n (Look k ∷ h) a = rises_numbered m n h a
rises_numbered m n (Fault tried before after ∷ h) a = rises_numbered m n h a
rises_numbered m n (Reopened kept ∷ h) a = rises_numbered m n h a

-- ---- what is up to a number, and what is above it

module _ {X : Type 0} (key : X → ℕ) where
  abbrev upto : ℕ → List X → List X
  upto u xs = filter (λ x. leb (key x) u) xs

  abbrev above : ℕ → List X → List X
  above u xs = filter (λ x. ltb u (key x)) xs

  upto_yes : (u : ℕ) (x : X) (xs : List X) → key x ≤ u → upto u (x ∷ xs) ≡ x ∷ upto u xs
  upto_yes u x xs h = ap (λ b. cond b (x ∷ upto u xs) (upto u xs)) (le-leb (key x) u h)

  upto_no : (u : ℕ) (x : X) (xs : List X) → u < key x → upto u (x ∷ xs) ≡ upto u xs
  upto_no u x xs h = ap (λ b. cond b (x ∷ upto u xs) (upto u xs)) (lt-leb (key x) u h)

  above_yes : (u : ℕ) (x : X) (xs : List X) → u < key x → above u (x ∷ xs) ≡ x ∷ above u xs
  above_yes u x xs h = ap (λ b. cond b (x ∷ above u xs) (above u xs)) (lt-ltb u (key x) h)

  above_no : (u : ℕ) (x : X) (xs : List X) → key x ≤ u → above u (x ∷ xs) ≡ above u xs
  above_no u x xs h = ap (λ b. cond b (x ∷ above u xs) (above u xs)) (le-ltb u (key x) h)

  none_upto : (u : ℕ) (xs : List X) → Above u (map key xs) → upto u xs ≡ []
  none_upto u [] a = refl
  none_upto u (x ∷ xs) a = upto_no u x xs a.0 ∙ none_upto u xs a.1

  all_above : (u : ℕ) (xs : List X) → Above u (map key xs) → above u xs ≡ xs
  all_above u [] a = refl
  all_above u (x ∷ xs) a = above_yes u x xs a.0 ∙ ap (λ rest. x ∷ rest) (all_above u xs a.1)

  -- what is up to a greater number is what was so before, and then a part of the rest
  upto_more : (done u : ℕ) (xs : List X) → Rises (map key xs) → done ≤ u → upto u xs ≡ upto done xs ++ upto u (above done xs)
  upto_more done u [] r le = refl
  upto_more done u (x ∷ xs) r le = ⊎_elim late (early (upto_more done u xs r.1 le)) (cases_lt done (key x))
    where
      late : done < key x → upto u (x ∷ xs) ≡ upto done (x ∷ xs) ++ upto u (above done (x ∷ xs))
      late h =
          let a : Above done (map key (x ∷ xs)) = (h, Above-lower done (key x) (map key xs) (omega arith) r.0) in
          ap (upto u) (sym (all_above done (x ∷ xs) a)) ∙ ap (λ front. front ++ upto u (above done (x ∷ xs))) (sym (none_upto done (x ∷ xs) a))

      early : upto u xs ≡ upto done xs ++ upto u (above done xs) → key x ≤ done → upto u (x ∷ xs) ≡ upto done (x ∷ xs) ++ upto u (above done (x ∷ xs))
      early rest h =
          upto_yes u x xs (omega arith) ∙ ap (λ ys. x ∷ ys) rest
          ∙ ap (λ front. front ++ upto u (above done xs)) (sym (upto_yes done x xs h))
          ∙ ap (λ ys. upto done (x ∷ xs) ++ upto u ys) (sym (above_no done x xs h))

  -- what is above a greater number is a part of what is above
  above_more : (done u : ℕ) (xs : List X) → done ≤ u → above u xs ≡ above u (above done xs)
  above_more done u [] le = refl
  above_more done u (x ∷ xs) le = ⊎_elim (late (above_more done u xs le)) (early (above_more done u xs le)) (cases_lt done (key x))
    where
      late : above u xs ≡ above u (above done xs) → done < key x → above u (x ∷ xs) ≡ above u (above done (x ∷ xs))
      late rest h =
          ap (λ ys. cond (ltb u (key x)) (x ∷ ys) ys) rest ∙ ap (above u) (sym (above_yes done x xs h))

      early : above u xs ≡ above u (above done xs) → key x ≤ done → above u (x ∷ xs) ≡ above u (above done (x ∷ xs))
      early rest h = above_no u x xs (omega arith) ∙ rest ∙ ap (above u) (sym (above_no done x xs h))

  -- up to the last of the first few are these few
  turn_parts : (k : ℕ) (xs : List X) → Rises (map key xs) → 0 < length xs → let u = last_number (take (suc k) (map key xs)) in (upto u xs ≡ take (suc k) xs) × (above u xs ≡ drop (suc k) xs)
  turn_parts k [] r some = absurd (omega arith)
  turn_parts zero (x ∷ xs) r some =
      (upto_yes (key x) x xs (omega arith) ∙ ap (λ ys. x ∷ ys) (none_upto (key x) xs r.0), above_no (key x) x xs (omega arith) ∙ all_above (key x) xs r.0)
  turn_parts (suc k) (x ∷ []) r some = (upto_yes (key x) x [] (omega arith), above_no (key x) x [] (omega arith))
  turn_parts (suc k) (x ∷ y ∷ xs) r some =
      let u = last_number (take (suc k) (key y ∷ map key xs)) in
      let same : last_number (take (suc (suc k)) (key x ∷ key y ∷ map key xs)) ≡ u = last_number-cons (key x) (key y) (take k (map key xs)) in
      let less : key x < u = above_last (key x) k (key y) (map key xs) r.0 in
      let rest = turn_parts k (y ∷ xs) r.1 (omega arith) in (
        ap (λ n. upto n (x ∷ y ∷ xs)) same ∙ upto_yes u x (y ∷ xs) (omega arith) ∙ ap (λ ys. x ∷ ys) rest.0,
        ap (λ n. above n (x ∷ y ∷ xs)) same ∙ above_no u x (y ∷ xs) (omega arith) ∙ rest.1,
      )

  numbers-above : (u : ℕ) (xs : List X) → filter (ltb u) (map key xs) ≡ map key (above u xs)
  numbers-above u [] = refl
  numbers-above u (x ∷ xs) = by (ltb u (key x)) (numbers-above u xs)
    where
      by : (b : Bool) → filter (ltb u) (map key xs) ≡ map key (above u xs) → cond b (key x ∷ filter (ltb u) (map key xs)) (filter (ltb u) (map key xs)) ≡ map key (cond b (x ∷ above u xs) (above u xs))
      by true rest = ap (λ ys. key x ∷ ys) rest
      by false rest = rest

  -- what is above a number rises still, and is above it
  above_above : (at u : ℕ) (xs : List X) → Above at (map key xs) → Above at (map key (above u xs))
  above_above at u [] a = tt
  above_above at u (x ∷ xs) a = by (ltb u (key x)) (above_above at u xs a.1)
    where
      by : (b : Bool) → Above at (map key (above u xs)) → Above at (map key (cond b (x ∷ above u xs) (above u xs)))
      by true rest = (a.0, rest)
      by false rest = rest

  rises_above : (u : ℕ) (xs : List X) → Rises (map key xs) → Rises (map key (above u xs))
  rises_above u [] r = tt
  rises_above u (x ∷ xs) r = by (ltb u (key x)) (rises_above u xs r.1)
    where
      by : (b : Bool) → Rises (map key (above u xs)) → Rises (map key (cond b (x ∷ above u xs) (above u xs)))
      by true rest = (above_above (key x) u xs r.0, rest)
      by false rest = rest

  above_itself : (u : ℕ) (xs : List X) → Above u (map key (above u xs))
  above_itself u [] = tt
  above_itself u (x ∷ xs) = by (ltb u (key x)) (ltb-true u (key x)) (above_itself u xs)
    where
      by : (b : Bool) → (b ≡ true → u < key x) → Above u (map key (above u xs)) → Above u (map key (cond b (x ∷ above u xs) (above u xs)))
      by true less rest = (less refl, rest)
      by false less rest = rest

  -- where nothing is above a number, all is up to it
  all_upto : (u : ℕ) (xs : List X) → filter (ltb u) (map key xs) ≡ [] → upto u xs ≡ xs
  all_upto u [] none = refl
  all_upto u (x ∷ xs) none = ⊎_elim (late none) (early (all_upto u xs) none) (cases_lt u (key x))
    where
      late : filter (ltb u) (map key (x ∷ xs)) ≡ [] → u < key x → upto u (x ∷ xs) ≡ x ∷ xs
      late none h =
          let some : key x ∷ filter (ltb u) (map key xs) ≡ [] =
          sym (ap (λ b. cond b (key x ∷ filter (ltb u) (map key xs)) (filter (ltb u) (map key xs))) (lt-ltb u (key x) h)) ∙ none in
          cc

      early : (filter (ltb u) (map key xs) ≡ [] → upto u xs ≡ xs) → filter (ltb u) (map key (x ∷ xs)) ≡ [] → key x ≤ u → upto u (x ∷ xs) ≡ x ∷ xs
      early rest none h =
          upto_yes u x xs h
          ∙ ap (λ ys. x ∷ ys) (rest (sym (ap (λ b. cond b (key x ∷ filter (ltb u) (map key xs)) (filter (ltb u) (map key xs))) (le-ltb u (key x) h)) ∙ none))

last_above : (at k : ℕ) (xs : List ℕ) → 0 < length xs → Above at xs → at < last_number (take (suc k) xs)
last_above at k [] some a = absurd (omega arith)
last_above at k (x ∷ xs) some a = above_last at k x xs a

-- ---- one turn

abbrev number : ℕ × List Measure → ℕ
number post = post.0

pub pending_waiting : (m : ℕ) (h : List Entry) → pending_numbers m h ≡ map (λ (post : ℕ × List Measure). post.0) (waiting_posts m h)
pending_waiting m h = numbers-above number (done_number m h) (posts_of m h)

-- the posts that wait up to the end of a turn, and those above it
turn_waiting : (m : ℕ) (h : List Entry) → AreNumbered h → 0 < length (pending_numbers m h) → (upto number (turn_end m h) (waiting_posts m h) ≡ take 64 (waiting_posts m h)) × (above number (turn_end m h) (waiting_posts m h) ≡ drop 64 (waiting_posts m h)) × (done_number m h ≤ turn_end m h)
turn_waiting m h a some =
    let w = waiting_posts m h in
    let rises : Rises (map number w) = rises_above number (done_number m h) (posts_of m h) (rises_numbered m 1 h a) in
    let few : length (pending_numbers m h) ≡ length w = ap length (pending_waiting m h) ∙ length-map w number in
    let same : last_number (take 64 (map number w)) ≡ turn_end m h = ap (λ xs. last_number (take 64 xs)) (sym (pending_waiting m h)) in
    let parts = turn_parts number 63 w rises (omega (arith, few, some)) in
    let late : done_number m h < turn_end m h =
    last_above (done_number m h) 63 (pending_numbers m h) some (subst (λ xs. Above (done_number m h) xs) (sym (pending_waiting m h)) (above_itself number (done_number m h) (posts_of m h))) in
    (ap (λ u. upto number u w) (sym same) ∙ parts.0, ap (λ u. above number u w) (sym same) ∙ parts.1, omega (arith, late))

-- a turn processes the first 64 that wait
pub turn_processed : (m : ℕ) (h : List Entry) → AreNumbered h → 0 < length (pending_numbers m h) → processed_batches m (h ++ Done m (turn_end m h) ∷ []) ≡ processed_batches m h ++ map (λ (post : ℕ × List Measure). post.1) (take 64 (waiting_posts m h))
turn_processed m h a some =
    let w = turn_waiting m h a some in
    let done = done_number m h in
    let measures : ℕ × List Measure → List Measure = λ post. post.1 in
    processed_batches-done m (turn_end m h) h
    ∙ ap (map measures) (upto_more number done (turn_end m h) (posts_of m h) (rises_numbered m 1 h a) w.2 ∙ ap (λ ys. upto number done (posts_of m h) ++ ys) w.0)
    ∙ map-append measures (upto number done (posts_of m h)) (take 64 (waiting_posts m h))

-- and leaves the others waiting
pub turn_pending : (m : ℕ) (h : List Entry) → AreNumbered h → 0 < length (pending_numbers m h) → pending_numbers m (h ++ Done m (turn_end m h) ∷ []) ≡ drop 64 (pending_numbers m h)
turn_pending m h a some =
    let w = turn_waiting m h a some in
    let u = turn_end m h in
    pending_numbers-done m u h ∙ numbers-above number u (posts_of m h)
    ∙ ap (map number) (above_more number (done_number m h) u (posts_of m h) w.2 ∙ w.1)
    ∙ sym (drop-map number 64 (waiting_posts m h)) ∙ ap (drop 64) (sym (pending_waiting m h))

-- ---- all turns

no_turn : (m : ℕ) (h : List Entry) → pending_numbers m h ≡ [] → pending_numbers m (h ++ turns_of m h) ≡ []
no_turn m h none =
    ap (λ xs. pending_numbers m (h ++ map (Done m) (turn_ends 63 xs))) none ∙ ap (pending_numbers m) (append-nil h) ∙ none

all_turns : (most m : ℕ) (h : List Entry) → AreNumbered h → length (pending_numbers m h) ≤ most → pending_numbers m (h ++ turns_of m h) ≡ []
all_turns zero m h a short = no_turn m h (nil_from_length (pending_numbers m h) (omega arith))
all_turns (suc most) m h a short = by (all_turns most m) (pending_numbers m h) refl
  where
    by : ((g : List Entry) → AreNumbered g → length (pending_numbers m g) ≤ most → pending_numbers m (g ++ turns_of m g) ≡ []) → (xs : List ℕ) → pending_numbers m h ≡ xs → pending_numbers m (h ++ turns_of m h) ≡ []
    by rest [] is = no_turn m h is
    by rest (x ∷ xs) is =
        let some : 0 < length (pending_numbers m h) = omega (arith, ap length is) in
        let u = turn_end m h in
        let after : List Entry = h ++ Done m u ∷ [] in
        let next : pending_numbers m after ≡ drop 64 (pending_numbers m h) = turn_pending m h a some in
        let ends : turn_ends 63 (pending_numbers m h) ≡ u ∷ turn_ends 63 (pending_numbers m after) =
        turn_of (pending_numbers m h) some ∙ ap (λ ys. u ∷ turn_ends 63 ys) (sym next) in
        let whole : h ++ turns_of m h ≡ after ++ turns_of m after =
        ap (λ ends. h ++ map (Done m) ends) ends ∙ sym (append_assoc h (Done m u ∷ []) (turns_of m after)) in
        let shorter : length (pending_numbers m after) ≤ most =
        omega (arith, ap length next, length-drop 64 (pending_numbers m h), some, short) in
        ap (pending_numbers m) whole ∙ rest after (AreNumbered-done m u h a) shorter

-- turns change no post
posts_turns : (m : ℕ) (ends : List ℕ) → posts_of m (map (Done m) ends) ≡ []
posts_turns m [] = refl
posts_turns m (end ∷ ends) = posts_turns m ends

pub turns_pending : (m : ℕ) (h : List Entry) → AreNumbered h → pending_numbers m (h ++ turns_of m h) ≡ []
turns_pending m h a = all_turns (length (pending_numbers m h)) m h a (omega arith)

pub turns_processed : (m : ℕ) (h : List Entry) → AreNumbered h → processed_batches m (h ++ turns_of m h) ≡ map (λ (post : ℕ × List Measure). post.1) (posts_of m h)
turns_processed m h a =
    let after : List Entry = h ++ turns_of m h in
    let measures : ℕ × List Measure → List Measure = λ post. post.1 in
    let posts : posts_of m after ≡ posts_of m h =
    posts_of-append m h (turns_of m h) ∙ ap (λ ys. posts_of m h ++ ys) (posts_turns m (turn_ends 63 (pending_numbers m h))) ∙ append-nil (posts_of m h) in
    ap (map measures) (all_upto number (done_number m after) (posts_of m after) (turns_pending m h a) ∙ posts)
