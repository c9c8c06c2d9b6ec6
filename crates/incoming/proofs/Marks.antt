-- Marks whose numbers rise, and where those that pass a test stand.
use Rattle.std.proofs.Common.{◌≡◌, ℕ, zero, suc, ◌+◌, ◌-◌, ◌<◌, ◌≤◌, Bool, true, false, cond, ◌&&◌, leb, ltb, List, [], ◌∷◌, ◌++◌, length, get_or, map, drop, Option, Some, refl, sym, ap, subst, ◌∙◌, arith, append_assoc}
use Rattle.std.specs.List.{filter, AllByRecursion, slice_get}
use Rattle.std.proofs.lemmas.Option.{get_or_from_slice_get, slice_get_within}
use Rattle.std.proofs.lemmas.List.{length_push, get_or_at}
use Rattle.incoming.specs.declared.mark.Mark.{Mark}
use Rattle.incoming.specs.Lists.{places_where}
use Rattle.incoming.specs.Posts.{RiseFrom, last_from}

-- ---- numbers that rise

pub RiseFrom-push : (n : ℕ) (marks : List Mark) (mark : Mark) → RiseFrom n marks → last_from n marks < mark.number → RiseFrom n (marks ++ mark ∷ [])
RiseFrom-push n [] mark rise lt = (lt, tt)
RiseFrom-push n (m ∷ marks) mark rise lt = (rise.0, RiseFrom-push m.number marks mark rise.1 lt)

pub last_from-push : (n : ℕ) (marks : List Mark) (mark : Mark) → last_from n (marks ++ mark ∷ []) ≡ mark.number
last_from-push n [] mark = refl
last_from-push n (m ∷ marks) mark = last_from-push m.number marks mark

-- a mark among others is above those before it
pub RiseFrom-at : (n : ℕ) (marks : List Mark) (mark : Mark) (rest : List Mark) → RiseFrom n (marks ++ mark ∷ rest) → last_from n marks < mark.number
RiseFrom-at n [] mark rest rise = rise.0
RiseFrom-at n (m ∷ marks) mark rest rise = RiseFrom-at m.number marks mark rest rise.1

RiseFrom-lower : (n m : ℕ) (marks : List Mark) → n ≤ m → RiseFrom m marks → RiseFrom n marks
RiseFrom-lower n m [] le rise = tt
RiseFrom-lower n m (mark ∷ marks) le rise = (omega (arith, rise.0), rise.1)

kept_or : (b : Bool) (n : ℕ) (mark : Mark) (marks : List Mark) → n < mark.number → RiseFrom mark.number marks → RiseFrom n (cond b (mark ∷ marks) marks)
kept_or true n mark marks lt rise = (lt, rise)
kept_or false n mark marks lt rise = RiseFrom-lower n mark.number marks (omega arith) rise

pub RiseFrom-filter : (test : Mark → Bool) (n : ℕ) (marks : List Mark) → RiseFrom n marks → RiseFrom n (filter test marks)
RiseFrom-filter test n [] rise = tt
RiseFrom-filter test n (mark ∷ marks) rise = kept_or (test mark) n mark (filter test marks) rise.0 (RiseFrom-filter test mark.number marks rise.1)

RiseFrom-least : (n : ℕ) (marks : List Mark) (k : ℕ) (d : Mark) → RiseFrom n marks → k < length marks → n < (get_or marks k d).number
RiseFrom-least n [] k d rise lt = absurd (omega arith)
RiseFrom-least n (mark ∷ marks) zero d rise lt = rise.0
RiseFrom-least n (mark ∷ marks) (suc k) d rise lt = omega (arith, rise.0, RiseFrom-least mark.number marks k d rise.1 (omega arith))

pub RiseFrom-mono : (n : ℕ) (marks : List Mark) (i j : ℕ) (d : Mark) → RiseFrom n marks → i ≤ j → j < length marks → (get_or marks i d).number ≤ (get_or marks j d).number
RiseFrom-mono n [] i j d rise le lt = absurd (omega arith)
RiseFrom-mono n (mark ∷ marks) zero zero d rise le lt = omega arith
RiseFrom-mono n (mark ∷ marks) zero (suc j) d rise le lt = omega (arith, RiseFrom-least mark.number marks j d rise.1 (omega arith))
RiseFrom-mono n (mark ∷ marks) (suc i) zero d rise le lt = absurd (omega arith)
RiseFrom-mono n (mark ∷ marks) (suc i) (suc j) d rise le lt = RiseFrom-mono mark.number marks i j d rise.1 (omega arith) (omega arith)

-- ---- what stands at the places

values_step : {X Y : Type 0} (b : Bool) (g : ℕ → Y) (F : X → Y) (k : ℕ) (ks : List ℕ) (x : X) (xs : List X) → g k ≡ F x → map g ks ≡ map F xs → map g (cond b (k ∷ ks) ks) ≡ map F (cond b (x ∷ xs) xs)
values_step true g F k ks x xs here rest = cc
values_step false g F k ks x xs here rest = rest

-- reading at the places gives what passes the test
pub places-values : {X Y : Type 0} (key : X → Mark) (F : X → Y) (d : X) (test : Mark → Bool) (front xs : List X) (k : ℕ) → length front ≡ k
    → map (λ at. F (get_or (front ++ xs) at d)) (places_where test k (map key xs)) ≡ map F (filter (λ x. test (key x)) xs)
places-values key F d test front [] k is = refl
places-values {X} {Y} key F d test front (x ∷ xs) k is =
    let whole : (front ++ x ∷ []) ++ xs ≡ front ++ (x ∷ xs) = append_assoc front (x ∷ []) xs in
    let rest = places-values key F d test (front ++ x ∷ []) xs (k + 1) (length_push front x ∙ ap (λ n. n + 1) is) in
    let rest_is : map (λ at. F (get_or (front ++ (x ∷ xs)) at d)) (places_where test (k + 1) (map key xs)) ≡ map F (filter (λ y. test (key y)) xs) =
    subst (λ (ys : List X). map (λ at. F (get_or ys at d)) (places_where test (k + 1) (map key xs)) ≡ map F (filter (λ y. test (key y)) xs)) whole rest in
    values_step (test (key x)) (λ at. F (get_or (front ++ (x ∷ xs)) at d)) F k (places_where test (k + 1) (map key xs)) x (filter (λ y. test (key y)) xs)
    (ap F (get_or_at front x xs d k is)) rest_is

both_step : (b c : Bool) (f : ℕ → Bool) (k : ℕ) (ks ls : List ℕ) → f k ≡ c → filter f ks ≡ ls → filter f (cond b (k ∷ ks) ks) ≡ cond (b && c) (k ∷ ls) ls
both_step true c f k ks ls here rest = ap (λ (v : Bool). cond v (k ∷ filter f ks) (filter f ks)) here ∙ ap (λ (l : List ℕ). cond c (k ∷ l) l) rest
both_step false c f k ks ls here rest = rest

-- of the places of what passes a test, those of what passes another one too
pub places-both : (test other : Mark → Bool) (d : Mark) (front marks : List Mark) (k : ℕ) → length front ≡ k
    → filter (λ at. other (get_or (front ++ marks) at d)) (places_where test k marks) ≡ places_where (λ m. test m && other m) k marks
places-both test other d front [] k is = refl
places-both test other d front (mark ∷ marks) k is =
    let whole : (front ++ mark ∷ []) ++ marks ≡ front ++ (mark ∷ marks) = append_assoc front (mark ∷ []) marks in
    let rest = places-both test other d (front ++ mark ∷ []) marks (k + 1) (length_push front mark ∙ ap (λ n. n + 1) is) in
    let rest_is : filter (λ at. other (get_or (front ++ (mark ∷ marks)) at d)) (places_where test (k + 1) marks) ≡ places_where (λ m. test m && other m) (k + 1) marks =
    subst (λ (ms : List Mark). filter (λ at. other (get_or ms at d)) (places_where test (k + 1) marks) ≡ places_where (λ m. test m && other m) (k + 1) marks) whole rest in
    both_step (test mark) (other mark) (λ at. other (get_or (front ++ (mark ∷ marks)) at d)) k (places_where test (k + 1) marks) (places_where (λ m. test m && other m) (k + 1) marks)
    (ap other (get_or_at front mark marks d k is)) rest_is

push_step : (b c : Bool) (k : ℕ) (ks : List ℕ) (e : List ℕ) → cond b (k ∷ cond c (ks ++ e) ks) (cond c (ks ++ e) ks) ≡ cond c (cond b (k ∷ ks) ks ++ e) (cond b (k ∷ ks) ks)
push_step true true k ks e = refl
push_step true false k ks e = refl
push_step false true k ks e = refl
push_step false false k ks e = refl

-- the places with one mark more
pub places-push : (test : Mark → Bool) (k : ℕ) (marks : List Mark) (mark : Mark) (n : ℕ) → k + length marks ≡ n
    → places_where test k (marks ++ mark ∷ []) ≡ cond (test mark) (places_where test k marks ++ n ∷ []) (places_where test k marks)
places-push test k [] mark n is = let e : k ≡ n = omega arith in ap (λ (i : ℕ). cond (test mark) (i ∷ []) []) e
places-push test k (m ∷ marks) mark n is =
    let e : (k + 1) + length marks ≡ n = omega arith in
    ap (λ (l : List ℕ). cond (test m) (k ∷ l) l) (places-push test (k + 1) marks mark n e)
    ∙ push_step (test m) (test mark) k (places_where test (k + 1) marks) (n ∷ [])

within_step : (b : Bool) (k n : ℕ) (ks : List ℕ) → k < n → AllByRecursion (λ at. at < n) ks → AllByRecursion (λ at. at < n) (cond b (k ∷ ks) ks)
within_step true k n ks lt all = (lt, all)
within_step false k n ks lt all = all

-- at each place there is a mark
pub places-within : (test : Mark → Bool) (k : ℕ) (marks : List Mark) (n : ℕ) → k + length marks ≡ n → AllByRecursion (λ at. at < n) (places_where test k marks)
places-within test k [] n is = tt
places-within test k (mark ∷ marks) n is = within_step (test mark) k n (places_where test (k + 1) marks) (omega arith) (places-within test (k + 1) marks n (omega arith))

-- what stands behind a point is what passes a test, where nothing before it does
pub drop-filter : {X : Type 0} (test : X → Bool) (xs : List X) (i : ℕ) → ((k : ℕ) (d : X) → k < i → k < length xs → test (get_or xs k d) ≡ false) → ((k : ℕ) (d : X) → i ≤ k → k < length xs → test (get_or xs k d) ≡ true)
    → drop i xs ≡ filter test xs
drop-filter test [] zero none all = refl
drop-filter test [] (suc i) none all = refl
drop-filter test (x ∷ xs) zero none all =
    let rest = drop-filter test xs zero (λ k d lt in_it. absurd (omega arith)) (λ k d le lt. all (suc k) d (omega arith) (omega arith)) in
    ap (λ (l : List _). x ∷ l) rest ∙ ap (λ (b : Bool). cond b (x ∷ filter test xs) (filter test xs)) (sym (all 0 x (omega arith) (omega arith)))
drop-filter test (x ∷ xs) (suc i) none all =
    let rest = drop-filter test xs i (λ k d lt in_it. none (suc k) d (omega arith) (omega arith)) (λ k d le lt. all (suc k) d (omega arith) (omega arith)) in
    rest ∙ ap (λ (b : Bool). cond b (x ∷ filter test xs) (filter test xs)) (sym (none 0 x (omega arith) (omega arith)))

last_is : (n : ℕ) (marks : List Mark) (mark : Mark) (k : ℕ) → length marks ≡ suc k → get_or marks k mark ≡ mark → last_from n marks ≡ mark.number
last_is n [] mark k long is = absurd (omega (arith, long))
last_is n (m ∷ []) mark zero long is = ap (λ (x : Mark). x.number) is
last_is n (m ∷ []) mark (suc k) long is = absurd (omega (arith, long))
last_is n (m ∷ o ∷ marks) mark zero long is = absurd (omega (arith, long))
last_is n (m ∷ o ∷ marks) mark (suc k) long is = last_is m.number (o ∷ marks) mark k (omega (arith, long)) is

-- the last mark's number, read there
pub last_read : (marks : List Mark) (mark : Mark) → slice_get marks (length marks - 1) ≡ Some mark → last_from 0 marks ≡ mark.number
last_read marks mark is =
    let within = slice_get_within marks (length marks - 1) mark is in
    let long : length marks ≡ suc (length marks - 1) = omega (arith, within) in
    last_is 0 marks mark (length marks - 1) long (get_or_from_slice_get marks (length marks - 1) mark mark is)
