-- What a table has at a key, once another key was put in or dropped.
use Rattle.std.proofs.Common.{◌≡◌, Bool, true, false, cond, List, [], ◌∷◌, ◌++◌, Option, Some, None, refl, sym, ap, ◌∙◌}
use Rattle.std.specs.List.{filter}
use Rattle.std.specs.Ordering.{is_lt, is_eq, is_gt, ordering_reverse}
use Rattle.std.specs.Cmp.{IsTotalOrder}
use Rattle.std.specs.declared.cmp.Ordering.{Ordering}
use Rattle.std.specs.declared.cmp.Ordering.TheVariants.{Less, Equal, Greater}
use Rattle.front_api.specs.Tables.{above, below, found, gone, put}

-- ---- orderings

pub eq_is : (v : Ordering) → is_eq v ≡ true → v ≡ Equal
eq_is Less e = absurd cc
eq_is Equal e = refl
eq_is Greater e = absurd cc

lt_not_eq : (v : Ordering) → is_lt v ≡ true → is_eq v ≡ false
lt_not_eq Less e = refl
lt_not_eq Equal e = absurd cc
lt_not_eq Greater e = refl

gt_not_eq : (v : Ordering) → is_gt v ≡ true → is_eq v ≡ false
gt_not_eq Less e = refl
gt_not_eq Equal e = absurd cc
gt_not_eq Greater e = refl

-- ---- what is found in parts

abbrev first_of : {X : Type 0} → Option X → Option X → Option X
first_of None other = other
first_of (Some x) other = Some x

module _ {X : Type 0} (order : X → Ordering) where
  or_step : (b : Bool) (x : X) (xs ys : Option X) (zs : Option X) → zs ≡ first_of xs ys → cond b (Some x) zs ≡ first_of (cond b (Some x) xs) ys
  or_step true x xs ys zs e = refl
  or_step false x xs ys zs e = e

  found-append : (xs ys : List X) → found order (xs ++ ys) ≡ first_of (found order xs) (found order ys)
  found-append [] ys = refl
  found-append (x ∷ xs) ys = or_step (is_eq (order x)) x (found order xs) (found order ys) (found order (xs ++ ys)) (found-append xs ys)

  keep_step : (p b : Bool) (x : X) (xs : List X) (all : Option X) → (b ≡ true → p ≡ true) → is_eq (order x) ≡ b → found order xs ≡ all → found order (cond p (x ∷ xs) xs) ≡ cond b (Some x) all
  keep_step true b x xs all imp is e = ap (λ v. cond v (Some x) (found order xs)) is ∙ ap (λ o. cond b (Some x) o) e
  keep_step false true x xs all imp is e = absurd (let h = imp refl in cc)
  keep_step false false x xs all imp is e = e

  found-filter : (p : X → Bool) (xs : List X) → ((x : X) → is_eq (order x) ≡ true → p x ≡ true) → found order (filter p xs) ≡ found order xs
  found-filter p [] imp = refl
  found-filter p (x ∷ xs) imp = keep_step (p x) (is_eq (order x)) x (filter p xs) (found order xs) (imp x) refl (found-filter p xs imp)

  lose_step : (p : Bool) (x : X) (xs : List X) → (p ≡ true → is_eq (order x) ≡ false) → found order xs ≡ None → found order (cond p (x ∷ xs) xs) ≡ None
  lose_step true x xs imp e = ap (λ v. cond v (Some x) (found order xs)) (imp refl) ∙ e
  lose_step false x xs imp e = e

  found-none : (p : X → Bool) (xs : List X) → ((x : X) → p x ≡ true → is_eq (order x) ≡ false) → found order (filter p xs) ≡ None
  found-none p [] imp = refl
  found-none p (x ∷ xs) imp = lose_step (p x) x (filter p xs) (imp x) (found-none p xs imp)

none_then : {X : Type 0} (a b : Option X) → a ≡ None → first_of a b ≡ b
none_then a b e = ap (λ o. first_of o b) e

then_none : {X : Type 0} (a b : Option X) → b ≡ None → first_of a b ≡ a
then_none None b e = e
then_none (Some x) b e = refl

not_found_head : {X : Type 0} (order : X → Ordering) (x : X) (xs : List X) → is_eq (order x) ≡ false → found order (x ∷ xs) ≡ found order xs
not_found_head order x xs e = ap (λ v. cond v (Some x) (found order xs)) e

found_head : {X : Type 0} (order : X → Ordering) (x : X) (xs : List X) → is_eq (order x) ≡ true → found order (x ∷ xs) ≡ Some x
found_head order x xs e = ap (λ v. cond v (Some x) (found order xs)) e

-- ---- by a total order of the keys

module _ {X K : Type 0} (cmp : K → K → Ordering) (o : IsTotalOrder cmp) (key : X → K) where
  abbrev to : K → X → Ordering
  to k x = cmp (key x) k

  back : (a b : K) (v : Ordering) → cmp a b ≡ v → cmp b a ≡ ordering_reverse v
  back a b v e = o.antisymm b a ∙ ap ordering_reverse e

  -- what is at one key compares to another as the key does
  same_side : (sought at : K) (x : X) → is_eq (to sought x) ≡ true → to at x ≡ cmp sought at
  same_side sought at x e = o.congr (key x) sought at (eq_is (to sought x) e)

  -- a key that is one compares as the other does
  same_key : (sought at : K) (x : X) → cmp sought at ≡ Equal → to sought x ≡ to at x
  same_key sought at x e =
      o.antisymm (key x) sought ∙ ap ordering_reverse (o.congr sought at (key x) e) ∙ sym (o.antisymm (key x) at)

  module _ (sought at : K) where
    lower_is : (v : Ordering) → cmp sought at ≡ v → is_lt v ≡ true → (x : X) → is_eq (to sought x) ≡ true → is_lt (to at x) ≡ true
    lower_is v e lt x here = ap is_lt (same_side sought at x here ∙ e) ∙ lt

    upper_is : (v : Ordering) → cmp sought at ≡ v → is_gt v ≡ true → (x : X) → is_eq (to sought x) ≡ true → is_gt (to at x) ≡ true
    upper_is v e gt x here = ap is_gt (same_side sought at x here ∙ e) ∙ gt

    -- where an item's side is another one, the item isn't at the key
    apart : (v : Ordering) (test : Ordering → Bool) → cmp sought at ≡ v → test v ≡ false → (x : X) → test (to at x) ≡ true → is_eq (to sought x) ≡ false
    apart v test e fails x passes = by (is_eq (to sought x)) refl
      where
        by : (b : Bool) → is_eq (to sought x) ≡ b → b ≡ false
        by false h = refl
        by true h = absurd (let e2 = ap test (same_side sought at x h ∙ e) in cc)

    rest_of : (v : Ordering) → cmp sought at ≡ v → (xs : List X) → first_of (found (to sought) (below (to at) xs)) (found (to sought) (above (to at) xs)) ≡ cond (is_eq v) None (found (to sought) xs)
    rest_of Less e xs =
        then_none _ _ (found-none (to sought) (λ x. is_gt (to at x)) xs (apart Less is_gt e refl)) ∙ found-filter (to sought) (λ x. is_lt (to at x)) xs (lower_is Less e refl)
    rest_of Greater e xs =
        none_then _ _ (found-none (to sought) (λ x. is_lt (to at x)) xs (apart Greater is_lt e refl)) ∙ found-filter (to sought) (λ x. is_gt (to at x)) xs (upper_is Greater e refl)
    rest_of Equal e xs =
        none_then _ _ (found-none (to sought) (λ x. is_lt (to at x)) xs (apart Equal is_lt e refl)) ∙ found-none (to sought) (λ x. is_gt (to at x)) xs (apart Equal is_gt e refl)

    pub found-gone : (xs : List X) → found (to sought) (gone (to at) xs) ≡ cond (is_eq (cmp sought at)) None (found (to sought) xs)
    found-gone xs = found-append (to sought) (below (to at) xs) (above (to at) xs) ∙ rest_of (cmp sought at) refl xs

    put_step : (v : Ordering) → cmp sought at ≡ v → (x : X) (xs : List X) → key x ≡ at
        → first_of (found (to sought) (below (to at) xs)) (found (to sought) (x ∷ above (to at) xs)) ≡ cond (is_eq v) (Some x) (found (to sought) xs)
    put_step Less e x xs is =
        ap (first_of (found (to sought) (below (to at) xs))) (not_found_head (to sought) x (above (to at) xs) (ap (λ k. is_eq (cmp k sought)) is ∙ ap is_eq (back sought at Less e))) ∙ rest_of Less e xs
    put_step Greater e x xs is =
        ap (first_of (found (to sought) (below (to at) xs))) (not_found_head (to sought) x (above (to at) xs) (ap (λ k. is_eq (cmp k sought)) is ∙ ap is_eq (back sought at Greater e))) ∙ rest_of Greater e xs
    put_step Equal e x xs is =
        none_then _ _ (found-none (to sought) (λ x. is_lt (to at x)) xs (apart Equal is_lt e refl))
        ∙ found_head (to sought) x (above (to at) xs) (ap (λ k. is_eq (cmp k sought)) is ∙ ap is_eq (back sought at Equal e))

    pub found-put : (x : X) (xs : List X) → key x ≡ at → found (to sought) (put (to at) x xs) ≡ cond (is_eq (cmp sought at)) (Some x) (found (to sought) xs)
    found-put x xs is = found-append (to sought) (below (to at) xs) (x ∷ above (to at) xs) ∙ put_step (cmp sought at) refl x xs is
