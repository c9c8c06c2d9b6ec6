-- The sacks of a store, taken from the end of a vector and opened one after the other.
use Rattle.std.proofs.Common.{◌≡◌, ℕ, ◌+◌, List, [], ◌∷◌, ◌++◌, reverse, length, refl, sym, ap, subst, ◌∙◌, append-nil, append_assoc, arith, suc}
use Rattle.std.specs.List.{flat_map}
use Rattle.std.proofs.lemmas.List.{reverse-append, reverse-reverse}
use Rattle.std.specs.declared.result.Result.{Result}
use Rattle.std.specs.declared.result.Result.TheVariants.{Ok, Err}
use Rattle.sack_state.specs.declared.disks.SackDisks.{SackDisks}
use Rattle.sack_state.specs.SackView.{SackView}
use Rattle.front.specs.Making.{OpensSacks, all, some}
use Rattle.front.specs.Plan.{five}

-- there is a sack left
pub record HasNext {D : Type 0} (left : List (SackDisks D)) : Type 0 where
  pub first : SackDisks D
  pub rest : List (SackDisks D)
  pub is : left ≡ first ∷ rest

pub has_next : {D : Type 0} (left : List (SackDisks D)) (k n : ℕ) → length left + k ≡ n → (k ≡ n → ⊥) → HasNext left
has_next [] k n many other = absurd (other (omega (arith, many)))
has_next (d ∷ left) k n many other = record { first = d; rest = left; is = refl }

pub has_none : {D : Type 0} (left : List (SackDisks D)) (k n : ℕ) → length left + k ≡ n → k ≡ n → left ≡ []
has_none [] k n many same = refl
has_none (d ∷ left) k n many same = absurd (let e : suc (length left) + k ≡ n = many in omega (arith, e, same))

-- one sack is less to come
pub one_less : {D : Type 0} (left : List (SackDisks D)) (next : HasNext left) (k n : ℕ) → length left + k ≡ n → length next.rest + (k + 1) ≡ n
one_less left next k n many = let e : length left ≡ suc (length next.rest) = ap length next.is in omega (arith, many, e)

same_five : {D : Type 0} (a b : SackDisks D) → a.incoming_a ≡ b.incoming_a → a.incoming_b ≡ b.incoming_b → a.shelf_a ≡ b.shelf_a → a.shelf_b ≡ b.shelf_b → a.blocks ≡ b.blocks → a ≡ b
same_five a b e1 e2 e3 e4 e5 =
    ap (λ x. record { incoming_a = x; incoming_b = a.incoming_b; shelf_a = a.shelf_a; shelf_b = a.shelf_b; blocks = a.blocks }) e1
    ∙ ap (λ x. record { incoming_a = b.incoming_a; incoming_b = x; shelf_a = a.shelf_a; shelf_b = a.shelf_b; blocks = a.blocks }) e2
    ∙ ap (λ x. record { incoming_a = b.incoming_a; incoming_b = b.incoming_b; shelf_a = x; shelf_b = a.shelf_b; blocks = a.blocks }) e3
    ∙ ap (λ x. record { incoming_a = b.incoming_a; incoming_b = b.incoming_b; shelf_a = b.shelf_a; shelf_b = x; blocks = a.blocks }) e4
    ∙ ap (λ x. record { incoming_a = b.incoming_a; incoming_b = b.incoming_b; shelf_a = b.shelf_a; shelf_b = b.shelf_b; blocks = x }) e5

-- what was taken from the end is the first of them
pub record TakesFirst {D : Type 0} (d taken : SackDisks D) (left rest : List D) : Type 0 where
  pub is : taken ≡ d
  pub rest_is : rest ≡ reverse left

pub takes_first : {D : Type 0} (d : SackDisks D) (others : List (SackDisks D)) (items rest : List D) (taken : SackDisks D) → items ≡ reverse (flat_map five (d ∷ others)) → items ≡ rest ++ reverse (five taken)
    → TakesFirst d taken (flat_map five others) rest
takes_first {D} d others items rest taken all_is split = record {
  is = same_five taken d (head1 (sym turned)) (head2 (sym turned)) (head3 (sym turned)) (head4 (sym turned)) (head5 (sym turned));
  rest_is = sym (reverse-reverse rest) ∙ ap (λ l. reverse l) (sym (tails turned));
}
  where
    turned : five d ++ flat_map five others ≡ five taken ++ reverse rest
    turned = sym (reverse-reverse (five d ++ flat_map five others)) ∙ ap (λ l. reverse l) (sym all_is ∙ split) ∙ reverse-append rest (reverse (five taken)) ∙ ap (λ l. l ++ reverse rest) (reverse-reverse (five taken))

    head1 : {a b c e f a' b' c' e' f' : D} {xs ys : List D} → (a ∷ b ∷ c ∷ e ∷ f ∷ xs) ≡ (a' ∷ b' ∷ c' ∷ e' ∷ f' ∷ ys) → a ≡ a'
    head1 same = cc

    head2 : {a b c e f a' b' c' e' f' : D} {xs ys : List D} → (a ∷ b ∷ c ∷ e ∷ f ∷ xs) ≡ (a' ∷ b' ∷ c' ∷ e' ∷ f' ∷ ys) → b ≡ b'
    head2 same = cc

    head3 : {a b c e f a' b' c' e' f' : D} {xs ys : List D} → (a ∷ b ∷ c ∷ e ∷ f ∷ xs) ≡ (a' ∷ b' ∷ c' ∷ e' ∷ f' ∷ ys) → c ≡ c'
    head3 same = cc

    head4 : {a b c e f a' b' c' e' f' : D} {xs ys : List D} → (a ∷ b ∷ c ∷ e ∷ f ∷ xs) ≡ (a' ∷ b' ∷ c' ∷ e' ∷ f' ∷ ys) → e ≡ e'
    head4 same = cc

    head5 : {a b c e f a' b' c' e' f' : D} {xs ys : List D} → (a ∷ b ∷ c ∷ e ∷ f ∷ xs) ≡ (a' ∷ b' ∷ c' ∷ e' ∷ f' ∷ ys) → f ≡ f'
    head5 same = cc

    tails : {a b c e f a' b' c' e' f' : D} {xs ys : List D} → (a ∷ b ∷ c ∷ e ∷ f ∷ xs) ≡ (a' ∷ b' ∷ c' ∷ e' ∷ f' ∷ ys) → xs ≡ ys
    tails same = cc

-- and it is put back as the first of them
pub puts_first : {D : Type 0} (back : SackDisks D) (others : List (SackDisks D)) (rest new : List D) → rest ≡ reverse (flat_map five others) → new ≡ rest ++ reverse (five back) → new ≡ reverse (flat_map five (back ∷ others))
puts_first back others rest new rest_is put = put ∙ ap (λ l. l ++ reverse (five back)) rest_is ∙ sym (reverse-append (five back) (flat_map five others))

module _ {D F : Type 0} (Opened : ℕ → SackDisks D → SackView D → Type 0) (Unopened : ℕ → SackDisks D → SackDisks D → F → Type 0) where
  pub opens_none : (sack : ℕ) (left : List (SackDisks D)) (items : List D) (old : List (SackView D)) → left ≡ [] → items ≡ reverse (flat_map five left) → OpensSacks Opened Unopened sack left items old old (Ok tt)
  opens_none sack left items old none is = subst (λ (l : List (SackDisks D)). OpensSacks Opened Unopened sack l items old old (Ok tt)) (sym none)
      (all [] tt (is ∙ ap (λ l. reverse (flat_map five l)) none) (sym (append-nil old)) refl)

  pub opens_failed : (sack : ℕ) (left : List (SackDisks D)) (next : HasNext left) (back : SackDisks D) (items : List D) (old : List (SackView D)) (fault : F) → Unopened sack next.first back fault
      → items ≡ reverse (flat_map five (back ∷ next.rest)) → OpensSacks Opened Unopened sack left items old old (Err fault)
  opens_failed sack left next back items old fault un is =
      some [] next.rest next.first back [] fault next.is tt (subst (λ (k : ℕ). Unopened k next.first back fault) (let e : sack ≡ sack + 0 = omega arith in e) un) is (sym (append-nil old)) refl

  pub opens_more : (sack : ℕ) (left : List (SackDisks D)) (next : HasNext left) (v : SackView D) (items : List D) (old new : List (SackView D)) (result : Result (Unit {0}) F) → Opened sack next.first v
      → OpensSacks Opened Unopened (sack + 1) next.rest items (old ++ v ∷ []) new result → OpensSacks Opened Unopened sack left items old new result
  opens_more sack left next v items old new result opened (all sacks are none new_is ok) =
      subst (λ (l : List (SackDisks D)). OpensSacks Opened Unopened sack l items old new result) (sym next.is)
      (all (v ∷ sacks) (opened, are) none (new_is ∙ append_assoc old (v ∷ []) sacks) ok)
  opens_more sack left next v items old new result opened (some front rest one back sacks fault split are un left_is new_is err) =
      some (next.first ∷ front) rest one back (v ∷ sacks) fault (next.is ∙ ap (λ l. next.first ∷ l) split) (opened, are)
      (subst (λ (k : ℕ). Unopened k one back fault) (let e : (sack + 1) + length front ≡ sack + suc (length front) = omega arith in e) un) left_is (new_is ∙ append_assoc old (v ∷ []) sacks) err
