-- Disks in groups of five.
use Rattle.std.proofs.Common.{◌≡◌, ℕ, ◌+◌, ◌*◌, List, [], ◌∷◌, reverse, length, refl, sym, ap, ◌∙◌, arith, suc, zero}
use Rattle.std.specs.List.{flat_map}
use Rattle.std.proofs.lemmas.List.{reverse-reverse, length-reverse}
use Rattle.sack_state.specs.declared.disks.SackDisks.{SackDisks}
use Rattle.sack_state.specs.SackView.{SackView}
use Rattle.front.specs.Inside.{AreInPlace}
use Rattle.front.specs.Making.{AreOpened}
use Rattle.front.specs.Plan.{StoreDisks, disk_count, five, in_plan, sack_place}

-- a list of the disks of so many sacks
pub record IsOfFive {D : Type 0} (n : ℕ) (xs : List D) : Type 0 where
  pub groups : List (SackDisks D)
  pub are : xs ≡ flat_map five groups
  pub many : length groups ≡ n

pub of_five : {D : Type 0} (n : ℕ) (xs : List D) → length xs ≡ 5 * n → IsOfFive n xs
of_five zero [] many = record { groups = []; are = refl; many = refl }
of_five zero (a ∷ xs) many = absurd (let e : suc (length xs) ≡ 5 * 0 = many in omega (arith, e))
of_five (suc n) [] many = absurd (let e : 0 ≡ 5 * suc n = many in omega (arith, e))
of_five (suc n) (a ∷ []) many = absurd (let e : 1 ≡ 5 * suc n = many in omega (arith, e))
of_five (suc n) (a ∷ b ∷ []) many = absurd (let e : 2 ≡ 5 * suc n = many in omega (arith, e))
of_five (suc n) (a ∷ b ∷ c ∷ []) many = absurd (let e : 3 ≡ 5 * suc n = many in omega (arith, e))
of_five (suc n) (a ∷ b ∷ c ∷ d ∷ []) many = absurd (let e : 4 ≡ 5 * suc n = many in omega (arith, e))
of_five (suc n) (a ∷ b ∷ c ∷ d ∷ z ∷ xs) many =
    let e : suc (suc (suc (suc (suc (length xs))))) ≡ 5 * suc n = many in
    let rest = of_five n xs (omega (arith, e)) in
    record {
      groups = record { incoming_a = a; incoming_b = b; shelf_a = c; shelf_b = d; blocks = z } ∷ rest.groups;
      are = ap (λ l. a ∷ b ∷ c ∷ d ∷ z ∷ l) rest.are;
      many = ap suc rest.many;
    }

-- the same of disks in the opposite order
pub record IsOfFiveBack {D : Type 0} (n : ℕ) (xs : List D) : Type 0 where
  pub groups : List (SackDisks D)
  pub are : xs ≡ reverse (flat_map five groups)
  pub many : length groups ≡ n

pub of_five_back : {D : Type 0} (n : ℕ) (xs : List D) → length xs ≡ 5 * n → IsOfFiveBack n xs
of_five_back n xs many =
    let back = of_five n (reverse xs) (length-reverse xs ∙ many) in
    record { groups = back.groups; are = sym (reverse-reverse xs) ∙ ap (λ l. reverse l) back.are; many = back.many }

-- the disks of a store are in the order of the plan
pub record IsOnPlan {D : Type 0} (n : ℕ) (xs : List D) : Type 0 where
  pub from : StoreDisks D
  pub are : xs ≡ in_plan from
  pub many : length from.sacks ≡ n

pub on_plan : {D : Type 0} (n : ℕ) (xs : List D) → length xs ≡ disk_count n → IsOnPlan n xs
on_plan n [] many = absurd (let e : 0 ≡ 2 + 5 * n = many in omega (arith, e))
on_plan n (a ∷ []) many = absurd (let e : 1 ≡ 2 + 5 * n = many in omega (arith, e))
on_plan n (a ∷ b ∷ xs) many =
    let e : suc (suc (length xs)) ≡ 2 + 5 * n = many in
    let rest = of_five n xs (omega (arith, e)) in
    record { from = record { index_a = a; index_b = b; sacks = rest.groups }; are = ap (λ l. a ∷ b ∷ l) rest.are; many = rest.many }

-- opened sacks are in their places
pub opened_in_place : {D : Type 0} (Opened : ℕ → SackDisks D → SackView D → Type 0) (total sack : ℕ) (disks : List (SackDisks D)) (sacks : List (SackView D))
    → ((k : ℕ) (d : SackDisks D) (v : SackView D) → Opened k d v → v.place ≡ sack_place total k) → AreOpened Opened sack disks sacks → AreInPlace total sack sacks
opened_in_place Opened total sack [] [] place are = tt
opened_in_place Opened total sack [] (v ∷ sacks) place are = absurd are
opened_in_place Opened total sack (d ∷ disks) [] place are = absurd are
opened_in_place Opened total sack (d ∷ disks) (v ∷ sacks) place are = (place sack d v are.0, opened_in_place Opened total (sack + 1) disks sacks place are.1)
