-- The first item that passes a test.
use Rattle.std.proofs.Common.{◌≡◌, ℕ, suc, ◌+◌, Bool, true, false, not, cond, ltb, List, [], ◌∷◌, ◌++◌, length, Option, Some, None, refl, sym, ap, ◌∙◌, arith}
use Rattle.std.specs.List.{position, position_or_len}
use Rattle.std.specs.Option.{option_map}
use Rattle.std.proofs.lemmas.Bool.{lt-ltb, le-ltb}
use Rattle.std.proofs.Math.Logic.{⊎_elim}
use Rattle.std.proofs.lemmas.Bool.{cases_lt}

-- its place, by recursion
abbrev pub first_at : {X : Type 0} → (X → Bool) → List X → Option ℕ
first_at p [] = None
first_at p (x ∷ xs) = cond (p x) (Some 0) (option_map (λ k. 1 + k) (first_at p xs))

more : (n len : ℕ) → cond (ltb (1 + n) (suc len)) (Some (1 + n)) None ≡ option_map (λ k. 1 + k) (cond (ltb n len) (Some n) None)
more n len =
    ⊎_elim
    (λ lt. ap (λ b. cond b (Some (1 + n)) None) (lt-ltb (1 + n) (suc len) (omega (arith, lt))) ∙ sym (ap (λ b. option_map (λ k. 1 + k) (cond b (Some n) None)) (lt-ltb n len lt)))
    (λ ge. ap (λ b. cond b (Some (1 + n)) None) (le-ltb (1 + n) (suc len) (omega (arith, ge))) ∙ sym (ap (λ b. option_map (λ k. 1 + k) (cond b (Some n) None)) (le-ltb n len ge)))
    (cases_lt n len)

one_more : (b : Bool) (n len : ℕ) (o : Option ℕ) → cond (ltb n len) (Some n) None ≡ o → cond (ltb (cond (not b) (1 + n) 0) (suc len)) (Some (cond (not b) (1 + n) 0)) None ≡ cond b (Some 0) (option_map (λ k. 1 + k) o)
one_more true n len o is = ap (λ b. cond b (Some 0) None) (lt-ltb 0 (suc len) (omega arith))
one_more false n len o is = more n len ∙ ap (option_map (λ k. 1 + k)) is

pub position_is : {X : Type 0} (p : X → Bool) (xs : List X) → position p xs ≡ first_at p xs
position_is p [] = refl
position_is p (x ∷ xs) = one_more (p x) (position_or_len p xs) (length xs) (first_at p xs) (position_is p xs)

abbrev pub or_else : Option ℕ → Option ℕ → Option ℕ
or_else None other = other
or_else (Some i) other = Some i

pub or_none : (o : Option ℕ) → or_else o None ≡ o
or_none None = refl
or_none (Some i) = refl

later : (n : ℕ) (o : Option ℕ) → option_map (λ k. 1 + k) (option_map (λ k. n + k) o) ≡ option_map (λ k. suc n + k) o
later n None = refl
later n (Some i) = ap Some (omega arith)

or_later : (o other : Option ℕ) → option_map (λ k. 1 + k) (or_else o other) ≡ or_else (option_map (λ k. 1 + k) o) (option_map (λ k. 1 + k) other)
or_later None other = refl
or_later (Some i) other = refl

pub first-append : {X : Type 0} (p : X → Bool) (xs ys : List X) → first_at p (xs ++ ys) ≡ or_else (first_at p xs) (option_map (λ k. length xs + k) (first_at p ys))
first-append p [] ys = same (first_at p ys)
  where
    same : (o : Option ℕ) → o ≡ option_map (λ k. 0 + k) o
    same None = refl
    same (Some i) = ap Some (omega arith)
first-append p (x ∷ xs) ys = by (p x) (first-append p xs ys)
  where
    by : (b : Bool) → first_at p (xs ++ ys) ≡ or_else (first_at p xs) (option_map (λ k. length xs + k) (first_at p ys)) → cond b (Some 0) (option_map (λ k. 1 + k) (first_at p (xs ++ ys))) ≡ or_else (cond b (Some 0) (option_map (λ k. 1 + k) (first_at p xs))) (option_map (λ k. suc (length xs) + k) (first_at p ys))
    by true rest = refl
    by false rest =
        ap (option_map (λ k. 1 + k)) rest
        ∙ or_later (first_at p xs) (option_map (λ k. length xs + k) (first_at p ys))
        ∙ ap (or_else (option_map (λ k. 1 + k) (first_at p xs))) (later (length xs) (first_at p ys))
