-- The first space of a text.
use Rattle.std.proofs.Common.{◌≡◌, ◌≢◌, ◌==◌, ℕ, ◌+◌, ◌<◌, ◌≤◌, List, ◌∷◌, ◌++◌, length, get_or, take, drop, All, Some, None, Bool, true, false, cond, ltb, refl, sym, ap, ◌∙◌, arith, suc}
use Rattle.std.specs.List.{position, position_or_len}
use Rattle.std.proofs.lemmas.Bool.Decides.{nat_tests}
use Rattle.std.proofs.Math.Seq.{drop-cons}
use Rattle.std.proofs.lemmas.List.{get_or-take, length-take-le, take-append-drop}
use Rattle.std.proofs.lemmas.List.Elements.{All-from_get_or}
use Rattle.std.proofs.lemmas.List.Sums.{fails_before_first, passes_at_first}
use Rattle.rest_replies.specs.Script.{IsCut, is_space}

position-some : {X : Type 0} (p : X → Bool) (xs : List X) (i : ℕ) → position p xs ≡ Some i → (position_or_len p xs ≡ i) × (i < length xs)
position-some p xs i e = by (ltb (position_or_len p xs) (length xs)) refl e
  where
    by : (v : Bool) → ltb (position_or_len p xs) (length xs) ≡ v → cond v (Some (position_or_len p xs)) None ≡ Some i → (position_or_len p xs ≡ i) × (i < length xs)
    by true f e = let at : position_or_len p xs ≡ i = cc in (at, grind (arith, nat_tests))
    by false f e = let clash : None ≡ Some i = e in cc

position-none : {X : Type 0} (p : X → Bool) (xs : List X) → position p xs ≡ None → length xs ≤ position_or_len p xs
position-none p xs e = by (ltb (position_or_len p xs) (length xs)) refl e
  where
    by : (v : Bool) → ltb (position_or_len p xs) (length xs) ≡ v → cond v (Some (position_or_len p xs)) None ≡ None → length xs ≤ position_or_len p xs
    by true f e = cc
    by false f e = grind (arith, nat_tests)

not_space : (b : ℕ) → is_space b ≡ false → b ≢ 32
not_space b e f = let clash : (b == 32) ≡ true = grind (arith, nat_tests) in cc

pub spaceless : (text : List ℕ) → position is_space text ≡ None → All (λ b. b ≢ 32) text
spaceless text e =
    let end : length text ≤ position_or_len is_space text = position-none is_space text e in
    All-from_get_or (λ b. b ≢ 32) text 0 (λ i h. not_space (get_or text i 0) (fails_before_first is_space text i 0 (omega arith)))

space_at : (text : List ℕ) (at : ℕ) → position is_space text ≡ Some at → get_or text at 0 ≡ 32
space_at text at e =
    let found = position-some is_space text at e in
    let first : position_or_len is_space text < length text = omega (arith, found.0, found.1) in
    let passes : is_space (get_or text (position_or_len is_space text) 0) ≡ true = passes_at_first is_space text 0 first in
    let here : is_space (get_or text at 0) ≡ true = ap (λ i. is_space (get_or text i 0)) (sym found.0) ∙ passes in
    grind (arith, nat_tests)

pub cut_at : (text : List ℕ) (at : ℕ) → position is_space text ≡ Some at → IsCut text (take at text) (drop (at + 1) text)
cut_at text at e =
    let found = position-some is_space text at e in
    let inside : at < length text = found.1 in
    let fits : length (take at text) ≡ at = length-take-le at text (omega arith) in
    record {
      no_space = All-from_get_or (λ b. b ≢ 32) (take at text) 0 (λ i h.
          let low : i < at = omega (arith, fits) in
          rw (get_or-take at text i 0 low) (not_space (get_or text i 0) (fails_before_first is_space text i 0 (omega (arith, found.0)))));
      whole = sym (take-append-drop at text) ∙ ap (λ t. take at text ++ t) (drop-cons text at 0 inside ∙ ap (λ b. b ∷ drop (suc at) text) (space_at text at e) ∙ ap (λ n. 32 ∷ drop n text) (let one : suc at ≡ at + 1 = omega arith in one));
    }
