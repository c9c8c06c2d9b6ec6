-- Fields written one after the other.
use Rattle.std.proofs.Common.{◌≡◌, ℕ, ◌+◌, ◌<◌, List, [], ◌∷◌, ◌++◌, length, get_or, take, sym, ap, ◌∙◌, append_assoc}
use Rattle.std.specs.List.{flat_map}
use Rattle.std.proofs.lemmas.List.{take_more, flat_map_more}

-- two fields
pub two_fields : (before middle after first second : List ℕ) → middle ≡ before ++ first → after ≡ middle ++ second → after ≡ before ++ (first ++ second)
two_fields before middle after first second p q = q ∙ ap (λ (xs : List ℕ). xs ++ second) p ∙ append_assoc before first second

-- one more item of a list
pub one_more_item : {X : Type 0} (f : X → List ℕ) (start out new : List ℕ) (xs : List X) (i : ℕ) (x : X) → i < length xs → x ≡ get_or xs i x → out ≡ start ++ flat_map f (take i xs) → new ≡ out ++ f x
    → new ≡ start ++ flat_map f (take (i + 1) xs)
one_more_item {X} f start out new xs i x lt is so_far more =
    let front : take (i + 1) xs ≡ take i xs ++ x ∷ [] = take_more xs i x lt ∙ ap (λ (y : X). take i xs ++ y ∷ []) (sym is) in
    more ∙ ap (λ (bs : List ℕ). bs ++ f x) so_far ∙ flat_map_more f start (take i xs) x ∙ ap (λ (ys : List X). start ++ flat_map f ys) (sym front)

pub one_more_at : {X : Type 0} (f : X → List ℕ) (d : X) (start out new : List ℕ) (xs : List X) (i : ℕ) → i < length xs → out ≡ start ++ flat_map f (take i xs) → new ≡ out ++ f (get_or xs i d)
    → new ≡ start ++ flat_map f (take (i + 1) xs)
one_more_at {X} f d start out new xs i lt so_far more =
    let front : take (i + 1) xs ≡ take i xs ++ get_or xs i d ∷ [] = take_more xs i d lt in
    more ∙ ap (λ (bs : List ℕ). bs ++ f (get_or xs i d)) so_far ∙ flat_map_more f start (take i xs) (get_or xs i d) ∙ ap (λ (ys : List X). start ++ flat_map f ys) (sym front)
