-- Steps of loops that go over a list and keep some of what it gives.
use Rattle.std.proofs.Common.{◌≡◌, ℕ, ◌+◌, ◌<◌, Bool, true, false, cond, List, [], ◌∷◌, ◌++◌, map, take, length, get_or, Option, Some, None, refl, sym, ap, ◌∙◌, append-nil}
use Rattle.std.specs.List.{filter, filter_map, cons_option}
use Rattle.std.specs.Option.{option_to_list}
use Rattle.std.proofs.lemmas.List.{map-append, take_more}
use Rattle.std.proofs.lemmas.List.Elements.{filter-append, filter_map-append}

-- an option as a list
cons_option-nil : {X : Type 0} (o : Option X) → cons_option o [] ≡ option_to_list o
cons_option-nil None = refl
cons_option-nil (Some x) = refl

pub filter_map-step : {S X : Type 0} (h : S → Option X) (xs : List S) (i : ℕ) (x : S) (before after : List X) (o : Option X) → i < length xs → x ≡ get_or xs i x → before ≡ filter_map h (take i xs) → o ≡ h x → after ≡ before ++ option_to_list o → after ≡ filter_map h (take (i + 1) xs)
filter_map-step h xs i x before after o below is so_far found added =
    added ∙ ap (λ l. l ++ option_to_list o) so_far ∙ ap (λ p. filter_map h (take i xs) ++ option_to_list p) (found ∙ ap h is)
    ∙ ap (λ l. filter_map h (take i xs) ++ l) (sym (cons_option-nil (h (get_or xs i x))))
    ∙ sym (filter_map-append h (take i xs) (get_or xs i x ∷ []))
    ∙ ap (filter_map h) (sym (take_more xs i x below))

-- what a test keeps of one more
pub filter-more : {S : Type 0} (p : S → Bool) (xs : List S) (i : ℕ) (x : S) → i < length xs → x ≡ get_or xs i x → filter p (take (i + 1) xs) ≡ filter p (take i xs) ++ cond (p x) (x ∷ []) []
filter-more p xs i x below is =
    ap (filter p) (take_more xs i x below)
    ∙ filter-append p (take i xs) (get_or xs i x ∷ [])
    ∙ ap (λ y. filter p (take i xs) ++ cond (p y) (y ∷ []) []) (sym is)

pub filter-in : {S : Type 0} (p : S → Bool) (xs : List S) (i : ℕ) (x : S) → i < length xs → x ≡ get_or xs i x → p x ≡ true → filter p (take (i + 1) xs) ≡ filter p (take i xs) ++ x ∷ []
filter-in p xs i x below is passes =
    filter-more p xs i x below is ∙ ap (λ b. filter p (take i xs) ++ cond b (x ∷ []) []) passes

pub filter-out : {S : Type 0} (p : S → Bool) (xs : List S) (i : ℕ) (x : S) → i < length xs → x ≡ get_or xs i x → p x ≡ false → filter p (take (i + 1) xs) ≡ filter p (take i xs)
filter-out p xs i x below is fails =
    filter-more p xs i x below is ∙ ap (λ b. filter p (take i xs) ++ cond b (x ∷ []) []) fails ∙ append-nil (filter p (take i xs))

pub map_filter-in : {S X : Type 0} (f : S → X) (p : S → Bool) (xs : List S) (i : ℕ) (x : S) → i < length xs → x ≡ get_or xs i x → p x ≡ true → map f (filter p (take (i + 1) xs)) ≡ map f (filter p (take i xs)) ++ f x ∷ []
map_filter-in f p xs i x below is passes =
    ap (map f) (filter-in p xs i x below is passes) ∙ map-append f (filter p (take i xs)) (x ∷ [])
