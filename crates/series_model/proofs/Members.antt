-- Members of lists, and of lists that are filtered.
use Rattle.std.proofs.Common.{◌≡◌, ℕ, zero, suc, ◌<◌, ◌⊎◌, List, [], ◌∷◌, map, length, get_or, Option, Some, None, refl, sym, ap, subst, ◌∙◌, inl, inr, arith}
use Rattle.std.specs.List.{Contains, filter_map, cons_option}
use Rattle.std.proofs.Math.Logic.{⊎_elim}

pub Contains-here : {X : Type 0} (x : X) (xs : List X) (m : X) → x ≡ m → Contains (x ∷ xs) m
Contains-here x xs m same = (0, omega arith, same)

pub Contains-there : {X : Type 0} (x : X) (xs : List X) (m : X) → Contains xs m → Contains (x ∷ xs) m
Contains-there x xs m c = (suc c.0, omega (arith, c.1), c.2)

pub Contains-cases : {X : Type 0} (x : X) (xs : List X) (m : X) → Contains (x ∷ xs) m → (x ≡ m) ⊎ Contains xs m
Contains-cases x xs m c = by c.0 c.1 c.2
  where
    by : (k : ℕ) → k < length (x ∷ xs) → get_or (x ∷ xs) k m ≡ m → (x ≡ m) ⊎ Contains xs m
    by zero below same = inl same
    by (suc k) below same = inr (k, omega arith, same)

pub Contains-none : {X : Type 0} (m : X) → Contains [] m → ⊥
Contains-none m c = absurd (omega (arith, c.1))

-- ---- what `filter_map` keeps

here_too : {X : Type 0} (o : Option X) (x : X) (rest : List X) → o ≡ Some x → Contains (cons_option o rest) x
here_too o x rest is = subst (λ p. Contains (cons_option p rest) x) (sym is) (Contains-here x rest x refl)

there_too : {X : Type 0} (o : Option X) (x : X) (rest : List X) → Contains rest x → Contains (cons_option o rest) x
there_too None x rest c = c
there_too (Some y) x rest c = Contains-there y rest x c

pub filter_map-keeps : {S X : Type 0} (h : S → Option X) (ss : List S) (s : S) (x : X) → Contains ss s → h s ≡ Some x → Contains (filter_map h ss) x
filter_map-keeps h [] s x c is = absurd (Contains-none s c)
filter_map-keeps h (t ∷ ss) s x c is =
    ⊎_elim
    (λ same. here_too (h t) x (filter_map h ss) (ap h same ∙ is))
    (λ there. there_too (h t) x (filter_map h ss) (filter_map-keeps h ss s x there is))
    (Contains-cases t ss s c)

pub filter_map-kept : {S X : Type 0} (h : S → Option X) (ss : List S) (x : X) → Contains (filter_map h ss) x → (s : S) × Contains ss s × (h s ≡ Some x)
filter_map-kept h [] x c = absurd (Contains-none x c)
filter_map-kept {S} {X} h (t ∷ ss) x c = by (filter_map-kept h ss x) (h t) refl c
  where
    by : (Contains (filter_map h ss) x → (s : S) × Contains ss s × (h s ≡ Some x)) → (o : Option X) → h t ≡ o → Contains (cons_option o (filter_map h ss)) x → (s : S) × Contains (t ∷ ss) s × (h s ≡ Some x)
    by rest None is c = let r = rest c in (r.0, Contains-there t ss r.0 r.1, r.2)
    by rest (Some y) is c =
        ⊎_elim
        (λ same. (t, Contains-here t ss t refl, is ∙ ap Some same))
        (λ there. let r = rest there in (r.0, Contains-there t ss r.0 r.1, r.2))
        (Contains-cases y (filter_map h ss) x c)

-- ---- a list that is mapped

pub map_has : {S X : Type 0} (f : S → X) (ss : List S) (s : S) → Contains ss s → Contains (map f ss) (f s)
map_has f [] s c = absurd (Contains-none s c)
map_has f (t ∷ ss) s c =
    ⊎_elim (λ same. Contains-here (f t) (map f ss) (f s) (ap f same)) (λ there. Contains-there (f t) (map f ss) (f s) (map_has f ss s there)) (Contains-cases t ss s c)

pub map_from : {S X : Type 0} (f : S → X) (ss : List S) (x : X) → Contains (map f ss) x → (s : S) × Contains ss s × (f s ≡ x)
map_from f [] x c = absurd (Contains-none x c)
map_from f (t ∷ ss) x c =
    ⊎_elim (λ same. (t, Contains-here t ss t refl, same)) (λ there. let r = map_from f ss x there in (r.0, Contains-there t ss r.0 r.1, r.2)) (Contains-cases (f t) (map f ss) x c)
