-- Lists whose keys rise, and what a filter leaves of a list.
use Rattle.std.proofs.Common.{◌≡◌, ℕ, ◌<◌, Bool, true, false, cond, List, [], ◌∷◌, map, refl, sym, ap, subst, ◌∙◌, arith}
use Rattle.std.specs.List.{Contains, filter}
use Rattle.std.proofs.Math.Logic.{⊎_elim}
use Rattle.std.proofs.lemmas.Bool.{both_ways}
use Rattle.series_model.proofs.Members.{Contains-here, Contains-there, Contains-cases, Contains-none}
use Rattle.series_model.specs.declared.measure.Measure.{Measure}
use Rattle.series_model.specs.Series.{last_value}
use Rattle.series_model.proofs.Rising.{Above, Rises, times, member_value, value_member}

-- ---- filters

pub filter-keep : {X : Type 0} (p : X → Bool) (x : X) (xs : List X) → p x ≡ true → filter p (x ∷ xs) ≡ x ∷ filter p xs
filter-keep p x xs is = ap (λ b. cond b (x ∷ filter p xs) (filter p xs)) is

pub filter-skip : {X : Type 0} (p : X → Bool) (x : X) (xs : List X) → p x ≡ false → filter p (x ∷ xs) ≡ filter p xs
filter-skip p x xs is = ap (λ b. cond b (x ∷ filter p xs) (filter p xs)) is

-- a test that implies another one finds the same after it
pub filter_within : {X : Type 0} (p q : X → Bool) → ((x : X) → p x ≡ true → q x ≡ true) → (xs : List X) → filter p (filter q xs) ≡ filter p xs
filter_within p q implies [] = refl
filter_within {X} p q implies (x ∷ xs) = by (p x) (q x) refl refl (filter_within p q implies xs)
  where
    by : (a b : Bool) → p x ≡ a → q x ≡ b → filter p (filter q xs) ≡ filter p xs → filter p (cond b (x ∷ filter q xs) (filter q xs)) ≡ cond a (x ∷ filter p xs) (filter p xs)
    by true true pa qb rest = filter-keep p x (filter q xs) pa ∙ ap (λ l. x ∷ l) rest
    by true false pa qb rest = absurd (both_ways (q x) qb (implies x pa))
    by false true pa qb rest = filter-skip p x (filter q xs) pa ∙ rest
    by false false pa qb rest = rest

pub filter_has : {X : Type 0} (p : X → Bool) (xs : List X) (x : X) → Contains xs x → p x ≡ true → Contains (filter p xs) x
filter_has p [] x c is = absurd (Contains-none x c)
filter_has {X} p (y ∷ xs) x c is =
    ⊎_elim
    (λ same. subst (λ l. Contains l x) (sym (filter-keep p y xs (ap p same ∙ is))) (Contains-here y (filter p xs) x same))
    (λ there. by (p y) (filter_has p xs x there is))
    (Contains-cases y xs x c)
  where
    by : (b : Bool) → Contains (filter p xs) x → Contains (cond b (y ∷ filter p xs) (filter p xs)) x
    by true rest = Contains-there y (filter p xs) x rest
    by false rest = rest

pub filter_kept : {X : Type 0} (p : X → Bool) (xs : List X) (x : X) → Contains (filter p xs) x → Contains xs x × (p x ≡ true)
filter_kept p [] x c = absurd (Contains-none x c)
filter_kept {X} p (y ∷ xs) x c = by (p y) refl (filter_kept p xs x) c
  where
    later : Contains xs x × (p x ≡ true) → Contains (y ∷ xs) x × (p x ≡ true)
    later r = (Contains-there y xs x r.0, r.1)

    by : (b : Bool) → p y ≡ b → (Contains (filter p xs) x → Contains xs x × (p x ≡ true)) → Contains (cond b (y ∷ filter p xs) (filter p xs)) x → Contains (y ∷ xs) x × (p x ≡ true)
    by true is rest c =
        ⊎_elim
        (λ same. (Contains-here y xs x same, ap p (sym same) ∙ is))
        (λ there. later (rest there))
        (Contains-cases y (filter p xs) x c)
    by false is rest c = later (rest c)

-- ---- keys that rise

module _ {X : Type 0} (key : X → ℕ) where
  pub Above-in : (at : ℕ) (xs : List X) (x : X) → Above at (map key xs) → Contains xs x → at < key x
  Above-in at [] x h c = absurd (Contains-none x c)
  Above-in at (y ∷ xs) x h c =
      ⊎_elim (λ same. subst (λ z. at < key z) same h.0) (Above-in at xs x h.1) (Contains-cases y xs x c)

  pub Above-filter : (p : X → Bool) (at : ℕ) (xs : List X) → Above at (map key xs) → Above at (map key (filter p xs))
  Above-filter p at [] h = tt
  Above-filter p at (x ∷ xs) h = by (p x) (Above-filter p at xs h.1)
    where
      by : (b : Bool) → Above at (map key (filter p xs)) → Above at (map key (cond b (x ∷ filter p xs) (filter p xs)))
      by true rest = (h.0, rest)
      by false rest = rest

  pub Rises-filter : (p : X → Bool) (xs : List X) → Rises (map key xs) → Rises (map key (filter p xs))
  Rises-filter p [] h = tt
  Rises-filter p (x ∷ xs) h = by (p x) (Rises-filter p xs h.1)
    where
      by : (b : Bool) → Rises (map key (filter p xs)) → Rises (map key (cond b (x ∷ filter p xs) (filter p xs)))
      by true rest = (Above-filter p (key x) xs h.0, rest)
      by false rest = rest

  -- two lists of the same members whose keys rise are one
  pub one_rising : (xs ys : List X) → Rises (map key xs) → Rises (map key ys) → ((x : X) → Contains xs x → Contains ys x) → ((x : X) → Contains ys x → Contains xs x) → xs ≡ ys
  one_rising [] [] h k to from = refl
  one_rising [] (y ∷ ys) h k to from = absurd (Contains-none y (from y (Contains-here y ys y refl)))
  one_rising (x ∷ xs) [] h k to from = absurd (Contains-none x (to x (Contains-here x xs x refl)))
  one_rising (x ∷ xs) (y ∷ ys) h k to from =
      let heads : x ≡ y =
      ⊎_elim
      (λ same. sym same)
      (λ later. ⊎_elim
      (λ same. same)
      (λ above. absurd (omega (arith, Above-in (key y) ys x k.0 later, Above-in (key x) xs y h.0 above)))
      (Contains-cases x xs y (from y (Contains-here y ys y refl))))
      (Contains-cases y ys x (to x (Contains-here x xs x refl))) in
      let rest : xs ≡ ys = one_rising xs ys h.1 k.1
      (λ m c. ⊎_elim
      (λ same. absurd (omega (arith, Above-in (key x) xs m h.0 c, ap key heads, ap key same)))
      (λ there. there)
      (Contains-cases y ys m (to m (Contains-there x xs m c))))
      (λ m c. ⊎_elim
      (λ same. absurd (omega (arith, Above-in (key y) ys m k.0 c, ap key heads, ap key same)))
      (λ there. there)
      (Contains-cases x xs m (from m (Contains-there y ys m c)))) in
      ap (λ z. z ∷ xs) heads ∙ ap (λ zs. y ∷ zs) rest

-- ---- series

-- two series with the same last values are one
pub same_values : (xs ys : List Measure) → Rises (times xs) → Rises (times ys) → ((at : ℕ) → last_value xs at ≡ last_value ys at) → xs ≡ ys
same_values xs ys h k same =
    one_rising (λ (m : Measure). m.at) xs ys h k
    (λ m c. value_member ys m (sym (same m.at) ∙ member_value xs m h c))
    (λ m c. value_member xs m (same m.at ∙ member_value ys m k c))
