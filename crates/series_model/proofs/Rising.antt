-- Series: measures whose times rise.
use Rattle.std.proofs.Common.{◌≡◌, ℕ, ◌<◌, ◌≤◌, Bool, true, false, cond, ltb, eqb, List, [], ◌∷◌, map, Option, Some, None, ℤ, refl, sym, ap, subst, ◌∙◌, arith}
use Rattle.std.specs.Ordering.{nat_cmp}
use Rattle.std.specs.declared.cmp.Ordering.TheVariants.{Less}
use Rattle.std.specs.List.{fold, Contains, AllByRecursion}
use Rattle.std.specs.List.Sorted.{IsStrictlyIncreasing, IsStrictlySortedBy}
use Rattle.std.proofs.Math.Logic.{⊎_elim}
use Rattle.std.proofs.lemmas.Bool.{lt-ltb, ltb-true, ltb-false, eqb-true, eqb-false, eq-eqb, ne_eqb, cases_eq}
use Rattle.std.proofs.lemmas.Bool.Decides.{nat_tests}
use Rattle.std.proofs.lemmas.Option.{same_Some, none-some}
use Rattle.std.proofs.lemmas.Map.Keys.{IsStrictlyIncreasing-from_sorted, sorted_from_strictly_increasing}
use Rattle.series_model.specs.declared.measure.Measure.{Measure}
use Rattle.series_model.proofs.Members.{Contains-here, Contains-there, Contains-cases, Contains-none}
use Rattle.series_model.specs.Series.{put, first_there, last_value, series_of_measures}

-- ---- times that rise

-- each is after a time
abbrev pub Above : ℕ → List ℕ → Type 0
Above at [] = Unit {0}
Above at (x ∷ xs) = (at < x) × Above at xs

-- each is before those behind it
abbrev pub Rises : List ℕ → Type 0
Rises [] = Unit {0}
Rises (x ∷ xs) = Above x xs × Rises xs

pub Above-lower : (a b : ℕ) (xs : List ℕ) → a ≤ b → Above b xs → Above a xs
Above-lower a b [] le h = tt
Above-lower a b (x ∷ xs) le h = (omega (arith, h.0), Above-lower a b xs le h.1)

all_less : (at : ℕ) (xs : List ℕ) → Above at xs → AllByRecursion (λ y. nat_cmp at y ≡ Less) xs
all_less at [] h = tt
all_less at (x ∷ xs) h = (rw (lt-ltb at x h.0) refl, all_less at xs h.1)

sorted : (xs : List ℕ) → Rises xs → IsStrictlySortedBy nat_cmp xs
unfolding IsStrictlySortedBy
sorted [] h = tt
sorted (x ∷ xs) h = (all_less x xs h.0, sorted xs h.1)

less_than : (a b : ℕ) → nat_cmp a b ≡ Less → a < b
less_than a b h = grind (arith, nat_tests)

all_above : (at : ℕ) (xs : List ℕ) → AllByRecursion (λ y. nat_cmp at y ≡ Less) xs → Above at xs
all_above at [] h = tt
all_above at (x ∷ xs) h = (less_than at x h.0, all_above at xs h.1)

unsorted : (xs : List ℕ) → IsStrictlySortedBy nat_cmp xs → Rises xs
unfolding IsStrictlySortedBy
unsorted [] h = tt
unsorted (x ∷ xs) h = (all_above x xs h.0, unsorted xs h.1)

-- between the two forms of the same fact
pub rising_from_Rises : (xs : List ℕ) → Rises xs → IsStrictlyIncreasing xs
rising_from_Rises xs h = IsStrictlyIncreasing-from_sorted xs (sorted xs h)

pub Rises_from_rising : (xs : List ℕ) → IsStrictlyIncreasing xs → Rises xs
Rises_from_rising xs h = unsorted xs (sorted_from_strictly_increasing xs h)

-- the times of measures
abbrev pub times : List Measure → List ℕ
times series = map (λ (m : Measure). m.at) series

-- ---- a measure put in its place

-- what holds of each of the three places holds of the place that is taken
put_cases : (P : List Measure → Type 0) (x : Measure) (series : List Measure) (m : Measure) → (m.at < x.at → P (m ∷ x ∷ series)) → (m.at ≡ x.at → P (m ∷ series)) → (x.at < m.at → P (x ∷ put series m)) → P (put (x ∷ series) m)
put_cases P x series m lower same higher =
    by (ltb m.at x.at) (eqb m.at x.at) (ltb-true m.at x.at) (ltb-false m.at x.at) (eqb-true m.at x.at) (eqb-false m.at x.at)
  where
    by : (below equal : Bool) → (below ≡ true → m.at < x.at) → (below ≡ false → x.at ≤ m.at) → (equal ≡ true → m.at ≡ x.at) → (equal ≡ false → m.at ≡ x.at → ⊥) → P (cond below (m ∷ x ∷ series) (cond equal (m ∷ series) (x ∷ put series m)))
    by true equal lt ge eq ne = lower (lt refl)
    by false true lt ge eq ne = same (eq refl)
    by false false lt ge eq ne =
        let at_least = ge refl in
        let apart = ne refl in
        higher (omega (arith, at_least, apart))

pub Above-put : (at : ℕ) (series : List Measure) (m : Measure) → at < m.at → Above at (times series) → Above at (times (put series m))
Above-put at [] m above h = (above, tt)
Above-put at (x ∷ series) m above h =
    put_cases (λ s. Above at (times s)) x series m (λ _. (above, h)) (λ _. (above, h.1)) (λ _. (h.0, Above-put at series m above h.1))

pub Rises-put : (series : List Measure) (m : Measure) → Rises (times series) → Rises (times (put series m))
Rises-put [] m h = (tt, tt)
Rises-put (x ∷ series) m h =
    put_cases (λ s. Rises (times s)) x series m (λ less. ((less, Above-lower m.at x.at (times series) (omega arith) h.0), h)) (λ same. (Above-lower m.at x.at (times series) (omega arith) h.0, h.1)) (λ more. (Above-put x.at series m more h.0, Rises-put series m h.1))

pub Rises-fold : (measures series : List Measure) → Rises (times series) → Rises (times (fold put series measures))
Rises-fold [] series h = h
Rises-fold (m ∷ measures) series h = Rises-fold measures (put series m) (Rises-put series m h)

-- ---- the last value of a time

first_there-none : (o : Option ℤ) → first_there o None ≡ o
first_there-none None = refl
first_there-none (Some v) = refl

first_there-some : (o other : Option ℤ) (v : ℤ) → first_there (first_there o (Some v)) other ≡ first_there o (Some v)
first_there-some None other v = refl
first_there-some (Some w) other v = refl

-- the value that a measure gives to a time
abbrev given : Measure → ℕ → Option ℤ
given m at = cond (eqb m.at at) (Some m.value) None

given_own : (m : Measure) → given m m.at ≡ Some m.value
given_own m = ap (λ same. cond same (Some m.value) None) (eq-eqb m.at m.at refl)

given_none : (m : Measure) (at : ℕ) → (m.at ≡ at → ⊥) → given m at ≡ None
given_none m at apart = ap (λ same. cond same (Some m.value) None) (ne_eqb m.at at apart)

-- the first measure's value, where no later one has its time
front : (m : Measure) (series : List Measure) → last_value series m.at ≡ None → last_value (m ∷ series) m.at ≡ Some m.value
front m series none = ap (λ o. first_there o (given m m.at)) none ∙ given_own m

-- the first measure doesn't matter at another time
pub behind : (m : Measure) (series : List Measure) (at : ℕ) → (m.at ≡ at → ⊥) → last_value (m ∷ series) at ≡ last_value series at
behind m series at apart =
    ap (first_there (last_value series at)) (given_none m at apart) ∙ first_there-none (last_value series at)

-- a later value wins
later_wins : (m : Measure) (series : List Measure) (at : ℕ) (v : ℤ) → last_value series at ≡ Some v → last_value (m ∷ series) at ≡ Some v
later_wins m series at v found = ap (λ o. first_there o (given m at)) found

-- measures that come after a time have no value there
none_above : (at : ℕ) (series : List Measure) → Above at (times series) → last_value series at ≡ None
none_above at [] h = refl
none_above at (x ∷ series) h =
    behind x series at (λ same. absurd (omega (arith, h.0, same))) ∙ none_above at series h.1

last_value-put_own : (series : List Measure) (m : Measure) → Rises (times series) → last_value (put series m) m.at ≡ Some m.value
last_value-put_own [] m h = given_own m
last_value-put_own (x ∷ series) m h =
    put_cases (λ s. last_value s m.at ≡ Some m.value) x series m
    (λ less. front m (x ∷ series) (none_above m.at (x ∷ series) (less, Above-lower m.at x.at (times series) (omega arith) h.0)))
    (λ same. front m series (none_above m.at series (Above-lower m.at x.at (times series) (omega arith) h.0)))
    (λ more. later_wins x (put series m) m.at m.value (last_value-put_own series m h.1))

last_value-put_other : (series : List Measure) (m : Measure) (at : ℕ) → (m.at ≡ at → ⊥) → last_value (put series m) at ≡ last_value series at
last_value-put_other [] m at apart = given_none m at apart
last_value-put_other (x ∷ series) m at apart =
    put_cases (λ s. last_value s at ≡ last_value (x ∷ series) at) x series m
    (λ _. behind m (x ∷ series) at apart)
    (λ same. behind m series at apart ∙ sym (behind x series at (λ e. apart (same ∙ e))))
    (λ _. ap (λ o. first_there o (given x at)) (last_value-put_other series m at apart))

pub last_value-fold : (measures series : List Measure) (at : ℕ) → Rises (times series) → last_value (fold put series measures) at ≡ first_there (last_value measures at) (last_value series at)
last_value-fold [] series at h = refl
last_value-fold (m ∷ measures) series at h =
    last_value-fold measures (put series m) at (Rises-put series m h)
    ∙ ⊎_elim own other (cases_eq m.at at)
  where
    own : m.at ≡ at → first_there (last_value measures at) (last_value (put series m) at) ≡ first_there (last_value (m ∷ measures) at) (last_value series at)
    own same =
        let here : last_value (put series m) at ≡ Some m.value = ap (last_value (put series m)) (sym same) ∙ last_value-put_own series m h in
        let mine : given m at ≡ Some m.value = ap (given m) (sym same) ∙ given_own m in
        ap (first_there (last_value measures at)) here
        ∙ sym (first_there-some (last_value measures at) (last_value series at) m.value)
        ∙ ap (λ o. first_there (first_there (last_value measures at) o) (last_value series at)) (sym mine)

    other : (m.at ≡ at → ⊥) → first_there (last_value measures at) (last_value (put series m) at) ≡ first_there (last_value (m ∷ measures) at) (last_value series at)
    other apart =
        ap (first_there (last_value measures at)) (last_value-put_other series m at apart)
        ∙ ap (λ o. first_there o (last_value series at)) (sym (behind m measures at apart))

-- the series has the last values of the measures
pub last_value-series : (measures : List Measure) (at : ℕ) → last_value (series_of_measures measures) at ≡ last_value measures at
last_value-series measures at = last_value-fold measures [] at tt ∙ first_there-none (last_value measures at)

-- ---- members

same_measure : (x m : Measure) → x.at ≡ m.at → x.value ≡ m.value → x ≡ m
same_measure x m at value =
    let made : ℕ → ℤ → Measure = λ at value. record { at = at; value = value } in
    ap (λ at. made at x.value) at ∙ ap (made m.at) value

-- a member comes after what the series comes after
pub Above-member : (at : ℕ) (series : List Measure) (m : Measure) → Above at (times series) → Contains series m → at < m.at
Above-member at [] m h c = absurd (Contains-none m c)
Above-member at (x ∷ series) m h c =
    ⊎_elim (λ same. subst (λ (y : Measure). at < y.at) same h.0) (Above-member at series m h.1) (Contains-cases x series m c)

pub member_value : (series : List Measure) (m : Measure) → Rises (times series) → Contains series m → last_value series m.at ≡ Some m.value
member_value [] m h c = absurd (Contains-none m c)
member_value (x ∷ series) m h c =
    ⊎_elim
    (λ same. subst (λ (y : Measure). last_value (x ∷ series) y.at ≡ Some y.value) same (front x series (none_above x.at series h.0)))
    (λ there. later_wins x series m.at m.value (member_value series m h.1 there))
    (Contains-cases x series m c)

pub value_member : (series : List Measure) (m : Measure) → last_value series m.at ≡ Some m.value → Contains series m
value_member [] m found = absurd (none-some m.value found)
value_member (x ∷ series) m found =
    let rest = value_member series m in
    ⊎_elim (λ same. own rest same (last_value series m.at) refl found) (λ apart. Contains-there x series m (rest (sym (behind x series m.at apart) ∙ found))) (cases_eq x.at m.at)
  where
    own : (last_value series m.at ≡ Some m.value → Contains series m) → x.at ≡ m.at → (o : Option ℤ) → last_value series m.at ≡ o → first_there o (given x m.at) ≡ Some m.value → Contains (x ∷ series) m
    own rest same None is got =
        let mine : given x m.at ≡ Some x.value = ap (given x) (sym same) ∙ given_own x in
        Contains-here x series m (same_measure x m same (same_Some x.value m.value (sym mine ∙ got)))
    own rest same (Some v) is got = Contains-there x series m (rest (is ∙ got))
