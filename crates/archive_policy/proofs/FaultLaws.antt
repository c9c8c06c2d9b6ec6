-- The fault that is told is the first that holds.
use Rattle.std.proofs.Common.{◌≡◌, ◌≢◌, ℕ, ◌+◌, ◌*◌, ◌^◌, ◌<◌, ◌≤◌, ◌⊎◌, Bool, true, false, cond, ◌||◌, eqb, ltb, List, [], ◌∷◌, map, length, get_or, Option, Some, None, refl, sym, ap, subst, ◌∙◌, inl, inr, arith}
use Rattle.std.proofs.Math.Logic.{⊎_elim}
use Rattle.std.specs.List.{Any, list_any}
use Rattle.std.specs.Option.{option_or, option_map}
use Rattle.std.proofs.lemmas.Bool.{cases_eq, cases_lt, both_ways, ltb-true, lt-ltb, eqb-true, eqb-false, eq-eqb, ne_eqb, not-true, not_from_false, or_cases, or_left, or_right}
use Rattle.std.proofs.lemmas.Option.{same_Some, none-some}
use Rattle.archive_policy.specs.declared.kind.Kind.{Kind}
use Rattle.archive_policy.specs.declared.wanted.Wanted.{Wanted}
use Rattle.archive_policy.specs.declared.fault.PolicyFault.{PolicyFault}
use Rattle.archive_policy.specs.declared.fault.PolicyFault.TheVariants.{BackWindow, NoDefinition, TooMany, TooFew, ZeroPoints, SpanMismatch, GranularityRange, PointsRange, SameGranularity, NotDividing, NoAggregation, Memory}
use Rattle.archive_policy.specs.Asked.{given_count, granularity_of, points_of, has_too_few, has_no_points, has_mismatch, has_odd_granularity, has_many_points, has_same, largest, not_dividing}
use Rattle.archive_policy.specs.Faults.{fault_of_counts, fault_of_each, fault_of_granularities, fault_of_kinds, first_fault, Holds, IsFirst, IsMismatch, fault_place}
use Rattle.archive_policy.proofs.Lists.{any_from, any_to}
use Rattle.archive_policy.proofs.AskedLemmas.{has_same-true, has_same-from, not_dividing-some, not_dividing-none}

-- ---- faults and their places

-- the fault at a place, where there is only one
abbrev fault_at : ℕ → PolicyFault
fault_at n =
    get_or (BackWindow ∷ NoDefinition ∷ TooMany ∷ TooFew ∷ ZeroPoints ∷ SpanMismatch ∷ GranularityRange ∷ PointsRange ∷ SameGranularity ∷ Memory ∷ NoAggregation ∷ Memory ∷ []) n Memory

fault_at-place : (g : PolicyFault) → fault_place g ≢ 9 → fault_at (fault_place g) ≡ g
fault_at-place BackWindow ne = refl
fault_at-place NoDefinition ne = refl
fault_at-place TooMany ne = refl
fault_at-place TooFew ne = refl
fault_at-place ZeroPoints ne = refl
fault_at-place SpanMismatch ne = refl
fault_at-place GranularityRange ne = refl
fault_at-place PointsRange ne = refl
fault_at-place SameGranularity ne = refl
fault_at-place (NotDividing fine coarse) ne = absurd (ne refl)
fault_at-place NoAggregation ne = refl
fault_at-place Memory ne = refl

only_fault : (f g : PolicyFault) → fault_place g ≡ fault_place f → fault_place f ≢ 9 → g ≡ f
only_fault f g same ne =
    sym (fault_at-place g (λ e. ne (sym same ∙ e))) ∙ ap fault_at same ∙ fault_at-place f ne

is_dividing : (g : PolicyFault) → fault_place g ≡ 9 → (fine : ℕ) × (coarse : ℕ) × (g ≡ NotDividing fine coarse)
is_dividing BackWindow at = absurd (omega arith)
is_dividing NoDefinition at = absurd (omega arith)
is_dividing TooMany at = absurd (omega arith)
is_dividing TooFew at = absurd (omega arith)
is_dividing ZeroPoints at = absurd (omega arith)
is_dividing SpanMismatch at = absurd (omega arith)
is_dividing GranularityRange at = absurd (omega arith)
is_dividing PointsRange at = absurd (omega arith)
is_dividing SameGranularity at = absurd (omega arith)
is_dividing (NotDividing fine coarse) at = (fine, coarse, refl)
is_dividing NoAggregation at = absurd (omega arith)
is_dividing Memory at = absurd (omega arith)

-- ---- what is told of the faults from a place on, before another one

record Tells (H : PolicyFault → Type 0) (low high : ℕ) (o : Option PolicyFault) : Type 0 where
  none : o ≡ None → (g : PolicyFault) → low ≤ fault_place g → fault_place g < high → H g → ⊥
  some : (f : PolicyFault) → o ≡ Some f → H f × (low ≤ fault_place f) × (fault_place f < high) × ((g : PolicyFault) → low ≤ fault_place g → fault_place g < fault_place f → H g → ⊥)

tells_nothing : (H : PolicyFault → Type 0) (n : ℕ) → Tells H n n None
tells_nothing H n = record {
  none = λ is g low high holds. omega (arith, low, high);
  some = λ f is. absurd (none-some f is);
}

-- one test more in front
tells_test : (H : PolicyFault → Type 0) (n high : ℕ) (t : Bool) (f : PolicyFault) (rest : Option PolicyFault) → fault_place f ≡ n → n ≢ 9 → n < high → (t ≡ true → H f) → (H f → t ≡ true) → Tells H (n + 1) high rest → Tells H n high (cond t (Some f) rest)
tells_test H n high true f rest at ne room from to more =
    let P : PolicyFault → Type 0 = λ g. H g in record {
      none = λ is g low below holds. none-some f (sym is);
      some = λ g is. let same : f ≡ g = same_Some f g is in let place : fault_place g ≡ n = ap fault_place (sym same) ∙ at in (subst P same (from refl), omega (arith, place), omega (arith, place, room), λ e low less holds. omega (arith, low, less, place));
    }
tells_test H n high false f rest at ne room from to more =
    let P : PolicyFault → Type 0 = λ g. H g in
    let not_here : (g : PolicyFault) → fault_place g ≡ n → H g → ⊥ =
    λ g place holds. both_ways false refl (to (subst P (only_fault f g (place ∙ sym at) (λ e. ne (sym at ∙ e))) holds)) in record {
      none = λ is g low below holds. ⊎_elim (λ same. not_here g (sym same) holds) (λ other. more.none is g (omega (arith, low, other)) below holds) (cases_eq n (fault_place g));
      some = λ g is. let r = more.some g is in (r.0, omega (arith, r.1), r.2, λ e low less holds. ⊎_elim (λ same. not_here e (sym same) holds) (λ other. r.3 e (omega (arith, low, other)) less holds) (cases_eq n (fault_place e)));
    }

-- the faults of two parts that follow each other
tells_both : (H : PolicyFault → Type 0) (low mid high : ℕ) (o p : Option PolicyFault) → low ≤ mid → mid ≤ high → Tells H low mid o → Tells H mid high p → Tells H low high (option_or o p)
tells_both H low mid high None p first second front back = record {
  none = λ is g at below holds. ⊎_elim (λ less. front.none refl g at less holds) (λ ge. back.none is g ge below holds) (cases_lt (fault_place g) mid);
  some = λ f is. let r = back.some f is in (r.0, omega (arith, first, r.1), r.2, λ g at less holds. ⊎_elim (λ before. front.none refl g at before holds) (λ ge. r.3 g ge less holds) (cases_lt (fault_place g) mid));
}
tells_both H low mid high (Some x) p first second front back = record {
  none = λ is g at below holds. none-some x (sym is);
  some = λ f is. let r = front.some f is in (r.0, r.1, omega (arith, r.2, second), r.3);
}

-- the fault at the place that a granularity and the largest share
tells_dividing : (H : PolicyFault → Type 0) (coarse : ℕ) (o : Option ℕ) → ((fine : ℕ) → o ≡ Some fine → H (NotDividing fine coarse)) → (o ≡ None → (fine other : ℕ) → H (NotDividing fine other) → ⊥) → Tells H 9 10 (option_map (λ fine. NotDividing fine coarse) o)
tells_dividing H coarse None from to =
    let P : PolicyFault → Type 0 = λ g. H g in record {
      none = λ is g low below holds. let r = is_dividing g (omega (arith, low, below)) in to refl r.0 r.1 (subst P r.2 holds);
      some = λ f is. absurd (none-some f is);
    }
tells_dividing H coarse (Some fine) from to =
    let P : PolicyFault → Type 0 = λ g. H g in
    let here : fault_place (NotDividing fine coarse) ≡ 9 = refl in record {
      none = λ is g low below holds. none-some (NotDividing fine coarse) (sym is);
      some = λ f is. let same : NotDividing fine coarse ≡ f = same_Some (NotDividing fine coarse) f is in let place : fault_place f ≡ 9 = ap fault_place (sym same) in (subst P same (from fine refl), omega (arith, place), omega (arith, place), λ g low less holds. omega (arith, low, less, place));
    }

-- ---- tests and the faults that they find

empty_from : {X : Type 0} (xs : List X) → eqb (length xs) 0 ≡ true → xs ≡ []
empty_from [] h = refl
empty_from (x ∷ xs) h = let e : length (x ∷ xs) ≡ 0 = eqb-true (length (x ∷ xs)) 0 h in absurd (omega (arith, e))

empty_to : {X : Type 0} (xs : List X) → xs ≡ [] → eqb (length xs) 0 ≡ true
empty_to xs is = eq-eqb (length xs) 0 (ap length is)

-- a definition by its three parts
abbrev asked : Option ℕ → Option ℕ → Option ℕ → Wanted
asked granularity points timespan = record { granularity = granularity; points = points; timespan = timespan }

mismatch_parts : (g p t : Option ℕ) → has_mismatch (asked g p t) ≡ true → IsMismatch (asked g p t)
mismatch_parts g None t h = absurd (both_ways false refl h)
mismatch_parts g (Some p) None h = absurd (both_ways false refl h)
mismatch_parts g (Some p) (Some t) h = record {
  points = p;
  timespan = t;
  points_given = refl;
  timespan_given = refl;
  differs = eqb-false (granularity_of (asked g (Some p) (Some t)) * p) t (not-true _ h);
}

mismatch_tested : (g p t : Option ℕ) → IsMismatch (asked g p t) → has_mismatch (asked g p t) ≡ true
mismatch_tested g None t h = absurd (none-some h.points h.points_given)
mismatch_tested g (Some p) None h = absurd (none-some h.timespan h.timespan_given)
mismatch_tested g (Some p) (Some t) h =
    let n = granularity_of (asked g (Some p) (Some t)) in
    let points : p ≡ h.points = same_Some p h.points h.points_given in
    let time : t ≡ h.timespan = same_Some t h.timespan h.timespan_given in
    not_from_false _ (ne_eqb (n * p) t (λ same. h.differs (ap (λ k. n * k) (sym points) ∙ same ∙ time)))

outside_from : (low high a b : ℕ) → (ltb a low || ltb high b) ≡ true → (a < low) ⊎ (high < b)
outside_from low high a b h =
    ⊎_elim (λ l. inl (ltb-true a low l)) (λ r. inr (ltb-true high b r)) (or_cases (ltb a low) (ltb high b) h)

outside_to : (low high a b : ℕ) → (a < low) ⊎ (high < b) → (ltb a low || ltb high b) ≡ true
outside_to low high a b h =
    ⊎_elim (λ l. or_left (ltb a low) (ltb high b) (lt-ltb a low l)) (λ r. or_right (ltb a low) (ltb high b) (lt-ltb high b r)) h

-- ---- the parts

module _ (back : ℕ) (wanted : List Wanted) (kinds : List Kind) where
  abbrev H : PolicyFault → Type 0
  H f = Holds back wanted kinds f

  counts : Tells H 0 3 (fault_of_counts back (length wanted))
  counts =
      tells_test H 0 3 (ltb 1000 back) BackWindow _ refl (λ e. omega (arith, e)) (omega arith) (ltb-true 1000 back) (lt-ltb 1000 back)
      (tells_test H 1 3 (eqb (length wanted) 0) NoDefinition _ refl (λ e. omega (arith, e)) (omega arith) (empty_from wanted) (empty_to wanted)
      (tells_test H 2 3 (ltb 8 (length wanted)) TooMany _ refl (λ e. omega (arith, e)) (omega arith) (ltb-true 8 (length wanted)) (lt-ltb 8 (length wanted))
      (tells_nothing H 3)))

  -- a test of each definition
  one_of : (n high : ℕ) (p : Wanted → Bool) (P : Wanted → Type 0) (f : PolicyFault) (rest : Option PolicyFault) → fault_place f ≡ n → n ≢ 9 → n < high → ((w : Wanted) → p w ≡ true → P w) → ((w : Wanted) → P w → p w ≡ true) → ((h : Any P wanted) → H f) → (H f → Any P wanted) → Tells H (n + 1) high rest → Tells H n high (cond (list_any p wanted) (Some f) rest)
  one_of n high p P f rest at ne room from to holds held more =
      tells_test H n high (list_any p wanted) f rest at ne room (λ t. holds (any_from p P from wanted t)) (λ h. any_to p P to wanted (held h)) more

  each : Tells H 3 8 (fault_of_each wanted)
  each =
      one_of 3 8 has_too_few (λ w. given_count w < 2) TooFew _ refl (λ e. omega (arith, e)) (omega arith) (λ w. ltb-true (given_count w) 2) (λ w. lt-ltb (given_count w) 2) (λ h. h) (λ h. h)
      (one_of 4 8 has_no_points (λ w. points_of w ≡ 0) ZeroPoints _ refl (λ e. omega (arith, e)) (omega arith) (λ w. eqb-true (points_of w) 0) (λ w. eq-eqb (points_of w) 0) (λ h. h) (λ h. h)
      (one_of 5 8 has_mismatch IsMismatch SpanMismatch _ refl (λ e. omega (arith, e)) (omega arith) (λ w. mismatch_parts w.granularity w.points w.timespan) (λ w. mismatch_tested w.granularity w.points w.timespan) (λ h. h) (λ h. h)
      (one_of 6 8 has_odd_granularity (λ w. (granularity_of w < 10 ^ 6) ⊎ (2592000 * 10 ^ 9 < granularity_of w)) GranularityRange _ refl (λ e. omega (arith, e)) (omega arith) (λ w. outside_from (10 ^ 6) (2592000 * 10 ^ 9) (granularity_of w) (granularity_of w)) (λ w. outside_to (10 ^ 6) (2592000 * 10 ^ 9) (granularity_of w) (granularity_of w)) (λ h. h) (λ h. h)
      (one_of 7 8 has_many_points (λ w. (1000000 < points_of w) ⊎ (9 * 10 ^ 18 < granularity_of w * points_of w)) PointsRange _ refl (λ e. omega (arith, e)) (omega arith) (λ w h. ⊎_elim (λ l. inl (ltb-true 1000000 (points_of w) l)) (λ r. inr (ltb-true (9 * 10 ^ 18) (granularity_of w * points_of w) r)) (or_cases (ltb 1000000 (points_of w)) (ltb (9 * 10 ^ 18) (granularity_of w * points_of w)) h)) (λ w h. ⊎_elim (λ l. or_left (ltb 1000000 (points_of w)) (ltb (9 * 10 ^ 18) (granularity_of w * points_of w)) (lt-ltb 1000000 (points_of w) l)) (λ r. or_right (ltb 1000000 (points_of w)) (ltb (9 * 10 ^ 18) (granularity_of w * points_of w)) (lt-ltb (9 * 10 ^ 18) (granularity_of w * points_of w) r)) h) (λ h. h) (λ h. h)
      (tells_nothing H 8)))))

  among : Tells H 8 10 (fault_of_granularities (map granularity_of wanted))
  among =
      let gs = map granularity_of wanted in
      tells_test H 8 10 (has_same gs) SameGranularity _ refl (λ e. omega (arith, e)) (omega arith) (has_same-true gs) (has_same-from gs)
      (tells_dividing H (largest gs) (not_dividing gs) (not_dividing-some gs) (not_dividing-none gs))

  of_kinds : Tells H 10 11 (fault_of_kinds kinds)
  of_kinds =
      tells_test H 10 11 (eqb (length kinds) 0) NoAggregation _ refl (λ e. omega (arith, e)) (omega arith) (empty_from kinds) (empty_to kinds) (tells_nothing H 11)

  all : Tells H 0 11 (first_fault back wanted kinds)
  unfolding first_fault
  all =
      tells_both H 0 10 11 _ _ (omega arith) (omega arith) (tells_both H 0 8 10 _ _ (omega arith) (omega arith) (tells_both H 0 3 8 _ _ (omega arith) (omega arith) counts each) among) of_kinds

-- want of memory never holds of what is asked for
within : (g : PolicyFault) → (fault_place g < 11) ⊎ (g ≡ Memory)
within g =
    ⊎_elim (λ less. inl less) (λ ge. inr (only_fault Memory g (le_last g ge) (λ e. omega (arith, e)))) (cases_lt (fault_place g) 11)
  where
    le_last : (g : PolicyFault) → 11 ≤ fault_place g → fault_place g ≡ 11
    le_last BackWindow ge = absurd (omega arith)
    le_last NoDefinition ge = absurd (omega arith)
    le_last TooMany ge = absurd (omega arith)
    le_last TooFew ge = absurd (omega arith)
    le_last ZeroPoints ge = absurd (omega arith)
    le_last SpanMismatch ge = absurd (omega arith)
    le_last GranularityRange ge = absurd (omega arith)
    le_last PointsRange ge = absurd (omega arith)
    le_last SameGranularity ge = absurd (omega arith)
    le_last (NotDividing fine coarse) ge = absurd (omega arith)
    le_last NoAggregation ge = absurd (omega arith)
    le_last Memory ge = refl

pub fault_first : (back : ℕ) (wanted : List Wanted) (kinds : List Kind) (fault : PolicyFault) → first_fault back wanted kinds ≡ Some fault → IsFirst back wanted kinds fault
fault_first back wanted kinds fault is =
    let r = (all back wanted kinds).some fault is in
    record { holds = r.0; first = λ g less holds. r.3 g (omega arith) less holds }

pub fault_none : (back : ℕ) (wanted : List Wanted) (kinds : List Kind) → first_fault back wanted kinds ≡ None → (fault : PolicyFault) → Holds back wanted kinds fault → ⊥
fault_none back wanted kinds is fault holds =
    let P : PolicyFault → Type 0 = λ g. Holds back wanted kinds g in
    ⊎_elim (λ less. (all back wanted kinds).none is fault (omega arith) less holds) (λ same. subst P same holds) (within fault)
