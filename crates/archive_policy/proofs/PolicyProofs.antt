-- Where no fault holds, the policy is a valid one of what was asked for.
use Rattle.std.proofs.Common.{◌≡◌, ◌≢◌, ℕ, ◌*◌, ◌%◌, ◌^◌, ◌<◌, ◌≤◌, Bool, true, false, cond, eqb, ltb, List, [], ◌∷◌, ◌++◌, map, length, get_or, Option, Some, None, refl, sym, ap, subst, ◌∙◌, arith, append-nil, inl, inr, ◌⊎◌}
use Rattle.std.proofs.Math.Logic.{⊎_elim}
use Rattle.std.specs.List.{All, Contains, fold, list_any}
use Rattle.std.specs.List.Sorted.{IsPermutation}
use Rattle.std.specs.Option.{option_or, option_map}
use Rattle.std.proofs.lemmas.List.{get_or-map, length-map}
use Rattle.std.proofs.lemmas.Bool.{ltb-true, ltb-false, eqb-false, eq-eqb, both_ways, or_parts, cond_both}
use Rattle.std.proofs.lemmas.Option.{none-some}
use Rattle.std.proofs.lemmas.List.Elements.{All-map}
use Rattle.std.proofs.lemmas.List.Folds.{list_any_at}
use Rattle.std.proofs.lemmas.List.Sorted.{IsPermutation-refl, IsPermutation-sym, IsPermutation-trans, IsPermutation-cons, IsPermutation-middle, IsPermutation-append_left, IsPermutation-map, All-permutation, length_permutation}
use Rattle.archive_policy.specs.declared.definition.Definition.{Definition}
use Rattle.archive_policy.specs.declared.fault.PolicyFault.{PolicyFault}
use Rattle.archive_policy.specs.declared.kind.Kind.{Kind}
use Rattle.archive_policy.specs.declared.wanted.Wanted.{Wanted}
use Rattle.archive_policy.specs.Asked.{definition_of, granularity_of, points_of, has_too_few, has_no_points, has_mismatch, has_odd_granularity, has_many_points, has_same, largest, not_dividing}
use Rattle.archive_policy.specs.Faults.{fault_of_counts, fault_of_each, fault_of_granularities, fault_of_kinds, first_fault}
use Rattle.archive_policy.specs.Kinds.{is_among, kinds_of}
use Rattle.archive_policy.specs.Names.{IsName}
use Rattle.archive_policy.specs.Policies.{AreDefinitions, AreKinds, IsArchivePolicy, IsDefinition, IsGranularity, definitions_of, granularities, largest_of, policy_of, put}
use Rattle.archive_policy.specs.PolicyLaws.{IsAsked}
use Rattle.archive_policy.proofs.AskedLemmas.{all_divide, largest_permutation}
use Rattle.archive_policy.proofs.KindLemmas.{kept_in_order, kept_kinds}
use Rattle.archive_policy.proofs.Rising.{Above, Rises, Above-lower, rising_from_Rises}
use Rattle.archive_policy.proofs.Lists.{Contains-here, Contains-there, Contains-cases, Contains-none, none_passes, map-map}

-- ---- the tests that fail where no fault is told

-- no test passes
record Passes (back : ℕ) (wanted : List Wanted) (kinds : List Kind) : Type 0 where
  back_window : ltb 1000 back ≡ false
  some : eqb (length wanted) 0 ≡ false
  few : ltb 8 (length wanted) ≡ false
  points : list_any has_no_points wanted ≡ false
  granularity : list_any has_odd_granularity wanted ≡ false
  range : list_any has_many_points wanted ≡ false
  distinct : has_same (map granularity_of wanted) ≡ false
  dividing : not_dividing (map granularity_of wanted) ≡ None
  kind : eqb (length kinds) 0 ≡ false

cond_none : (t : Bool) (f : PolicyFault) (rest : Option PolicyFault) → cond t (Some f) rest ≡ None → (t ≡ false) × (rest ≡ None)
cond_none true f rest is = absurd (none-some f (sym is))
cond_none false f rest is = (refl, is)

or_none : (o p : Option PolicyFault) → option_or o p ≡ None → (o ≡ None) × (p ≡ None)
or_none None p is = (refl, is)
or_none (Some x) p is = absurd (none-some x (sym is))

map_none : {X : Type 0} (f : X → PolicyFault) (o : Option X) → option_map f o ≡ None → o ≡ None
map_none f None is = refl
map_none f (Some x) is = absurd (none-some (f x) (sym is))

passes : (back : ℕ) (wanted : List Wanted) (kinds : List Kind) → first_fault back wanted kinds ≡ None → Passes back wanted kinds
unfolding first_fault
passes back wanted kinds is =
    let gs = map granularity_of wanted in
    let outer = or_none _ (fault_of_kinds kinds) is in
    let middle = or_none _ (fault_of_granularities gs) outer.0 in
    let inner = or_none (fault_of_counts back (length wanted)) (fault_of_each wanted) middle.0 in
    let c1 = cond_none (ltb 1000 back) _ _ inner.0 in
    let c2 = cond_none (eqb (length wanted) 0) _ _ c1.1 in
    let c3 = cond_none (ltb 8 (length wanted)) _ _ c2.1 in
    let e1 = cond_none (list_any has_too_few wanted) _ _ inner.1 in
    let e2 = cond_none (list_any has_no_points wanted) _ _ e1.1 in
    let e3 = cond_none (list_any has_mismatch wanted) _ _ e2.1 in
    let e4 = cond_none (list_any has_odd_granularity wanted) _ _ e3.1 in
    let e5 = cond_none (list_any has_many_points wanted) _ _ e4.1 in
    let g1 = cond_none (has_same gs) _ _ middle.1 in
    let k1 = cond_none (eqb (length kinds) 0) _ _ outer.1 in record {
      back_window = c1.0;
      some = c2.0;
      few = c3.0;
      points = e2.0;
      granularity = e4.0;
      range = e5.0;
      distinct = g1.0;
      dividing = map_none _ (not_dividing gs) g1.1;
      kind = k1.0;
    }

-- a granularity that passes its test is in its range
in_range : (w : Wanted) → has_odd_granularity w ≡ false → IsGranularity (granularity_of w)
in_range w h =
    let r = or_parts (ltb (granularity_of w) (10 ^ 6)) (ltb (2592000 * 10 ^ 9) (granularity_of w)) h in record {
      shortest = ltb-false (granularity_of w) (10 ^ 6) r.0;
      longest = ltb-false (2592000 * 10 ^ 9) (granularity_of w) r.1;
    }

-- where no granularity is out of its range, each is in it
pub all_in_range : (wanted : List Wanted) → list_any has_odd_granularity wanted ≡ false → All IsGranularity (map granularity_of wanted)
all_in_range wanted h =
    All-map IsGranularity granularity_of wanted (λ k d below. in_range (get_or wanted k d) (none_passes has_odd_granularity wanted h k d below))

each_valid : (wanted : List Wanted) → list_any has_no_points wanted ≡ false → list_any has_odd_granularity wanted ≡ false → list_any has_many_points wanted ≡ false → All (λ w. IsDefinition (definition_of w)) wanted
each_valid wanted points granularity range k d below =
    let w = get_or wanted k d in
    let some : points_of w ≢ 0 = eqb-false (points_of w) 0 (none_passes has_no_points wanted points k d below) in
    let r =
    or_parts (ltb 1000000 (points_of w)) (ltb (9 * 10 ^ 18) (granularity_of w * points_of w)) (none_passes has_many_points wanted range k d below) in record {
      granularity = in_range w (none_passes has_odd_granularity wanted granularity k d below);
      some = omega (arith, some);
      few = ltb-false 1000000 (points_of w) r.0;
      fits = ltb-false (9 * 10 ^ 18) (granularity_of w * points_of w) r.1;
    }

-- each definition that is asked for is one
pub definitions_valid : (back : ℕ) (wanted : List Wanted) (kinds : List Kind) → first_fault back wanted kinds ≡ None → All (λ w. IsDefinition (definition_of w)) wanted
definitions_valid back wanted kinds is =
    let p = passes back wanted kinds is in each_valid wanted p.points p.granularity p.range

pub back_window_small : (back : ℕ) (wanted : List Wanted) (kinds : List Kind) → first_fault back wanted kinds ≡ None → back ≤ 1000
back_window_small back wanted kinds is = ltb-false 1000 back (passes back wanted kinds is).back_window

-- ---- definitions put in their places

put_moves : (ds : List Definition) (d : Definition) → IsPermutation (d ∷ ds) (put ds d)
put_moves [] d = IsPermutation-refl (d ∷ [])
put_moves (x ∷ ds) d =
    let P : List Definition → Type 0 = λ l. IsPermutation (d ∷ x ∷ ds) l in
    cond_both (ltb d.granularity x.granularity) (d ∷ x ∷ ds) (x ∷ put ds d) P (λ _. IsPermutation-refl (d ∷ x ∷ ds)) (λ _. IsPermutation-trans (d ∷ x ∷ ds) (x ∷ d ∷ ds) (x ∷ put ds d) (IsPermutation-sym (x ∷ d ∷ ds) (d ∷ x ∷ ds) (IsPermutation-middle (x ∷ []) d ds)) (IsPermutation-cons x (d ∷ ds) (put ds d) (put_moves ds d)))

fold_moves : (ds so_far : List Definition) → IsPermutation (so_far ++ ds) (fold put so_far ds)
fold_moves [] so_far = rw append-nil (IsPermutation-refl so_far)
fold_moves (d ∷ ds) so_far =
    IsPermutation-trans (so_far ++ d ∷ ds) (put so_far d ++ ds) (fold put (put so_far d) ds) (IsPermutation-trans (so_far ++ d ∷ ds) (d ∷ (so_far ++ ds)) (put so_far d ++ ds) (IsPermutation-middle so_far d ds) (IsPermutation-append_left ds (d ∷ so_far) (put so_far d) (put_moves so_far d))) (fold_moves ds (put so_far d))

pub moved : (wanted : List Wanted) → IsPermutation (map definition_of wanted) (definitions_of wanted)
moved wanted = fold_moves (map definition_of wanted) []

-- ---- granularities that rise

Above-put : (g : ℕ) (ds : List Definition) (d : Definition) → g < d.granularity → Above g (granularities ds) → Above g (granularities (put ds d))
Above-put g [] d less h = (less, tt)
Above-put g (x ∷ ds) d less h =
    let P : List Definition → Type 0 = λ l. Above g (granularities l) in
    cond_both (ltb d.granularity x.granularity) (d ∷ x ∷ ds) (x ∷ put ds d) P (λ _. (less, h)) (λ _. (h.0, Above-put g ds d less h.1))

Rises-put : (ds : List Definition) (d : Definition) → Rises (granularities ds) → (Contains (granularities ds) d.granularity → ⊥) → Rises (granularities (put ds d))
Rises-put [] d h fresh = (tt, tt)
Rises-put (x ∷ ds) d h fresh =
    let P : List Definition → Type 0 = λ l. Rises (granularities l) in
    let rest : Contains (granularities ds) d.granularity → ⊥ =
    λ c. fresh (Contains-there x.granularity (granularities ds) d.granularity c) in
    let other : x.granularity ≢ d.granularity =
    λ same. fresh (Contains-here x.granularity (granularities ds) d.granularity same) in
    cond_both
    (ltb d.granularity x.granularity)
    (d ∷ x ∷ ds)
    (x ∷ put ds d)
    P
    (λ t. let less : d.granularity < x.granularity = ltb-true d.granularity x.granularity t in ((less, Above-lower d.granularity x.granularity (granularities ds) (omega arith) h.0), h))
    (λ t. let ge : x.granularity ≤ d.granularity = ltb-false d.granularity x.granularity t in (Above-put x.granularity ds d (omega (arith, ge, other)) h.0, Rises-put ds d h.1 rest))

put_has : (ds : List Definition) (d : Definition) (g : ℕ) → Contains (granularities (put ds d)) g → (d.granularity ≡ g) ⊎ Contains (granularities ds) g
put_has [] d g c = ⊎_elim (λ same. inl same) (λ none. absurd (Contains-none g none)) (Contains-cases d.granularity [] g c)
put_has (x ∷ ds) d g c =
    let P : List Definition → Type 0 =
    λ l. Contains (granularities l) g → (d.granularity ≡ g) ⊎ Contains (granularities (x ∷ ds)) g in
    cond_both
    (ltb d.granularity x.granularity)
    (d ∷ x ∷ ds)
    (x ∷ put ds d)
    P
    (λ _ c. Contains-cases d.granularity (granularities (x ∷ ds)) g c)
    (λ _ c. ⊎_elim (λ same. inr (Contains-here x.granularity (granularities ds) g same)) (λ there. ⊎_elim (λ same. inl same) (λ more. inr (Contains-there x.granularity (granularities ds) g more)) (put_has ds d g there)) (Contains-cases x.granularity (granularities (put ds d)) g c))
    c

-- a granularity that stands once isn't one of those behind it
stands_once : (g : ℕ) (gs : List ℕ) → has_same (g ∷ gs) ≡ false → (Contains gs g → ⊥) × (has_same gs ≡ false)
stands_once g gs h =
    let r = or_parts (list_any (λ other. eqb other g) gs) (has_same gs) h in
    (λ c. both_ways (list_any (λ other. eqb other g) gs) r.0 (list_any_at (λ other. eqb other g) gs c.0 g c.1 (eq-eqb (get_or gs c.0 g) g c.2)), r.1)

Rises-fold : (ds so_far : List Definition) → Rises (granularities so_far) → has_same (granularities ds) ≡ false → ((g : ℕ) → Contains (granularities ds) g → Contains (granularities so_far) g → ⊥) → Rises (granularities (fold put so_far ds))
Rises-fold [] so_far h once apart = h
Rises-fold (d ∷ ds) so_far h once apart =
    let r = stands_once d.granularity (granularities ds) once in
    Rises-fold ds (put so_far d) (Rises-put so_far d h (apart d.granularity (Contains-here d.granularity (granularities ds) d.granularity refl))) r.1 (λ g c there. ⊎_elim (λ same. let P : ℕ → Type 0 = λ x. Contains (granularities ds) x in r.0 (subst P (sym same) c)) (λ before. apart g (Contains-there d.granularity (granularities ds) g c) before) (put_has so_far d g there))

-- ---- the definitions and kinds of a policy

same_granularities : (wanted : List Wanted) → granularities (map definition_of wanted) ≡ map granularity_of wanted
same_granularities wanted = map-map (λ (d : Definition). d.granularity) definition_of wanted

pub are_definitions : (back : ℕ) (wanted : List Wanted) (kinds : List Kind) → first_fault back wanted kinds ≡ None → AreDefinitions (definitions_of wanted)
are_definitions back wanted kinds is =
    let p = passes back wanted kinds is in
    let gs = map granularity_of wanted in
    let given = map definition_of wanted in
    let ds = definitions_of wanted in
    let long : length ds ≡ length wanted = length_permutation given ds (moved wanted) ∙ length-map wanted definition_of in
    let some : length wanted ≢ 0 = eqb-false (length wanted) 0 p.some in
    let few : length wanted ≤ 8 = ltb-false 8 (length wanted) p.few in
    let once : has_same (granularities given) ≡ false = ap has_same (same_granularities wanted) ∙ p.distinct in
    let same : largest_of ds ≡ largest gs =
    largest_permutation (granularities given) (granularities ds) (omega (arith, some, length-map given (λ (d : Definition). d.granularity), length-map wanted definition_of)) (IsPermutation-map (λ (d : Definition). d.granularity) given ds (moved wanted)) ∙ ap largest (same_granularities wanted) in
    let D : Definition → Type 0 = λ d. largest gs % d.granularity ≡ 0 in
    let divided : All D given =
    All-map D definition_of wanted (λ k d below. let e : get_or gs k (granularity_of d) ≡ granularity_of (get_or wanted k d) = get_or-map granularity_of wanted k d (granularity_of d) below in let Q : ℕ → Type 0 = λ g. largest gs % g ≡ 0 in subst Q e (all_divide gs p.dividing k (granularity_of d) (omega (arith, below, length-map wanted granularity_of)))) in record {
      some = omega (arith, long, some);
      few = omega (arith, long, few);
      each = All-permutation IsDefinition given ds (moved wanted) (All-map IsDefinition definition_of wanted (each_valid wanted p.points p.granularity p.range));
      rising = rising_from_Rises (granularities ds) (Rises-fold given [] tt once (λ g c none. Contains-none g none));
      dividing = let E : ℕ → Type 0 = λ n. All (λ (d : Definition). n % d.granularity ≡ 0) ds in subst E (sym same) (All-permutation D given ds (moved wanted) divided);
    }

some_kept : (kinds : List Kind) → eqb (length kinds) 0 ≡ false → 1 ≤ length (kinds_of kinds)
some_kept [] h = absurd (both_ways true h refl)
some_kept (kind ∷ kinds) h =
    let c = (kept_kinds (kind ∷ kinds) kind).1 (Contains-here kind kinds kind refl) in omega (arith, c.1)

pub are_kinds : (back : ℕ) (wanted : List Wanted) (kinds : List Kind) → first_fault back wanted kinds ≡ None → AreKinds (kinds_of kinds)
are_kinds back wanted kinds is = record {
  some = some_kept kinds (passes back wanted kinds is).kind;
  in_table_order = kept_in_order (is_among kinds);
}

pub is_policy : (name : List ℕ) (back : ℕ) (wanted : List Wanted) (kinds : List Kind) → IsName name → first_fault back wanted kinds ≡ None → IsArchivePolicy (policy_of name back wanted kinds)
is_policy name back wanted kinds named is = record {
  name = named;
  back_window = back_window_small back wanted kinds is;
  definitions = are_definitions back wanted kinds is;
  kinds = are_kinds back wanted kinds is;
}

pub is_asked : (name : List ℕ) (back : ℕ) (wanted : List Wanted) (kinds : List Kind) → IsName name → first_fault back wanted kinds ≡ None → IsAsked name back wanted kinds (policy_of name back wanted kinds)
is_asked name back wanted kinds named is = record {
  valid = is_policy name back wanted kinds named is;
  name = refl;
  back_window = refl;
  definitions = moved wanted;
  kinds = kept_kinds kinds;
}
