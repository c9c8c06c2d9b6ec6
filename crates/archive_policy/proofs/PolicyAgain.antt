-- A policy is determined by what was asked for, and each policy can be asked for.
use Rattle.std.proofs.Common.{◌≡◌, ℕ, zero, suc, ◌*◌, ◌%◌, ◌^◌, ◌<◌, ◌⊎◌, List, [], ◌∷◌, map, length, get_or, Option, Some, None, refl, sym, ap, subst, ◌∙◌, arith}
use Rattle.std.proofs.Math.Logic.{⊎_elim}
use Rattle.std.specs.List.{Any, Contains}
use Rattle.std.specs.List.Sorted.{IsPermutation}
use Rattle.std.proofs.lemmas.Option.{none-some}
use Rattle.std.proofs.lemmas.List.{length-map}
use Rattle.std.proofs.lemmas.List.Elements.{All-contains, All-map}
use Rattle.std.proofs.lemmas.List.Kept.{AllPairs-from_increasing}
use Rattle.std.proofs.lemmas.List.Sorted.{IsPermutation-refl, IsPermutation-sym, Contains-permutation}
use Rattle.archive_policy.specs.declared.definition.Definition.{Definition}
use Rattle.archive_policy.specs.declared.fault.PolicyFault.{PolicyFault}
use Rattle.archive_policy.specs.declared.fault.PolicyFault.TheVariants.{BackWindow, NoDefinition, TooMany, TooFew, ZeroPoints, SpanMismatch, GranularityRange, PointsRange, SameGranularity, NotDividing, NoAggregation, Memory}
use Rattle.archive_policy.specs.declared.kind.Kind.{Kind}
use Rattle.archive_policy.specs.declared.wanted.Wanted.{Wanted}
use Rattle.archive_policy.specs.Asked.{definition_of, granularity_of, points_of, given_count, largest}
use Rattle.archive_policy.specs.Faults.{first_fault, Holds, HasSame, IsMismatch, IsNotDividing}
use Rattle.archive_policy.specs.Kinds.{kind_index}
use Rattle.archive_policy.specs.Policies.{ArchivePolicy, IsArchivePolicy, IsDefinition, granularities, policy_of}
use Rattle.archive_policy.specs.PolicyLaws.{IsAsked, as_kept}
use Rattle.archive_policy.proofs.AskedLemmas.{largest_only}
use Rattle.archive_policy.proofs.FaultLaws.{fault_first}
use Rattle.archive_policy.proofs.Lists.{map-map}
use Rattle.archive_policy.proofs.PolicyProofs.{is_asked}
use Rattle.archive_policy.proofs.Rising.{Rises_from_rising, same_rising}

-- ---- one policy

pub same_policy : (p q : ArchivePolicy) → p.name ≡ q.name → p.back_window ≡ q.back_window → p.definitions ≡ q.definitions → p.kinds ≡ q.kinds → p ≡ q
same_policy p q name back definitions kinds =
    let made : List ℕ → ℕ → List Definition → List Kind → ArchivePolicy =
    λ n b d k. record { name = n; back_window = b; definitions = d; kinds = k } in
    ap (λ n. made n p.back_window p.definitions p.kinds) name ∙ ap (λ b. made q.name b p.definitions p.kinds) back
    ∙ ap (λ d. made q.name q.back_window d p.kinds) definitions ∙ ap (made q.name q.back_window q.definitions) kinds

pub policy_once : (name : List ℕ) (back : ℕ) (wanted : List Wanted) (kinds : List Kind) (p q : ArchivePolicy) → IsAsked name back wanted kinds p → IsAsked name back wanted kinds q → p ≡ q
policy_once name back wanted kinds p q h g =
    let given = map definition_of wanted in
    let definitions : p.definitions ≡ q.definitions =
    same_rising (λ (d : Definition). d.granularity) p.definitions q.definitions (Rises_from_rising (granularities p.definitions) h.valid.definitions.rising) (Rises_from_rising (granularities q.definitions) g.valid.definitions.rising)
    (λ d c. Contains-permutation given q.definitions d g.definitions (Contains-permutation p.definitions given d (IsPermutation-sym given p.definitions h.definitions) c))
    (λ d c. Contains-permutation given p.definitions d h.definitions (Contains-permutation q.definitions given d (IsPermutation-sym given q.definitions g.definitions) c)) in
    let same : p.kinds ≡ q.kinds =
    same_rising kind_index p.kinds q.kinds (Rises_from_rising (map kind_index p.kinds) h.valid.kinds.in_table_order) (Rises_from_rising (map kind_index q.kinds) g.valid.kinds.in_table_order)
    (λ k c. (g.kinds k).1 ((h.kinds k).0 c))
    (λ k c. (h.kinds k).1 ((g.kinds k).0 c)) in
    same_policy p q (h.name ∙ sym g.name) (h.back_window ∙ sym g.back_window) definitions same

-- ---- a policy that is asked for as it is kept

kept_definitions : (ds : List Definition) → map definition_of (map as_kept ds) ≡ ds
kept_definitions [] = refl
kept_definitions (d ∷ ds) = ap (λ rest. d ∷ rest) (kept_definitions ds)

kept_granularities : (ds : List Definition) → map granularity_of (map as_kept ds) ≡ granularities ds
kept_granularities ds = map-map granularity_of as_kept ds

-- a definition that a fault is told of
one_of : (ds : List Definition) (P : Wanted → Type 0) → Any P (map as_kept ds) → (d : Definition) × Contains ds d × P (as_kept d)
one_of ds P a = by ds a.0 a.1 a.2 a.3 a.4
  where
    by : (ds : List Definition) (k : ℕ) (w : Wanted) → k < length (map as_kept ds) → get_or (map as_kept ds) k w ≡ w → P w → (d : Definition) × Contains ds d × P (as_kept d)
    by [] k w below is holds = absurd (omega arith)
    by (d ∷ ds) zero w below is holds = (d, (0, omega arith, refl), subst P (sym is) holds)
    by (d ∷ ds) (suc k) w below is holds =
        let r = by ds k w (omega arith) is holds in
        (r.0, (suc r.1.0, omega (arith, r.1.1), r.1.2), r.2)

no_fault : (p : ArchivePolicy) → IsArchivePolicy p → (f : PolicyFault) → Holds p.back_window (map as_kept p.definitions) p.kinds f → ⊥
no_fault p h BackWindow f = omega (arith, h.back_window, f)
no_fault p h NoDefinition f =
    omega (arith, h.definitions.some, length-map p.definitions as_kept, ap length f)
no_fault p h TooMany f = omega (arith, h.definitions.few, length-map p.definitions as_kept, f)
no_fault p h TooFew f =
    let r = one_of p.definitions (λ w. given_count w < 2) f in omega (arith, r.2)
no_fault p h ZeroPoints f =
    let r = one_of p.definitions (λ w. points_of w ≡ 0) f in
    let d = All-contains IsDefinition p.definitions r.0 h.definitions.each r.1 in omega (arith, d.some, r.2)
no_fault p h SpanMismatch f =
    let r = one_of p.definitions IsMismatch f in none-some r.2.timespan r.2.timespan_given
no_fault p h GranularityRange f =
    let r = one_of p.definitions (λ w. (granularity_of w < 10 ^ 6) ⊎ (2592000 * 10 ^ 9 < granularity_of w)) f in
    let d = All-contains IsDefinition p.definitions r.0 h.definitions.each r.1 in
    ⊎_elim (λ low. omega (arith, d.granularity.shortest, low)) (λ high. omega (arith, d.granularity.longest, high)) r.2
no_fault p h PointsRange f =
    let r = one_of p.definitions (λ w. (1000000 < points_of w) ⊎ (9 * 10 ^ 18 < granularity_of w * points_of w)) f in
    let d = All-contains IsDefinition p.definitions r.0 h.definitions.each r.1 in
    ⊎_elim (λ many. omega (arith, d.few, many)) (λ long. omega (arith, d.fits, long)) r.2
no_fault p h SameGranularity f =
    let gs = granularities p.definitions in
    let P : List ℕ → Type 0 = λ l. HasSame l in
    let s = subst P (kept_granularities p.definitions) f in
    omega (arith, AllPairs-from_increasing gs h.definitions.rising s.0 s.1 0 s.2 s.3, s.4)
no_fault p h (NotDividing fine coarse) f =
    let gs = granularities p.definitions in
    let P : List ℕ → Type 0 = λ l. IsNotDividing l fine coarse in
    let n = subst P (kept_granularities p.definitions) f in
    let top : coarse ≡ largest gs = largest_only gs coarse n.coarse_is_one n.largest in
    let D : ℕ → Type 0 = λ g. largest gs % g ≡ 0 in
    let divides : D fine =
    All-contains D gs fine (All-map D (λ (d : Definition). d.granularity) p.definitions h.definitions.dividing) n.fine_is_one in
    n.leaves_rest (ap (λ c. c % fine) top ∙ divides)
no_fault p h NoAggregation f = omega (arith, h.kinds.some, ap length f)
no_fault p h Memory f = f

pub again_none : (p : ArchivePolicy) → IsArchivePolicy p → first_fault p.back_window (map as_kept p.definitions) p.kinds ≡ None
again_none p h = by (first_fault p.back_window (map as_kept p.definitions) p.kinds) refl
  where
    by : (o : Option PolicyFault) → first_fault p.back_window (map as_kept p.definitions) p.kinds ≡ o → o ≡ None
    by None is = refl
    by (Some f) is =
        absurd (no_fault p h f ((fault_first p.back_window (map as_kept p.definitions) p.kinds f is).holds))

pub again_same : (p : ArchivePolicy) → IsArchivePolicy p → policy_of p.name p.back_window (map as_kept p.definitions) p.kinds ≡ p
again_same p h =
    let wanted = map as_kept p.definitions in
    let P : List Definition → Type 0 = λ ds. IsPermutation ds p.definitions in
    let own : IsAsked p.name p.back_window wanted p.kinds p = record {
      valid = h;
      name = refl;
      back_window = refl;
      definitions = subst P (sym (kept_definitions p.definitions)) (IsPermutation-refl p.definitions);
      kinds = λ kind. (λ c. c, λ c. c);
    } in
    policy_once p.name p.back_window wanted p.kinds (policy_of p.name p.back_window wanted p.kinds) p (is_asked p.name p.back_window wanted p.kinds h.name (again_none p h)) own
