-- Lists of points by kind, and what is prepared for a job.
use Rattle.std.proofs.Common.{◌≡◌, ℕ, ◌+◌, ◌*◌, ◌/◌, ◌%◌, ◌<◌, ◌≤◌, Bool, true, false, eqb, List, [], ◌++◌, map, length, get_or, Option, Some, None, drop, ◌⊎◌, inl, inr, refl, sym, ap, subst, ◌∙◌, arith}
use Rattle.std.specs.List.{All, Contains, position_or_len, slice_get}
use Rattle.std.proofs.Math.ListN.{get_or-eq_default}
use Rattle.std.proofs.Math.Logic.{⊎_elim}
use Rattle.std.proofs.Math.Nat.{div-lt_iff_lt-mul, mod-lt}
use Rattle.std.proofs.lemmas.Bool.{cases_lt, eqb-true, eq-eqb}
use Rattle.std.proofs.Math.Seq.{drop-length}
use Rattle.std.proofs.lemmas.List.{append-nil, ext_get_or, get_or-map, length-map}
use Rattle.std.proofs.lemmas.List.Elements.{All-nil, Contains-get_or}
use Rattle.std.proofs.lemmas.List.Kept.{AllPairs-from_increasing}
use Rattle.std.proofs.lemmas.List.Quantifiers.{position-Some}
use Rattle.std.proofs.lemmas.List.Sums.{position_or_len_is}
use Rattle.std.proofs.lemmas.Nat.{div-add-mod'}
use Rattle.std.proofs.lemmas.Option.{get_or_from_slice_get, slice_get-get_or, slice_get_within}
use Rattle.archive_policy.specs.declared.definition.Definition.{Definition}
use Rattle.archive_policy.specs.declared.kind.Kind.{Kind}
use Rattle.archive_policy.specs.declared.kind.Kind.TheVariants.{Mean}
use Rattle.archive_policy.specs.Kinds.{AreInTableOrder, kind_index}
use Rattle.archive_policy.specs.Policies.{AreKinds}
use Rattle.archive_policy.proofs.KindLemmas.{same_place}
use Rattle.series_model.specs.declared.measure.Measure.{Measure}
use Rattle.series_model.specs.declared.point.Point.{Point}
use Rattle.series_model.specs.Series.{series_of_measures}
use Rattle.series_model.specs.Tail.{Tail, accepted_under, kept_window}
use Rattle.bound_series.specs.Jobs.{AreNew, JobView, PreparedView, IsFromScratch, IsPrepared, list_at, place_in, points_for, regrouped}
use Rattle.bound_series.specs.Turn.{earliest}

-- ---- places of kinds

-- a kind that has a place is one of these
pub placed : (kinds : List Kind) (kind : Kind) (k : ℕ) → place_in kinds kind ≡ Some k → Contains kinds kind
placed kinds kind k is =
    let at = position-Some (λ (x : Kind). eqb (kind_index x) (kind_index kind)) kinds k kind is in
    (k, at.0, same_place (get_or kinds k kind) kind (eqb-true (kind_index (get_or kinds k kind)) (kind_index kind) at.1))

-- of kinds in table order, the earlier one has the lower index
earlier_below : (kinds : List Kind) (i j : ℕ) (d : Kind) → AreInTableOrder kinds → i < j → j < length kinds → kind_index (get_or kinds i d) < kind_index (get_or kinds j d)
earlier_below kinds i j d order less inside =
    let long : length (map kind_index kinds) ≡ length kinds = length-map kinds kind_index in
    omega (
      arith,
      AllPairs-from_increasing (map kind_index kinds) order i j 0 less (omega (arith, inside, long)),
      get_or-map kind_index kinds i d 0 (omega (arith, less, inside)),
      get_or-map kind_index kinds j d 0 inside,
    )

differ : (a b : ℕ) → a < b → eqb a b ≡ false
differ a b less = by (eqb a b) refl
  where
    by : (t : Bool) → eqb a b ≡ t → t ≡ false
    by true is = absurd (omega (arith, less, eqb-true a b is))
    by false is = refl

-- of kinds in table order, each has its own place
pub own_place : (kinds : List Kind) (k : ℕ) (kind : Kind) → AreInTableOrder kinds → slice_get kinds k ≡ Some kind → place_in kinds kind ≡ Some k
own_place kinds k kind order is =
    let test : Kind → Bool = λ x. eqb (kind_index x) (kind_index kind) in
    let inside : k < length kinds = slice_get_within kinds k kind is in
    let here : get_or kinds k kind ≡ kind = get_or_from_slice_get kinds k kind kind is in
    let first : position_or_len test kinds ≡ k =
    position_or_len_is test kinds k kind (omega arith)
    (λ i less. differ (kind_index (get_or kinds i kind)) (kind_index kind) (omega (arith, earlier_below kinds i k kind order less inside, ap kind_index here)))
    (λ _. eq-eqb (kind_index (get_or kinds k kind)) (kind_index kind) (ap kind_index here)) in
    grind (arith, first, inside)

-- of kinds in table order, the list of each is at its own place
pub own_list : (p : PreparedView) (i k : ℕ) (kind : Kind) → AreKinds p.job.policy.kinds → slice_get p.job.policy.kinds k ≡ Some kind → points_for p i kind ≡ get_or p.points (i * length p.job.policy.kinds + k) []
own_list p i k kind valid is =
    ap (list_at p.points (length p.job.policy.kinds) i) (own_place p.job.policy.kinds k kind valid.in_table_order is)

-- where there are a definition and a kind, none of the two is missing
pub present : (ds : List Definition) (kinds : List Kind) (i : ℕ) (kind : Kind) (k : ℕ) → i < length ds → place_in kinds kind ≡ Some k → (slice_get ds i ≡ None) ⊎ (¬ Contains kinds kind) → ⊥
present ds kinds i kind k inside is missing =
    ⊎_elim
    (λ none. let there : slice_get ds i ≡ Some (get_or ds i (record { granularity = 0; points = 0 })) = slice_get-get_or ds i (record { granularity = 0; points = 0 }) inside in cc)
    (λ none. none (placed kinds kind k is))
    missing

-- ---- one preparation

-- the parts of a preparation of a job
abbrev made : JobView → Tail → List (List Point) → Option ℕ → PreparedView
made job raw points from = record { job = job; raw = raw; points = points; from = from }

same_made : (job : JobView) (r s : Tail) (xs ys : List (List Point)) (f g : Option ℕ) → r ≡ s → xs ≡ ys → f ≡ g → made job r xs f ≡ made job s ys g
same_made job r s xs ys f g raw points from =
    ap (λ t. made job t xs f) raw ∙ ap (λ l. made job s l f) points ∙ ap (made job s ys) from

-- a place is that of a definition and a kind
row_of : (n count width : ℕ) → 0 < width → n < count * width → n / width < count
row_of n count width some below = (div-lt_iff_lt-mul {k = width} {x = n} {y = count} some).1 below

one_made : (job : JobView) (r s : Tail) (xs ys : List (List Point)) (f g : Option ℕ) (before : List (List Measure)) → AreKinds job.policy.kinds → IsPrepared (made job r xs f) → IsPrepared (made job s ys g) → job.base ≡ kept_window job.policy (accepted_under job.policy before) → made job r xs f ≡ made job s ys g
one_made job r s xs ys f g before valid h k base = same_made job r s xs ys f g (a.raw ∙ sym b.raw) points from
  where
    a : IsFromScratch (made job r xs f) before
    a = h.from_scratch before base

    b : IsFromScratch (made job s ys g) before
    b = k.from_scratch before base

    from : f ≡ g
    from = a.from ∙ sym b.from

    at : (n : ℕ) → n < length xs → get_or xs n [] ≡ get_or ys n []
    at n below =
        let width = length job.policy.kinds in
        let some : 0 < width = omega (arith, valid.some) in
        let i = n / width in
        let place = n % width in
        let row : i < length job.policy.definitions = row_of n (length job.policy.definitions) width some (omega (arith, below, h.number)) in
        let col : place < width = mod-lt n some in
        let d : Definition = get_or job.policy.definitions i (record { granularity = 0; points = 0 }) in
        let kind : Kind = get_or job.policy.kinds place Mean in
        let is_d : slice_get job.policy.definitions i ≡ Some d = slice_get-get_or job.policy.definitions i (record { granularity = 0; points = 0 }) row in
        let is_kind : slice_get job.policy.kinds place ≡ Some kind = slice_get-get_or job.policy.kinds place Mean col in
        let among : Contains job.policy.kinds kind = Contains-get_or job.policy.kinds place Mean col in
        let whole : i * width + place ≡ n = div-add-mod' n width in
        ap (λ m. get_or xs m []) (sym whole) ∙ sym (own_list (made job r xs f) i place kind valid is_kind) ∙ a.points i d kind is_d among
        ∙ ap (regrouped kind d.granularity (series_of_measures (accepted_under job.policy (before ++ job.batches)))) from
        ∙ sym (b.points i d kind is_d among) ∙ own_list (made job s ys g) i place kind valid is_kind ∙ ap (λ m. get_or ys m []) whole

    points : xs ≡ ys
    points = ext_get_or [] xs ys (h.number ∙ sym k.number) at

-- one job is prepared in one way, where its base is a kept window
pub one_preparation : (p q : PreparedView) (before : List (List Measure)) → AreKinds p.job.policy.kinds → IsPrepared p → IsPrepared q → p.job ≡ q.job → p.job.base ≡ kept_window p.job.policy (accepted_under p.job.policy before) → p ≡ q
one_preparation p q before valid h k same base =
    let P : JobView → Type 0 = λ job. IsPrepared (made job q.raw q.points q.from) in
    one_made p.job p.raw q.raw p.points q.points p.from q.from before valid h (subst P (sym same) k) base
    ∙ ap (λ job. made job q.raw q.points q.from) same

-- ---- nothing new

-- of lists without points, none has any
none_at : (points : List (List Point)) (kinds i : ℕ) (place : Option ℕ) → All (λ l. l ≡ []) points → list_at points kinds i place ≡ []
none_at points kinds i None all = refl
none_at points kinds i (Some place) all = by (cases_lt (i * kinds + place) (length points))
  where
    by : (i * kinds + place < length points) ⊎ (length points ≤ i * kinds + place) → get_or points (i * kinds + place) [] ≡ []
    by (inl inside) = all (i * kinds + place) [] inside
    by (inr past) = get_or-eq_default points [] past

pub none_new : (granularity : ℕ) (points : List Point) → points ≡ [] → AreNew granularity None points
none_new granularity points is = subst (λ l. AreNew granularity None l) (sym is) (record {
  rising = λ k below. absurd (omega arith);
  multiples = All-nil (λ (p : Point). p.at % granularity ≡ 0);
  late = λ first none. cc;
  none = λ _. refl;
})

none_accepted : (accepted : List Measure) → None ≡ earliest (drop (length accepted) accepted)
none_accepted accepted = ap earliest (sym (drop-length accepted))

nothing_new : (job : JobView) (points : List (List Point)) → job.batches ≡ [] → length points ≡ length job.policy.definitions * length job.policy.kinds → All (λ l. l ≡ []) points → IsPrepared (made job job.base points None)
nothing_new job points no_batches number all = record {
  number = number;
  new = λ i d kind is_d among. none_new d.granularity (points_for (made job job.base points None) i kind) (none i kind);
  from_scratch = λ before base. record {
    raw = base ∙ ap (λ l. kept_window job.policy (accepted_under job.policy l)) (same before);
    from = none_accepted (accepted_under job.policy before) ∙ ap (λ l. earliest (drop (length (accepted_under job.policy before)) (accepted_under job.policy l))) (same before);
    points = λ i d kind is_d among. none i kind;
  };
}
  where
    none : (i : ℕ) (kind : Kind) → points_for (made job job.base points None) i kind ≡ []
    none i kind = none_at points (length job.policy.kinds) i (place_in job.policy.kinds kind) all

    same : (before : List (List Measure)) → before ≡ before ++ job.batches
    same before = sym (ap (λ l. before ++ l) no_batches ∙ append-nil before)

-- a job without batches is prepared by nothing
pub empty_job : (p : PreparedView) → p.job.batches ≡ [] → p.raw ≡ p.job.base → p.from ≡ None → length p.points ≡ length p.job.policy.definitions * length p.job.policy.kinds → All (λ points. points ≡ []) p.points → IsPrepared p
empty_job p no_batches raw from number all =
    subst (λ q. IsPrepared q) (same_made p.job p.job.base p.raw p.points p.points None p.from (sym raw) refl (sym from)) (nothing_new p.job p.points no_batches number all)
