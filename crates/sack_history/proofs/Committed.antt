-- What a commit of prepared work leaves of a metric is what grouping from scratch gives.
use Rattle.std.proofs.Common.{◌≡◌, ℕ, true, ◌+◌, ◌*◌, ◌<◌, ◌≤◌, get_or, List, [], ◌∷◌, ◌++◌, map, length, drop, Option, Some, None, refl, sym, ap, subst, ◌∙◌, append_assoc, arith}
use Rattle.std.specs.List.{Contains, flat_map, slice_get}
use Rattle.std.specs.Option.{IfSome, is_some, option_map}
use Rattle.std.proofs.lemmas.Bool.{false≢true}
use Rattle.std.proofs.lemmas.List.{get_or-drop, drop-drop, length-append, length-drop}
use Rattle.std.proofs.lemmas.List.Elements.{Contains-append_right}
use Rattle.std.proofs.lemmas.Option.{same_Some}
use Rattle.archive_policy.specs.declared.definition.Definition.{Definition}
use Rattle.archive_policy.specs.declared.kind.Kind.{Kind}
use Rattle.archive_policy.specs.Policies.{ArchivePolicy, IsArchivePolicy, IsDefinition}
use Rattle.series_model.specs.declared.measure.Measure.{Measure}
use Rattle.series_model.specs.declared.metric.MetricId.{MetricId}
use Rattle.series_model.specs.declared.point.Point.{Point}
use Rattle.series_model.specs.declared.point.Split.{Split}
use Rattle.series_model.specs.Stored.{stored_of}
use Rattle.series_model.specs.Tail.{Tail, accepted_under, kept_window}
use Rattle.series_model.proofs.Members.{Contains-here}
use Rattle.bound_series.specs.Jobs.{IsFromScratch, IsPrepared, PreparedView, list_at, place_in, points_for}
use Rattle.bound_series.proofs.Preparing.{own_place}
use Rattle.split_update.specs.Live.{Live, SeriesOf, after_commit, all_splits_after, all_stored, live_from_scratch, series_under}
use Rattle.split_update.specs.Update.{oldest_by, splits_after}
use Rattle.sack_history.specs.declared.entry.Counted.{Counted}
use Rattle.sack_history.specs.declared.entry.Counted.TheVariants as counted
use Rattle.sack_history.specs.Calls.{IsJobOf}
use Rattle.sack_history.specs.declared.holding.HeldClaim.{HeldClaim}
use Rattle.sack_history.specs.Legal.{IsLegalCount, MayProcess}
use Rattle.sack_history.specs.Lives.{Life, batches_of, done_up_to, life_of}
use Rattle.sack_history.specs.Scratch.{metric_from_scratch}
use Rattle.sack_history.proofs.Living.{life-done}
use Rattle.sack_history.proofs.Ordered.{IsLifeOf, ordered}
use Rattle.sack_history.proofs.Turning.{batches-done, done_later}

-- ---- each list of splits by itself

module _ (last from : Option ℕ) (old new : SeriesOf → List Split) where
  -- each of these lists of points makes, of the old splits of its series, the new ones
  abbrev AllMake : List SeriesOf → List (List Point) → Type 0
  AllMake [] points = Unit {0}
  AllMake (s ∷ series) [] = ⊥
  AllMake (s ∷ series) (x ∷ points) = (splits_after s.definition.granularity (oldest_by s.definition last) from x (old s) ≡ new s) × AllMake series points

  all_made : (series : List SeriesOf) (points : List (List Point)) → AllMake series points → all_splits_after series last from points (map old series) ≡ map new series
  all_made [] points h = refl
  all_made (s ∷ series) [] h = absurd h
  all_made (s ∷ series) (x ∷ points) h =
      ap (λ l. l ∷ all_splits_after series last from points (map old series)) h.0 ∙ ap (λ l. new s ∷ l) (all_made series points h.1)

abbrev of_definition : Definition → List Kind → List SeriesOf
of_definition d kinds = map (λ (kind : Kind). let s : SeriesOf = record { definition = d; kind = kind } in s) kinds

-- an item of a list, and those behind it
front_at : {X : Type 0} (xs rest : List X) (x : X) (k : ℕ) (d : X) → x ∷ rest ≡ drop k xs → get_or xs k d ≡ x
front_at xs rest x k d is = ap (λ n. get_or xs n d) (omega arith) ∙ sym (get_or-drop k xs 0 d) ∙ ap (λ l. get_or l 0 d) (sym is)

behind_at : {X : Type 0} (xs rest : List X) (x : X) (k : ℕ) → x ∷ rest ≡ drop k xs → rest ≡ drop (k + 1) xs
behind_at xs rest x k is = ap (drop 1) is ∙ drop-drop 1 k xs

at_front : {X : Type 0} (before behind : List X) (x : X) → slice_get (before ++ (x ∷ behind)) (length before) ≡ Some x
at_front [] behind x = refl
at_front (y ∷ before) behind x = at_front before behind x

-- what a turn leaves of the splits of one definition and kind, which `split_update` promises
abbrev pub TurnIsFromScratch : Type 0
TurnIsFromScratch =
    (p : PreparedView) (before : List (List Measure)) (i : ℕ) (d : Definition) (kind : Kind)
    → 0 < d.granularity → slice_get p.job.policy.definitions i ≡ Some d → Contains p.job.policy.kinds kind
    → IsFromScratch p before
    → splits_after d.granularity (oldest_by d p.raw.last) p.from (points_for p i kind)
    (stored_of kind d (accepted_under p.job.policy before))
    ≡ stored_of kind d (accepted_under p.job.policy (before ++ p.job.batches))

module _ (turn : TurnIsFromScratch) (p : PreparedView) (before : List (List Measure)) (is_policy : IsArchivePolicy p.job.policy) (is_prepared : IsPrepared p) (scratch : IsFromScratch p before) where
  abbrev policy : ArchivePolicy
  policy = p.job.policy

  abbrev width : ℕ
  width = length policy.kinds

  abbrev old : SeriesOf → List Split
  old s = stored_of s.kind s.definition (accepted_under policy before)

  abbrev new : SeriesOf → List Split
  new s = stored_of s.kind s.definition (accepted_under policy (before ++ p.job.batches))

  abbrev Make : List SeriesOf → List (List Point) → Type 0
  Make = AllMake p.raw.last p.from old new

  -- the definition at this place, with its kinds from a place on
  by_kinds : (i : ℕ) (d : Definition) → 0 < d.granularity → slice_get policy.definitions i ≡ Some d
      → (done left : List Kind) (points : List (List Point)) (rest : List SeriesOf) → policy.kinds ≡ done ++ left → points ≡ drop (i * width + length done) p.points
      → length left ≤ length points → Make rest (drop (length left) points) → Make (of_definition d left ++ rest) points
  by_kinds i d positive there done [] points rest kinds is le h = h
  by_kinds i d positive there done (kind ∷ left) [] rest kinds is le h = absurd (omega (arith, le))
  by_kinds i d positive there done (kind ∷ left) (x ∷ points) rest kinds is le h = (
    ap (λ l. splits_after d.granularity (oldest_by d p.raw.last) p.from l (stored_of kind d (accepted_under policy before))) (sym given)
        ∙ turn p before i d kind positive there among scratch,
    by_kinds i d positive there (done ++ kind ∷ []) left points rest (kinds ∙ sym (append_assoc done (kind ∷ []) left))
        (behind_at p.points points x (i * width + length done) is ∙ ap (λ k. drop k p.points) (omega (arith, length-append done (kind ∷ [])))) (omega (arith, le)) h,
  )
    where
      among : Contains policy.kinds kind
      among = subst (λ l. Contains l kind) (sym kinds) (Contains-append_right done (kind ∷ left) kind (Contains-here kind left kind refl))

      place : place_in policy.kinds kind ≡ Some (length done)
      place = own_place policy.kinds (length done) kind is_policy.kinds.in_table_order (subst (λ l. slice_get l (length done) ≡ Some kind) (sym kinds) (at_front done left kind))

      given : points_for p i kind ≡ x
      given = ap (list_at p.points width i) place ∙ front_at p.points points x (i * width + length done) [] is

  -- the definitions from a place on
  by_definitions : (i : ℕ) (done ds : List Definition) (points : List (List Point)) → policy.definitions ≡ done ++ ds → i ≡ length done → points ≡ drop (i * width) p.points
      → length points ≡ length ds * width → ((d : Definition) → Contains ds d → 0 < d.granularity)
      → Make (flat_map (λ d. of_definition d policy.kinds) ds) points
  by_definitions i done [] points definitions at is number positive = tt
  by_definitions i done (d ∷ ds) points definitions at is number positive =
      by_kinds i d (positive d (Contains-here d ds d refl)) (subst (λ k. slice_get policy.definitions k ≡ Some d) (sym at) (subst (λ l. slice_get l (length done) ≡ Some d) (sym definitions) (at_front done ds d)))
      [] policy.kinds points (flat_map (λ e. of_definition e policy.kinds) ds) refl (is ∙ ap (λ k. drop k p.points) (omega arith)) (omega (arith, number))
      (by_definitions (i + 1) (done ++ d ∷ []) ds (drop width points) (definitions ∙ sym (append_assoc done (d ∷ []) ds)) (omega (arith, at, length-append done (d ∷ [])))
      (ap (drop width) is ∙ drop-drop width (i * width) p.points ∙ ap (λ k. drop k p.points) (omega arith)) (length-drop width points ∙ omega (arith, number)) (λ e c. positive e (Contains-append_right (d ∷ []) ds e c)))

  -- the splits of all definitions and kinds
  all_from_scratch : all_splits_after (series_under policy) p.raw.last p.from p.points (all_stored policy (accepted_under policy before)) ≡ all_stored policy (accepted_under policy (before ++ p.job.batches))
  all_from_scratch =
      all_made p.raw.last p.from old new (series_under policy) p.points
      (by_definitions 0 [] policy.definitions p.points refl refl (ap (λ k. drop k p.points) at_first) is_prepared.number positive)
    where
      at_first : 0 ≡ 0 * width
      at_first = omega arith

      positive : (d : Definition) → Contains policy.definitions d → 0 < d.granularity
      positive d c = let each : IsDefinition (get_or policy.definitions c.0 d) = is_policy.definitions.each c.0 d c.1 in
          subst (λ (e : Definition). 0 < e.granularity) c.2 (omega (arith, each.granularity.shortest))

pub committed : TurnIsFromScratch → (id : MetricId) (done : ℕ) (p : PreparedView) (before : List (List Measure)) → IsArchivePolicy p.job.policy → IsPrepared p
    → p.job.base ≡ kept_window p.job.policy (accepted_under p.job.policy before)
    → after_commit p (live_from_scratch id p.job.policy done before) ≡ live_from_scratch id p.job.policy p.job.upto (before ++ p.job.batches)
committed turn id done p before is_policy is_prepared base =
    let scratch : IsFromScratch p before = is_prepared.from_scratch before base in
    ap (λ (t : Tail). let m : Live = record { id = id; policy = p.job.policy; done = p.job.upto; raw = t; splits = all_splits_after (series_under p.job.policy) p.raw.last p.from p.points (all_stored p.job.policy (accepted_under p.job.policy before)) } in m) scratch.raw
    ∙ ap (λ (l : List (List Split)). let m : Live = record { id = id; policy = p.job.policy; done = p.job.upto; raw = kept_window p.job.policy (accepted_under p.job.policy (before ++ p.job.batches)); splits = l } in m) (all_from_scratch turn p before is_policy is_prepared scratch)

-- ---- a metric of a legal list

-- a commit of the prepared work of a claim makes of the metric what it is from scratch once its posts are done
pub turn_committed : TurnIsFromScratch → (counts : List Counted) (claim : HeldClaim) (p : PreparedView) → IsLegalCount counts → MayProcess counts claim.metric claim.upto → IsJobOf claim counts p.job → IsPrepared p
    → metric_from_scratch (counts ++ counted.Done claim.metric claim.upto ∷ []) claim.metric ≡ option_map (after_commit p) (metric_from_scratch counts claim.metric)
turn_committed turn counts claim p legal may job is_prepared =
    ap (option_map (λ (life : Life). live_from_scratch m life.policy life.done (batches_of m now))) (life-done m claim.upto counts)
    ∙ by (life_of m counts) refl may.live ((ordered counts legal).lives m)
  where
    m : MetricId
    m = claim.metric

    now : List Counted
    now = counts ++ counted.Done claim.metric claim.upto ∷ []

    batches : batches_of claim.metric (counts ++ counted.Done claim.metric claim.upto ∷ []) ≡ batches_of claim.metric counts ++ p.job.batches
    batches =
        batches-done claim.metric claim.upto counts legal (omega (arith, done_later claim.metric claim.upto counts may))
        ∙ ap (λ l. batches_of claim.metric counts ++ l) (sym job.batches)

    whole : (policy : ArchivePolicy) (done : ℕ) → policy ≡ p.job.policy → IsArchivePolicy policy
        → live_from_scratch claim.metric policy claim.upto (batches_of claim.metric (counts ++ counted.Done claim.metric claim.upto ∷ [])) ≡ after_commit p (live_from_scratch claim.metric policy done (batches_of claim.metric counts))
    whole policy done is is_policy =
        ap (live_from_scratch claim.metric policy claim.upto) batches
        ∙ ap (λ (q : ArchivePolicy). live_from_scratch claim.metric q claim.upto (batches_of claim.metric counts ++ p.job.batches)) is
        ∙ ap (λ u. live_from_scratch claim.metric p.job.policy u (batches_of claim.metric counts ++ p.job.batches)) (sym job.upto)
        ∙ sym (committed turn claim.metric done p (batches_of claim.metric counts) (subst IsArchivePolicy is is_policy) is_prepared job.base)
        ∙ ap (λ (q : ArchivePolicy). after_commit p (live_from_scratch claim.metric q done (batches_of claim.metric counts))) (sym is)

    by : (o : Option Life) → life_of claim.metric counts ≡ o → is_some (life_of claim.metric counts) ≡ true → IfSome (life_of claim.metric counts) (IsLifeOf claim.metric counts)
        → option_map (λ (life : Life). live_from_scratch claim.metric life.policy life.done (batches_of claim.metric (counts ++ counted.Done claim.metric claim.upto ∷ []))) (option_map (done_up_to claim.upto) (life_of claim.metric counts))
        ≡ option_map (after_commit p) (metric_from_scratch counts claim.metric)
    by None is some l = absurd (false≢true (sym (ap is_some is) ∙ some))
    by (Some life) is some l =
        let own : life.policy ≡ p.job.policy = same_Some life.policy p.job.policy (sym (ap (option_map (λ (x : Life). x.policy)) is) ∙ job.policy) in
        let fits : IsLifeOf claim.metric counts life = subst (λ o. IfSome o (IsLifeOf claim.metric counts)) is l in
        ap (λ o. option_map (λ (x : Life). live_from_scratch claim.metric x.policy x.done (batches_of claim.metric (counts ++ counted.Done claim.metric claim.upto ∷ []))) (option_map (done_up_to claim.upto) o)) is
        ∙ ap Some (whole life.policy life.done own fits.policy)
        ∙ sym (ap (λ o. option_map (after_commit p) (option_map (λ (x : Life). live_from_scratch claim.metric x.policy x.done (batches_of claim.metric counts)) o)) is)
