-- What a shelf keeps of a metric that is from scratch, definition by definition.
use Rattle.std.proofs.Common.{◌≡◌, ℕ, zero, suc, ◌+◌, ◌*◌, ◌<◌, ◌≤◌, Bool, true, false, cond, eqb, get_or, List, [], ◌∷◌, ◌++◌, map, length, drop, slice_get, Option, Some, None, ℤ, refl, sym, ap, subst, ◌∙◌, append_assoc, append-nil, drop-cons, arith}
use Rattle.std.specs.Prelude.{IsSome, reverse, option_map, MatchOption}
use Rattle.std.specs.List.{All, Any, Contains, filter, flat_map}
use Rattle.std.proofs.Math.Nat.{suc-mul}
use Rattle.std.proofs.lemmas.Bool.{eqb-true}
use Rattle.std.proofs.lemmas.List.{length-map, reverse-append}
use Rattle.std.proofs.lemmas.List.Elements.{All-head, All-tail}
use Rattle.std.proofs.lemmas.Grind.{flat_map-append}
use Rattle.std.proofs.lemmas.Option.{none-some, same_Some, slice_get-get_or}
use Rattle.gno_disk.specs.declared.disk.Disk.{Ghosts}
use Rattle.archive_policy.specs.declared.definition.Definition.{Definition}
use Rattle.archive_policy.specs.declared.kind.Kind.{Kind}
use Rattle.archive_policy.specs.Policies.{AreKinds, ArchivePolicy}
use Rattle.archive_policy.proofs.Lists.{read_any}
use Rattle.series_model.specs.declared.answer.Row.{Row}
use Rattle.series_model.specs.declared.measure.Measure.{Measure}
use Rattle.series_model.specs.declared.metric.MetricId.{MetricId}
use Rattle.series_model.specs.declared.point.Point.{Point}
use Rattle.series_model.specs.declared.point.Split.{Split}
use Rattle.series_model.specs.declared.query.Query.{Query}
use Rattle.series_model.specs.Accepted.{latest}
use Rattle.series_model.specs.Answer.{oldest_point_of}
use Rattle.series_model.specs.Points.{points_of}
use Rattle.series_model.specs.Query.{answer_under, asked_of, is_named, rows_over, rows_wanted}
use Rattle.series_model.specs.Series.{first_there, last_value, series_of_measures}
use Rattle.series_model.specs.Stored.{splits_until, stored_of}
use Rattle.series_model.specs.Tail.{accepted_under}
use Rattle.series_model.proofs.ByKey.{filter-keep, filter-skip}
use Rattle.series_model.proofs.Latest.{latest_greatest}
use Rattle.series_model.proofs.PointLaws.{Rises-points, at_of, bucket_member, point_found}
use Rattle.series_model.proofs.Rising.{rising_from_Rises}
use Rattle.series_model.proofs.SeriesLaws.{Rises-series, series_exact}
use Rattle.bound_series.proofs.Preparing.{own_place}
use Rattle.split_update.specs.Live.{Live, SeriesOf, all_stored, live_from_scratch, series_under}
use Rattle.shelf_records.specs.Shelved.{Shelved, metric_of}
use Rattle.shelf_blocks.proofs.SeriesPlaces.{get_left, get_mapped, get_right, get_within}
use Rattle.split_store.specs.ShelfView.{ShelfView, last_in, list_at, list_for, split_among, split_in}
use Rattle.split_store.proofs.Found.{live_held}
use Rattle.shelf_query.specs.Reading.{KeepsAccepted, KeepsPoints, rows_asked}

-- ---- no point is behind the greatest accepted timestamp

value_until : (measures : List Measure) (at last : ℕ) (v : ℤ) → All (λ (m : Measure). m.at ≤ last) measures → last_value measures at ≡ Some v → at ≤ last
value_until [] at last v all is = absurd cc
value_until (m ∷ measures) at last v all is =
    by (last_value measures at) (eqb m.at at) refl (λ w e. value_until measures at last w (All-tail (λ (x : Measure). x.at ≤ last) m measures all) e) refl is
  where
    by : (o : Option ℤ) → (t : Bool) → eqb m.at at ≡ t → ((w : ℤ) → last_value measures at ≡ Some w → at ≤ last) → last_value measures at ≡ o → first_there o (cond t (Some m.value) None) ≡ Some v → at ≤ last
    by (Some w) t f behind e is = behind w e
    by None true f behind e is = let le = All-head (λ (x : Measure). x.at ≤ last) m measures all in let same = eqb-true m.at at f in omega (arith, le, same)
    by None false f behind e is = absurd cc

points_until : (kind : Kind) (g last : ℕ) (accepted : List Measure) → latest accepted ≡ Some last → (p : Point) → Contains (points_of kind g (series_of_measures accepted)) p → p.at ≤ last
points_until kind g last accepted is p has =
    let point = point_found kind g (series_of_measures accepted) p has in
    let of = bucket_member kind g p.at (series_of_measures accepted) p.value point.value in
    let value = ((series_exact accepted).members of.0).0 of.1 in
    let all = greatest (latest accepted) is (latest_greatest accepted) in
    let le = value_until accepted of.0.at last of.0.value all value in
    let from = of.2 in
    omega (arith, le, from)
  where
    greatest : (o : Option ℕ) → o ≡ Some last → MatchOption o (accepted ≡ []) (λ (n : ℕ). All (λ (m : Measure). m.at ≤ n) accepted × Any (λ (m : Measure). m.at ≡ n) accepted) → All (λ (m : Measure). m.at ≤ last) accepted
    greatest None e h = absurd cc
    greatest (Some n) e h = subst (λ (k : ℕ). All (λ (m : Measure). m.at ≤ k) accepted) (same_Some n last e) h.0

-- ---- the list of a definition and kind

abbrev with_kinds : List Kind → Definition → List SeriesOf
with_kinds kinds d = map (λ kind. record { definition = d; kind = kind }) kinds

series_at : (kinds : List Kind) (ds : List Definition) (i k : ℕ) (d : Definition) (kind : Kind) → slice_get kinds k ≡ Some kind → slice_get ds i ≡ Some d → slice_get (flat_map (with_kinds kinds) ds) (i * length kinds + k) ≡ Some (record { definition = d; kind = kind })
series_at kinds [] i k d kind is of = absurd (none-some d of)
series_at kinds (e ∷ ds) zero k d kind is of =
    let here : zero * length kinds + k ≡ k = omega arith in
    let short = get_within kinds k kind is in
    let f : Kind → SeriesOf = λ x. record { definition = e; kind = x } in
    ap (slice_get (flat_map (with_kinds kinds) (e ∷ ds))) here
    ∙ get_left (with_kinds kinds e) (flat_map (with_kinds kinds) ds) k (omega (arith, short, length-map kinds f))
    ∙ get_mapped f kinds k kind is
    ∙ ap (λ (x : Definition). let s : SeriesOf = record { definition = x; kind = kind } in Some s) (same_Some e d of)
series_at kinds (e ∷ ds) (suc i) k d kind is of =
    let f : Kind → SeriesOf = λ x. record { definition = e; kind = x } in
    let there : suc i * length kinds + k ≡ length (with_kinds kinds e) + (i * length kinds + k) = omega (arith, length-map kinds f, suc-mul i (length kinds)) in
    ap (slice_get (flat_map (with_kinds kinds) (e ∷ ds))) there
    ∙ get_right (with_kinds kinds e) (flat_map (with_kinds kinds) ds) (i * length kinds + k)
    ∙ series_at kinds ds i k d kind is of

-- the splits of a definition and kind are those of grouping from scratch
list_from_scratch : (policy : ArchivePolicy) (accepted : List Measure) (i : ℕ) (d : Definition) (kind : Kind) → AreKinds policy.kinds → slice_get policy.definitions i ≡ Some d → Contains policy.kinds kind
    → list_for policy (all_stored policy accepted) i kind ≡ Some (stored_of kind d accepted)
list_from_scratch policy accepted i d kind kinds there among =
    let k = among.0 in
    let at : slice_get policy.kinds k ≡ Some kind = slice_get-get_or policy.kinds k kind among.1 ∙ ap (λ (x : Kind). Some x) among.2 in
    let h : SeriesOf → List Split = λ s. stored_of s.kind s.definition accepted in
    ap (list_at (all_stored policy accepted) (length policy.kinds) i) (own_place policy.kinds k kind kinds.in_table_order at)
    ∙ get_mapped h (series_under policy) (i * length policy.kinds + k) (record { definition = d; kind = kind }) (series_at policy.kinds policy.definitions i k d kind at there)

-- ---- a metric that is kept

module _ {D : Type 0} (g : Ghosts D) (v : ShelfView D) (metric : MetricId) (kind : Kind) (policy : ArchivePolicy) (accepted : List Measure) (kept : KeepsAccepted g v metric kind policy accepted) where
  -- what the records have of it
  record IsKnown (m : Shelved) : Type 0 where
    policy_same : policy ≡ m.policy
    latest_is : latest accepted ≡ m.last

  known : (m : Shelved) → metric_of metric v.metrics ≡ Some m → IsKnown m
  known m found =
      let held = live_held kept.keeps.bytes v.metrics kept.lives metric m kept.keeps.held found in
      let live : held.live ≡ live_from_scratch metric policy kept.done kept.batches = same_Some held.live (live_from_scratch metric policy kept.done kept.batches) (sym held.there ∙ kept.live) in
      record {
        policy_same = sym (ap (λ (x : Live). x.policy) live) ∙ held.holds.policy;
        latest_is = ap latest kept.accepted_is ∙ sym (ap (λ (x : Live). x.raw.last) live) ∙ held.holds.raw.last;
      }

  -- its greatest accepted timestamp
  pub latest_kept : IsSome (metric_of metric v.metrics) → latest accepted ≡ last_in (metric_of metric v.metrics)
  latest_kept live = by (metric_of metric v.metrics) refl live
    where
      by : (o : Option Shelved) → metric_of metric v.metrics ≡ o → IsSome o → latest accepted ≡ last_in o
      by None e live = absurd cc
      by (Some m) e live = (known m e).latest_is

  -- its policy
  pub policy_kept : (own : ArchivePolicy) → option_map (λ (m : Shelved). m.policy) (metric_of metric v.metrics) ≡ Some own → policy ≡ own
  policy_kept own is = by (metric_of metric v.metrics) refl is
    where
      by : (o : Option Shelved) → metric_of metric v.metrics ≡ o → option_map (λ (m : Shelved). m.policy) o ≡ Some own → policy ≡ own
      by None e is = absurd cc
      by (Some m) e is = (known m e).policy_same ∙ same_Some m.policy own is

  -- it keeps the points of each definition
  pub points_kept : (last i : ℕ) (d : Definition) → AreKinds policy.kinds → latest accepted ≡ Some last → slice_get policy.definitions i ≡ Some d
      → KeepsPoints g v (record { metric = metric; kind = kind; place = i; definition = d }) last (points_of kind d.granularity (series_of_measures accepted))
  points_kept last i d kinds latest_is there =
      let series = series_of_measures accepted in
      let points = points_of kind d.granularity series in
      let list = list_from_scratch policy (accepted_under policy kept.batches) i d kind kinds there kept.kind_is in
      record {
        lives = kept.lives;
        keeps = kept.keeps;
        stored = λ key.
            ap (split_in i kind key) kept.live
            ∙ ap (split_among key) (list ∙ ap (λ (l : List Measure). Some (stored_of kind d l)) (sym kept.accepted_is) ∙ ap (λ (o : Option ℕ). Some (splits_until kind d series o)) latest_is);
        rising = rising_from_Rises (map at_of points) (Rises-points kind d.granularity series (Rises-series accepted));
        until = λ k e below. points_until kind d.granularity last accepted latest_is (get_or points k e) (k, below, read_any points k (get_or points k e) e below);
      }

-- ---- the rows of definitions, the coarsest first

module _ (query : Query) (kind : Kind) (accepted : List Measure) (last : ℕ) where
  abbrev rows_of_definition : Definition → List Row
  rows_of_definition d = rows_wanted query d.granularity (oldest_point_of last d) (points_of kind d.granularity (series_of_measures accepted))

  abbrev rows_of_all : List Definition → List Row
  rows_of_all ds = rows_over query kind (series_of_measures accepted) (Some last) (asked_of query ds)

  abbrev named : Definition → Bool
  named d = is_named query.granularity d.granularity

  -- those of one more definition stand behind those of coarser ones
  rows_with : (d : Definition) (ds : List Definition) → rows_of_all (d ∷ ds) ≡ rows_of_all ds ++ rows_asked query d last (points_of kind d.granularity (series_of_measures accepted))
  rows_with d ds = by (named d) refl
    where
      by : (t : Bool) → named d ≡ t → rows_of_all (d ∷ ds) ≡ rows_of_all ds ++ cond t (rows_of_definition d) []
      by true e =
          let others = filter named ds in
          ap (λ l. flat_map rows_of_definition (reverse l)) (filter-keep named d ds e)
          ∙ ap (flat_map rows_of_definition) (reverse-append (d ∷ []) others)
          ∙ flat_map-append rows_of_definition (reverse others) (d ∷ [])
          ∙ ap (λ l. flat_map rows_of_definition (reverse others) ++ l) (append-nil (rows_of_definition d))
      by false e = ap (λ l. flat_map rows_of_definition (reverse l)) (filter-skip named d ds e) ∙ sym (append-nil (rows_of_all ds))

  -- the same, by place
  pub rows_more_definitions : (ds : List Definition) (place behind : ℕ) (d : Definition) (old so_far new : List Row) → place < length ds → get_or ds place d ≡ d → behind ≡ suc place
      → so_far ≡ old ++ rows_of_all (drop behind ds) → new ≡ so_far ++ rows_asked query d last (points_of kind d.granularity (series_of_measures accepted)) → {from : ℕ} → place ≡ from → new ≡ old ++ rows_of_all (drop from ds)
  rows_more_definitions ds place behind d old so_far new below at next was is begins =
      let rest = rows_asked query d last (points_of kind d.granularity (series_of_measures accepted)) in
      is
      ∙ ap (λ l. l ++ rest) (was ∙ ap (λ k. old ++ rows_of_all (drop k ds)) next)
      ∙ append_assoc old (rows_of_all (drop (suc place) ds)) rest
      ∙ ap (λ l. old ++ l) (sym (rows_with d (drop (suc place) ds)) ∙ ap (λ x. rows_of_all (x ∷ drop (suc place) ds)) (sym at) ∙ ap rows_of_all (sym (drop-cons ds place d below)) ∙ ap (λ k. rows_of_all (drop k ds)) begins)

  -- those of all definitions of a policy are the answer
  pub all_rows : (policy : ArchivePolicy) (ds : List Definition) → ds ≡ policy.definitions → latest accepted ≡ Some last → rows_of_all ds ≡ answer_under policy query kind accepted
  all_rows policy ds all is = ap rows_of_all all ∙ ap (λ o. rows_over query kind (series_of_measures accepted) o (asked_of query policy.definitions)) (sym is)

-- where nothing was accepted there are no rows
pub no_rows : (policy : ArchivePolicy) (query : Query) (kind : Kind) (accepted : List Measure) (o : Option ℕ) → latest accepted ≡ o → o ≡ None → answer_under policy query kind accepted ≡ []
no_rows policy query kind accepted o is none = ap (λ p. rows_over query kind (series_of_measures accepted) p (asked_of query policy.definitions)) (is ∙ none)

-- a metric that has accepted something is live
pub some_last : (o : Option Shelved) (last : ℕ) → last_in o ≡ Some last → IsSome o
some_last None last is = absurd cc
some_last (Some m) last is = cc
