-- What a metric that is registered or dropped makes of the live metrics that blocks hold.
use Rattle.std.proofs.Common.{◌≡◌, ℕ, ◌+◌, eqb, ltb, not, List, [], ◌∷◌, ◌++◌, length, map, slice_get, Some, None, refl, sym, ap, subst, ◌∙◌, append_assoc, length-append, arith}
use Rattle.std.specs.List.{AllZip, flat_map}
use Rattle.archive_policy.specs.declared.definition.Definition.{Definition}
use Rattle.archive_policy.specs.declared.kind.Kind.{Kind}
use Rattle.archive_policy.specs.Policies.{ArchivePolicy}
use Rattle.series_model.specs.declared.metric.MetricId.{MetricId}
use Rattle.series_model.specs.Stored.{stored_of}
use Rattle.series_model.specs.Tail.{accepted_under, kept_window}
use Rattle.gno_codec.specs.declared.item.ShelfItem.TheVariants as items
use Rattle.split_update.specs.Live.{Live, SeriesOf, live_from_scratch}
use Rattle.sack_history.specs.Scratch.{with_live, without_live}
use Rattle.shelf_records.specs.Shelved.{Shelved, after_record, none_kept, registered}
use Rattle.shelf_blocks.specs.Blocks.{HoldsMetric, HoldsMetrics, HoldsRaw, HoldsSplits}
use Rattle.shelf_blocks.proofs.Chunks.{rising_one}
use Rattle.shelf_blocks.proofs.Held.{zip_append, zip_filter}

get_behind : {X : Type 0} (front : List X) (x : X) (rest : List X) → slice_get (front ++ x ∷ rest) (length front) ≡ Some x
get_behind [] x rest = refl
get_behind (y ∷ front) x rest = get_behind front x rest

module _ (z : List ℕ) (policy : ArchivePolicy) where
  -- the splits of one definition, of which there are none
  none_of_kinds : (place : ℕ) (d : Definition) (kinds : List Kind) → slice_get policy.definitions place ≡ Some d
      → AllZip (HoldsSplits z policy) (map (λ (kind : Kind). record { definition = place; kind = kind; splits = [] }) kinds) (map (λ (s : SeriesOf). stored_of s.kind s.definition []) (map (λ (kind : Kind). record { definition = d; kind = kind }) kinds))
  none_of_kinds place d [] there = tt
  none_of_kinds place d (k ∷ kinds) there = (record { definition = d; there = there; each = tt }, none_of_kinds place d kinds there)

  map-append : {X Y : Type 0} (f : X → Y) (xs ys : List X) → map f (xs ++ ys) ≡ map f xs ++ map f ys
  map-append f [] ys = refl
  map-append f (x ∷ xs) ys = ap (λ (l : List _). f x ∷ l) (map-append f xs ys)

  none_of_all : (front ds : List Definition) → policy.definitions ≡ front ++ ds
      → AllZip (HoldsSplits z policy) (none_kept policy.kinds (length front) ds)
      (map (λ (s : SeriesOf). stored_of s.kind s.definition []) (flat_map (λ (d : Definition). map (λ (kind : Kind). record { definition = d; kind = kind }) policy.kinds) ds))
  none_of_all front [] parts = tt
  none_of_all front (d ∷ ds) parts =
      let own : List SeriesOf = map (λ (kind : Kind). record { definition = d; kind = kind }) policy.kinds in
      let more : List SeriesOf = flat_map (λ (d : Definition). map (λ (kind : Kind). record { definition = d; kind = kind }) policy.kinds) ds in
      let next : length (front ++ d ∷ []) ≡ length front + 1 = length-append front (d ∷ []) in
      let later = subst (λ n. AllZip (HoldsSplits z policy) (none_kept policy.kinds n ds) (map (λ (s : SeriesOf). stored_of s.kind s.definition []) more)) next
      (none_of_all (front ++ d ∷ []) ds (parts ∙ sym (append_assoc front (d ∷ []) ds))) in
      subst (AllZip (HoldsSplits z policy) (none_kept policy.kinds (length front) (d ∷ ds))) (sym (map-append (λ (s : SeriesOf). stored_of s.kind s.definition []) own more))
      (zip_append (HoldsSplits z policy) (map (λ (kind : Kind). record { definition = length front; kind = kind; splits = [] }) policy.kinds) (none_kept policy.kinds (length front + 1) ds)
      (map (λ (s : SeriesOf). stored_of s.kind s.definition []) own) (map (λ (s : SeriesOf). stored_of s.kind s.definition []) more)
      (none_of_kinds (length front) d policy.kinds (ap (λ (l : List Definition). slice_get l (length front)) parts ∙ get_behind front d ds)) later)

  no_raw : HoldsRaw z [] None None (kept_window policy (accepted_under policy []))
  no_raw = record {
    chunks = [];
    stand = tt;
    are = record { whole = refl; full = λ k more d. absurd (omega (arith, more)) };
    anchor = refl;
    last = refl;
    series = record { rising = rising_one None; last = refl };
  }

  -- a metric without measures
  pub registered_held : (id : MetricId) (done : ℕ) → HoldsMetric z (registered id done policy) (live_from_scratch id policy done [])
  registered_held id done = record { id = refl; policy = refl; done = refl; raw = no_raw; splits = none_of_all [] policy.definitions refl }

  -- it comes into its place
  pub register_held : (id : MetricId) (done : ℕ) (metrics : List Shelved) (lives : List Live) → HoldsMetrics z metrics lives
      → HoldsMetrics z (after_record metrics (items.Register id done policy)) (with_live (live_from_scratch id policy done []) lives)
  register_held id done metrics lives held =
      let first : (m : Shelved) (l : Live) → HoldsMetric z m l → ltb l.id.0 id.0 ≡ ltb m.id.0 id.0 = λ m l h. ap (λ (i : MetricId). ltb i.0 id.0) h.id in
      let later : (m : Shelved) (l : Live) → HoldsMetric z m l → ltb id.0 l.id.0 ≡ ltb id.0 m.id.0 = λ m l h. ap (λ (i : MetricId). ltb id.0 i.0) h.id in
      zip_append (HoldsMetric z) _ _ _ _ (zip_filter (HoldsMetric z) (λ (m : Shelved). ltb m.id.0 id.0) (λ (l : Live). ltb l.id.0 id.0) first metrics lives held)
      (registered_held id done, zip_filter (HoldsMetric z) (λ (m : Shelved). ltb id.0 m.id.0) (λ (l : Live). ltb id.0 l.id.0) later metrics lives held)

-- a metric goes
pub drop_held : (z : List ℕ) (id : MetricId) (metrics : List Shelved) (lives : List Live) → HoldsMetrics z metrics lives → HoldsMetrics z (after_record metrics (items.Drop id)) (without_live id lives)
drop_held z id metrics lives held =
    zip_filter (HoldsMetric z) (λ (m : Shelved). not (eqb m.id.0 id.0)) (λ (l : Live). not (eqb l.id.0 id.0))
    (λ m l h. ap (λ (i : MetricId). not (eqb i.0 id.0)) h.id) metrics lives held
