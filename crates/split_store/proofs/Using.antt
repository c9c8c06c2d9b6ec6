-- Blocks in use after a metric is registered or dropped.
use Rattle.std.proofs.Common.{◌≡◌, ◌≢◌, inl, inr, ℕ, ◌+◌, ◌<◌, ◌≤◌, eqb, ltb, Bool, true, false, cond, List, [], ◌∷◌, ◌++◌, map, Some, None, refl, sym, ap, ◌∙◌, arith}
use Rattle.std.specs.List.{All, AllPairs, filter, flat_map}
use Rattle.std.proofs.lemmas.Bool.{cases_lt, eq-eqb, le-ltb, lt-ltb, ne_eqb}
use Rattle.std.proofs.lemmas.List.Elements.{All-append, All-cons, All-head, All-tail, All-weaker}
use Rattle.archive_policy.specs.declared.definition.Definition.{Definition}
use Rattle.archive_policy.specs.declared.kind.Kind.{Kind}
use Rattle.archive_policy.specs.Policies.{ArchivePolicy}
use Rattle.series_model.specs.declared.metric.MetricId.{MetricId}
use Rattle.series_model.proofs.Rising.{Rises}
use Rattle.gno_codec.specs.declared.item.Block.{Block}
use Rattle.gno_codec.specs.declared.item.ShelfItem.TheVariants as items
use Rattle.extent_map.proofs.RangeLemmas.{pairs-across, pairs-append, pairs-left, pairs-right}
use Rattle.shelf_records.specs.declared.series.Stored.{Stored}
use Rattle.shelf_records.specs.Shelved.{AreBlocks, IsInSlot, Kept, Shelved, after_record, blocks_in_use, blocks_of_metric, metric_of, none_kept, registered}
use Rattle.shelf_records.proofs.Metrics.{same_blocks}
use Rattle.shelf_blocks.proofs.Held.{all_back, all_front}
use Rattle.split_store.proofs.Sound.{above_all, number_of}

-- ---- some of the metrics

all_of_some : (P : Block → Type 0) (test : Shelved → Bool) (metrics : List Shelved) → All P (blocks_in_use metrics) → All P (blocks_in_use (filter test metrics))
all_of_some P test [] all = all
all_of_some P test (m ∷ metrics) all = by (test m) (all_of_some P test metrics (all_back P (blocks_of_metric m) (blocks_in_use metrics) all))
  where
    by : (t : Bool) → All P (blocks_in_use (filter test metrics)) → All P (blocks_in_use (cond t (m ∷ filter test metrics) (filter test metrics)))
    by true rest = All-append P (blocks_of_metric m) (blocks_in_use (filter test metrics)) (all_front P (blocks_of_metric m) (blocks_in_use metrics) all) rest
    by false rest = rest

pairs_of_some : (R : Block → Block → Type 0) (test : Shelved → Bool) (metrics : List Shelved) → AllPairs R (blocks_in_use metrics) → AllPairs R (blocks_in_use (filter test metrics))
pairs_of_some R test [] pairs = pairs
pairs_of_some R test (m ∷ metrics) pairs = by (test m) (pairs_of_some R test metrics (pairs-right R (blocks_of_metric m) (blocks_in_use metrics) pairs))
  where
    own : List Block
    own = blocks_of_metric m

    rest : List Block
    rest = blocks_in_use metrics

    by : (t : Bool) → AllPairs R (blocks_in_use (filter test metrics)) → AllPairs R (blocks_in_use (cond t (m ∷ filter test metrics) (filter test metrics)))
    by true later = pairs-append R own (blocks_in_use (filter test metrics)) (pairs-left R own rest pairs) later
        (λ k d lt. all_of_some (R _) test metrics (pairs-across R own rest pairs k d lt))
    by false later = later

pub some_blocks : (size : ℕ) (test : Shelved → Bool) (metrics : List Shelved) → AreBlocks size metrics → AreBlocks size (filter test metrics)
some_blocks size test metrics blocks = record { each = all_of_some (IsInSlot size) test metrics blocks.each; apart = pairs_of_some (λ (b c : Block). b.at ≢ c.at) test metrics blocks.apart }

-- ---- one more

no_blocks : (kinds : List Kind) (place : ℕ) (rest : List Kept) → flat_map (λ (k : Kept). map (λ (s : Stored). s.block) k.splits) (map (λ (kind : Kind). record { definition = place; kind = kind; splits = [] }) kinds ++ rest) ≡ flat_map (λ (k : Kept). map (λ (s : Stored). s.block) k.splits) rest
no_blocks [] place rest = refl
no_blocks (k ∷ kinds) place rest = no_blocks kinds place rest

none_of_registered : (kinds : List Kind) (place : ℕ) (ds : List Definition) → flat_map (λ (k : Kept). map (λ (s : Stored). s.block) k.splits) (none_kept kinds place ds) ≡ []
none_of_registered kinds place [] = refl
none_of_registered kinds place (d ∷ ds) = no_blocks kinds place (none_kept kinds (place + 1) ds) ∙ none_of_registered kinds (place + 1) ds

module _ (id : MetricId) (done : ℕ) (policy : ArchivePolicy) where
  abbrev new : Shelved
  new = registered id done policy

  only_later : (metrics : List Shelved) → All (λ (m : Shelved). id.0 < m.id.0) metrics → (filter (λ (m : Shelved). ltb m.id.0 id.0) metrics ≡ []) × (filter (λ (m : Shelved). ltb id.0 m.id.0) metrics ≡ metrics)
  only_later [] all = (refl, refl)
  only_later (m ∷ metrics) all =
      let lt = All-head (λ (m : Shelved). id.0 < m.id.0) m metrics all in
      let rest = only_later metrics (All-tail (λ (m : Shelved). id.0 < m.id.0) m metrics all) in (
        ap (λ (t : Bool). cond t (m ∷ filter (λ (m : Shelved). ltb m.id.0 id.0) metrics) (filter (λ (m : Shelved). ltb m.id.0 id.0) metrics)) (le-ltb m.id.0 id.0 (omega (arith, lt))) ∙ rest.0,
        ap (λ (t : Bool). cond t (m ∷ filter (λ (m : Shelved). ltb id.0 m.id.0) metrics) (filter (λ (m : Shelved). ltb id.0 m.id.0) metrics)) (lt-ltb id.0 m.id.0 lt) ∙ ap (λ (l : List Shelved). m ∷ l) rest.1,
      )

  same_in_use : (metrics : List Shelved) → Rises (map number_of metrics) → metric_of id metrics ≡ None → blocks_in_use (after_record metrics (items.Register id done policy)) ≡ blocks_in_use metrics
  same_in_use [] rises none = ap (λ (bs : List Block). bs ++ []) (none_of_registered policy.kinds 0 policy.definitions)
  same_in_use (m ∷ metrics) rises none = elim (cases_lt m.id.0 id.0) [
    | inl lt ↦ before lt (λ none. same_in_use metrics rises.1 none)
    | inr ge ↦ behind (below m.id.0 id.0 ge (λ same. absurd (let e = ap (λ (t : Bool). cond t (Some m) (metric_of id metrics)) (eq-eqb m.id.0 id.0 same) in let n : Some m ≡ None = sym e ∙ none in cc)))
  ]
    where
      below : (a b : ℕ) → b ≤ a → (a ≡ b → ⊥) → b < a
      below a b ge ne = elim (cases_lt b a) [ inl lt ↦ lt | inr le ↦ absurd (ne (omega (arith, ge, le))) ]

      rest_none : eqb m.id.0 id.0 ≡ false → metric_of id metrics ≡ None
      rest_none e = sym (ap (λ (t : Bool). cond t (Some m) (metric_of id metrics)) e) ∙ none

      before : m.id.0 < id.0 → (metric_of id metrics ≡ None → blocks_in_use (after_record metrics (items.Register id done policy)) ≡ blocks_in_use metrics) → blocks_in_use (after_record (m ∷ metrics) (items.Register id done policy)) ≡ blocks_in_use (m ∷ metrics)
      before lt rest =
          let keeps : filter (λ (x : Shelved). ltb x.id.0 id.0) (m ∷ metrics) ≡ m ∷ filter (λ (x : Shelved). ltb x.id.0 id.0) metrics =
          ap (λ (t : Bool). cond t (m ∷ filter (λ (x : Shelved). ltb x.id.0 id.0) metrics) (filter (λ (x : Shelved). ltb x.id.0 id.0) metrics)) (lt-ltb m.id.0 id.0 lt) in
          let drops : filter (λ (x : Shelved). ltb id.0 x.id.0) (m ∷ metrics) ≡ filter (λ (x : Shelved). ltb id.0 x.id.0) metrics =
          ap (λ (t : Bool). cond t (m ∷ filter (λ (x : Shelved). ltb id.0 x.id.0) metrics) (filter (λ (x : Shelved). ltb id.0 x.id.0) metrics)) (le-ltb id.0 m.id.0 (omega (arith, lt))) in
          ap (λ (l : List Shelved). blocks_in_use (l ++ (new ∷ filter (λ (x : Shelved). ltb id.0 x.id.0) (m ∷ metrics)))) keeps
          ∙ ap (λ (l : List Shelved). blocks_in_use ((m ∷ filter (λ (x : Shelved). ltb x.id.0 id.0) metrics) ++ (new ∷ l))) drops
          ∙ ap (λ (bs : List Block). blocks_of_metric m ++ bs) (rest (rest_none (ne_eqb m.id.0 id.0 (λ e. absurd (omega (arith, e, lt))))))

      behind : id.0 < m.id.0 → blocks_in_use (after_record (m ∷ metrics) (items.Register id done policy)) ≡ blocks_in_use (m ∷ metrics)
      behind lt =
          let all : All (λ (x : Shelved). id.0 < x.id.0) (m ∷ metrics) = All-cons (λ (x : Shelved). id.0 < x.id.0) m metrics lt
          (All-weaker (λ (x : Shelved). m.id.0 < x.id.0) (λ (x : Shelved). id.0 < x.id.0) (λ x l. omega (arith, l, lt)) metrics (above_all m.id.0 metrics rises.0)) in
          let only = only_later (m ∷ metrics) all in
          ap (λ (l : List Shelved). blocks_in_use (l ++ (new ∷ filter (λ (x : Shelved). ltb id.0 x.id.0) (m ∷ metrics)))) only.0
          ∙ ap (λ (l : List Shelved). blocks_in_use (new ∷ l)) only.1
          ∙ ap (λ (bs : List Block). bs ++ blocks_in_use (m ∷ metrics)) (none_of_registered policy.kinds 0 policy.definitions)

  pub more_blocks : (size : ℕ) (metrics : List Shelved) → Rises (map number_of metrics) → metric_of id metrics ≡ None → AreBlocks size metrics → AreBlocks size (after_record metrics (items.Register id done policy))
  more_blocks size metrics rises none blocks = same_blocks size (after_record metrics (items.Register id done policy)) metrics (same_in_use metrics rises none) blocks
