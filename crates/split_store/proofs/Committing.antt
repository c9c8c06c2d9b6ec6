-- What a commit makes of the live metrics that blocks hold.
use Rattle.std.proofs.Common.{◌≡◌, ℕ, ◌<◌, eqb, Bool, true, false, cond, List, [], ◌∷◌, map, Some, refl, sym, ap, subst, ◌∙◌, arith}
use Rattle.std.specs.List.{All}
use Rattle.std.proofs.lemmas.Bool.{eqb-true, ne_eqb}
use Rattle.std.proofs.lemmas.List.Elements.{All-head, All-tail}
use Rattle.series_model.specs.declared.metric.MetricId.{MetricId}
use Rattle.series_model.proofs.Rising.{Rises}
use Rattle.bound_series.specs.Jobs.{PreparedView}
use Rattle.gno_codec.specs.declared.item.CommitItem.{CommitItem}
use Rattle.gno_codec.specs.declared.item.ShelfItem.TheVariants as items
use Rattle.split_update.specs.Live.{Live, after_commit}
use Rattle.sack_history.specs.Scratch.{commit_live}
use Rattle.shelf_records.specs.Shelved.{Shelved, after_record, committed, metric_of}
use Rattle.shelf_blocks.specs.Blocks.{HoldsMetric, HoldsMetrics}
use Rattle.split_store.proofs.Sound.{above_all, number_of}

module _ (old new : List ℕ) (c : CommitItem) (p : PreparedView) where
  abbrev Commits : List Shelved → List Live → Type 0
  Commits metrics lives = HoldsMetrics new (after_record metrics (items.Commit c)) (commit_live c.metric p lives)

  -- metrics behind the one that is committed stay
  later_stay : (metrics : List Shelved) (lives : List Live) → All (λ (m : Shelved). c.metric.0 < m.id.0) metrics → HoldsMetrics new metrics lives → Commits metrics lives
  later_stay [] [] later held = tt
  later_stay [] (l ∷ lives) later held = absurd held
  later_stay (m ∷ metrics) [] later held = absurd held
  later_stay (m ∷ metrics) (l ∷ lives) later held =
      let lt = All-head (λ (m : Shelved). c.metric.0 < m.id.0) m metrics later in
      let other : eqb m.id.0 c.metric.0 ≡ false = ne_eqb m.id.0 c.metric.0 (omega (arith, lt)) in
      let other_too : eqb l.id.0 c.metric.0 ≡ false = ap (λ (i : MetricId). eqb i.0 c.metric.0) held.0.id ∙ other in (
        subst (λ (t : Bool). HoldsMetric new (cond t (committed c m) m) (cond (eqb l.id.0 c.metric.0) (after_commit p l) l)) (sym other)
            (subst (λ (t : Bool). HoldsMetric new m (cond t (after_commit p l) l)) (sym other_too) held.0),
        later_stay metrics lives (All-tail (λ (m : Shelved). c.metric.0 < m.id.0) m metrics later) held.1,
      )

  pub commit_held : (metrics : List Shelved) (lives : List Live) (m : Shelved) → Rises (map number_of metrics) → metric_of c.metric metrics ≡ Some m
      → ((l : Live) → HoldsMetric old m l → HoldsMetric new m l → HoldsMetric new (committed c m) (after_commit p l))
      → HoldsMetrics old metrics lives → HoldsMetrics new metrics lives → Commits metrics lives
  commit_held [] lives m rises found own was held = absurd cc
  commit_held (x ∷ metrics) [] m rises found own was held = absurd held
  commit_held (x ∷ metrics) (l ∷ lives) m rises found own was held =
      by (eqb x.id.0 c.metric.0) refl (later_stay metrics lives) (λ behind. commit_held metrics lives m rises.1 behind own was.1 held.1) found
    where
      by : (t : Bool) → eqb x.id.0 c.metric.0 ≡ t → (All (λ (m : Shelved). c.metric.0 < m.id.0) metrics → HoldsMetrics new metrics lives → Commits metrics lives)
          → (metric_of c.metric metrics ≡ Some m → Commits metrics lives) → cond t (Some x) (metric_of c.metric metrics) ≡ Some m
          → HoldsMetrics new (cond t (committed c x) x ∷ after_record metrics (items.Commit c)) (cond (eqb l.id.0 c.metric.0) (after_commit p l) l ∷ commit_live c.metric p lives)
      by true e stay rest found =
          let is : x ≡ m = cc in
          let number = eqb-true x.id.0 c.metric.0 e in
          let too : eqb l.id.0 c.metric.0 ≡ true = ap (λ (i : MetricId). eqb i.0 c.metric.0) held.0.id ∙ e in (
            subst (λ (t : Bool). HoldsMetric new (committed c x) (cond t (after_commit p l) l)) (sym too)
                (subst (λ (k : Shelved). HoldsMetric new (committed c k) (after_commit p l)) (sym is) (own l (subst (λ (k : Shelved). HoldsMetric old k l) is was.0) (subst (λ (k : Shelved). HoldsMetric new k l) is held.0))),
            stay (subst (λ n. All (λ (m : Shelved). n < m.id.0) metrics) number (above_all x.id.0 metrics rises.0)) held.1,
          )
      by false e stay rest found =
          let too : eqb l.id.0 c.metric.0 ≡ false = ap (λ (i : MetricId). eqb i.0 c.metric.0) held.0.id ∙ e in
          (subst (λ (t : Bool). HoldsMetric new x (cond t (after_commit p l) l)) (sym too) held.0, rest found)
