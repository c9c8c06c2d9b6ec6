-- The state of a sack from scratch.
use Rattle.std.specs.Prelude.{ℕ, ◌==◌, nat_lt, not, Bool, if◌then◌else◌, List, [], ◌∷◌, ◌++◌, map, Option, Some, None, option_map}
use Rattle.std.specs.List.{filter, filter_map}
use Rattle.series_model.specs.declared.metric.MetricId.{MetricId}
use Rattle.bound_series.specs.Jobs.{PreparedView}
use Rattle.split_update.specs.Live.{Live, after_commit, live_from_scratch}
use Rattle.sack_history.specs.declared.entry.Counted.{Counted}
use Rattle.sack_history.specs.declared.entry.Entry.{Entry}
use Rattle.sack_history.specs.Entries.{kept}
use Rattle.sack_history.specs.declared.holding.HeldClaim.{HeldClaim}
use Rattle.sack_history.specs.Holding.{held_claim, is_broken}
use Rattle.sack_history.specs.Lives.{Life, Posted, batches_of, life_of, live_ids, next_post, pending_posts}

-- a metric, if it is live, as grouping all of its processed batches from scratch gives it
abbrev pub metric_from_scratch : List Counted → MetricId → Option Live
metric_from_scratch counts metric =
    option_map (λ (life : Life). live_from_scratch metric life.policy life.done (batches_of metric counts)) (life_of metric counts)

-- the live metrics as they are from scratch, by rising identifier
abbrev pub metrics_from_scratch : List Counted → List Live
metrics_from_scratch counts = filter_map (metric_from_scratch counts) (live_ids counts)

-- the live metric with this identifier, if there is one
abbrev pub live_of : MetricId → List Live → Option Live
live_of metric [] = None
live_of metric (l ∷ metrics) = if l.id.0 == metric.0 then Some l else live_of metric metrics

-- live metrics with one put in its place by identifier
abbrev pub with_live : Live → List Live → List Live
with_live m metrics = filter (λ l. nat_lt l.id.0 m.id.0) metrics ++ (m ∷ filter (λ l. nat_lt m.id.0 l.id.0) metrics)

-- live metrics without one
abbrev pub without_live : MetricId → List Live → List Live
without_live metric metrics = filter (λ l. not (l.id.0 == metric.0)) metrics

-- live metrics once prepared work of one is committed
abbrev pub commit_live : MetricId → PreparedView → List Live → List Live
commit_live metric p metrics = map (λ l. if l.id.0 == metric.0 then after_commit p l else l) metrics

-- what the disks of a sack hold: the live metrics, the posts that wait, and the number of the next post
pub record Durable : Type 0 where
  pub metrics : List Live
  pub pending : List Posted
  pub next : ℕ

-- what the disks hold, by what counts
abbrev pub durable : List Counted → Durable
durable counts = record {
  metrics = metrics_from_scratch counts;
  pending = pending_posts counts;
  next = next_post counts;
}

-- the plain state of a sack: what its disks hold, the claim that is held, and whether it is broken
pub record Scratch : Type 0 where
  pub durable : Durable
  pub held : Option HeldClaim
  pub broken : Bool

-- the plain state of a sack, by its history
abbrev pub scratch : List Entry → Scratch
scratch history = record { durable = durable (kept history); held = held_claim history; broken = is_broken history }
