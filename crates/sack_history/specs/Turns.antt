-- The turns that process posts.
use Rattle.std.specs.Prelude.{◌≡◌, ℕ, zero, suc, ◌+◌, ◌/◌, ◌<◌, ◌≤◌, List, [], ◌∷◌, ◌++◌, map, length, take, drop, Option, Some, None, option_map, slice_get}
use Rattle.std.specs.List.{fold}
use Rattle.series_model.specs.declared.metric.MetricId.{MetricId}
use Rattle.sack_history.specs.declared.entry.Counted.{Counted}
use Rattle.sack_history.specs.declared.entry.Counted.TheVariants as counted
use Rattle.sack_history.specs.Lives.{Posted, batches_of, done_of, pending_of, pending_posts}

-- the posts of a metric's next turn: the first 64 that wait, or all of them where there are fewer
abbrev pub turn_posts : MetricId → List Counted → List Posted
turn_posts metric counts = take 64 (pending_of metric counts)

-- the number of the last of these, the given one where there is none
abbrev pub last_among : ℕ → List Posted → ℕ
last_among before posts = fold (λ n p. p.number) before posts

-- the done number that a metric's next turn leaves: that of its 64th post that waits, or of its last where
-- there are fewer
abbrev pub turn_end : MetricId → List Counted → ℕ
turn_end metric counts = last_among (done_of metric counts) (turn_posts metric counts)

-- a metric's next turn
abbrev pub next_turn : MetricId → List Counted → Counted
next_turn metric counts = counted.Done metric (turn_end metric counts)

-- the metric whose post has waited longest, if any post waits
abbrev pub longest_waiting : List Counted → Option MetricId
longest_waiting counts = option_map (λ p. p.metric) (slice_get (pending_posts counts) 0)

-- the metric itself, if a post of it waits
abbrev pub if_waiting : MetricId → List Counted → Option MetricId
if_waiting metric counts = option_map (λ p. metric) (slice_get (pending_of metric counts) 0)

-- the turn of this metric, if any, and the later ones
abbrev pub turn_and_later : Option MetricId → List Counted → (List Counted → List Counted) → List Counted
turn_and_later None counts later = []
turn_and_later (Some metric) counts later = next_turn metric counts ∷ later (counts ++ next_turn metric counts ∷ [])

-- so many turns, or fewer: each of the metric whose turn is next, until there is none
abbrev pub turns_by : (List Counted → Option MetricId) → ℕ → List Counted → List Counted
turns_by whose zero counts = []
turns_by whose (suc more) counts = turn_and_later (whose counts) counts (turns_by whose more)

-- the turns of a metric that leave none of its posts waiting; each takes at least one post
abbrev pub refresh_turns : MetricId → List Counted → List Counted
refresh_turns metric counts = turns_by (if_waiting metric) (length (pending_of metric counts)) counts

-- The turns that leave no post waiting. Each is of the metric whose post has waited longest.
abbrev pub drain_turns : List Counted → List Counted
drain_turns counts = turns_by longest_waiting (length (pending_posts counts)) counts

-- the turns that a metric's posts take which wait: their number divided by 64, rounded up
abbrev pub turns_due : List Counted → MetricId → ℕ
turns_due counts metric = (length (pending_of metric counts) + 63) / 64

-- A turn of a metric: so many of its posts that wait, at least 1 and at most 64, are batches then; the first
-- ones, in order.
pub record MovesFirst (metric : MetricId) (count : ℕ) (before after : List Counted) : Type 0 where
  pub some : 0 < count
  pub few : count ≤ 64
  pub within : count ≤ length (pending_of metric before)
  pub batches : batches_of metric after ≡ batches_of metric before ++ map (λ p. p.measures) (take count (pending_of metric before))
  pub pending : pending_of metric after ≡ drop count (pending_of metric before)
