-- What the plain program keeps of a life.
use Rattle.std.specs.Prelude.{ℕ, List, [], map, Option, Some, None, option_map, slice_get}
use Rattle.series_model.specs.declared.metric.MetricId.{MetricId}
use Rattle.sack_history.specs.Lives.{Life, Posted}

-- the numbers of the posts of a life, none where there is no life
abbrev pub numbers_in : Option Life → List ℕ
numbers_in None = []
numbers_in (Some life) = map (λ p. p.number) life.posts

-- the metric of the first of these posts, if there is one
abbrev pub first_metric : List Posted → Option MetricId
first_metric posts = option_map (λ p. p.metric) (slice_get posts 0)
