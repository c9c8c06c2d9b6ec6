-- The posts of a sack, and the lives of its metrics, by what counts of its history.
use Rattle.std.specs.Prelude.{◌≡◌, ◌≢◌, ℕ, ◌+◌, ◌==◌, nat_le, nat_lt, not, Bool, false, if◌then◌else◌, List, [], ◌∷◌, ◌++◌, map, Option, Some, None, is_some, option_map}
use Rattle.std.specs.List.{All, filter, flat_map, fold}
use Rattle.archive_policy.specs.Policies.{ArchivePolicy}
use Rattle.series_model.specs.declared.measure.Measure.{Measure}
use Rattle.series_model.specs.declared.metric.MetricId.{MetricId}
use Rattle.sack_history.specs.declared.entry.Counted.{Counted}
use Rattle.sack_history.specs.declared.entry.Counted.TheVariants as counted

-- the metric that an entry names
abbrev pub subject_of : Counted → MetricId
subject_of (counted.Create metric policy) = metric
subject_of (counted.Post number metric measures) = metric
subject_of (counted.Done metric upto) = metric
subject_of (counted.Drop metric) = metric

-- ---- posts

-- a batch as it was posted: its number, its metric and its measures
pub record Posted : Type 0 where
  pub number : ℕ
  pub metric : MetricId
  pub measures : List Measure

-- the post that an entry is, if it is one
abbrev pub posted_by : Counted → List Posted
posted_by (counted.Post number metric measures) = record { number = number; metric = metric; measures = measures } ∷ []
posted_by c = []

-- all posts, in order
abbrev pub all_posts : List Counted → List Posted
all_posts counts = flat_map posted_by counts

-- the number of the last post after an entry, where `last` was the last before it
abbrev pub last_after : ℕ → Counted → ℕ
last_after last (counted.Post number metric measures) = number
last_after last c = last

-- the number of the last post of any metric, 0 where there is none
abbrev pub last_post : List Counted → ℕ
last_post counts = fold last_after 0 counts

-- the number of the next post: 1 where there is none before it
abbrev pub next_post : List Counted → ℕ
next_post counts = last_post counts + 1

-- ---- a metric's life

-- A live metric by what followed its last `Create`: its policy; its done number, which is that of its last
-- `Done`, or else that of the last post of any metric before the `Create`; and its posts.
pub record Life : Type 0 where
  pub policy : ArchivePolicy
  pub done : ℕ
  pub posts : List Posted

-- a life as it begins
abbrev pub born : ArchivePolicy → ℕ → Life
born policy last = record { policy = policy; done = last; posts = [] }

-- a life with one post more
abbrev pub life_with : Posted → Life → Life
life_with post life = record life { posts = life.posts ++ post ∷ [] }

-- a life with this done number
abbrev pub done_up_to : ℕ → Life → Life
done_up_to upto life = record life { done = upto }

-- a metric's life after an entry, where it isn't live before a `Create` and after a `Drop`, and `last` is
-- the number of the last post of any metric
abbrev pub life_after : MetricId → ℕ → Option Life → Counted → Option Life
life_after metric last life (counted.Create other policy) = if other.0 == metric.0 then Some (born policy last) else life
life_after metric last life (counted.Post number other measures) =
    if other.0 == metric.0 then option_map (life_with (record { number = number; metric = other; measures = measures })) life else life
life_after metric last life (counted.Done other upto) = if other.0 == metric.0 then option_map (done_up_to upto) life else life
life_after metric last life (counted.Drop other) = if other.0 == metric.0 then None else life

-- a metric's life after entries, where it was `life` before them
abbrev pub life_onto : MetricId → ℕ → Option Life → List Counted → Option Life
life_onto metric last life [] = life
life_onto metric last life (c ∷ counts) = life_onto metric (last_after last c) (life_after metric last life c) counts

-- a metric's life, if it is live
abbrev pub life_of : MetricId → List Counted → Option Life
life_of metric counts = life_onto metric 0 None counts

-- whether a metric is live
abbrev pub is_live : MetricId → List Counted → Bool
is_live metric counts = is_some (life_of metric counts)

-- the policy of a metric, if it is live
abbrev pub live_policy : MetricId → List Counted → Option ArchivePolicy
live_policy metric counts = option_map (λ life. life.policy) (life_of metric counts)

-- the done number of a life, 0 where there is none
abbrev pub done_in : Option Life → ℕ
done_in None = 0
done_in (Some life) = life.done

-- the measures of the posts up to the done number, a list for each, in order
abbrev pub batches_in : Option Life → List (List Measure)
batches_in None = []
batches_in (Some life) = map (λ p. p.measures) (filter (λ p. nat_le p.number life.done) life.posts)

-- the posts above the done number
abbrev pub pending_in : Option Life → List Posted
pending_in None = []
pending_in (Some life) = filter (λ p. nat_lt life.done p.number) life.posts

-- the done number of a metric: that of its last `Done` since it was created, or else that of the last post
-- of any metric before that; 0 where it isn't live
abbrev pub done_of : MetricId → List Counted → ℕ
done_of metric counts = done_in (life_of metric counts)

-- the measures of a metric's processed posts since it was created, a list for each, in order
abbrev pub batches_of : MetricId → List Counted → List (List Measure)
batches_of metric counts = batches_in (life_of metric counts)

-- the posts of a metric since it was created that wait to be processed
abbrev pub pending_of : MetricId → List Counted → List Posted
pending_of metric counts = pending_in (life_of metric counts)

-- ---- what a life is made of

-- an entry that neither creates nor drops a metric
abbrev pub IsWithinLife : MetricId → Counted → Type 0
IsWithinLife metric (counted.Create other policy) = other ≢ metric
IsWithinLife metric (counted.Drop other) = other ≢ metric
IsWithinLife metric c = Unit {0}

-- the number of a metric's last `Done` after an entry, where it was `done` before that
abbrev pub done_by : MetricId → ℕ → Counted → ℕ
done_by metric done (counted.Done other upto) = if other.0 == metric.0 then upto else done
done_by metric done c = done

-- the number of a metric's last `Done`, the given one where there is none
abbrev pub last_done : MetricId → ℕ → List Counted → ℕ
last_done metric done counts = fold (done_by metric) done counts

-- The life that began with this `Create`, of which this followed: it has its policy, and of what followed the
-- last done number, or else the number of the last post before it, and the posts to the metric.
abbrev pub life_since : MetricId → List Counted → ArchivePolicy → List Counted → Life
life_since metric before policy since = record {
  policy = policy;
  done = last_done metric (last_post before) since;
  posts = filter (λ post. post.metric.0 == metric.0) (all_posts since);
}

-- a list has a `Create` of a metric with no other and no `Drop` of it behind, and this is the life since
pub record IsLastLife (metric : MetricId) (counts : List Counted) (life : Life) : Type 0 where
  pub before : List Counted
  pub policy : ArchivePolicy
  pub since : List Counted
  pub parts : counts ≡ before ++ counted.Create metric policy ∷ since
  pub within : All (IsWithinLife metric) since
  pub life_is : life ≡ life_since metric before policy since

-- ---- all metrics

-- whether a post is to a metric
abbrev pub is_to : MetricId → Posted → Bool
is_to metric post = post.metric.0 == metric.0

-- whether a post waits, where its metric has this life
abbrev pub waits_in : Posted → Option Life → Bool
waits_in post None = false
waits_in post (Some life) = nat_lt life.done post.number

-- whether a post is above the done number of its metric, which is live
abbrev pub is_waiting : List Counted → Posted → Bool
is_waiting counts post = waits_in post (life_of post.metric counts)

-- the posts of all live metrics that wait to be processed, in order
abbrev pub pending_posts : List Counted → List Posted
pending_posts counts = filter (is_waiting counts) (all_posts counts)

-- the live metrics after an entry: one that is created comes into its place
abbrev pub ids_after : List MetricId → Counted → List MetricId
ids_after ids (counted.Create metric policy) =
    filter (λ id. nat_lt id.0 metric.0) ids ++ (metric ∷ filter (λ id. nat_lt metric.0 id.0) ids)
ids_after ids (counted.Drop metric) = filter (λ id. not (id.0 == metric.0)) ids
ids_after ids c = ids

-- the live metrics, by rising identifier
abbrev pub live_ids : List Counted → List MetricId
live_ids counts = fold ids_after [] counts
