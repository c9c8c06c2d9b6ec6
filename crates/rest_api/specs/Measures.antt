-- Measures posted and read.
use Rattle.std.specs.Prelude.{◌≡◌, ℕ, Bool, true, false, List, [], ◌∷◌, ◌++◌, length, Option, None, Some, Result, Ok, Err}
use Rattle.front_api.specs.Front.{AnswersQuery, Controls, Posts, Refreshes}
use Rattle.front_api.specs.Seen.{SeenBooks}
use Rattle.front_api.specs.declared.command.Command.TheVariants as commands
use Rattle.front_api.specs.declared.command.Reply.{Reply}
use Rattle.front_api.specs.declared.fault.ControlFault.{ControlFault}
use Rattle.measure_json.specs.Answer.{answer_json}
use Rattle.measure_json.specs.Batch.{batch_read}
use Rattle.measure_json.specs.Measures.{measures_read}
use Rattle.measure_query.specs.Key.{pairs_of}
use Rattle.measure_query.specs.Query.{IsAsked, IsNoQuery}
use Rattle.measure_query.specs.declared.query.Asked.{Asked}
use Rattle.measure_query.specs.declared.query.QueryFault.{QueryFault}
use Rattle.measure_query.specs.declared.query.QueryFault.TheVariants.{BadQuery}
use Rattle.rest_api.specs.Doing.{Doing, ReadsMeasuresIn, RefusesAtOnce, TellsError}
use Rattle.rest_api.specs.Shown.{first_id, metrics_in}
use Rattle.rest_replies.specs.Error.{plain_error}
use Rattle.rest_replies.specs.Faults.{answer_error, control_error, query_error, sack_error}
use Rattle.rest_replies.specs.Handled.{AnswersWith, IsHandled}
use Rattle.rest_replies.specs.declared.code.ErrorCode.TheVariants as is
use Rattle.rest_replies.specs.declared.faults.NamedIn.TheVariants.{Path}
use Rattle.rest_replies.specs.declared.handled.Handled.{Handled}
use Rattle.rest_replies.specs.declared.status.HttpStatus.TheVariants.{Okay, Accepted}
use Rattle.rest_routes.specs.declared.method.Method.{Method}
use Rattle.rest_routes.specs.declared.method.Method.TheVariants.{Get, Post, Delete}
use Rattle.sack_history.specs.declared.fault.AnswerFault.{AnswerFault}
use Rattle.sack_history.specs.declared.fault.SackFault.{SackFault}
use Rattle.series_model.specs.declared.answer.Row.{Row}
use Rattle.series_model.specs.declared.measure.Measure.{Measure}
use Rattle.series_model.specs.declared.metric.MetricId.{MetricId}

-- ---- a batch

-- what is answered by the result of a post: that the batch stands, or its refusal
abbrev pub TellsPost : Result ℕ SackFault → Handled → Type 0
TellsPost (Ok number) answer = IsHandled answer Accepted [] []
TellsPost (Err fault) answer = TellsError (sack_error fault) None answer

-- a batch is posted to a metric, and the result is told
pub record PostsTo (measures : List Measure) (metric : MetricId) (answer : Handled) (old new : SeenBooks) : Type 0 where
  pub result : Result ℕ SackFault
  pub posts : Posts metric measures result old new
  pub tells : TellsPost result answer

-- ---- the rows that are asked for

-- what is answered by the result of a query: the rows, their values rounded or exact, or its refusal
abbrev pub TellsRows : Bool → Result (List Row) AnswerFault → Handled → Type 0
TellsRows exact (Ok rows) answer = AnswersWith answer Okay [] (answer_json exact rows)
TellsRows exact (Err fault) answer = TellsError (answer_error fault) None answer

-- a query is answered as it stands
pub record AnswersRows (asked : Asked) (metric : MetricId) (answer : Handled) (old new : SeenBooks) : Type 0 where
  pub result : Result (List Row) AnswerFault
  pub answers : AnswersQuery metric asked.query result old new
  pub tells : TellsRows asked.exact result answer

-- where it is asked, what waits of the metric is processed first; a refusal of that is the answer
pub data ReadsRows (asked : Asked) (metric : MetricId) (answer : Handled) (old new : SeenBooks) : Type 0 where
  as_it_stands : asked.refresh ≡ false → AnswersRows asked metric answer old new → ReadsRows asked metric answer old new
  refreshed : (done : ℕ) (mid : SeenBooks) → asked.refresh ≡ true → Refreshes metric (Ok done) old mid → AnswersRows asked metric answer mid new
      → ReadsRows asked metric answer old new
  not_refreshed : (fault : SackFault) → asked.refresh ≡ true → Refreshes metric (Err fault) old new → TellsError (sack_error fault) None answer
      → ReadsRows asked metric answer old new

-- a query is read, and what it asks for is done; one that is none is told so
pub data ReadsQuery (query : List ℕ) (Next : Asked → Doing) (answer : Handled) (old new : SeenBooks) : Type 0 where
  read : (asked : Asked) → IsAsked (pairs_of query) asked → Next asked answer old new → ReadsQuery query Next answer old new
  refused : (fault : QueryFault) → (fault ≡ BadQuery → IsNoQuery (pairs_of query)) → RefusesAtOnce (query_error fault) None answer old new
      → ReadsQuery query Next answer old new

-- ---- the metric

-- the metric that the path names; one that is broken is answered as one that is unknown
abbrev pub OfMetric : Option MetricId → (MetricId → Doing) → Doing
OfMetric None Next = RefusesAtOnce (plain_error is.MetricUnknown) None
OfMetric (Some metric) Next = Next metric

-- The metric of this name in a resource is asked for: it is there, or this is the answer. Where the resource and the name
-- are broken, the resource counts.
pub data FindsMetric : Option ℕ → Option (List ℕ) → Result MetricId Handled → SeenBooks → SeenBooks → Type 0 where
  there : (resource : ℕ) (name : List ℕ) (reply : Reply) (metric : MetricId) (old new : SeenBooks)
      → Controls (commands.FindMetric resource name) (Ok reply) old new → first_id (metrics_in reply) ≡ Some metric
      → FindsMetric (Some resource) (Some name) (Ok metric) old new
  none_told : (resource : ℕ) (name : List ℕ) (reply : Reply) (answer : Handled) (old new : SeenBooks)
      → Controls (commands.FindMetric resource name) (Ok reply) old new → first_id (metrics_in reply) ≡ None
      → TellsError (plain_error is.MetricUnknown) None answer → FindsMetric (Some resource) (Some name) (Err answer) old new
  refused : (resource : ℕ) (name : List ℕ) (fault : ControlFault) (answer : Handled) (old new : SeenBooks)
      → Controls (commands.FindMetric resource name) (Err fault) old new → TellsError (control_error Path fault) None answer
      → FindsMetric (Some resource) (Some name) (Err answer) old new
  no_resource : (name : Option (List ℕ)) (answer : Handled) (books : SeenBooks)
      → TellsError (plain_error is.ResourceUnknown) None answer → FindsMetric None name (Err answer) books books
  no_name : (resource : ℕ) (answer : Handled) (books : SeenBooks)
      → TellsError (plain_error is.MetricUnknown) None answer → FindsMetric (Some resource) None (Err answer) books books

-- the metric that is found
pub data OfNamed (resource : Option ℕ) (name : Option (List ℕ)) (Next : MetricId → Doing) (answer : Handled) (old new : SeenBooks) : Type 0 where
  found : (metric : MetricId) (mid : SeenBooks) → FindsMetric resource name (Ok metric) old mid → Next metric answer mid new
      → OfNamed resource name Next answer old new
  refused : FindsMetric resource name (Err answer) old new → OfNamed resource name Next answer old new

-- ---- the batches of several metrics

-- a metric, and a batch
abbrev pub BatchEntry : Type 0
BatchEntry = MetricId × List Measure

-- each of these batches is posted, one after another
pub data PostsEach : List BatchEntry → SeenBooks → SeenBooks → Type 0 where
  none : (books : SeenBooks) → PostsEach [] books books
  one_more : (entries : List BatchEntry) (entry : BatchEntry) (number : ℕ) (old mid new : SeenBooks)
      → PostsEach entries old mid → Posts entry.0 entry.1 (Ok number) mid new → PostsEach (entries ++ entry ∷ []) old new

-- the batches are posted, or up to the first refusal, which is told with how many of them stand
pub data PostsAll (entries : List BatchEntry) (answer : Handled) (old new : SeenBooks) : Type 0 where
  all : PostsEach entries old new → IsHandled answer Accepted [] [] → PostsAll entries answer old new
  refused : (front : List BatchEntry) (entry : BatchEntry) (rest : List BatchEntry) (mid : SeenBooks) (fault : SackFault)
      → entries ≡ front ++ entry ∷ rest → PostsEach front old mid → Posts entry.0 entry.1 (Err fault) mid new
      → TellsError (sack_error fault) (Some (length front)) answer → PostsAll entries answer old new

-- ---- the routes
-- The method is one that the route has: what isn't POST is GET.

abbrev pub OnMeasures : Option MetricId → Method → List ℕ → List ℕ → Doing
OnMeasures id Post query body = ReadsMeasuresIn (measures_read body) None (λ measures. OfMetric id (PostsTo measures))
OnMeasures id Get query body = ReadsQuery query (λ asked. OfMetric id (ReadsRows asked))
OnMeasures id Delete query body = ReadsQuery query (λ asked. OfMetric id (ReadsRows asked))

abbrev pub OnNamedMeasures : Option ℕ → Option (List ℕ) → Method → List ℕ → List ℕ → Doing
OnNamedMeasures resource name Post query body = ReadsMeasuresIn (measures_read body) None (λ measures. OfNamed resource name (PostsTo measures))
OnNamedMeasures resource name Get query body = ReadsQuery query (λ asked. OfNamed resource name (ReadsRows asked))
OnNamedMeasures resource name Delete query body = ReadsQuery query (λ asked. OfNamed resource name (ReadsRows asked))

abbrev pub OnBatch : List ℕ → Doing
OnBatch body = ReadsMeasuresIn (batch_read body) (Some 0) PostsAll
