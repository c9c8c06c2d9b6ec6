-- What an answer with 202, or with 200 to a read of measures, tells.
use Rattle.std.proofs.Common.{◌≡◌, ◌==◌, ℕ, Bool, true, false, List, [], ◌∷◌, filter, length, MatchBool, Option, Some, None, Result, Ok, Err, sym, subst, ◌∙◌, ◌⊎◌, inl, inr}
use Rattle.front_api.proofs.Acknowledged.{answered_now, posted_once}
use Rattle.front_api.specs.Front.{AnswersQuery, Posts}
use Rattle.front_api.specs.Seen.{SeenBooks}
use Rattle.front_api.specs.SeenLaws.{OfMetricHistory}
use Rattle.gno_num.specs.declared.read.NumFault.TheVariants as numbers
use Rattle.gno_time.specs.declared.stamp.TimeFault.TheVariants as times
use Rattle.measure_json.specs.Answer.{answer_json}
use Rattle.measure_json.specs.Measures.{measures_read}
use Rattle.measure_json.specs.declared.fault.BodyFault.{BodyFault}
use Rattle.measure_json.specs.declared.fault.BodyFault.TheVariants as bodies
use Rattle.measure_json.specs.declared.fault.JsonKind.TheVariants as kinds
use Rattle.measure_query.specs.Key.{pairs_of}
use Rattle.measure_query.specs.Query.{IsAsked}
use Rattle.measure_query.specs.declared.query.Asked.{Asked}
use Rattle.measure_query.specs.declared.query.QueryFault.{QueryFault}
use Rattle.measure_query.specs.declared.query.QueryFault.TheVariants as queries
use Rattle.rest_api.specs.Doing.{ReadsMeasuresIn, RefusesAtOnce, TellsError}
use Rattle.rest_api.specs.Handling.{Handles, OnRouting}
use Rattle.rest_api.specs.Measures.{OfMetric, PostsTo, ReadsQuery, ReadsRows, TellsPost, TellsRows}
use Rattle.rest_replies.specs.Faults.{answer_error, body_error, query_error, sack_error}
use Rattle.rest_replies.specs.Handled.{AnswersWith, IsNoMemory}
use Rattle.rest_replies.specs.declared.code.ErrorCode.TheVariants as is
use Rattle.rest_replies.specs.Error.{plain_error}
use Rattle.rest_replies.specs.declared.error.RestError.{RestError}
use Rattle.rest_replies.specs.declared.handled.Handled.{Handled}
use Rattle.rest_replies.specs.declared.status.HttpStatus.{HttpStatus}
use Rattle.rest_replies.specs.declared.status.HttpStatus.TheVariants.{Accepted, Okay, InternalError}
use Rattle.rest_routes.specs.Routes.{found, routing_of}
use Rattle.rest_routes.specs.declared.method.Method.TheVariants.{Get, Post}
use Rattle.rest_routes.specs.declared.route.Route.TheVariants.{Measures}
use Rattle.sack_history.specs.Answering.{answer_rows}
use Rattle.sack_history.specs.Entries.{kept}
use Rattle.sack_history.specs.Lives.{all_posts}
use Rattle.sack_history.specs.declared.fault.AnswerFault.{AnswerFault}
use Rattle.sack_history.specs.declared.fault.AnswerFault.TheVariants as answers
use Rattle.sack_history.specs.declared.fault.SackFault.{SackFault}
use Rattle.sack_history.specs.declared.fault.SackFault.TheVariants as posts
use Rattle.series_model.specs.declared.answer.Row.{Row}
use Rattle.series_model.specs.declared.measure.Measure.{Measure}
use Rattle.series_model.specs.declared.metric.MetricId.{MetricId}

-- ---- an error has another status

-- neither 202 nor 200
abbrev IsError : HttpStatus → Type 0
IsError status = (status ≡ Accepted → ⊥) × (status ≡ Okay → ⊥)

sack_refused : (fault : SackFault) → IsError (sack_error fault).status
sack_refused posts.Unknown = (λ e. absurd cc, λ e. absurd cc)
sack_refused (posts.Spent s) = (λ e. absurd cc, λ e. absurd cc)
sack_refused (posts.DiskFault f) = (λ e. absurd cc, λ e. absurd cc)
sack_refused (posts.Damaged d) = (λ e. absurd cc, λ e. absurd cc)
sack_refused posts.Memory = (λ e. absurd cc, λ e. absurd cc)

answer_refused : (fault : AnswerFault) → IsError (answer_error fault).status
answer_refused answers.Unknown = (λ e. absurd cc, λ e. absurd cc)
answer_refused answers.NoAggregation = (λ e. absurd cc, λ e. absurd cc)
answer_refused answers.NoGranularity = (λ e. absurd cc, λ e. absurd cc)
answer_refused (answers.Spent s) = (λ e. absurd cc, λ e. absurd cc)
answer_refused (answers.DiskFault f) = (λ e. absurd cc, λ e. absurd cc)
answer_refused (answers.Damaged d) = (λ e. absurd cc, λ e. absurd cc)
answer_refused answers.Memory = (λ e. absurd cc, λ e. absurd cc)

query_refused : (fault : QueryFault) → IsError (query_error fault).status
query_refused queries.BadQuery = (λ e. absurd cc, λ e. absurd cc)
query_refused queries.Memory = (λ e. absurd cc, λ e. absurd cc)

body_refused : (fault : BodyFault) → IsError (body_error fault).status
body_refused (bodies.Json at kinds.Syntax) = (λ e. absurd cc, λ e. absurd cc)
body_refused (bodies.Json at kinds.NotMeasure) = (λ e. absurd cc, λ e. absurd cc)
body_refused (bodies.Json at kinds.BadId) = (λ e. absurd cc, λ e. absurd cc)
body_refused (bodies.Json at (kinds.Time times.BadTime)) = (λ e. absurd cc, λ e. absurd cc)
body_refused (bodies.Json at (kinds.Time times.BeforeEpoch)) = (λ e. absurd cc, λ e. absurd cc)
body_refused (bodies.Json at (kinds.Time times.TooLate)) = (λ e. absurd cc, λ e. absurd cc)
body_refused (bodies.Json at (kinds.Number numbers.TooLong)) = (λ e. absurd cc, λ e. absurd cc)
body_refused (bodies.Json at (kinds.Number numbers.NotANumber)) = (λ e. absurd cc, λ e. absurd cc)
body_refused (bodies.Json at (kinds.Number numbers.TooLarge)) = (λ e. absurd cc, λ e. absurd cc)
body_refused (bodies.Json at kinds.TooMany) = (λ e. absurd cc, λ e. absurd cc)
body_refused bodies.Memory = (λ e. absurd cc, λ e. absurd cc)

-- that there was no memory has another one
starved_status : (answer : Handled) → IsNoMemory answer → IsError answer.status
starved_status answer h = (λ e. let c : InternalError ≡ Accepted = sym h.status ∙ e in absurd cc, λ e. let c : InternalError ≡ Okay = sym h.status ∙ e in absurd cc)

told_status : (answer : Handled) (error : RestError) (stored : Option ℕ) → IsError error.status → TellsError error stored answer → IsError answer.status
told_status answer error stored not-so (inl h) = (λ e. not-so.0 (sym h.status ∙ e), λ e. not-so.1 (sym h.status ∙ e))
told_status answer error stored not-so (inr h) = starved_status answer h

-- ---- a post

-- the batch stands
abbrev BatchStands : MetricId → List ℕ → SeenBooks → Type 0
BatchStands metric body new =
    (measures : List Measure) × (number : ℕ) × (measures_read body ≡ Ok measures)
    × OfMetricHistory metric (λ h. filter (λ p. p.number == number) (all_posts (kept h))
    ≡ record { number = number; metric = metric; measures = measures } ∷ []) new

posted : (metric : MetricId) (body : List ℕ) (measures : List Measure) (result : Result ℕ SackFault) (answer : Handled) (old new : SeenBooks)
    → measures_read body ≡ Ok measures → Posts metric measures result old new → TellsPost result answer → answer.status ≡ Accepted → BatchStands metric body new
posted metric body measures (Ok number) answer old new is-read call tells e = (measures, number, is-read, posted_once metric measures number old new call)
posted metric body measures (Err fault) answer old new is-read call tells e = absurd ((told_status answer (sack_error fault) None (sack_refused fault) tells).0 e)

of_post : (metric : MetricId) (body : List ℕ) (answer : Handled) (old new : SeenBooks)
    → ReadsMeasuresIn (measures_read body) None (λ measures. OfMetric (Some metric) (PostsTo measures)) answer old new → answer.status ≡ Accepted → BatchStands metric body new
of_post metric body answer old new (ReadsMeasuresIn.read measures is-read h) e = posted metric body measures h.result answer old new is-read h.posts h.tells e
of_post metric body answer old new (ReadsMeasuresIn.refused fault is-fault h) e = absurd ((told_status answer (body_error fault) None (body_refused fault) h.1).0 e)

by_query : (b : Bool) (does : Type 0) (answer : Handled) (old new : SeenBooks) → MatchBool b does (RefusesAtOnce (plain_error is.BadQuery) None answer old new)
    → (answer.status ≡ Accepted → ⊥) ⊎ does
by_query true does answer old new h = inr h
by_query false does answer old new h = inl (told_status answer (plain_error is.BadQuery) None ((λ e. absurd cc, λ e. absurd cc)) h.1).0

pub accepted_stands : (method target body query : List ℕ) (metric : MetricId) (answer : Handled) (old new : SeenBooks)
    → routing_of method target ≡ found (Measures (Some metric)) Post query → answer.status ≡ Accepted → Handles method target body answer old new → BatchStands metric body new
accepted_stands method target body query metric answer old new is-routed e (inr h) = absurd ((starved_status answer h.1).0 e)
accepted_stands method target body query metric answer old new is-routed e (inl h) =
    by (by_query (length query == 0) _ answer old new (subst (λ r. OnRouting r body answer old new) is-routed h))
  where
    by : ((answer.status ≡ Accepted → ⊥) ⊎ ReadsMeasuresIn (measures_read body) None (λ measures. OfMetric (Some metric) (PostsTo measures)) answer old new) → BatchStands metric body new
    by (inl never) = absurd (never e)
    by (inr does) = of_post metric body answer old new does e

-- ---- a read

-- the rows are those of the history
abbrev RowsStand : MetricId → List ℕ → Handled → SeenBooks → Type 0
RowsStand metric query answer new =
    (asked : Asked) × (rows : List Row) × IsAsked (pairs_of query) asked × (answer.body.items ≡ answer_json asked.exact rows)
    × OfMetricHistory metric (λ h. rows ≡ answer_rows metric asked.query (kept h)) new

rows_told : (exact : Bool) (rows : List Row) (answer : Handled) → AnswersWith answer Okay [] (answer_json exact rows) → answer.status ≡ Okay → answer.body.items ≡ answer_json exact rows
rows_told exact rows answer (inl h) e = h.body
rows_told exact rows answer (inr h) e = absurd ((starved_status answer h).1 e)

answered : (metric : MetricId) (query : List ℕ) (asked : Asked) (result : Result (List Row) AnswerFault) (answer : Handled) (old new : SeenBooks)
    → IsAsked (pairs_of query) asked → AnswersQuery metric asked.query result old new → TellsRows asked.exact result answer → answer.status ≡ Okay → RowsStand metric query answer new
answered metric query asked (Ok rows) answer old new is-asked call tells e =
    (asked, rows, is-asked, rows_told asked.exact rows answer tells e, answered_now metric asked.query rows old new call)
answered metric query asked (Err fault) answer old new is-asked call tells e = absurd ((told_status answer (answer_error fault) None (answer_refused fault) tells).1 e)

of_read : (metric : MetricId) (query : List ℕ) (asked : Asked) (answer : Handled) (old new : SeenBooks) → IsAsked (pairs_of query) asked
    → ReadsRows asked metric answer old new → answer.status ≡ Okay → RowsStand metric query answer new
of_read metric query asked answer old new is-asked (ReadsRows.as_it_stands off h) e = answered metric query asked h.result answer old new is-asked h.answers h.tells e
of_read metric query asked answer old new is-asked (ReadsRows.refreshed done mid on r h) e = answered metric query asked h.result answer mid new is-asked h.answers h.tells e
of_read metric query asked answer old new is-asked (ReadsRows.not_refreshed fault on r tells) e = absurd ((told_status answer (sack_error fault) None (sack_refused fault) tells).1 e)

of_query : (metric : MetricId) (query : List ℕ) (answer : Handled) (old new : SeenBooks)
    → ReadsQuery query (λ asked. OfMetric (Some metric) (ReadsRows asked)) answer old new → answer.status ≡ Okay → RowsStand metric query answer new
of_query metric query answer old new (ReadsQuery.read asked is-asked h) e = of_read metric query asked answer old new is-asked h e
of_query metric query answer old new (ReadsQuery.refused fault is-fault h) e = absurd ((told_status answer (query_error fault) None (query_refused fault) h.1).1 e)

pub rows_stand : (method target body query : List ℕ) (metric : MetricId) (answer : Handled) (old new : SeenBooks)
    → routing_of method target ≡ found (Measures (Some metric)) Get query → answer.status ≡ Okay → Handles method target body answer old new → RowsStand metric query answer new
rows_stand method target body query metric answer old new is-routed e (inr h) = absurd ((starved_status answer h.1).1 e)
rows_stand method target body query metric answer old new is-routed e (inl h) =
    of_query metric query answer old new (subst (λ r. OnRouting r body answer old new) is-routed h) e
