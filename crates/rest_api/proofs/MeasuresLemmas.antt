-- Posts and reads, and the metric that they are of.
use Rattle.std.proofs.Common.{◌≡◌, ℕ, List, [], ◌∷◌, ◌++◌, length, Option, Some, None, Result, Ok, Err, refl, true, false}
use Rattle.front_api.specs.Front.{AnswersQuery, Controls, Posts, Refreshes}
use Rattle.front_api.specs.Seen.{LeadsTo, SeenBooks}
use Rattle.front_api.specs.declared.command.Command.TheVariants as commands
use Rattle.front_api.specs.declared.command.Reply.{Reply}
use Rattle.front_api.specs.declared.fault.ControlFault.{ControlFault}
use Rattle.measure_query.specs.Key.{pairs_of}
use Rattle.measure_query.specs.Query.{IsAsked, IsNoQuery}
use Rattle.measure_query.specs.declared.query.Asked.{Asked}
use Rattle.measure_query.specs.declared.query.QueryFault.{QueryFault}
use Rattle.measure_query.specs.declared.query.QueryFault.TheVariants.{BadQuery}
use Rattle.rest_api.specs.Doing.{Doing, TellsError}
use Rattle.rest_api.specs.Measures.{AnswersRows, BatchEntry, FindsMetric, OfNamed, PostsAll, PostsEach, PostsTo, ReadsQuery, ReadsRows, TellsPost, TellsRows}
use Rattle.rest_api.specs.Shown.{first_id, metrics_in}
use Rattle.rest_replies.specs.Error.{plain_error}
use Rattle.rest_replies.specs.Faults.{control_error, query_error, sack_error}
use Rattle.rest_replies.specs.Handled.{IsHandled}
use Rattle.rest_replies.specs.declared.status.HttpStatus.TheVariants.{Accepted}
use Rattle.rest_replies.specs.declared.code.ErrorCode.TheVariants as is
use Rattle.rest_replies.specs.declared.faults.NamedIn.TheVariants.{Path}
use Rattle.rest_replies.specs.declared.handled.Handled.{Handled}
use Rattle.sack_history.specs.declared.fault.AnswerFault.{AnswerFault}
use Rattle.sack_history.specs.declared.fault.SackFault.{SackFault}
use Rattle.series_model.specs.declared.answer.Row.{Row}
use Rattle.series_model.specs.declared.measure.Measure.{Measure}
use Rattle.series_model.specs.declared.metric.MetricId.{MetricId}

module _ {X : Type 0} (stands : X → SeenBooks → Type 0) where
  -- what a post leads to, and what is told of its result
  pub posts_to : (a b : X) (measures : List Measure) (metric : MetricId) (result : Result ℕ SackFault) (answer : Handled)
      → LeadsTo stands a b (Posts metric measures result) → TellsPost result answer → LeadsTo stands a b (PostsTo measures metric answer)
  posts_to a b measures metric result answer leads tells old is =
      let new = leads old is in
      (new.0, new.1, record { result = result; posts = new.2; tells = tells })

  -- the same of a query
  pub answers_rows : (a b : X) (asked : Asked) (metric : MetricId) (result : Result (List Row) AnswerFault) (answer : Handled)
      → LeadsTo stands a b (AnswersQuery metric asked.query result) → TellsRows asked.exact result answer → LeadsTo stands a b (AnswersRows asked metric answer)
  answers_rows a b asked metric result answer leads tells old is =
      let new = leads old is in
      (new.0, new.1, record { result = result; answers = new.2; tells = tells })

  -- rows are read as they stand
  pub reads_as_it_stands : (a b : X) (asked : Asked) (metric : MetricId) (answer : Handled)
      → asked.refresh ≡ false → LeadsTo stands a b (AnswersRows asked metric answer) → LeadsTo stands a b (ReadsRows asked metric answer)
  reads_as_it_stands a b asked metric answer off leads old is =
      let new = leads old is in
      (new.0, new.1, ReadsRows.as_it_stands off new.2)

  -- what waits is processed, and then they are read
  pub reads_refreshed : (a b c : X) (asked : Asked) (metric : MetricId) (answer : Handled) (done : ℕ)
      → asked.refresh ≡ true → LeadsTo stands a b (Refreshes metric (Ok done)) → LeadsTo stands b c (AnswersRows asked metric answer)
      → LeadsTo stands a c (ReadsRows asked metric answer)
  reads_refreshed a b c asked metric answer done on first leads old is =
      let mid = first old is in
      let new = leads mid.0 mid.1 in
      (new.0, new.1, ReadsRows.refreshed done mid.0 on mid.2 new.2)

  -- it can't be processed
  pub reads_not_refreshed : (a b : X) (asked : Asked) (metric : MetricId) (answer : Handled) (fault : SackFault)
      → asked.refresh ≡ true → LeadsTo stands a b (Refreshes metric (Err fault)) → TellsError (sack_error fault) None answer
      → LeadsTo stands a b (ReadsRows asked metric answer)
  reads_not_refreshed a b asked metric answer fault on leads tells old is =
      let new = leads old is in
      (new.0, new.1, ReadsRows.not_refreshed fault on new.2 tells)

  -- a query is read
  pub reads_query : (a b : X) (query : List ℕ) (Next : Asked → Doing) (answer : Handled) (asked : Asked)
      → IsAsked (pairs_of query) asked → LeadsTo stands a b (Next asked answer) → LeadsTo stands a b (ReadsQuery query Next answer)
  reads_query a b query Next answer asked is-asked leads old is =
      let new = leads old is in
      (new.0, new.1, ReadsQuery.read asked is-asked new.2)

  -- it is none
  pub refuses_query : (a : X) (query : List ℕ) (Next : Asked → Doing) (answer : Handled) (fault : QueryFault)
      → (fault ≡ BadQuery → IsNoQuery (pairs_of query)) → TellsError (query_error fault) None answer → LeadsTo stands a a (ReadsQuery query Next answer)
  refuses_query a query Next answer fault is-fault tells old is = (old, is, ReadsQuery.refused fault is-fault (refl, tells))

  -- ---- the metric of a name

  pub metric_there : (a b : X) (resource : ℕ) (name : List ℕ) (reply : Reply) (metric : MetricId)
      → LeadsTo stands a b (Controls (commands.FindMetric resource name) (Ok reply)) → first_id (metrics_in reply) ≡ Some metric
      → LeadsTo stands a b (FindsMetric (Some resource) (Some name) (Ok metric))
  metric_there a b resource name reply metric leads first old is =
      let new = leads old is in
      (new.0, new.1, FindsMetric.there resource name reply metric old new.0 new.2 first)

  pub metric_not_told : (a b : X) (resource : ℕ) (name : List ℕ) (reply : Reply) (answer : Handled)
      → LeadsTo stands a b (Controls (commands.FindMetric resource name) (Ok reply)) → first_id (metrics_in reply) ≡ None
      → TellsError (plain_error is.MetricUnknown) None answer → LeadsTo stands a b (FindsMetric (Some resource) (Some name) (Err answer))
  metric_not_told a b resource name reply answer leads first tells old is =
      let new = leads old is in
      (new.0, new.1, FindsMetric.none_told resource name reply answer old new.0 new.2 first tells)

  pub metric_refused : (a b : X) (resource : ℕ) (name : List ℕ) (fault : ControlFault) (answer : Handled)
      → LeadsTo stands a b (Controls (commands.FindMetric resource name) (Err fault)) → TellsError (control_error Path fault) None answer
      → LeadsTo stands a b (FindsMetric (Some resource) (Some name) (Err answer))
  metric_refused a b resource name fault answer leads tells old is =
      let new = leads old is in
      (new.0, new.1, FindsMetric.refused resource name fault answer old new.0 new.2 tells)

  pub no_resource : (a : X) (name : Option (List ℕ)) (answer : Handled) → TellsError (plain_error is.ResourceUnknown) None answer
      → LeadsTo stands a a (FindsMetric None name (Err answer))
  no_resource a name answer tells old is = (old, is, FindsMetric.no_resource name answer old tells)

  pub no_name : (a : X) (resource : ℕ) (answer : Handled) → TellsError (plain_error is.MetricUnknown) None answer
      → LeadsTo stands a a (FindsMetric (Some resource) None (Err answer))
  no_name a resource answer tells old is = (old, is, FindsMetric.no_name resource answer old tells)

  -- the metric is found, and then this is done
  pub of_found : (a b c : X) (resource : Option ℕ) (name : Option (List ℕ)) (Next : MetricId → Doing) (answer : Handled) (metric : MetricId)
      → LeadsTo stands a b (FindsMetric resource name (Ok metric)) → LeadsTo stands b c (Next metric answer) → LeadsTo stands a c (OfNamed resource name Next answer)
  of_found a b c resource name Next answer metric first leads old is =
      let mid = first old is in
      let new = leads mid.0 mid.1 in
      (new.0, new.1, OfNamed.found metric mid.0 mid.2 new.2)

  -- it isn't
  pub of_none : (a b : X) (resource : Option ℕ) (name : Option (List ℕ)) (Next : MetricId → Doing) (answer : Handled)
      → LeadsTo stands a b (FindsMetric resource name (Err answer)) → LeadsTo stands a b (OfNamed resource name Next answer)
  of_none a b resource name Next answer leads old is =
      let new = leads old is in
      (new.0, new.1, OfNamed.refused new.2)

  -- ---- several batches

  pub posts_none : (a : X) → LeadsTo stands a a (PostsEach [])
  posts_none a old is = (old, is, PostsEach.none old)

  -- one more is posted
  pub posts_more : (a b c : X) (entries : List BatchEntry) (entry : BatchEntry) (number : ℕ)
      → LeadsTo stands a b (PostsEach entries) → LeadsTo stands b c (Posts entry.0 entry.1 (Ok number)) → LeadsTo stands a c (PostsEach (entries ++ entry ∷ []))
  posts_more a b c entries entry number first leads old is =
      let mid = first old is in
      let new = leads mid.0 mid.1 in
      (new.0, new.1, PostsEach.one_more entries entry number old mid.0 new.0 mid.2 new.2)

  -- all are posted
  pub posts_all : (a b : X) (entries : List BatchEntry) (answer : Handled) → LeadsTo stands a b (PostsEach entries) → IsHandled answer Accepted [] []
      → LeadsTo stands a b (PostsAll entries answer)
  posts_all a b entries answer leads tells old is =
      let new = leads old is in
      (new.0, new.1, PostsAll.all new.2 tells)

  -- one is refused
  pub posts_up_to : (a b c : X) (entries front : List BatchEntry) (entry : BatchEntry) (rest : List BatchEntry) (fault : SackFault) (answer : Handled)
      → entries ≡ front ++ entry ∷ rest → LeadsTo stands a b (PostsEach front) → LeadsTo stands b c (Posts entry.0 entry.1 (Err fault))
      → TellsError (sack_error fault) (Some (length front)) answer → LeadsTo stands a c (PostsAll entries answer)
  posts_up_to a b c entries front entry rest fault answer whole first leads tells old is =
      let mid = first old is in
      let new = leads mid.0 mid.1 in
      (new.0, new.1, PostsAll.refused front entry rest mid.0 fault whole mid.2 new.2 tells)
