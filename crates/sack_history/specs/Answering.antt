-- What a query gives, and when it is refused.
use Rattle.std.specs.Prelude.{ℕ, ◌==◌, not, Bool, true, false, if◌then◌else◌, List, [], Option, Some, None}
use Rattle.std.specs.List.{list_any}
use Rattle.archive_policy.specs.declared.kind.Kind.{Kind}
use Rattle.archive_policy.specs.Kinds.{is_among}
use Rattle.archive_policy.specs.Policies.{ArchivePolicy}
use Rattle.series_model.specs.declared.answer.Row.{Row}
use Rattle.series_model.specs.declared.metric.MetricId.{MetricId}
use Rattle.series_model.specs.declared.query.Query.{Query}
use Rattle.series_model.specs.Query.{answer_under}
use Rattle.series_model.specs.Tail.{accepted_under}
use Rattle.sack_history.specs.declared.entry.Counted.{Counted}
use Rattle.sack_history.specs.declared.fault.AnswerFault.{AnswerFault}
use Rattle.sack_history.specs.declared.fault.AnswerFault.TheVariants as answer_fault
use Rattle.sack_history.specs.Lives.{batches_of, live_policy}

-- whether a policy lacks the kind that is asked for; what is no kind is one that it lacks
abbrev pub lacks_kind : ArchivePolicy → Option Kind → Bool
lacks_kind policy None = true
lacks_kind policy (Some kind) = not (is_among policy.kinds kind)

-- whether a policy lacks the granularity that is asked for, where one is
abbrev pub lacks_granularity : ArchivePolicy → Option ℕ → Bool
lacks_granularity policy None = false
lacks_granularity policy (Some granularity) = not (list_any (λ d. d.granularity == granularity) policy.definitions)

-- why a query is refused, where the metric has this policy, if it is live
abbrev pub query_refusal : Query → Option ArchivePolicy → Option AnswerFault
query_refusal query None = Some answer_fault.Unknown
query_refusal query (Some policy) =
    if lacks_kind policy query.kind then Some answer_fault.NoAggregation
    else if lacks_granularity policy query.granularity then Some answer_fault.NoGranularity
    else None

-- why a query of a metric is refused, if it is
abbrev pub answer_refusal : MetricId → Query → List Counted → Option AnswerFault
answer_refusal metric query counts = query_refusal query (live_policy metric counts)

-- the rows of a kind, where the metric has this policy; none where there is no policy or no kind
abbrev pub rows_by : Query → List Row → (ArchivePolicy → Kind → List Row) → Option ArchivePolicy → Option Kind → List Row
rows_by query none rows None kind = none
rows_by query none rows (Some policy) None = none
rows_by query none rows (Some policy) (Some kind) = rows policy kind

-- the rows that a query of a metric gives: those of all measures that it has accepted, grouped from scratch
abbrev pub answer_rows : MetricId → Query → List Counted → List Row
answer_rows metric query counts =
    rows_by query [] (λ policy kind. answer_under policy query kind (accepted_under policy (batches_of metric counts))) (live_policy metric counts) query.kind
