-- Queries on the books of a sack.
use Rattle.std.specs.Prelude.{◌≡◌, Option, None, Some, Result, Ok, Err, List, option_map}
use Rattle.gno_disk.specs.declared.disk.Disk.{Ghosts}
use Rattle.archive_policy.specs.Policies.{ArchivePolicy}
use Rattle.archive_policy.specs.declared.kind.Kind.{Kind}
use Rattle.series_model.specs.declared.answer.Row.{Row}
use Rattle.series_model.specs.declared.measure.Measure.{Measure}
use Rattle.series_model.specs.declared.metric.MetricId.{MetricId}
use Rattle.series_model.specs.declared.query.Query.{Query}
use Rattle.series_model.specs.Query.{answer_under}
use Rattle.shelf_records.specs.Shelved.{Shelved, metric_of}
use Rattle.shelf_query.specs.Reading.{KeepsAccepted}
use Rattle.sack_history.specs.declared.fault.AnswerFault.{AnswerFault}
use Rattle.sack_history.specs.declared.fault.AnswerFault.TheVariants as answer_fault
use Rattle.sack_history.specs.declared.fault.SackFault.{SackFault}
use Rattle.sack_history.specs.declared.fault.SackFault.TheVariants as sack_fault
use Rattle.sack_history.specs.Answering.{query_refusal}
use Rattle.sack_state.specs.declared.books.Books.{Books}
use Rattle.sack_state.specs.Books.{AreLasting, AreWhole}
use Rattle.sack_state.specs.Claiming.{AreOnlyRead, FailsRead}

-- how a query answers a fault of a sack
abbrev pub answer_fault_of : SackFault → AnswerFault
answer_fault_of (sack_fault.DiskFault f) = answer_fault.DiskFault f
answer_fault_of (sack_fault.Damaged d) = answer_fault.Damaged d
answer_fault_of sack_fault.Memory = answer_fault.Memory
answer_fault_of sack_fault.Unknown = answer_fault.Unknown
answer_fault_of (sack_fault.Spent s) = answer_fault.Spent s

-- the policy of a metric as the shelf's records have it, if it is live
abbrev pub policy_in_record : Option Shelved → Option ArchivePolicy
policy_in_record o = option_map (λ m. m.policy) o

-- rows are those of whatever the shelf keeps of the metric
abbrev pub AreRowsOf : {D : Type 0} → Ghosts D → Books D → MetricId → Kind → Query → List Row → Type 0
AreRowsOf g b metric kind query rows = (policy : ArchivePolicy) (accepted : List Measure) → KeepsAccepted g b.shelf metric kind policy accepted → rows ≡ answer_under policy query kind accepted

-- What a query gives on books that aren't broken.
pub data AnswersFrom {D : Type 0} (g : Ghosts D) (metric : MetricId) (query : Query) (old new : Books D) (result : Result (List Row) AnswerFault) : Type 0 where
  refused : (refusal : AnswerFault) → query_refusal query (policy_in_record (metric_of metric old.shelf.metrics)) ≡ Some refusal → new ≡ old → result ≡ Err refusal → AnswersFrom g metric query old new result
  answered : (kind : Kind) (rows : List Row) → query_refusal query (policy_in_record (metric_of metric old.shelf.metrics)) ≡ None → query.kind ≡ Some kind → AreRowsOf g old metric kind query rows
      → AreOnlyRead g old new → AreWhole new → (AreLasting g old → AreLasting g new) → result ≡ Ok rows → AnswersFrom g metric query old new result
  unanswered : (e : SackFault) → query_refusal query (policy_in_record (metric_of metric old.shelf.metrics)) ≡ None → AreOnlyRead g old new → FailsRead g old new e → result ≡ Err (answer_fault_of e) → AnswersFrom g metric query old new result
