-- What each call of a front answers, and what it adds to the histories that the front has seen.
use Rattle.std.specs.Prelude.{◌≡◌, ℕ, ◌+◌, List, [], ◌∷◌, Option, Some, None, Result, Ok, Err, IsSome}
use Rattle.archive_policy.specs.Policies.{ArchivePolicy}
use Rattle.series_model.specs.declared.answer.Row.{Row}
use Rattle.series_model.specs.declared.measure.Measure.{Measure}
use Rattle.series_model.specs.declared.metric.MetricId.{MetricId}
use Rattle.series_model.specs.declared.query.Query.{Query}
use Rattle.sack_history.specs.declared.fault.AnswerFault.{AnswerFault}
use Rattle.sack_history.specs.declared.fault.CreateFault.{CreateFault}
use Rattle.sack_history.specs.declared.fault.CreateFault.TheVariants as create_fault
use Rattle.sack_history.specs.declared.fault.SackFault.{SackFault}
use Rattle.sack_history.specs.declared.fault.SackFault.TheVariants as sack_fault
use Rattle.sack_history.specs.Calls.{IsAnswering, IsCreating, IsDraining, IsDropping, IsPosting, IsRefreshing}
use Rattle.front_api.specs.declared.command.Command.{Command}
use Rattle.front_api.specs.declared.command.Command.TheVariants as commands
use Rattle.front_api.specs.declared.command.MetricDoc.{MetricDoc}
use Rattle.front_api.specs.declared.command.Reply.{Reply}
use Rattle.front_api.specs.declared.command.Reply.TheVariants as replies
use Rattle.front_api.specs.declared.fault.ControlFault.{ControlFault}
use Rattle.front_api.specs.declared.fault.ControlFault.TheVariants as faults
use Rattle.front_api.specs.Calls.{IsAdded, IsApplied, IsBegun}
use Rattle.front_api.specs.FaultWords.{answer_words, create_words, sack_words}
use Rattle.front_api.specs.Seen.{EntersIndex, EntersSackBook, EntersSackOf, SackBook, SeenBooks, capped}

-- ---- measures

-- a batch is posted to a metric, in the metric's sack
abbrev pub Posts : MetricId → List Measure → Result ℕ SackFault → SeenBooks → SeenBooks → Type 0
Posts metric measures result old new = EntersSackOf metric sack_words (IsPosting metric measures) result old new

-- all posts of a metric are processed, in the metric's sack
abbrev pub Refreshes : MetricId → Result ℕ SackFault → SeenBooks → SeenBooks → Type 0
Refreshes metric result old new = EntersSackOf metric sack_words (IsRefreshing metric) result old new

-- a query is answered, in the metric's sack
abbrev pub AnswersQuery : MetricId → Query → Result (List Row) AnswerFault → SeenBooks → SeenBooks → Type 0
AnswersQuery metric query result old new = EntersSackOf metric answer_words (IsAnswering metric query) result old new

-- The sacks from this number on are drained, each once and in order, where so many turns were taken before them. The
-- first refusal ends it, and the later sacks are as they were.
pub data DrainsFrom : ℕ → ℕ → List SackBook → List SackBook → Result ℕ SackFault → Type 0 where
  all : (sack turns : ℕ) → DrainsFrom sack turns [] [] (Ok turns)
  one : (sack turns more : ℕ) (old new : SackBook) (olds news : List SackBook) (result : Result ℕ SackFault)
      → EntersSackBook sack sack_words IsDraining (Ok more) old new → DrainsFrom (sack + 1) (capped (turns + more)) olds news result
      → DrainsFrom sack turns (old ∷ olds) (new ∷ news) result
  refused : (sack turns : ℕ) (old new : SackBook) (olds : List SackBook) (fault : SackFault)
      → EntersSackBook sack sack_words IsDraining (Err fault) old new → DrainsFrom sack turns (old ∷ olds) (new ∷ olds) (Err fault)

-- all posts of all metrics are processed, sack by sack, and the number of turns is given
pub record Drains (result : Result ℕ SackFault) (old new : SeenBooks) : Type 0 where
  pub sacks : DrainsFrom 0 0 old.sacks new.sacks result
  pub index : new.index ≡ old.index

-- ---- a new metric

-- how the refusal of its creating in the sack is answered: the sack's metric of this identifier is one that the index
-- doesn't know
abbrev pub creating_refused : MetricId → CreateFault → ControlFault
creating_refused metric create_fault.Exists = faults.IdTaken metric
creating_refused metric (create_fault.Spent s) = faults.Spent s
creating_refused metric (create_fault.DiskFault f) = faults.DiskFault f
creating_refused metric (create_fault.Damaged d) = faults.Damaged d
creating_refused metric create_fault.Memory = faults.Memory

-- after a refusal of the index that isn't known to have left it as it was: its fault, or damage
abbrev pub LeavesBroken : ControlFault → Type 0
LeavesBroken (faults.DiskFault f) = Unit {0}
LeavesBroken (faults.Damaged d) = Unit {0}
LeavesBroken fault = ⊥

-- How far a new metric of these words comes. Its identifier is drawn in the index, it is created in its sack, and its
-- document is added in the index. Where the document is refused and the index isn't broken, the metric is dropped from
-- the sack again, whatever that answers.
pub data AddsMetric (policy name unit : Option (List ℕ)) (resource : Option ℕ) (old new : SeenBooks) : Result Reply ControlFault → Type 0 where
  not_begun : (fault : ControlFault) → EntersIndex (IsBegun policy name resource) (Err fault) old new → AddsMetric policy name unit resource old new (Err fault)
  starved : (drawn : MetricId × ArchivePolicy) → EntersIndex (IsBegun policy name resource) (Ok drawn) old new → AddsMetric policy name unit resource old new (Err faults.Memory)
  not_created : (drawn : MetricId × ArchivePolicy) (begun : SeenBooks) (fault : CreateFault)
      → EntersIndex (IsBegun policy name resource) (Ok drawn) old begun
      → EntersSackOf drawn.0 create_words (IsCreating drawn.0 drawn.1) (Err fault) begun new
      → AddsMetric policy name unit resource old new (Err (creating_refused drawn.0 fault))
  added : (drawn : MetricId × ArchivePolicy) (doc : MetricDoc) (begun created : SeenBooks)
      → doc ≡ record { id = drawn.0; policy = drawn.1.name; name = name; unit = unit; resource = resource }
      → EntersIndex (IsBegun policy name resource) (Ok drawn) old begun
      → EntersSackOf drawn.0 create_words (IsCreating drawn.0 drawn.1) (Ok tt) begun created
      → EntersIndex (IsAdded doc) (Ok tt) created new
      → AddsMetric policy name unit resource old new (Ok (replies.Metrics (doc ∷ [])))
  left : (drawn : MetricId × ArchivePolicy) (doc : MetricDoc) (begun created : SeenBooks) (fault : ControlFault)
      → doc ≡ record { id = drawn.0; policy = drawn.1.name; name = name; unit = unit; resource = resource }
      → EntersIndex (IsBegun policy name resource) (Ok drawn) old begun
      → EntersSackOf drawn.0 create_words (IsCreating drawn.0 drawn.1) (Ok tt) begun created
      → EntersIndex (IsAdded doc) (Err fault) created new → LeavesBroken fault
      → AddsMetric policy name unit resource old new (Err fault)
  dropped_again : (drawn : MetricId × ArchivePolicy) (doc : MetricDoc) (begun created refused : SeenBooks) (fault : ControlFault) (dropping : Result (Unit {0}) SackFault)
      → doc ≡ record { id = drawn.0; policy = drawn.1.name; name = name; unit = unit; resource = resource }
      → EntersIndex (IsBegun policy name resource) (Ok drawn) old begun
      → EntersSackOf drawn.0 create_words (IsCreating drawn.0 drawn.1) (Ok tt) begun created
      → EntersIndex (IsAdded doc) (Err fault) created refused → (LeavesBroken fault → ⊥)
      → EntersSackOf drawn.0 sack_words (IsDropping drawn.0) dropping refused new
      → AddsMetric policy name unit resource old new (Err fault)

-- ---- a metric that is dropped

-- how a refusal of its dropping in the sack is answered; that it isn't live there is none
abbrev pub dropping_refused : Result (Unit {0}) SackFault → Option ControlFault
dropping_refused (Ok done) = None
dropping_refused (Err sack_fault.Unknown) = None
dropping_refused (Err (sack_fault.Spent s)) = Some (faults.Spent s)
dropping_refused (Err (sack_fault.DiskFault f)) = Some (faults.DiskFault f)
dropping_refused (Err (sack_fault.Damaged d)) = Some (faults.Damaged d)
dropping_refused (Err sack_fault.Memory) = Some faults.Memory

-- a metric is dropped in its sack, where it need not be live, and then its document in the index
pub data DropsMetric (metric : MetricId) (old new : SeenBooks) (result : Result Reply ControlFault) : Type 0 where
  refused : (dropping : Result (Unit {0}) SackFault) (fault : ControlFault)
      → EntersSackOf metric sack_words (IsDropping metric) dropping old new → dropping_refused dropping ≡ Some fault → result ≡ Err fault
      → DropsMetric metric old new result
  asked : (dropping : Result (Unit {0}) SackFault) (dropped : SeenBooks)
      → EntersSackOf metric sack_words (IsDropping metric) dropping old dropped → dropping_refused dropping ≡ None
      → EntersIndex (IsApplied (commands.DropMetric metric)) result dropped new
      → DropsMetric metric old new result

-- ---- commands

-- a command is done and answered: one that adds or drops a metric in the index and the metric's sack, any other in the
-- index alone
abbrev pub Controls : Command → Result Reply ControlFault → SeenBooks → SeenBooks → Type 0
Controls (commands.AddMetric policy name unit resource) result old new = AddsMetric policy name unit resource old new result
Controls (commands.DropMetric metric) result old new = DropsMetric metric old new result
Controls command result old new = EntersIndex (IsApplied command) result old new

-- a new metric with a resource has a name
abbrev pub NamesMember : Command → Type 0
NamesMember (commands.AddMetric policy name unit resource) = IsSome resource → IsSome name
NamesMember command = Unit {0}
