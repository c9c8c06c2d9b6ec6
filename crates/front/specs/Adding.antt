-- How a new metric's document is made and added.
use Rattle.std.specs.Prelude.{◌≡◌, [], ◌∷◌, Result, Ok, Err}
use Rattle.archive_policy.specs.Policies.{ArchivePolicy}
use Rattle.series_model.specs.declared.metric.MetricId.{MetricId}
use Rattle.sack_history.specs.declared.fault.SackFault.{SackFault}
use Rattle.sack_history.specs.Calls.{IsDropping}
use Rattle.front_api.specs.declared.command.Command.{Command}
use Rattle.front_api.specs.declared.command.Command.TheVariants as commands
use Rattle.front_api.specs.declared.command.MetricDoc.{MetricDoc}
use Rattle.front_api.specs.declared.command.Reply.{Reply}
use Rattle.front_api.specs.declared.command.Reply.TheVariants as replies
use Rattle.front_api.specs.declared.fault.ControlFault.{ControlFault}
use Rattle.front_api.specs.Calls.{IsAdded}
use Rattle.front_api.specs.FaultWords.{sack_words}
use Rattle.front_api.specs.Front.{LeavesBroken}
use Rattle.front_api.specs.Seen.{EntersIndex, EntersSackOf, SeenBooks}

-- the document of a new metric by the words of this command, under this identifier and with this policy
abbrev pub IsDocumentBy : Command → MetricId → ArchivePolicy → MetricDoc → Type 0
IsDocumentBy (commands.AddMetric policy name unit resource) id got doc = doc ≡ record { id = id; policy = got.name; name = name; unit = unit; resource = resource }
IsDocumentBy _ id got doc = ⊥

-- The document of a metric that was created in its sack is added in the index. Where it is refused and the index isn't
-- broken, the metric is dropped from the sack again, whatever that answers.
pub data AddsDocument (doc : MetricDoc) (old new : SeenBooks) : Result Reply ControlFault → Type 0 where
  taken : EntersIndex (IsAdded doc) (Ok tt) old new → AddsDocument doc old new (Ok (replies.Metrics (doc ∷ [])))
  broken : (fault : ControlFault) → EntersIndex (IsAdded doc) (Err fault) old new → LeavesBroken fault → AddsDocument doc old new (Err fault)
  undone : (refused : SeenBooks) (fault : ControlFault) (dropping : Result (Unit {0}) SackFault)
      → EntersIndex (IsAdded doc) (Err fault) old refused → (LeavesBroken fault → ⊥)
      → EntersSackOf doc.id sack_words (IsDropping doc.id) dropping refused new
      → AddsDocument doc old new (Err fault)
