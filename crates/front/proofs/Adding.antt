-- How a command that adds or drops a metric is put together.
use Rattle.std.proofs.Common.{◌≡◌, ℕ, List, [], ◌∷◌, Option, Some, None, refl, ap, subst}
use Rattle.std.specs.declared.result.Result.{Result}
use Rattle.std.specs.declared.result.Result.TheVariants.{Ok, Err}
use Rattle.archive_policy.specs.Policies.{ArchivePolicy}
use Rattle.series_model.specs.declared.metric.MetricId.{MetricId}
use Rattle.sack_history.specs.declared.fault.CreateFault.{CreateFault}
use Rattle.sack_history.specs.declared.fault.SackFault.{SackFault}
use Rattle.sack_history.specs.Calls.{IsCreating, IsDropping}
use Rattle.front_api.specs.declared.command.Command.{Command}
use Rattle.front_api.specs.declared.command.Command.TheVariants as commands
use Rattle.front_api.specs.declared.command.MetricDoc.{MetricDoc}
use Rattle.front_api.specs.declared.command.Reply.{Reply}
use Rattle.front_api.specs.declared.command.Reply.TheVariants as replies
use Rattle.front_api.specs.declared.fault.ControlFault.{ControlFault}
use Rattle.front_api.specs.declared.fault.ControlFault.TheVariants as faults
use Rattle.front_api.specs.Calls.{IsAdded, IsApplied}
use Rattle.front_api.specs.FaultWords.{create_words, sack_words}
use Rattle.front_api.specs.Front.{Controls, LeavesBroken, added, asked, creating_refused, dropped_again, dropping_refused, left, not_begun, not_created, refused, starved}
use Rattle.front_api.specs.Seen.{EntersIndex, EntersSackOf, LeadsTo, SeenBooks, Then}
use Rattle.front_api.proofs.Leading.{leads_more, leads_then}
use Rattle.metric_index.specs.IndexCalls.{IsAddMetric, IsBegunBy}
use Rattle.front.specs.Adding.{AddsDocument, IsDocumentBy, broken, taken, undone}

-- ---- one call after another

begun_refused : (command : Command) (fault : ControlFault) (old new : SeenBooks) → IsAddMetric command → EntersIndex (IsBegunBy command) (Err fault) old new → Controls command (Err fault) old new
begun_refused (commands.AddMetric policy name unit resource) fault old new adds begun = not_begun fault begun
begun_refused command fault old new adds begun = absurd adds

begun_starved : (command : Command) (drawn : MetricId × ArchivePolicy) (old new : SeenBooks) → IsAddMetric command → EntersIndex (IsBegunBy command) (Ok drawn) old new → Controls command (Err faults.Memory) old new
begun_starved (commands.AddMetric policy name unit resource) drawn old new adds begun = starved drawn begun
begun_starved command drawn old new adds begun = absurd adds

not_in_sack : (command : Command) (drawn : MetricId × ArchivePolicy) (fault : CreateFault) (old mid new : SeenBooks) → IsAddMetric command → EntersIndex (IsBegunBy command) (Ok drawn) old mid
    → EntersSackOf drawn.0 create_words (IsCreating drawn.0 drawn.1) (Err fault) mid new → Controls command (Err (creating_refused drawn.0 fault)) old new
not_in_sack (commands.AddMetric policy name unit resource) drawn fault old mid new adds begun created = not_created drawn mid fault begun created
not_in_sack command drawn fault old mid new adds begun created = absurd adds

with_document : (command : Command) (drawn : MetricId × ArchivePolicy) (doc : MetricDoc) (result : Result Reply ControlFault) (old begun created new : SeenBooks) → IsAddMetric command → IsDocumentBy command drawn.0 drawn.1 doc
    → EntersIndex (IsBegunBy command) (Ok drawn) old begun → EntersSackOf drawn.0 create_words (IsCreating drawn.0 drawn.1) (Ok tt) begun created → AddsDocument doc created new result → Controls command result old new
with_document (commands.AddMetric policy name unit resource) drawn doc result old begun created new adds doc_is begin create (taken is) = added drawn doc begun created doc_is begin create is
with_document (commands.AddMetric policy name unit resource) drawn doc result old begun created new adds doc_is begin create (broken fault is breaks) = left drawn doc begun created fault doc_is begin create is breaks
with_document (commands.AddMetric policy name unit resource) drawn doc result old begun created new adds doc_is begin create (undone back fault dropping is still dropped) =
    dropped_again drawn doc begun created back fault dropping doc_is begin create is still
    (subst (λ (id : MetricId). EntersSackOf id sack_words (IsDropping id) dropping back new) (ap (λ d. d.id) doc_is) dropped)
with_document command drawn doc result old begun created new adds doc_is begin create is = absurd adds

other_command : (command : Command) (result : Result Reply ControlFault) (old new : SeenBooks) → ((policy name unit : Option (List ℕ)) (resource : Option ℕ) → command ≡ commands.AddMetric policy name unit resource → ⊥)
    → ((metric : MetricId) → command ≡ commands.DropMetric metric → ⊥) → EntersIndex (IsApplied command) result old new → Controls command result old new
other_command (commands.AddMetric policy name unit resource) result old new not_add not_drop is = absurd (not_add policy name unit resource refl)
other_command (commands.DropMetric metric) result old new not_add not_drop is = absurd (not_drop metric refl)
other_command command result old new not_add not_drop is = is

-- ---- what they lead to

module _ {X : Type 0} (stands : X → SeenBooks → Type 0) where
  pub document_taken : (a b : X) (doc : MetricDoc) → LeadsTo stands a b (EntersIndex (IsAdded doc) (Ok tt)) → LeadsTo stands a b (λ old new. AddsDocument doc old new (Ok (replies.Metrics (doc ∷ []))))
  document_taken a b doc leads = leads_more stands a b (EntersIndex (IsAdded doc) (Ok tt)) (λ old new. AddsDocument doc old new (Ok (replies.Metrics (doc ∷ [])))) (λ old new is. taken is) leads

  pub document_broken : (a b : X) (doc : MetricDoc) (fault : ControlFault) → LeavesBroken fault → LeadsTo stands a b (EntersIndex (IsAdded doc) (Err fault)) → LeadsTo stands a b (λ old new. AddsDocument doc old new (Err fault))
  document_broken a b doc fault breaks leads = leads_more stands a b (EntersIndex (IsAdded doc) (Err fault)) (λ old new. AddsDocument doc old new (Err fault)) (λ old new is. broken fault is breaks) leads

  pub document_undone : (a b c : X) (doc : MetricDoc) (fault : ControlFault) (dropping : Result (Unit {0}) SackFault) → (LeavesBroken fault → ⊥) → LeadsTo stands a b (EntersIndex (IsAdded doc) (Err fault))
      → LeadsTo stands b c (EntersSackOf doc.id sack_words (IsDropping doc.id) dropping) → LeadsTo stands a c (λ old new. AddsDocument doc old new (Err fault))
  document_undone a b c doc fault dropping still first later = leads_more stands a c (Then (EntersIndex (IsAdded doc) (Err fault)) (EntersSackOf doc.id sack_words (IsDropping doc.id) dropping)) (λ old new. AddsDocument doc old new (Err fault))
      (λ old new is. undone is.0 fault dropping is.1 still is.2)
      (leads_then stands a b c (EntersIndex (IsAdded doc) (Err fault)) (EntersSackOf doc.id sack_words (IsDropping doc.id) dropping) first later)

  module _ (command : Command) (adds : IsAddMetric command) where
    pub refused_in_index : (a b : X) (fault : ControlFault) → LeadsTo stands a b (EntersIndex (IsBegunBy command) (Err fault)) → LeadsTo stands a b (Controls command (Err fault))
    refused_in_index a b fault leads = leads_more stands a b (EntersIndex (IsBegunBy command) (Err fault)) (Controls command (Err fault)) (λ old new is. begun_refused command fault old new adds is) leads

    pub refused_by_memory : (a b : X) (drawn : MetricId × ArchivePolicy) → LeadsTo stands a b (EntersIndex (IsBegunBy command) (Ok drawn)) → LeadsTo stands a b (Controls command (Err faults.Memory))
    refused_by_memory a b drawn leads = leads_more stands a b (EntersIndex (IsBegunBy command) (Ok drawn)) (Controls command (Err faults.Memory)) (λ old new is. begun_starved command drawn old new adds is) leads

    pub refused_in_sack : (a b c : X) (drawn : MetricId × ArchivePolicy) (fault : CreateFault) → LeadsTo stands a b (EntersIndex (IsBegunBy command) (Ok drawn))
        → LeadsTo stands b c (EntersSackOf drawn.0 create_words (IsCreating drawn.0 drawn.1) (Err fault)) → LeadsTo stands a c (Controls command (Err (creating_refused drawn.0 fault)))
    refused_in_sack a b c drawn fault first later = leads_more stands a c (Then (EntersIndex (IsBegunBy command) (Ok drawn)) (EntersSackOf drawn.0 create_words (IsCreating drawn.0 drawn.1) (Err fault))) (Controls command (Err (creating_refused drawn.0 fault)))
        (λ old new is. not_in_sack command drawn fault old is.0 new adds is.1 is.2)
        (leads_then stands a b c (EntersIndex (IsBegunBy command) (Ok drawn)) (EntersSackOf drawn.0 create_words (IsCreating drawn.0 drawn.1) (Err fault)) first later)

    pub metric_added : (a b c d : X) (drawn : MetricId × ArchivePolicy) (doc : MetricDoc) (result : Result Reply ControlFault) → IsDocumentBy command drawn.0 drawn.1 doc → LeadsTo stands a b (EntersIndex (IsBegunBy command) (Ok drawn))
        → LeadsTo stands b c (EntersSackOf drawn.0 create_words (IsCreating drawn.0 drawn.1) (Ok tt)) → LeadsTo stands c d (λ old new. AddsDocument doc old new result) → LeadsTo stands a d (Controls command result)
    metric_added a b c d drawn doc result doc_is begin create adding old is =
        let begun = begin old is in
        let created = create begun.0 begun.1 in
        let new = adding created.0 created.1 in
        (new.0, new.1, with_document command drawn doc result old begun.0 created.0 new.0 adds doc_is begun.2 created.2 new.2)

  pub not_dropped : (a b : X) (metric : MetricId) (dropping : Result (Unit {0}) SackFault) (fault : ControlFault) → dropping_refused dropping ≡ Some fault
      → LeadsTo stands a b (EntersSackOf metric sack_words (IsDropping metric) dropping) → LeadsTo stands a b (Controls (commands.DropMetric metric) (Err fault))
  not_dropped a b metric dropping fault refuses leads = leads_more stands a b (EntersSackOf metric sack_words (IsDropping metric) dropping) (Controls (commands.DropMetric metric) (Err fault))
      (λ old new is. refused dropping fault is refuses refl) leads

  pub asked_then : (a b c : X) (metric : MetricId) (dropping : Result (Unit {0}) SackFault) (result : Result Reply ControlFault) → dropping_refused dropping ≡ None
      → LeadsTo stands a b (EntersSackOf metric sack_words (IsDropping metric) dropping) → LeadsTo stands b c (EntersIndex (IsApplied (commands.DropMetric metric)) result) → LeadsTo stands a c (Controls (commands.DropMetric metric) result)
  asked_then a b c metric dropping result drops first later = leads_more stands a c (Then (EntersSackOf metric sack_words (IsDropping metric) dropping) (EntersIndex (IsApplied (commands.DropMetric metric)) result)) (Controls (commands.DropMetric metric) result)
      (λ old new is. asked dropping is.0 is.1 drops is.2)
      (leads_then stands a b c (EntersSackOf metric sack_words (IsDropping metric) dropping) (EntersIndex (IsApplied (commands.DropMetric metric)) result) first later)

  pub done_by_index : (a b : X) (command : Command) (result : Result Reply ControlFault) → ((policy name unit : Option (List ℕ)) (resource : Option ℕ) → command ≡ commands.AddMetric policy name unit resource → ⊥)
      → ((metric : MetricId) → command ≡ commands.DropMetric metric → ⊥) → LeadsTo stands a b (EntersIndex (IsApplied command) result) → LeadsTo stands a b (Controls command result)
  done_by_index a b command result not_add not_drop leads = leads_more stands a b (EntersIndex (IsApplied command) result) (Controls command result) (λ old new is. other_command command result old new not_add not_drop is) leads
