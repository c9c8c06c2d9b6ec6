-- What each call of an index adds to its history, and its result by the maps at that place.
use Rattle.std.specs.Prelude.{◌≡◌, ◌≤◌, ℕ, ◌+◌, Bool, true, false, if◌then◌else◌, List, [], ◌∷◌, ◌++◌, Option, Some, None, Result, Ok, Err}
use Rattle.archive_policy.specs.Policies.{ArchivePolicy}
use Rattle.gno_num.specs.declared.faults.Counter.TheVariants as counters
use Rattle.series_model.specs.declared.metric.MetricId.{MetricId}
use Rattle.front_api.specs.declared.command.Command.{Command}
use Rattle.front_api.specs.declared.command.MetricDoc.{MetricDoc}
use Rattle.front_api.specs.declared.command.Reply.{Reply}
use Rattle.front_api.specs.declared.fault.ControlFault.{ControlFault}
use Rattle.front_api.specs.declared.fault.ControlFault.TheVariants as faults
use Rattle.front_api.specs.declared.history.IndexCounted.{IndexCounted}
use Rattle.front_api.specs.declared.history.IndexCounted.TheVariants as counted
use Rattle.front_api.specs.declared.history.IndexEntry.{IndexEntry}
use Rattle.front_api.specs.declared.history.IndexEntry.TheVariants as entries
use Rattle.front_api.specs.IndexHistory.{MayFollow, state_of}
use Rattle.front_api.specs.Maps.{Maps, id_of, is_change, last_counter}
use Rattle.front_api.specs.Replies.{IsAcceptedMetric, IsRefusedMetric, doc_refusal, refusal_of, reply_of}

-- a refusal by name: it says nothing of memory, disks or counters
abbrev pub IsByName : ControlFault → Type 0
IsByName (faults.Spent s) = ⊥
IsByName (faults.DiskFault f) = ⊥
IsByName (faults.Damaged d) = ⊥
IsByName faults.Memory = ⊥
IsByName faults.PolicyExists = Unit {0}
IsByName faults.PolicyUnknown = Unit {0}
IsByName faults.PolicyInUse = Unit {0}
IsByName faults.RuleExists = Unit {0}
IsByName faults.RuleUnknown = Unit {0}
IsByName faults.NoRule = Unit {0}
IsByName faults.NameTaken = Unit {0}
IsByName faults.MetricUnknown = Unit {0}
IsByName faults.ResourceExists = Unit {0}
IsByName faults.ResourceUnknown = Unit {0}
IsByName faults.ResourceInUse = Unit {0}
IsByName (faults.IdTaken id) = Unit {0}

-- What a call on a book that isn't broken adds where it is refused, by what is refused by name here, whether
-- its counter is spent, and what it writes where it isn't refused.
pub data RefusedCall (by_name : ControlFault → Type 0) (is_spent : ℕ → Type 0) (written : IndexCounted → Type 0) : ControlFault → List IndexEntry → Type 0 where
  named : (fault : ControlFault) → IsByName fault → by_name fault → RefusedCall by_name is_spent written fault (entries.Look ∷ [])
  spent : (at : ℕ) → is_spent at → RefusedCall by_name is_spent written (faults.Spent (record { counter = counters.IdCounter; at = at })) (entries.Look ∷ [])
  starved : RefusedCall by_name is_spent written faults.Memory (entries.Look ∷ [])
  failed : (c : IndexCounted) (before after : ℕ) → written c
      → RefusedCall by_name is_spent written (faults.DiskFault (record { before = before; after = after })) (entries.Fault (Some c) before after ∷ [])

-- what a call adds that found the book broken, and didn't mount it
pub data FailedMounting : ControlFault → List IndexEntry → Type 0 where
  disk : (before after : ℕ) → FailedMounting (faults.DiskFault (record { before = before; after = after })) (entries.Fault None before after ∷ [])
  damaged : (disk at before after : ℕ) → FailedMounting (faults.Damaged (record { disk = disk; at = at })) (entries.Fault None before after ∷ [])
  starved : FailedMounting faults.Memory (entries.Look ∷ [])

-- A call's own entries and result, by what it does on maps (`onto`), where the index had these maps before its
-- history. A broken book is mounted first, which adds one entry where it succeeds, and ends the call where it
-- fails.
pub data IsCall {R : Type 0} (onto : Maps → List IndexEntry → Result R ControlFault → Type 0) (first : Maps) (h own : List IndexEntry) (result : Result R ControlFault) : Type 0 where
  whole : (state_of first h).is_open ≡ false → onto (state_of first h).maps own result → IsCall onto first h own result
  mounted : (kept : Bool) (rest : List IndexEntry) → MayFollow (state_of first h) (entries.Reopened kept) → own ≡ entries.Reopened kept ∷ rest
      → onto (state_of first (h ++ entries.Reopened kept ∷ [])).maps rest result → IsCall onto first h own result
  unmounted : (fault : ControlFault) → (state_of first h).is_open ≡ true → result ≡ Err fault → FailedMounting fault own → IsCall onto first h own result

-- ---- apply

-- a command on these maps
abbrev pub AppliesTo : Command → Maps → List IndexEntry → Result Reply ControlFault → Type 0
AppliesTo command m own (Ok reply) =
    (refusal_of m command ≡ None) × (reply ≡ reply_of m command)
    × (own ≡ (if is_change command then entries.Counted (counted.Command command) else entries.Look) ∷ [])
AppliesTo command m own (Err fault) =
    RefusedCall (λ f. refusal_of m command ≡ Some f) (λ at. ⊥)
    (λ c. (is_change command ≡ true) × (refusal_of m command ≡ None) × (c ≡ counted.Command command)) fault own

abbrev pub IsApplied : Command → Maps → List IndexEntry → List IndexEntry → Result Reply ControlFault → Type 0
IsApplied command first h own result = IsCall (AppliesTo command) first h own result

-- ---- begin_metric

-- the counter from which a new metric's identifier is drawn stands at its last value, and the metric is accepted
abbrev pub IsSpentFor : Maps → Option (List ℕ) → Option (List ℕ) → Option ℕ → ℕ → Type 0
IsSpentFor m policy name resource at =
    (at ≡ last_counter) × (m.counter ≡ last_counter) × ((got : ArchivePolicy) × IsAcceptedMetric m policy name resource got)

-- a new metric of these words on these maps
abbrev pub BeginsOn : Option (List ℕ) → Option (List ℕ) → Option ℕ → Maps → List IndexEntry → Result (MetricId × ArchivePolicy) ControlFault → Type 0
BeginsOn policy name resource m own (Ok drawn) =
    IsAcceptedMetric m policy name resource drawn.1 × (m.counter + 1 ≤ last_counter) × (drawn.0.0 ≡ id_of m.number (m.counter + 1))
    × (own ≡ entries.Counted (counted.Draw (m.counter + 1)) ∷ [])
BeginsOn policy name resource m own (Err fault) =
    RefusedCall (IsRefusedMetric m policy name resource)
    (IsSpentFor m policy name resource)
    (λ c. (c ≡ counted.Draw (m.counter + 1)) × (m.counter + 1 ≤ last_counter) × ((got : ArchivePolicy) × IsAcceptedMetric m policy name resource got)) fault own

abbrev pub IsBegun : Option (List ℕ) → Option (List ℕ) → Option ℕ → Maps → List IndexEntry → List IndexEntry → Result (MetricId × ArchivePolicy) ControlFault → Type 0
IsBegun policy name resource first h own result = IsCall (BeginsOn policy name resource) first h own result

-- ---- add_metric

-- a document on these maps
abbrev pub AddsTo : MetricDoc → Maps → List IndexEntry → Result (Unit {0}) ControlFault → Type 0
AddsTo doc m own (Ok done) = (doc_refusal m doc ≡ None) × (own ≡ entries.Counted (counted.Add doc) ∷ [])
AddsTo doc m own (Err fault) =
    RefusedCall (λ f. doc_refusal m doc ≡ Some f) (λ at. ⊥) (λ c. (doc_refusal m doc ≡ None) × (c ≡ counted.Add doc)) fault own

abbrev pub IsAdded : MetricDoc → Maps → List IndexEntry → List IndexEntry → Result (Unit {0}) ControlFault → Type 0
IsAdded doc first h own result = IsCall (AddsTo doc) first h own result
