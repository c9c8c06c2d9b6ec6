-- How a call on a sack fails, and what it adds then.
use Rattle.std.specs.Prelude.{◌≡◌, ◌⊎◌, ℕ, ◌-◌, ◌^◌, ◌<◌, ◌≤◌, Bool, true, false, List, [], ◌∷◌, ◌++◌, Option, None, Result, Ok, Err}
use Rattle.gno_num.specs.declared.faults.Damaged.{Damaged as Damage}
use Rattle.gno_num.specs.declared.faults.DiskFault.{DiskFault as Fault}
use Rattle.series_model.specs.declared.metric.MetricId.{MetricId}
use Rattle.sack_history.specs.declared.entry.Counted.{Counted}
use Rattle.sack_history.specs.declared.entry.Entry.{Entry}
use Rattle.sack_history.specs.declared.entry.Entry.TheVariants as entries
use Rattle.sack_history.specs.Entries.{all_counted}
use Rattle.sack_history.specs.Holding.{is_broken}
use Rattle.sack_history.specs.Legal.{MayReopen}
use Rattle.sack_history.specs.declared.fault.SackFault.{SackFault}
use Rattle.sack_history.specs.declared.fault.SackFault.TheVariants as sack_fault
use Rattle.sack_history.specs.declared.fault.CreateFault.{CreateFault}
use Rattle.sack_history.specs.declared.fault.CreateFault.TheVariants as create_fault
use Rattle.sack_history.specs.declared.fault.AnswerFault.{AnswerFault}
use Rattle.sack_history.specs.declared.fault.AnswerFault.TheVariants as answer_fault

-- ---- failures

-- what is no refusal: there was no memory, a disk failed, or bytes that were read are no record or block
pub data Failure : Type 0 where
  no_memory : Failure
  on_disk : Fault → Failure
  damage : Damage → Failure

-- how calls answer a failure
abbrev pub sack_failure : Failure → SackFault
sack_failure no_memory = sack_fault.Memory
sack_failure (on_disk f) = sack_fault.DiskFault f
sack_failure (damage d) = sack_fault.Damaged d

-- how a creating answers a failure
abbrev pub create_failure : Failure → CreateFault
create_failure no_memory = create_fault.Memory
create_failure (on_disk f) = create_fault.DiskFault f
create_failure (damage d) = create_fault.Damaged d

-- how a query answers a failure
abbrev pub answer_failure : Failure → AnswerFault
answer_failure no_memory = answer_fault.Memory
answer_failure (on_disk f) = answer_fault.DiskFault f
answer_failure (damage d) = answer_fault.Damaged d

-- the count of faults has risen, or stands at its last value
abbrev pub HasRisen : Fault → Type 0
HasRisen f = (f.before < f.after) ⊎ ((f.before ≡ 2 ^ 64 - 1) × (f.after ≡ 2 ^ 64 - 1))

-- what was tried: nothing, or what was to come next
abbrev pub IsTried : Option Counted → Option Counted → Type 0
IsTried next tried = (tried ≡ None) ⊎ (tried ≡ next)

-- What a call that fails adds: what it has done, and behind that what its failure is. Want of memory changes
-- nothing. A fault of a disk has tried nothing, or what was to come next, if its first write had begun. Damage
-- is found before a write.
abbrev pub FailsBehind : List Counted → Option Counted → Option MetricId → Failure → List Entry → Type 0
FailsBehind done next metric no_memory own = own ≡ all_counted done ++ entries.Look metric ∷ []
FailsBehind done next metric (on_disk f) own =
    HasRisen f × ((tried : Option Counted) × IsTried next tried × (own ≡ all_counted done ++ entries.Fault tried f.before f.after ∷ []))
FailsBehind done next metric (damage d) own =
    (before : ℕ) × (after : ℕ) × (before ≤ after) × (own ≡ all_counted done ++ entries.Fault None before after ∷ [])

-- Where something must hold before a call reads or writes: want of memory may come without it.
abbrev pub MayFail : Type 0 → Failure → Type 0
MayFail Ready no_memory = Unit {0}
MayFail Ready (on_disk f) = Ready
MayFail Ready (damage d) = Ready

-- ---- a call and its mounting

-- What a call adds to the entries before it, where `Own` says what it adds behind its mounting. A book that
-- isn't broken isn't mounted. One that is, is mounted first; where that fails, with a failure that `Fails`
-- says, the book stays broken.
pub data IsMounted (metric : Option MetricId) (Own : List Entry → List Entry → Type 0) (Fails : Failure → Type 0) (before own : List Entry) : Type 0 where
  whole : is_broken before ≡ false → Own before own → IsMounted metric Own Fails before own
  mounted : (found : Bool) (rest : List Entry) → MayReopen before found → own ≡ entries.Reopened found ∷ rest → Own (before ++ entries.Reopened found ∷ []) rest → IsMounted metric Own Fails before own
  unmounted : (failure : Failure) → is_broken before ≡ true → FailsBehind [] None metric failure own → Fails failure → IsMounted metric Own Fails before own

-- What a call answers and adds: it gives a value, as `Gives` says of what it adds; it is refused, as `Refuses`
-- says, and changes nothing; or it fails, as `Fails` says of what it adds, and answers that as `fault` says.
pub data IsOutcome {T F : Type 0} (Gives : T → List Entry → Type 0) (Refuses : F → Type 0) (Fails : Failure → List Entry → Type 0) (fault : Failure → F) (metric : Option MetricId) (result : Result T F) (own : List Entry) : Type 0 where
  given : (value : T) → Gives value own → result ≡ Ok value → IsOutcome Gives Refuses Fails fault metric result own
  refused : (refusal : F) → Refuses refusal → own ≡ entries.Look metric ∷ [] → result ≡ Err refusal → IsOutcome Gives Refuses Fails fault metric result own
  failed : (failure : Failure) → Fails failure own → result ≡ Err (fault failure) → IsOutcome Gives Refuses Fails fault metric result own
