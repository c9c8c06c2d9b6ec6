-- What the refusals of each kind of call tell.
use Rattle.std.specs.Prelude.{Bool, true, false, Option, Some, None}
use Rattle.gno_num.specs.declared.faults.DiskFault.{DiskFault as Fault}
use Rattle.gno_num.specs.declared.faults.Spent.{Spent}
use Rattle.sack_history.specs.declared.fault.AnswerFault.{AnswerFault}
use Rattle.sack_history.specs.declared.fault.AnswerFault.TheVariants as answer_fault
use Rattle.sack_history.specs.declared.fault.CreateFault.{CreateFault}
use Rattle.sack_history.specs.declared.fault.CreateFault.TheVariants as create_fault
use Rattle.sack_history.specs.declared.fault.SackFault.{SackFault}
use Rattle.sack_history.specs.declared.fault.SackFault.TheVariants as sack_fault
use Rattle.front_api.specs.declared.bench.BenchFault.{BenchFault}
use Rattle.front_api.specs.declared.bench.BenchFault.TheVariants as bench_fault
use Rattle.front_api.specs.declared.bench.FreeFault.{FreeFault}
use Rattle.front_api.specs.declared.bench.FreeFault.TheVariants as free_fault
use Rattle.front_api.specs.declared.fault.ControlFault.{ControlFault}
use Rattle.front_api.specs.declared.fault.ControlFault.TheVariants as faults

-- What refusals of a type tell: how one says that a counter is spent, which fault of a disk one carries, and whether
-- one says that bytes were damaged.
pub record FaultWords (F : Type 0) : Type 0 where
  pub spent : Spent → F
  pub disk_fault : F → Option Fault
  pub is_damage : F → Bool

-- ---- the fault of a disk that a refusal carries, and whether it says that bytes were damaged

abbrev pub sack_disk_fault : SackFault → Option Fault
sack_disk_fault (sack_fault.DiskFault f) = Some f
sack_disk_fault fault = None

abbrev pub is_sack_damage : SackFault → Bool
is_sack_damage (sack_fault.Damaged d) = true
is_sack_damage fault = false

abbrev pub create_disk_fault : CreateFault → Option Fault
create_disk_fault (create_fault.DiskFault f) = Some f
create_disk_fault fault = None

abbrev pub is_create_damage : CreateFault → Bool
is_create_damage (create_fault.Damaged d) = true
is_create_damage fault = false

abbrev pub answer_disk_fault : AnswerFault → Option Fault
answer_disk_fault (answer_fault.DiskFault f) = Some f
answer_disk_fault fault = None

abbrev pub is_answer_damage : AnswerFault → Bool
is_answer_damage (answer_fault.Damaged d) = true
is_answer_damage fault = false

abbrev pub control_disk_fault : ControlFault → Option Fault
control_disk_fault (faults.DiskFault f) = Some f
control_disk_fault fault = None

abbrev pub is_control_damage : ControlFault → Bool
is_control_damage (faults.Damaged d) = true
is_control_damage fault = false

abbrev pub bench_disk_fault : {S : Type 0} → BenchFault S → Option Fault
bench_disk_fault (bench_fault.DiskFault f) = Some f
bench_disk_fault fault = None

abbrev pub is_bench_damage : {S : Type 0} → BenchFault S → Bool
is_bench_damage (bench_fault.Damaged d) = true
is_bench_damage fault = false

-- ---- of each kind of call

abbrev pub sack_words : FaultWords SackFault
sack_words = record { spent = sack_fault.Spent; disk_fault = sack_disk_fault; is_damage = is_sack_damage }

abbrev pub create_words : FaultWords CreateFault
create_words = record { spent = create_fault.Spent; disk_fault = create_disk_fault; is_damage = is_create_damage }

abbrev pub answer_words : FaultWords AnswerFault
answer_words = record { spent = answer_fault.Spent; disk_fault = answer_disk_fault; is_damage = is_answer_damage }

abbrev pub control_words : FaultWords ControlFault
control_words = record { spent = faults.Spent; disk_fault = control_disk_fault; is_damage = is_control_damage }

abbrev pub bench_words : {S : Type 0} → FaultWords (BenchFault S)
bench_words = record { spent = bench_fault.Spent; disk_fault = bench_disk_fault; is_damage = is_bench_damage }

-- a release reads no disk
abbrev pub free_words : FaultWords FreeFault
free_words = record { spent = free_fault.Spent; disk_fault = λ fault. None; is_damage = λ fault. false }

-- it isn't answered that the metric isn't live
abbrev pub IsKnown : SackFault → Type 0
IsKnown sack_fault.Unknown = ⊥
IsKnown fault = Unit {0}
