-- Why a store wasn't made or mounted, and how the faults of its books are told.
use Rattle.std.specs.Prelude.{ℕ, ◌+◌, ◌*◌, ◌-◌, ◌^◌, min}
use Rattle.gno_num.specs.declared.faults.Damaged.{Damaged as Damage}
use Rattle.gno_num.specs.declared.faults.DiskFault.{DiskFault as Fault}
use Rattle.gate_log.specs.declared.fault.MountFault.{MountFault}
use Rattle.gate_log.specs.declared.fault.MountFault.TheVariants as mount_fault
use Rattle.sack_history.specs.declared.fault.AnswerFault.{AnswerFault}
use Rattle.sack_history.specs.declared.fault.AnswerFault.TheVariants as answer_fault
use Rattle.sack_history.specs.declared.fault.CommitFault.{CommitFault}
use Rattle.sack_history.specs.declared.fault.CommitFault.TheVariants as commit_fault
use Rattle.sack_history.specs.declared.fault.CreateFault.{CreateFault}
use Rattle.sack_history.specs.declared.fault.CreateFault.TheVariants as create_fault
use Rattle.sack_history.specs.declared.fault.ReleaseFault.{ReleaseFault}
use Rattle.sack_history.specs.declared.fault.ReleaseFault.TheVariants as release_fault
use Rattle.sack_history.specs.declared.fault.SackFault.{SackFault}
use Rattle.sack_history.specs.declared.fault.SackFault.TheVariants as sack_fault
use Rattle.front_api.specs.declared.bench.BenchFault.{BenchFault}
use Rattle.front_api.specs.declared.bench.BenchFault.TheVariants as bench_fault
use Rattle.front_api.specs.declared.bench.FreeFault.{FreeFault}
use Rattle.front_api.specs.declared.bench.FreeFault.TheVariants as free_fault
use Rattle.front.specs.declared.bench.Starved.{Starved}
use Rattle.front.specs.declared.fault.StoreFault.{StoreFault}
use Rattle.front.specs.declared.fault.StoreFault.TheVariants as store_fault

-- damage of a sack, on the disks of the store: those of the index, and of the sacks before it, come first
abbrev pub in_store : ℕ → Damage → Damage
in_store sack d = record { disk = min (2 + 5 * sack + d.disk) (2 ^ 16 - 1); at = d.at }

-- a refusal of a sack, as the store tells it
abbrev pub told_of_sack : ℕ → SackFault → SackFault
told_of_sack sack (sack_fault.Damaged d) = sack_fault.Damaged (in_store sack d)
told_of_sack sack fault = fault

-- the same where a metric is created
abbrev pub told_of_creating : ℕ → CreateFault → CreateFault
told_of_creating sack (create_fault.Damaged d) = create_fault.Damaged (in_store sack d)
told_of_creating sack fault = fault

-- the same where a query is answered
abbrev pub told_of_answering : ℕ → AnswerFault → AnswerFault
told_of_answering sack (answer_fault.Damaged d) = answer_fault.Damaged (in_store sack d)
told_of_answering sack fault = fault

-- the same where prepared work isn't committed; for the work that a sack hands back stands its ticket
abbrev pub told_of_committing : ℕ → CommitFault → BenchFault Starved
told_of_committing sack (commit_fault.NotHolder given holder) = bench_fault.Stale given holder
told_of_committing sack (commit_fault.Differs p) = bench_fault.Differs (record { ticket = p.job.ticket })
told_of_committing sack (commit_fault.DiskFault f) = bench_fault.DiskFault f
told_of_committing sack (commit_fault.Damaged d) = bench_fault.Damaged (in_store sack d)
told_of_committing sack (commit_fault.Memory p) = bench_fault.Memory (record { ticket = p.job.ticket })

-- the same where a claim is given back
abbrev pub told_of_releasing : ReleaseFault → FreeFault
told_of_releasing (release_fault.NotHolder given holder) = free_fault.Stale given holder

-- a fault of mounting a sack, as the store tells it
abbrev pub told_in_store : ℕ → MountFault → MountFault
told_in_store sack (mount_fault.DiskFault f) = mount_fault.DiskFault f
told_in_store sack (mount_fault.Damaged d) = mount_fault.Damaged (in_store sack d)
told_in_store sack mount_fault.Memory = mount_fault.Memory

-- a fact of each kind of fault of a store
abbrev pub MatchStoreFault : StoreFault → Type 0 → (Fault → Type 0) → (Damage → Type 0) → Type 0 → Type 0
MatchStoreFault store_fault.Exists E P Q R = E
MatchStoreFault (store_fault.DiskFault f) E P Q R = P f
MatchStoreFault (store_fault.Damaged d) E P Q R = Q d
MatchStoreFault store_fault.Memory E P Q R = R
