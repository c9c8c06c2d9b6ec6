-- Why the disks make a run end.
use Rattle.std.proofs.Common.{◌≡◌, ◌≢◌, ℕ, List, Option, subst}
use Rattle.command_line.specs.declared.status.Status.{Status}
use Rattle.command_line.specs.declared.status.Status.TheVariants.{Disk, Damaged, Exists}
use Rattle.gno_disk.specs.declared.disk.Disk.{Ghosts}
use Rattle.gno_num.specs.Faults.{Rose}
use Rattle.gno_num.specs.declared.faults.Damaged.{Damaged as Damage}
use Rattle.front.specs.declared.counts.Counts.{Counts}
use Rattle.front.specs.declared.fault.StoreFault.{StoreFault}
use Rattle.front.specs.declared.fault.StoreFault.TheVariants as store_fault
use Rattle.front.specs.Looking.{HaveStore}
use Rattle.front.specs.Opening.{AreDamaged}
use Rattle.front.specs.SoloView.{StandsForBooks}
use Rattle.rest_api.specs.declared.conn_end.ConnEnd.{ConnEnd}
use Rattle.rest_api.specs.declared.conn_end.ConnEnd.TheVariants as connections
use Rattle.rest_script.specs.declared.script_end.ScriptEnd.{ScriptEnd}
use Rattle.rest_script.specs.declared.script_end.ScriptEnd.TheVariants as scripts
use Rattle.gnocchi_run.specs.declared.task.Start.{Start}
use Rattle.gnocchi_run.specs.declared.task.Start.TheVariants.{Found, New}
use Rattle.gnocchi_run.specs.declared.task.Task.{Task}
use Rattle.gnocchi_run.specs.declared.task.Task.TheVariants.{Create, Replay, ReplayHttp, Check}
use Rattle.gnocchi_run.specs.Doing.{AnswersConnection, AnswersScript, ChecksStore, CreatesStore, Performs, RunsOver, TellsCounts}
use Rattle.gnocchi_run.specs.Ending.{WritesText, status_of_connection, status_of_script, status_of_store}
use Rattle.gnocchi_run.specs.Opened.{IsUnfoundStore, IsUnmadeStore, OpensNoStore, faults_of_disks}
use Rattle.gnocchi_run.specs.Task.{sacks_of}

-- the status tells nothing of the disks
pub record IsQuiet (status : Status) : Type 0 where
  pub disk : status ≢ Disk
  pub damage : (disk at : ℕ) → status ≢ Damaged disk at
  pub exists : status ≢ Exists

pub quiet_script : (end : ScriptEnd) (status : Status) → status ≡ status_of_script end → IsQuiet status
quiet_script scripts.Ended status is = record { disk = λ e. cc; damage = λ d a e. cc; exists = λ e. cc }
quiet_script scripts.TooLong status is = record { disk = λ e. cc; damage = λ d a e. cc; exists = λ e. cc }
quiet_script scripts.Cut status is = record { disk = λ e. cc; damage = λ d a e. cc; exists = λ e. cc }
quiet_script scripts.TooMuch status is = record { disk = λ e. cc; damage = λ d a e. cc; exists = λ e. cc }
quiet_script scripts.ReadFault status is = record { disk = λ e. cc; damage = λ d a e. cc; exists = λ e. cc }
quiet_script scripts.WriteFault status is = record { disk = λ e. cc; damage = λ d a e. cc; exists = λ e. cc }
quiet_script scripts.Memory status is = record { disk = λ e. cc; damage = λ d a e. cc; exists = λ e. cc }

pub quiet_connection : (end : ConnEnd) (status : Status) → status ≡ status_of_connection end → IsQuiet status
quiet_connection connections.Ended status is = record { disk = λ e. cc; damage = λ d a e. cc; exists = λ e. cc }
quiet_connection connections.Closed status is = record { disk = λ e. cc; damage = λ d a e. cc; exists = λ e. cc }
quiet_connection connections.Refused status is = record { disk = λ e. cc; damage = λ d a e. cc; exists = λ e. cc }
quiet_connection connections.Cut status is = record { disk = λ e. cc; damage = λ d a e. cc; exists = λ e. cc }
quiet_connection connections.TooMuch status is = record { disk = λ e. cc; damage = λ d a e. cc; exists = λ e. cc }
quiet_connection connections.ReadFault status is = record { disk = λ e. cc; damage = λ d a e. cc; exists = λ e. cc }
quiet_connection connections.WriteFault status is = record { disk = λ e. cc; damage = λ d a e. cc; exists = λ e. cc }
quiet_connection connections.Memory status is = record { disk = λ e. cc; damage = λ d a e. cc; exists = λ e. cc }

pub quiet_text : (text : List ℕ) (before after : Option (List ℕ)) (status : Status) → WritesText text before after status → IsQuiet status
quiet_text text before after status (WritesText.whole is written) = record { disk = λ e. cc; damage = λ d a e. cc; exists = λ e. cc }
quiet_text text before after status (WritesText.front first more is whole written) = record { disk = λ e. cc; damage = λ d a e. cc; exists = λ e. cc }

pub quiet_counts : (sacks : ℕ) (counts : Counts) (before after : Option (List ℕ)) (status : Status) → TellsCounts sacks counts before after status → IsQuiet status
quiet_counts sacks counts before after status (TellsCounts.told text) = quiet_text _ before after status text
quiet_counts sacks counts before after status (TellsCounts.starved is written) = record { disk = λ e. cc; damage = λ d a e. cc; exists = λ e. cc }

module _ {D : Type 0} (g : Ghosts D) where
  -- where a status tells of the disks, that is so
  pub record HasDiskCause (sacks : ℕ) (old new : List D) (status : Status) : Type 0 where
    pub disk : status ≡ Disk → Rose (faults_of_disks g old) (faults_of_disks g new)
    pub damage : (disk at : ℕ) → status ≡ Damaged disk at → AreDamaged g sacks old (record { disk = disk; at = at })
    pub exists : status ≡ Exists → HaveStore g old

  quiet : (sacks : ℕ) (old new : List D) (status : Status) → IsQuiet status → HasDiskCause sacks old new status
  quiet sacks old new status is = record { disk = λ e. absurd (is.disk e); damage = λ d a e. absurd (is.damage d a e); exists = λ e. absurd (is.exists e) }

  damage_is : (d : Damage) (disk at : ℕ) → d.disk ≡ disk → d.at ≡ at → d ≡ record { disk = disk; at = at }
  damage_is d disk at p q = λ i. record { disk = p i; at = q i }

  unmade_cause : (sacks number : ℕ) (old new : List D) (status : Status) (fault : StoreFault) → IsUnmadeStore g sacks number fault old new → status ≡ status_of_store fault → HasDiskCause sacks old new status
  unmade_cause sacks number old new status store_fault.Exists un is = record { disk = λ e. absurd (cc (is, e)); damage = λ d a e. absurd (cc (is, e)); exists = λ e. un.cause.0 }
  unmade_cause sacks number old new status (store_fault.DiskFault f) un is = record { disk = λ e. un.cause.rose; damage = λ d a e. absurd (cc (is, e)); exists = λ e. absurd (cc (is, e)) }
  unmade_cause sacks number old new status (store_fault.Damaged d) un is = absurd un.cause
  unmade_cause sacks number old new status store_fault.Memory un is = record { disk = λ e. absurd (cc (is, e)); damage = λ d a e. absurd (cc (is, e)); exists = λ e. absurd (cc (is, e)) }

  unfound_cause : (sacks : ℕ) (old new : List D) (status : Status) (fault : StoreFault) → IsUnfoundStore g sacks fault old new → status ≡ status_of_store fault → HasDiskCause sacks old new status
  unfound_cause sacks old new status store_fault.Exists un is = absurd un.cause
  unfound_cause sacks old new status (store_fault.DiskFault f) un is = record { disk = λ e. un.cause.rose; damage = λ d a e. absurd (cc (is, e)); exists = λ e. absurd (cc (is, e)) }
  unfound_cause sacks old new status (store_fault.Damaged d) un is = record {
    disk = λ e. absurd (cc (is, e));
    damage = λ disk at e. subst (AreDamaged g sacks old) (damage_is d disk at (cc (is, e)) (cc (is, e))) un.cause;
    exists = λ e. absurd (cc (is, e));
  }
  unfound_cause sacks old new status store_fault.Memory un is = record { disk = λ e. absurd (cc (is, e)); damage = λ d a e. absurd (cc (is, e)); exists = λ e. absurd (cc (is, e)) }

  module _ (old new : List D) (left_before left_after before after : Option (List ℕ)) (status : Status) where
    unopened_cause : (start : Start) (sacks : ℕ) (fault : StoreFault) → OpensNoStore g start sacks fault old new → status ≡ status_of_store fault → HasDiskCause sacks old new status
    unopened_cause (New number) sacks fault un is = unmade_cause sacks number old new status fault un is
    unopened_cause Found sacks fault un is = unfound_cause sacks old new status fault un is

    replay_cause : (start : Start) (sacks : ℕ) → RunsOver g start sacks (AnswersScript (StandsForBooks g)) old new left_before left_after before after status → HasDiskCause sacks old new status
    replay_cause start sacks (RunsOver.answered opened left opens answers is) = quiet sacks old new status (quiet_script answers.end status answers.status_is)
    replay_cause start sacks (RunsOver.unopened fault un is kept nothing) = unopened_cause start sacks fault un is

    connection_cause : (start : Start) (sacks : ℕ) → RunsOver g start sacks (AnswersConnection (StandsForBooks g)) old new left_before left_after before after status → HasDiskCause sacks old new status
    connection_cause start sacks (RunsOver.answered opened left opens answers is) = quiet sacks old new status (quiet_connection answers.end status answers.status_is)
    connection_cause start sacks (RunsOver.unopened fault un is kept nothing) = unopened_cause start sacks fault un is

    create_cause : (sacks number : ℕ) → CreatesStore g sacks number old new before after status → HasDiskCause sacks old new status
    create_cause sacks number (CreatesStore.made v is disks text) = quiet sacks old new status (quiet_text _ before after status text)
    create_cause sacks number (CreatesStore.unmade fault un is nothing) = unmade_cause sacks number old new status fault un is

    check_cause : (sacks : ℕ) → ChecksStore g sacks old new before after status → HasDiskCause sacks old new status
    check_cause sacks (ChecksStore.counted v counts is disks exact text) = quiet sacks old new status (quiet_counts sacks counts before after status text)
    check_cause sacks (ChecksStore.unfound fault un is nothing) = unfound_cause sacks old new status fault un is

    pub performs_cause : (task : Task) → Performs g task old new left_before left_after before after status → HasDiskCause (sacks_of task) old new status
    performs_cause (Create sacks number) p = create_cause sacks number p.0
    performs_cause (Replay start sacks) p = replay_cause start sacks p
    performs_cause (ReplayHttp start sacks) p = connection_cause start sacks p
    performs_cause (Check sacks) p = check_cause sacks p.0
