-- Over disks that are ready, neither damage nor a store that is in the way is told.
use Rattle.std.proofs.Common.{◌≡◌, ◌≢◌, ℕ, true, List, [], ◌∷◌, Option, None, Some, is_some, inl, inr}
use Rattle.std.specs.Option.{IfSome}
use Rattle.command_line.specs.declared.status.Status.{Status}
use Rattle.command_line.specs.declared.status.Status.TheVariants.{Damaged, Exists}
use Rattle.gno_disk.specs.declared.disk.Disk.{Ghosts}
use Rattle.gno_num.specs.declared.faults.Damaged.{Damaged as Damage}
use Rattle.front.proofs.Ready.{both_first, both_second}
use Rattle.front.specs.declared.fault.StoreFault.{StoreFault}
use Rattle.front.specs.declared.fault.StoreFault.TheVariants as store_fault
use Rattle.front.specs.Looking.{HasNoStore, HasStore, HaveStore}
use Rattle.front.specs.Opening.{AreDamaged}
use Rattle.front.specs.Ready.{HoldStore}
use Rattle.front.specs.SoloView.{StandsForBooks}
use Rattle.gnocchi_run.specs.declared.task.Start.{Start}
use Rattle.gnocchi_run.specs.declared.task.Start.TheVariants.{Found, New}
use Rattle.gnocchi_run.specs.declared.task.Task.{Task}
use Rattle.gnocchi_run.specs.declared.task.Task.TheVariants.{Create, Replay, ReplayHttp, Check}
use Rattle.gnocchi_run.specs.Available.{AreFree, AreReady, AreReadyFor}
use Rattle.gnocchi_run.specs.Doing.{AnswersConnection, AnswersScript, ChecksStore, CreatesStore, Performs, RunsOver}
use Rattle.gnocchi_run.specs.Ending.{status_of_store}
use Rattle.gnocchi_run.specs.Opened.{IsUnfoundStore, IsUnmadeStore, OpensNoStore}
use Rattle.gnocchi_run.proofs.Causes.{IsQuiet, quiet_connection, quiet_counts, quiet_script, quiet_text}

-- the status tells no damage, and no store that was in the way
pub record IsSound (status : Status) : Type 0 where
  pub damage : (disk at : ℕ) → status ≢ Damaged disk at
  pub exists : status ≢ Exists

quiet_sound : (status : Status) → IsQuiet status → IsSound status
quiet_sound status q = record { damage = q.damage; exists = q.exists }

-- a disk that tells its bytes has a store or none
not_both : (o : Option (List ℕ)) → is_some o ≡ true → IfSome o HasStore → IfSome o HasNoStore → ⊥
not_both None tells has none = absurd (cc tells)
not_both (Some bytes) tells has none = none has.0 has.2 has.1

module _ {D : Type 0} (g : Ghosts D) where
  free_of_stores : (disks : List D) → AreFree g disks → HaveStore g disks → ⊥
  free_of_stores [] free have = have
  free_of_stores (a ∷ []) free have = have
  free_of_stores (a ∷ b ∷ disks) free (inl have) = not_both (g.told a) (both_first (is_some (g.told a)) _ free.tell) have free.none.0
  free_of_stores (a ∷ b ∷ disks) free (inr have) = not_both (g.told b) (both_first (is_some (g.told b)) _ (both_second (is_some (g.told a)) _ free.tell)) have free.none.1

  module _ (not_damaged : (sacks : ℕ) (disks : List D) (damage : Damage) → HoldStore g sacks disks → AreDamaged g sacks disks damage → ⊥) where
    unmade_sound : (sacks number : ℕ) (old new : List D) (status : Status) (fault : StoreFault) → AreFree g old → IsUnmadeStore g sacks number fault old new → status ≡ status_of_store fault → IsSound status
    unmade_sound sacks number old new status store_fault.Exists free un is = record { damage = λ d a e. cc (is, e); exists = λ e. free_of_stores old free un.cause.0 }
    unmade_sound sacks number old new status (store_fault.DiskFault f) free un is = record { damage = λ d a e. cc (is, e); exists = λ e. cc (is, e) }
    unmade_sound sacks number old new status (store_fault.Damaged d) free un is = absurd un.cause
    unmade_sound sacks number old new status store_fault.Memory free un is = record { damage = λ d a e. cc (is, e); exists = λ e. cc (is, e) }

    unfound_sound : (sacks : ℕ) (old new : List D) (status : Status) (fault : StoreFault) → HoldStore g sacks old → IsUnfoundStore g sacks fault old new → status ≡ status_of_store fault → IsSound status
    unfound_sound sacks old new status store_fault.Exists hold un is = absurd un.cause
    unfound_sound sacks old new status (store_fault.DiskFault f) hold un is = record { damage = λ d a e. cc (is, e); exists = λ e. cc (is, e) }
    unfound_sound sacks old new status (store_fault.Damaged d) hold un is = absurd (not_damaged sacks old d hold un.cause)
    unfound_sound sacks old new status store_fault.Memory hold un is = record { damage = λ d a e. cc (is, e); exists = λ e. cc (is, e) }

    module _ (old new : List D) (left_before left_after before after : Option (List ℕ)) (status : Status) where
      unopened_sound : (start : Start) (sacks : ℕ) (fault : StoreFault) → AreReady g start sacks old → OpensNoStore g start sacks fault old new → status ≡ status_of_store fault → IsSound status
      unopened_sound (New number) sacks fault ready un is = unmade_sound sacks number old new status fault ready un is
      unopened_sound Found sacks fault ready un is = unfound_sound sacks old new status fault ready un is

      script_sound : (start : Start) (sacks : ℕ) → AreReady g start sacks old → RunsOver g start sacks (AnswersScript (StandsForBooks g)) old new left_before left_after before after status → IsSound status
      script_sound start sacks ready (RunsOver.answered opened left opens answers is) = quiet_sound status (quiet_script answers.end status answers.status_is)
      script_sound start sacks ready (RunsOver.unopened fault un is kept nothing) = unopened_sound start sacks fault ready un is

      connection_sound : (start : Start) (sacks : ℕ) → AreReady g start sacks old → RunsOver g start sacks (AnswersConnection (StandsForBooks g)) old new left_before left_after before after status → IsSound status
      connection_sound start sacks ready (RunsOver.answered opened left opens answers is) = quiet_sound status (quiet_connection answers.end status answers.status_is)
      connection_sound start sacks ready (RunsOver.unopened fault un is kept nothing) = unopened_sound start sacks fault ready un is

      create_sound : (sacks number : ℕ) → AreFree g old → CreatesStore g sacks number old new before after status → IsSound status
      create_sound sacks number free (CreatesStore.made v is disks text) = quiet_sound status (quiet_text _ before after status text)
      create_sound sacks number free (CreatesStore.unmade fault un is nothing) = unmade_sound sacks number old new status fault free un is

      check_sound : (sacks : ℕ) → HoldStore g sacks old → ChecksStore g sacks old new before after status → IsSound status
      check_sound sacks hold (ChecksStore.counted v counts is disks exact text) = quiet_sound status (quiet_counts sacks counts before after status text)
      check_sound sacks hold (ChecksStore.unfound fault un is nothing) = unfound_sound sacks old new status fault hold un is

      pub performs_sound : (task : Task) → AreReadyFor g task old → Performs g task old new left_before left_after before after status → IsSound status
      performs_sound (Create sacks number) ready p = create_sound sacks number ready p.0
      performs_sound (Replay start sacks) ready p = script_sound start sacks ready p
      performs_sound (ReplayHttp start sacks) ready p = connection_sound start sacks ready p
      performs_sound (Check sacks) ready p = check_sound sacks ready p.0
