-- A task that was done is the one that was asked for.
use Rattle.std.proofs.Common.{◌≡◌, ℕ, List, Option, sym, subst}
use Rattle.command_line.specs.declared.status.Status.{Status}
use Rattle.gno_disk.specs.declared.disk.Disk.{Ghosts}
use Rattle.gnocchi_run.specs.declared.task.Task.{Task}
use Rattle.gnocchi_run.specs.Doing.{Performs}

pub performed : {D : Type 0} (g : Ghosts D) (task asked : Task) (old given new : List D) (left_before left_after before after : Option (List ℕ)) (status : Status)
    → asked ≡ task → given ≡ old → Performs g task given new left_before left_after before after status
    → Performs g asked old new left_before left_after before after status
performed g task asked old given new left_before left_after before after status same disks p =
    subst (λ (t : Task). Performs g t old new left_before left_after before after status) (sym same)
    (subst (λ (l : List _). Performs g task l new left_before left_after before after status) disks p)
