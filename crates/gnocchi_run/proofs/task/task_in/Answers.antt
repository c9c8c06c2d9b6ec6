use Rattle.std.proofs.Common.{◌≡◌, Err, ap}
use Rattle.std.proofs.lemmas.Result.{IfOk-weaker}
use Rattle.command_line.specs.declared.fault.PlanFault.TheVariants.{Usage}
use Rattle.command_line.specs.Setting.{texts}
use Rattle.gnocchi_run.proofs.TaskLemmas.{few_sacks, is_task, no_task, only_task}
use Rattle.gnocchi_run.proofs.task.task_in.Goals as goal

pub returns-in-Ok-clause-ok : goal.returns-in-Ok-clause-ok
returns-in-Ok-clause-ok c =
    IfOk-weaker c.task_by.result _ _
    (λ task does disks planned. is_task (texts c.args.words.now) c.in-Ok.command c.in-Ok.ensures.ok c.five_disks_a_sack.ensures task disks does planned)
    c.task_by.ensures.ok

pub returns-in-Ok-clause-only : goal.returns-in-Ok-clause-only
returns-in-Ok-clause-only c =
    IfOk-weaker c.task_by.result _ _
    (λ task does disks other is. only_task (texts c.args.words.now) c.in-Ok.command c.in-Ok.ensures.ok c.five_disks_a_sack.ensures c.in-Ok.ensures.only task does disks other is)
    c.task_by.ensures.ok

pub returns-in-Ok-clause-few : goal.returns-in-Ok-clause-few
returns-in-Ok-clause-few c =
    IfOk-weaker c.task_by.result _ _
    (λ task does. few_sacks c.numbers_are_decimals.ensures (texts c.args.words.now) c.in-Ok.command task c.in-Ok.ensures.ok does)
    c.task_by.ensures.ok

pub returns-in-Ok-clause-usage : goal.returns-in-Ok-clause-usage
returns-in-Ok-clause-usage c is disks task =
    no_task (texts c.args.words.now) c.in-Ok.command c.in-Ok.ensures.ok c.in-Ok.ensures.only (c.task_by.ensures.none is) disks task

pub returns-in-Err-clause-usage : goal.returns-in-Err-clause-usage
returns-in-Err-clause-usage c is disks task of =
    let same : c.in-Err.fault ≡ Usage = cc in
    c.in-Err.ensures.usage (ap Err same) of.command of.is_command
