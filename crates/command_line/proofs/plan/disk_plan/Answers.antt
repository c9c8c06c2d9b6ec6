use Rattle.std.proofs.lemmas.Result.{err_from_is_err_and}
use Rattle.command_line.specs.Setting.{texts}
use Rattle.command_line.proofs.PlanLemmas.{no_plan, one_plan, unplanned}
use Rattle.command_line.proofs.plan.disk_plan.Goals as goal

pub returns-in_err-command-clause-only : goal.returns-in_err-command-clause-only
returns-in_err-command-clause-only c plan has =
    let p = err_from_is_err_and c.from_residual.result c.from_residual.ensures.1 in
    rw (p.1, p.2) (no_plan (texts c.args.words.now) c.in_err-command.field-0.0 c.in_err-command.ensures.only plan has)

pub returns-in_err-command-clause-usage : goal.returns-in_err-command-clause-usage
returns-in_err-command-clause-usage c =
    let p = err_from_is_err_and c.from_residual.result c.from_residual.ensures.1 in
    rw (p.1, p.2) (unplanned (texts c.args.words.now) c.in_err-command.field-0.0 c.in_err-command.ensures.usage)

pub returns-clause-only : goal.returns-clause-only
returns-clause-only c plan has =
    one_plan (texts c.args.words.now) c.in_ok-command.command c.in_ok-plan.field-0 plan c.in_ok-command.ensures.ok c.in_ok-plan.ensures has
