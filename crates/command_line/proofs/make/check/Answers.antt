use Rattle.std.proofs.Common.{sym, ◌∙◌}
use Rattle.std.proofs.lemmas.Result.{err_from_is_err_and}
use Rattle.command_line.specs.declared.command.Command.TheVariants.{Check}
use Rattle.command_line.specs.declared.verb.Verb.TheVariants as verbs
use Rattle.command_line.specs.Command.{command_from}
use Rattle.command_line.specs.Given.{folder_in, sacks_in}
use Rattle.command_line.specs.Setting.{settings_of}
use Rattle.command_line.proofs.MakeLemmas.{failed, two_first, two_second, two_both}
use Rattle.command_line.proofs.make.check.Goals as goal

pub returns-in_err-folder : goal.returns-in_err-folder
returns-in_err-folder c =
    let s = settings_of c.args.chosen.now in
    let p = err_from_is_err_and c.from_residual.result c.from_residual.ensures.1 in
    rw (p.1, p.2) (failed (folder_in s) (command_from verbs.Check s) c.in_err-folder.field-0.0 (two_first Check (folder_in s) (sacks_in s)) c.in_err-folder.ensures)

pub returns-in_default : goal.returns-in_default
returns-in_default c =
    let s = settings_of c.args.chosen.now in
    two_second Check (folder_in s) (sacks_in s) (sym c.sacks_in.ensures ∙ c.in_default.is)

pub returns : goal.returns
returns c =
    let s = settings_of c.args.chosen.now in
    two_both Check (folder_in s) (sacks_in s) c.in_ok-folder.folder c.in-Some.sacks c.in_ok-folder.ensures (sym c.sacks_in.ensures ∙ c.in-Some.is)
