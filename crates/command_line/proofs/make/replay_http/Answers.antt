use Rattle.std.proofs.lemmas.Result.{err_from_is_err_and}
use Rattle.command_line.specs.declared.command.Command.TheVariants.{ReplayHttp}
use Rattle.command_line.specs.declared.verb.Verb.TheVariants as verbs
use Rattle.command_line.specs.Command.{command_from, of_three}
use Rattle.command_line.specs.Given.{home_in, number_in, sacks_in}
use Rattle.command_line.specs.Make.{site}
use Rattle.command_line.specs.Setting.{settings_of}
use Rattle.command_line.proofs.MakeLemmas.{failed, site_none, site_some}
use Rattle.command_line.proofs.make.replay_http.Goals as goal

pub returns-in_err-home : goal.returns-in_err-home
returns-in_err-home c =
    let s = settings_of c.args.chosen.now in
    let p = err_from_is_err_and c.from_residual.result c.from_residual.ensures.1 in
    rw (p.1, p.2) (failed (of_three site (home_in s) (sacks_in s) (number_in s)) (command_from verbs.ReplayHttp s) c.in_err-home.field-0.0 (site_none ReplayHttp (home_in s) (sacks_in s) (number_in s)) c.in_err-home.ensures)

pub returns : goal.returns
returns c =
    let s = settings_of c.args.chosen.now in
    site_some ReplayHttp (home_in s) (sacks_in s) (number_in s) _ c.in_ok-home.ensures
