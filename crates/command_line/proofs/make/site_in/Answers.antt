use Rattle.std.proofs.Common.{sym, ◌∙◌}
use Rattle.std.proofs.lemmas.Result.{err_from_is_err_and}
use Rattle.command_line.specs.Command.{of_three}
use Rattle.command_line.specs.Given.{home_in, number_in, sacks_in}
use Rattle.command_line.specs.Make.{site}
use Rattle.command_line.specs.Setting.{settings_of}
use Rattle.command_line.proofs.MakeLemmas.{failed, three_first, three_second, three_third, three_all}
use Rattle.command_line.proofs.make.site_in.Goals as goal

pub returns-in_err-home : goal.returns-in_err-home
returns-in_err-home c =
    let s = settings_of c.args.chosen.now in
    let p = err_from_is_err_and c.from_residual.result c.from_residual.ensures.1 in
    rw (p.1, p.2) (failed (home_in s) (of_three site (home_in s) (sacks_in s) (number_in s)) c.in_err-home.field-0.0 (three_first site (home_in s) (sacks_in s) (number_in s)) c.in_err-home.ensures)

pub returns-in_default : goal.returns-in_default
returns-in_default c =
    let s = settings_of c.args.chosen.now in
    three_second site (home_in s) (sacks_in s) (number_in s) (sym c.sacks_in.ensures ∙ c.in_default.is)

pub returns-in_default-number_in : goal.returns-in_default-number_in
returns-in_default-number_in c =
    let s = settings_of c.args.chosen.now in
    three_third site (home_in s) (sacks_in s) (number_in s) (sym c.number_in.ensures ∙ c.in_default-number_in.is)

pub returns : goal.returns
returns c =
    let s = settings_of c.args.chosen.now in
    three_all site (home_in s) (sacks_in s) (number_in s) c.in_ok-home.home c.in-Some.sacks c.in-Some-number_in.number
    c.in_ok-home.ensures (sym c.sacks_in.ensures ∙ c.in-Some.is) (sym c.number_in.ensures ∙ c.in-Some-number_in.is)
