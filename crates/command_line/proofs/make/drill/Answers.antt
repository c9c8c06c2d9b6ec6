use Rattle.std.proofs.Common.{sym, ◌∙◌}
use Rattle.command_line.specs.declared.command.Command.TheVariants.{Drill}
use Rattle.command_line.specs.Given.{seed_in, count_in}
use Rattle.command_line.specs.Setting.{settings_of}
use Rattle.command_line.proofs.MakeLemmas.{two_first, two_second, two_both}
use Rattle.command_line.proofs.make.drill.Goals as goal

pub returns-in_default : goal.returns-in_default
returns-in_default c =
    let s = settings_of c.args.chosen.now in
    two_first Drill (seed_in s) (count_in s) (sym c.seed_in.ensures ∙ c.in_default.is)

pub returns-in_default-count_in : goal.returns-in_default-count_in
returns-in_default-count_in c =
    let s = settings_of c.args.chosen.now in
    two_second Drill (seed_in s) (count_in s) (sym c.count_in.ensures ∙ c.in_default-count_in.is)

pub returns : goal.returns
returns c =
    let s = settings_of c.args.chosen.now in
    two_both Drill (seed_in s) (count_in s) c.in-Some.seed c.in-Some-count_in.count (sym c.seed_in.ensures ∙ c.in-Some.is) (sym c.count_in.ensures ∙ c.in-Some-count_in.is)
