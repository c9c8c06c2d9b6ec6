use Rattle.std.proofs.Common.{sym, ◌∙◌}
use Rattle.command_line.specs.declared.command.Command.TheVariants.{Load}
use Rattle.command_line.specs.Given.{seed_in, count_in, sacks_in}
use Rattle.command_line.specs.Setting.{settings_of}
use Rattle.command_line.proofs.MakeLemmas.{three_first, three_second, three_third, three_all}
use Rattle.command_line.proofs.make.load.Goals as goal

pub returns-in_default : goal.returns-in_default
returns-in_default c =
    let s = settings_of c.args.chosen.now in
    three_first Load (seed_in s) (count_in s) (sacks_in s) (sym c.seed_in.ensures ∙ c.in_default.is)

pub returns-in_default-count_in : goal.returns-in_default-count_in
returns-in_default-count_in c =
    let s = settings_of c.args.chosen.now in
    three_second Load (seed_in s) (count_in s) (sacks_in s) (sym c.count_in.ensures ∙ c.in_default-count_in.is)

pub returns-in_default-sacks_in : goal.returns-in_default-sacks_in
returns-in_default-sacks_in c =
    let s = settings_of c.args.chosen.now in
    three_third Load (seed_in s) (count_in s) (sacks_in s) (sym c.sacks_in.ensures ∙ c.in_default-sacks_in.is)

pub returns : goal.returns
returns c =
    let s = settings_of c.args.chosen.now in
    three_all Load (seed_in s) (count_in s) (sacks_in s) c.in-Some.seed c.in-Some-count_in.count c.in-Some-sacks_in.sacks
    (sym c.seed_in.ensures ∙ c.in-Some.is) (sym c.count_in.ensures ∙ c.in-Some-count_in.is) (sym c.sacks_in.ensures ∙ c.in-Some-sacks_in.is)
