use Rattle.std.proofs.Common.{◌≡◌, true}
use Rattle.command_line.specs.Flag.{has_value}
use Rattle.command_line.specs.Setting.{is_value, texts}
use Rattle.command_line.proofs.SpellingLemmas.{joined_first}
use Rattle.command_line.proofs.setting.with_value.Goals as goal

pub returns-then-is_value-clause-some : goal.returns-then-is_value-clause-some
returns-then-is_value-clause-some c =
    let takes : has_value c.args.flag ≡ true = cc in
    let good : is_value c.args.value.now ≡ true = cc in
    joined_first c.args.flag c.args.value.now (texts c.args.behind.now) takes good
