use Rattle.std.proofs.Common.{◌≡◌, ◌+◌, ◌≤◌, length, take, sym, ap, ◌∙◌, arith}
use Rattle.command_line.specs.Given.{given_for}
use Rattle.command_line.specs.Setting.{settings_of}
use Rattle.command_line.proofs.GivenLemmas.{more_given, one_value}
use Rattle.command_line.proofs.given.given_for.Goals as goal

pub returns-then-is_some-clause-twice : goal.returns-then-is_some-clause-twice
returns-then-is_some-clause-twice c =
    let flag = c.args.flag in
    let chosen = c.args.chosen.now in
    let i = c.loop-setting.setting-index in
    let before = given_for flag (settings_of (take i chosen)) in
    let one : length before ≡ 1 = ap length c.loop-setting.invariant ∙ one_value c.loop-setting.value (sym c.is_some.ensures ∙ c.if-is_some.true) in
    let more : length before + 1 ≤ length (given_for flag (settings_of chosen)) = more_given flag chosen i _ (omega arith) (sym c.is_flag.ensures ∙ c.if-is_flag.true) in
    omega (arith, one, more)
