use Rattle.std.proofs.Common.{◌≡◌, take}
use Rattle.std.specs.Option.{option_map, option_to_list}
use Rattle.command_line.specs.Given.{given_for}
use Rattle.command_line.specs.Setting.{settings_of}
use Rattle.command_line.proofs.given.given_for.Given as goal

-- the value of the settings so far
abbrev pub invariant-loop-setting : goal.invariant-loop-setting
invariant-loop-setting l = given_for l.flag (settings_of (take l.setting-index l.chosen)) ≡ option_to_list (option_map (λ v. v.now) l.value)
