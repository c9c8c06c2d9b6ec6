use Rattle.std.proofs.Common.{length}
use Rattle.command_line.specs.Setting.{settings_of, texts}
use Rattle.command_line.proofs.SpellingLemmas.{IsFront}
use Rattle.command_line.proofs.setting.read_settings.Given as goal

-- the words that are left stand behind those that spell what was chosen
abbrev pub invariant-loop-left : goal.invariant-loop-left
invariant-loop-left l = IsFront (settings_of l.chosen.items) (texts l.words) (texts l.left)

abbrev pub decreases-loop-left : goal.decreases-loop-left
decreases-loop-left l = length l.left
