use Rattle.std.proofs.Common.{sym, ◌∙◌}
use Rattle.rest_script.proofs.ScriptLaws.{not_unfinished, same_lines}
use Rattle.rest_script.proofs.laws.one_list_of_lines.Goals as goal

pub returns-clause-finished : goal.returns-clause-finished
returns-clause-finished c = λ bytes one other a u. not_unfinished one other u.rest a.each u.each u.more u.no_feed (sym a.whole ∙ u.whole)

pub returns-clause-one : goal.returns-clause-one
returns-clause-one c = λ bytes one other a b. same_lines one other a.each b.each (sym a.whole ∙ b.whole)
