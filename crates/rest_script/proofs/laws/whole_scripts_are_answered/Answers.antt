use Rattle.rest_script.proofs.ScriptLaws.{ended_whole, ends_refused, ends_whole}
use Rattle.rest_script.proofs.laws.whole_scripts_are_answered.Goals as goal

pub returns-clause-complete : goal.returns-clause-complete
returns-clause-complete g c = λ old new input lines left taken_before taken_after end. ends_whole g.F.Histories.stands old new input left taken_before taken_after lines end

pub returns-clause-refused : goal.returns-clause-refused
returns-clause-refused g c = λ old new input lines left taken_before taken_after end. ends_refused g.F.Histories.stands old new input left taken_before taken_after lines end

pub returns-clause-ended : goal.returns-clause-ended
returns-clause-ended g c = λ old new input left taken_before taken_after. ended_whole g.F.Histories.stands old new input left taken_before taken_after
