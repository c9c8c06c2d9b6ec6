use Rattle.std.proofs.Common.{◌∙◌}
use Rattle.gno_num.proofs.GrammarLemmas.{number_complete, found_in_grammar}
use Rattle.gno_num.proofs.number.read_number.Goals as goal

pub returns-clause-found : goal.returns-clause-found
returns-clause-found c = found_in_grammar c.args.text.now c.pieces_of.result c.pieces_of.ensures

pub returns-clause-only : goal.returns-clause-only
returns-clause-only c = λ n h. c.pieces_of.ensures ∙ number_complete c.args.text.now n h
