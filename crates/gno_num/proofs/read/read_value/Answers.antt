use Rattle.std.proofs.Common.{◌∙◌}
use Rattle.gno_num.proofs.PrintedLemmas.{value_read-long, value_read-number, value_read-none}
use Rattle.gno_num.proofs.read.read_value.Goals as goal

pub returns-clause-too_long : goal.returns-clause-too_long
returns-clause-too_long c = rw c.value_at.ensures (value_read-long c.args.token.now)

pub returns-clause-number : goal.returns-clause-number
returns-clause-number c =
    λ n short h. c.value_at.ensures ∙ value_read-number c.args.token.now n short h

pub returns-clause-not_a_number : goal.returns-clause-not_a_number
returns-clause-not_a_number c =
    λ short none. c.value_at.ensures ∙ value_read-none c.args.token.now short none
