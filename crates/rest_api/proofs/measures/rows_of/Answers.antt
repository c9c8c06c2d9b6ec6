use Rattle.rest_api.proofs.measures.rows_of.Goals as goal

pub returns-in-Some-clause-does : goal.returns-in-Some-clause-does
returns-in-Some-clause-does g c = rw c.in-Some.is c.read_rows.ensures.does
