use Rattle.rest_api.proofs.measures.post_of.Goals as goal

pub returns-in-Some-clause-does : goal.returns-in-Some-clause-does
returns-in-Some-clause-does g c = rw c.in-Some.is c.post_to.ensures.does
