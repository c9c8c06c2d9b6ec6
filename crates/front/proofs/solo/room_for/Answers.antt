use Rattle.front.proofs.solo.room_for.Goals as goal

pub returns-clause-unclaimed : goal.returns-clause-unclaimed
returns-clause-unclaimed g c = c.in_ok-last_claims.ensures.items_if_clones_equal (λ y is. is)
