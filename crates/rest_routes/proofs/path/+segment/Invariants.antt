use Rattle.rest_routes.proofs.path.+segment.Given as goal

abbrev pub decreases-segment : goal.decreases-segment
decreases-segment l = l.number
