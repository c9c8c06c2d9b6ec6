use Rattle.std.proofs.Common.{◌-◌}
use Rattle.front.proofs.opening.+make_sacks.Given as goal

abbrev pub decreases-make_sacks : goal.decreases-make_sacks
decreases-make_sacks g l = l.sacks - l.sack
