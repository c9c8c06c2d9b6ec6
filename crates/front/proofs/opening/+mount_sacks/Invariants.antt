use Rattle.std.proofs.Common.{◌-◌}
use Rattle.front.proofs.opening.+mount_sacks.Given as goal

abbrev pub decreases-mount_sacks : goal.decreases-mount_sacks
decreases-mount_sacks g l = l.sacks - l.sack
