use Rattle.std.proofs.Common.{◌≡◌, ◌++◌, ◌-◌}
use Rattle.command_line.specs.Plan.{sack_disks, store_disks}
use Rattle.command_line.proofs.plan.store_disks.Given as goal

-- the disks so far, and those of the sacks that are left
abbrev pub invariant-loop-sack : goal.invariant-loop-sack
invariant-loop-sack l = l.names.items ++ sack_disks l.front l.sack (l.sacks - l.sack) ≡ store_disks l.front l.sacks
