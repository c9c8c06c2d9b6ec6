use Rattle.std.proofs.Common.{◌≡◌, ◌++◌, map, take}
use Rattle.command_line.specs.Plan.{sack_disk}
use Rattle.command_line.proofs.plan.push_sack.Given as goal

-- the disks of the kinds so far
abbrev pub invariant-loop-kind : goal.invariant-loop-kind
invariant-loop-kind l = l.names.items ≡ l.fn.names.items ++ map (λ kind. sack_disk l.front l.sack kind.now) (take l.kind-index l.kind-items)
