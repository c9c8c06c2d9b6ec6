use Rattle.std.proofs.Common.{◌++◌, ◌+◌, ◌-◌, ◌<◌, sym, ap, ◌∙◌, append_assoc, arith}
use Rattle.command_line.specs.Plan.{sack_disks}
use Rattle.command_line.proofs.DiskLemmas.{one_sack}
use Rattle.command_line.proofs.plan.store_disks.Goals as goal

pub loop-sack-preserved : goal.loop-sack-preserved
loop-sack-preserved c =
    let front = c.args.front.now in
    let sack = c.loop-sack.sack in
    let sacks = c.args.sacks in
    let names = c.loop-sack.names.items in
    let rest = sack_disks front (sack + 1) (sacks - (sack + 1)) in
    let below : sack < sacks = omega arith in
    ap (λ xs. xs ++ rest) c.in_ok-push_sack.ensures ∙ append_assoc names _ rest
    ∙ ap (λ xs. names ++ xs) (sym (one_sack front sack sacks below)) ∙ c.loop-sack.invariant
