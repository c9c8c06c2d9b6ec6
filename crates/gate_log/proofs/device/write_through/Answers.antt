use Rattle.std.proofs.Common.{◌≡◌, length, arith, rules}
use Rattle.gno_disk.specs.Disk.{Overwrites, Torn, Told}
use Rattle.gate_log.proofs.Bytes.{Torn-itself, Torn-overwritten}
use Rattle.gate_log.proofs.Moments.{change_leaves, sync_leaves, told_step}
use Rattle.gate_log.proofs.device.write_through.Goals as goal

pub returns-in_err-write_at-clause-any_moment : goal.returns-in_err-write_at-clause-any_moment
returns-in_err-write_at-clause-any_moment g c =
    change_leaves g.D.Disk g.met.D.Disk.only_now _ _ (Torn c.args.at (length c.args.bytes.now)) c.requires.durable (Torn-itself _ _) c.write_at.ensures.crash c.write_at.ensures.time

pub returns-clause-any_moment : goal.returns-clause-any_moment
returns-clause-any_moment g c =
    sync_leaves g.D.Disk g.met.D.Disk.only_now _ _ _ (Torn c.args.at (length c.args.bytes.now)) c.requires.durable (Torn-itself _ _) c.write_at.ensures.crash c.write_at.ensures.time c.sync.ensures.crash c.sync.ensures.time

pub returns-clause-part : goal.returns-clause-part
returns-clause-part g c =
    let over : Told (Overwrites c.args.at c.args.bytes.now) (g.D.Disk.told c.args.disk.now) (g.D.Disk.told c.sync.new.self) = search rules in
    let inside = c.requires.inside in
    told_step _ _ (Overwrites c.args.at c.args.bytes.now) (Torn c.args.at (length c.args.bytes.now)) (λ bytes. length bytes ≡ g.D.Disk.size c.args.disk.now) (g.met.D.Disk.whole c.args.disk.now) over
    (λ old new long o. Torn-overwritten c.args.at c.args.bytes.now old new (omega (arith, inside, long)) o)

pub returns-clause-came : goal.returns-clause-came
returns-clause-came g c =
    g.met.D.Disk.came_then 1 1 _ _ _ c.write_at.ensures.came c.sync.ensures.came
