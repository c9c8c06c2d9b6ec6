use Rattle.std.proofs.Common.{◌≡◌, ◌+◌, length, inl, inr, arith, rules}
use Rattle.gno_disk.specs.Disk.{Overwrites, Torn, Told}
use Rattle.gate_log.specs.Steps.{PartOf}
use Rattle.gate_log.proofs.Bytes.{torn_gate}
use Rattle.gate_log.proofs.Moments.{leaves_then, leaves_weaker, told_step, told_steps}
use Rattle.gate_log.proofs.device.write_record.Goals as goal

pub returns-in_err-write_through-clause-any_moment : goal.returns-in_err-write_through-clause-any_moment
returns-in_err-write_through-clause-any_moment g c =
    leaves_weaker g.D.Disk g.met.D.Disk.only_now _ _ (Torn (c.args.gate + 1) (length c.args.frame.now)) (PartOf c.args.gate c.args.frame.now) (λ bytes. length bytes ≡ g.D.Disk.size c.args.disk.now) (g.met.D.Disk.whole c.args.disk.now)
    (λ b image h torn. inl torn.before) c.write_through.ensures.any_moment

pub returns-clause-any_moment : goal.returns-clause-any_moment
returns-clause-any_moment g c =
    let first = leaves_weaker g.D.Disk g.met.D.Disk.only_now _ _ (Torn (c.args.gate + 1) (length c.args.frame.now)) (PartOf c.args.gate c.args.frame.now) (λ bytes. length bytes ≡ g.D.Disk.size c.args.disk.now) (g.met.D.Disk.whole c.args.disk.now)
    (λ b image h torn. inl torn.before) c.write_through.ensures.any_moment in
    let over : Told (Overwrites (c.args.gate + 1) c.args.frame.now) (g.D.Disk.told c.args.disk.now) (g.D.Disk.told c.write_through.new.disk) = search rules in
    leaves_then g.D.Disk g.met.D.Disk.only_now _ _ _ (Overwrites (c.args.gate + 1) c.args.frame.now) (Torn c.args.gate 1) (PartOf c.args.gate c.args.frame.now) (λ bytes. length bytes ≡ g.D.Disk.size c.args.disk.now) (g.met.D.Disk.whole c.args.disk.now)
    first over (λ b d image h o torn. inr (torn_gate c.args.gate c.args.frame.now b d image (let i = c.requires.inside in omega (arith, h)) o torn)) c.write_through-2.ensures.any_moment

pub returns-in_err-write_through-clause-part : goal.returns-in_err-write_through-clause-part
returns-in_err-write_through-clause-part g c =
    told_step _ _ (Torn (c.args.gate + 1) (length c.args.frame.now)) (PartOf c.args.gate c.args.frame.now) (λ bytes. length bytes ≡ g.D.Disk.size c.args.disk.now) (g.met.D.Disk.whole c.args.disk.now) c.write_through.ensures.part
    (λ old new long torn. inl torn.before)

pub returns-clause-part : goal.returns-clause-part
returns-clause-part g c =
    let over : Told (Overwrites (c.args.gate + 1) c.args.frame.now) (g.D.Disk.told c.args.disk.now) (g.D.Disk.told c.write_through.new.disk) = search rules in
    told_steps _ _ _ (Overwrites (c.args.gate + 1) c.args.frame.now) (Torn c.args.gate 1) (PartOf c.args.gate c.args.frame.now) (λ bytes. length bytes ≡ g.D.Disk.size c.args.disk.now) (g.met.D.Disk.whole c.args.disk.now) over c.write_through-2.ensures.part
    (λ old mid new long o torn. inr (torn_gate c.args.gate c.args.frame.now old mid new (let i = c.requires.inside in omega (arith, long)) o torn))

pub returns-clause-came : goal.returns-clause-came
returns-clause-came g c =
    g.met.D.Disk.came_then 2 2 _ _ _ c.write_through.ensures.came c.write_through-2.ensures.came
