use Rattle.std.proofs.Common.{arith}
use Rattle.front.proofs.Backs.{all_counted, all_turned}
use Rattle.front.proofs.back.give_back.Goals as goal

pub returns-clause-all : goal.returns-clause-all
returns-clause-all g c = all_turned c.args.a c.args.b c.args.disks.items c.put_sacks.new.disks.items c.put_disk.new.disks.items c.put_disk-2.new.disks.items c.reverse.new.self.items c.args.sacks.items
    c.put_sacks.ensures.put c.put_disk.ensures.put c.put_disk-2.ensures.put c.reverse.ensures.items

pub returns-clause-count : goal.returns-clause-count
returns-clause-count g c =
    all_counted c.args.disks.items c.put_sacks.new.disks.items c.put_disk.new.disks.items c.put_disk-2.new.disks.items c.reverse.new.self.items c.args.a c.args.b c.args.sacks.items
    (let more = c.put_sacks.ensures.more in
    let now = c.put_sacks.new.disks.ok.0 in
    let before = c.args.disks.ok.0 in
    let many = c.args.sacks.ok.0 in
    omega (arith, more, now, before, many)) c.put_disk.ensures.put c.put_disk-2.ensures.put c.reverse.ensures.items
