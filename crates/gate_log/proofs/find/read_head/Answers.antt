use Rattle.std.proofs.Common.{◌≡◌, ◌<◌, ◌≤◌, ℕ, length, IfSome, sym, subst, rules}
use Rattle.gate_log.specs.Scan.{IsPieceOf, ReachesHead}
use Rattle.gate_log.proofs.PieceLemmas.{found_record, found_closed, found_cut}
use Rattle.gate_log.proofs.find.read_head.Goals as goal

pub returns-clause-open : goal.returns-clause-open
returns-clause-open g c =
    found_record (g.D.Disk.told c.args.disk.now) c.args.size (subst (λ (n : ℕ). IfSome (g.D.Disk.told c.args.disk.now) (λ bytes. length bytes ≡ n)) (sym c.requires.all) (g.met.D.Disk.whole c.args.disk.now)) c.reach.new.self c.args.gate
    (let p : IsPieceOf c.args.size (g.D.Disk.told c.args.disk.now) c.reach.new.self = search rules in p) (let b : c.reach.new.self.at ≤ c.args.gate = search rules in b) (let i : c.args.gate < c.args.size = search rules in i)
    (let r : ReachesHead c.args.size c.reach.new.self c.args.gate = search rules in r) c.head_at.result c.head_at.ensures.at c.head_at.ensures.len c.head_at.ensures.open

pub returns-clause-closed : goal.returns-clause-closed
returns-clause-closed g c =
    found_closed (g.D.Disk.told c.args.disk.now) c.args.size (subst (λ (n : ℕ). IfSome (g.D.Disk.told c.args.disk.now) (λ bytes. length bytes ≡ n)) (sym c.requires.all) (g.met.D.Disk.whole c.args.disk.now)) c.reach.new.self c.args.gate
    (let p : IsPieceOf c.args.size (g.D.Disk.told c.args.disk.now) c.reach.new.self = search rules in p) (let b : c.reach.new.self.at ≤ c.args.gate = search rules in b) (let i : c.args.gate < c.args.size = search rules in i)
    (let r : ReachesHead c.args.size c.reach.new.self c.args.gate = search rules in r) c.head_at.result c.head_at.ensures.closed

pub returns-clause-cut_short : goal.returns-clause-cut_short
returns-clause-cut_short g c =
    found_cut (g.D.Disk.told c.args.disk.now) c.args.size (subst (λ (n : ℕ). IfSome (g.D.Disk.told c.args.disk.now) (λ bytes. length bytes ≡ n)) (sym c.requires.all) (g.met.D.Disk.whole c.args.disk.now)) c.reach.new.self c.args.gate
    (let p : IsPieceOf c.args.size (g.D.Disk.told c.args.disk.now) c.reach.new.self = search rules in p) (let b : c.reach.new.self.at ≤ c.args.gate = search rules in b) (let i : c.args.gate < c.args.size = search rules in i)
    (let r : ReachesHead c.args.size c.reach.new.self c.args.gate = search rules in r) c.head_at.result c.head_at.ensures.cut_short
