use Rattle.std.proofs.Common.{◌≡◌, length, inr, rules}
use Rattle.gno_disk.specs.Disk.{LooseCut, Told}
use Rattle.gate_log.specs.Steps.{IsShut, OldOrNone}
use Rattle.gate_log.proofs.Bytes.{cut_none}
use Rattle.gate_log.proofs.Moments.{leaves_then}
use Rattle.gate_log.proofs.device.leave_one_gate.Goals as goal

pub returns-in_err-cut_through-clause-any_moment : goal.returns-in_err-cut_through-clause-any_moment
returns-in_err-cut_through-clause-any_moment g c =
    let over : Told (λ _ new. IsShut new) (g.D.Disk.told c.args.disk.now) (g.D.Disk.told c.close_first_gate.new.disk) = search rules in
    leaves_then g.D.Disk g.met.D.Disk.only_now _ _ _ (λ _ new. IsShut new) (LooseCut 1) OldOrNone (λ bytes. length bytes ≡ g.D.Disk.size c.args.disk.now) (g.met.D.Disk.whole c.args.disk.now)
    c.close_first_gate.ensures.any_moment over (λ b d image h closed cut. inr (cut_none d image closed cut)) c.cut_through.ensures.any_moment

pub returns-in_ok-cut_through-clause-any_moment : goal.returns-in_ok-cut_through-clause-any_moment
returns-in_ok-cut_through-clause-any_moment g c =
    let over : Told (λ _ new. IsShut new) (g.D.Disk.told c.args.disk.now) (g.D.Disk.told c.close_first_gate.new.disk) = search rules in
    leaves_then g.D.Disk g.met.D.Disk.only_now _ _ _ (λ _ new. IsShut new) (LooseCut 1) OldOrNone (λ bytes. length bytes ≡ g.D.Disk.size c.args.disk.now) (g.met.D.Disk.whole c.args.disk.now)
    c.close_first_gate.ensures.any_moment over (λ b d image h closed cut. inr (cut_none d image closed cut)) c.cut_through.ensures.any_moment

pub returns-in_err-cut_through-clause-came : goal.returns-in_err-cut_through-clause-came
returns-in_err-cut_through-clause-came g c =
    g.met.D.Disk.came_then 2 2 _ _ _ c.close_first_gate.ensures.came c.cut_through.ensures.came

pub returns-in_ok-cut_through-clause-came : goal.returns-in_ok-cut_through-clause-came
returns-in_ok-cut_through-clause-came g c =
    g.met.D.Disk.came_then 2 2 _ _ _ c.close_first_gate.ensures.came c.cut_through.ensures.came
