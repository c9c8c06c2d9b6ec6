use Rattle.std.proofs.Common.{inl, inr}
use Rattle.gate_log.specs.Steps.{OldOrNone}
use Rattle.gate_log.proofs.Moments.{on_ok, remade_from}
use Rattle.gate_log.proofs.device.make_ready.Goals as goal

pub returns-in_err-sync_all-clause-any_moment : goal.returns-in_err-sync_all-clause-any_moment
returns-in_err-sync_all-clause-any_moment g c = inl c.sync_all.ensures.untouched.leaves

pub returns-clause-any_moment : goal.returns-clause-any_moment
returns-clause-any_moment g c = inr (remade_from g.D.Disk g.met.D.Disk.only_now _ _ _ OldOrNone c.sync_all.ensures.untouched c.leave_one_gate.ensures.any_moment)

pub returns-clause-remade : goal.returns-clause-remade
returns-clause-remade g c = on_ok _ (remade_from g.D.Disk g.met.D.Disk.only_now _ _ _ OldOrNone c.sync_all.ensures.untouched c.leave_one_gate.ensures.any_moment)

pub returns-clause-came : goal.returns-clause-came
returns-clause-came g c = g.met.D.Disk.came_then 1 4 _ _ _ c.sync_all.ensures.came c.leave_one_gate.ensures.came
