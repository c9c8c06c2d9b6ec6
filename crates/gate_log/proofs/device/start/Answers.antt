use Rattle.std.proofs.Common.{◌≡◌, length, inl, inr, ⊎_elim, rules}
use Rattle.gno_disk.specs.Disk.{Told}
use Rattle.gate_log.specs.Steps.{IsReady, OldOrNone, OldOrNoneOr, PartOf, IsRemade}
use Rattle.gate_log.proofs.Bytes.{first_part}
use Rattle.gate_log.proofs.Moments.{on_ok, remade_then, remade_or_still_weaker}
use Rattle.gate_log.proofs.device.start.Goals as goal

pub returns-in_err-make_ready-clause-any_moment : goal.returns-in_err-make_ready-clause-any_moment
returns-in_err-make_ready-clause-any_moment g c =
    remade_or_still_weaker g.D.Disk g.met.D.Disk.only_now _ _ OldOrNone (OldOrNoneOr c.args.frame.now) (λ b image has. inl has) c.make_ready.ensures.any_moment

pub returns-clause-remade : goal.returns-clause-remade
returns-clause-remade g c =
    let remade : IsRemade g.D.Disk OldOrNone c.args.disk.now c.make_ready.new.disk = search rules in
    let over : Told (λ _ new. IsReady new) (g.D.Disk.told c.args.disk.now) (g.D.Disk.told c.make_ready.new.disk) = search rules in
    on_ok _ (remade_then g.D.Disk g.met.D.Disk.only_now _ _ _ (λ _ new. IsReady new) OldOrNone (PartOf 0 c.args.frame.now) (OldOrNoneOr c.args.frame.now) (λ bytes. length bytes ≡ g.D.Disk.size c.args.disk.now) (g.met.D.Disk.whole c.args.disk.now) remade over
    (λ b image has. inl has) (λ b d image h ready part. ⊎_elim (λ none. inl (inr none)) (λ is. inr is) (first_part c.args.frame.now d image ready part)) c.write_record.ensures.any_moment)

pub returns-clause-any_moment : goal.returns-clause-any_moment
returns-clause-any_moment g c =
    let remade : IsRemade g.D.Disk OldOrNone c.args.disk.now c.make_ready.new.disk = search rules in
    let over : Told (λ _ new. IsReady new) (g.D.Disk.told c.args.disk.now) (g.D.Disk.told c.make_ready.new.disk) = search rules in
    inr (remade_then g.D.Disk g.met.D.Disk.only_now _ _ _ (λ _ new. IsReady new) OldOrNone (PartOf 0 c.args.frame.now) (OldOrNoneOr c.args.frame.now) (λ bytes. length bytes ≡ g.D.Disk.size c.args.disk.now) (g.met.D.Disk.whole c.args.disk.now) remade over
    (λ b image has. inl has) (λ b d image h ready part. ⊎_elim (λ none. inl (inr none)) (λ is. inr is) (first_part c.args.frame.now d image ready part)) c.write_record.ensures.any_moment)

pub returns-clause-came : goal.returns-clause-came
returns-clause-came g c = g.met.D.Disk.came_then 5 4 _ _ _ c.make_ready.ensures.came c.write_record.ensures.came
