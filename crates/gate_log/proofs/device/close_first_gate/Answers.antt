use Rattle.std.proofs.Common.{◌≡◌, ◌⊎◌, List, ℕ, length, slice_index, inl, refl, subst, IfSome, rules}
use Rattle.gno_disk.specs.Disk.{Torn}
use Rattle.gate_log.specs.Steps.{OldOrNone}
use Rattle.gate_log.proofs.Bytes.{torn_first_gate}
use Rattle.gate_log.proofs.Moments.{leaves_then, untouched_leaves, told_equal}
use Rattle.gate_log.proofs.device.close_first_gate.Goals as goal

pub returns-clause-any_moment : goal.returns-clause-any_moment
returns-clause-any_moment g c =
    let first = untouched_leaves g.D.Disk g.met.D.Disk.only_now _ _ OldOrNone c.lacks_closed_gate.ensures.untouched c.requires (λ b. inl refl) in
    let gate : IfSome (g.D.Disk.told c.args.disk.now) (λ bytes. (length bytes ≡ 0) ⊎ (slice_index bytes 0 ≡ 1)) = search rules in
    leaves_then g.D.Disk g.met.D.Disk.only_now _ _ _ (λ old new. new ≡ old) (Torn 0 1) OldOrNone (λ bytes. (length bytes ≡ 0) ⊎ (slice_index bytes 0 ≡ 1)) gate first (told_equal _ _ c.lacks_closed_gate.ensures.untouched.same_bytes)
    (λ b d image h same torn. torn_first_gate b image h (subst (λ (x : List ℕ). Torn 0 1 x image) same torn)) c.write_through.ensures.any_moment

pub returns-clause-came : goal.returns-clause-came
returns-clause-came g c =
    g.met.D.Disk.came_then 0 2 _ _ _ c.lacks_closed_gate.ensures.came c.write_through.ensures.came
