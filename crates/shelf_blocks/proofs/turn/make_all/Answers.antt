use Rattle.std.proofs.Common.{◌≡◌, ◌*◌, ℕ, All, IfSome, length, sym, ap, subst, ◌∙◌, arith}
use Rattle.std.specs.Bool.{⊤}
use Rattle.gno_num.specs.Faults.{Rose-from}
use Rattle.block_slots.proofs.Reading.{read_none, read_then}
use Rattle.shelf_blocks.specs.Turns.{AreMade, AreWithin, IsDamagedSplitOf}
use Rattle.shelf_blocks.proofs.MakeLemmas.{fault_weaker, none_yet}
use Rattle.shelf_blocks.proofs.turn.make_all.Goals as goal

pub loop-definition-init : goal.loop-definition-init
loop-definition-init g c = record {
  count = (let none = ap length c.in-Ok.ensures.items in omega (arith, none));
  made = subst (AreMade (g.D.Disk.told c.args.disk.now) c.args.filed.now c.args.prepared.now) (sym c.in-Ok.ensures.items) (none_yet (g.D.Disk.told c.args.disk.now) c.args.filed.now c.args.prepared.now);
  reads = read_none g.D.Disk g.met.D.Disk.came_none g.met.D.Disk.only_now c.args.disk.now;
}

pub make_kinds-requires-clause-within : goal.make_kinds-requires-clause-within
make_kinds-requires-clause-within g c = subst (λ (n : ℕ). All (AreWithin n) c.args.filed.now.kept) (sym c.loop-definition.invariant.reads.size) c.requires.within

pub make_kinds-requires-clause-count : goal.make_kinds-requires-clause-count
make_kinds-requires-clause-count g c = c.loop-definition.invariant.count

pub make_kinds-requires-clause-made : goal.make_kinds-requires-clause-made
make_kinds-requires-clause-made g c =
    subst (λ t. AreMade t c.args.filed.now c.args.prepared.now c.loop-definition.all.items) (sym c.loop-definition.invariant.reads.told) c.loop-definition.invariant.made

pub returns-in-Err-clause-reads : goal.returns-in-Err-clause-reads
returns-in-Err-clause-reads g c = read_then g.D.Disk g.met.D.Disk.came_then g.met.D.Disk.came_goes_on _ _ _ c.loop-definition.invariant.reads c.make_kinds.ensures.reads

pub returns-in-Err-clause-cause : goal.returns-in-Err-clause-cause
returns-in-Err-clause-cause g c =
    let m = c.args.filed.now in
    let reads = c.loop-definition.invariant.reads in
    fault_weaker c.in-Err.fault ⊤ (λ at. IfSome (g.D.Disk.told c.loop-definition.disk) (λ z. IsDamagedSplitOf z m at)) (λ at. IfSome (g.D.Disk.told c.args.disk.now) (λ z. IsDamagedSplitOf z m at))
    (λ rose. Rose-from _ (g.met.D.Disk.came_later 0 _ _ reads.came) rose)
    (λ at damaged. subst (λ t. IfSome t (λ z. IsDamagedSplitOf z m at)) reads.told damaged)
    c.in-Err.ensures.cause

pub loop-definition-preserved : goal.loop-definition-preserved
loop-definition-preserved g c =
    let inv = c.loop-definition.invariant in
    record {
      count = c.in-Ok-make_kinds.ensures.count;
      made = subst (λ t. AreMade t c.args.filed.now c.args.prepared.now c.make_kinds.new.all.items) inv.reads.told c.in-Ok-make_kinds.ensures.made;
      reads = read_then g.D.Disk g.met.D.Disk.came_then g.met.D.Disk.came_goes_on _ _ _ inv.reads c.make_kinds.ensures.reads;
    }

pub returns-clause-count : goal.returns-clause-count
returns-clause-count g c =
    let end = c.loop-definition-test.false in
    let upto = c.loop-definition.auto.definition-end in
    let definitions : length c.definitions-definitions.result.now ≡ length c.args.filed.now.policy.definitions = ap length (c.definitions-definitions.ensures.value ∙ ap (λ q. q.definitions) c.policy.ensures) in
    let all : c.loop-definition.definition ≡ length c.args.filed.now.policy.definitions = omega (arith, end, upto, definitions) in
    c.loop-definition.invariant.count ∙ ap (λ (n : ℕ). n * length c.args.filed.now.policy.kinds) all

pub returns-clause-made : goal.returns-clause-made
returns-clause-made g c = c.loop-definition.invariant.made

pub returns-clause-reads : goal.returns-clause-reads
returns-clause-reads g c = c.loop-definition.invariant.reads
