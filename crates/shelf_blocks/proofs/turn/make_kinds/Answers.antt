use Rattle.std.proofs.Common.{rules, ◌≡◌, ◌++◌, ◌∷◌, [], ℕ, List, All, IfSome, length, sym, ap, subst, ◌∙◌, arith, length-append}
use Rattle.std.proofs.Math.Nat.{add-mul}
use Rattle.std.specs.Bool.{⊤}
use Rattle.gno_num.specs.Faults.{Rose-from}
use Rattle.block_slots.proofs.Reading.{read_none, read_then}
use Rattle.shelf_blocks.specs.declared.turn.Made.{Made}
use Rattle.shelf_blocks.specs.Turns.{AreMade, AreWithin, IsDamagedSplitOf, IsMadeAt}
use Rattle.shelf_blocks.proofs.MakeLemmas.{fault_weaker, made_more}
use Rattle.shelf_blocks.proofs.turn.make_kinds.Goals as goal

pub loop-kind-init : goal.loop-kind-init
loop-kind-init g c = record {
  count = (let e = c.requires.count in omega (arith, e));
  made = c.requires.made;
  reads = read_none g.D.Disk g.met.D.Disk.came_none g.met.D.Disk.only_now c.args.disk.now;
}

pub make_one-requires-clause-within : goal.make_one-requires-clause-within
make_one-requires-clause-within g c = subst (λ (n : ℕ). All (AreWithin n) c.args.filed.now.kept) (sym c.loop-kind.invariant.reads.size) c.requires.within

pub make_one-requires-clause-place : goal.make_one-requires-clause-place
make_one-requires-clause-place g c =
    let long : c.len.result ≡ length c.loop-kind.all.items = search rules in
    long ∙ c.loop-kind.invariant.count

pub returns-in-Err-clause-reads : goal.returns-in-Err-clause-reads
returns-in-Err-clause-reads g c = read_then g.D.Disk g.met.D.Disk.came_then g.met.D.Disk.came_goes_on _ _ _ c.loop-kind.invariant.reads c.make_one.ensures.reads

pub returns-in-Err-clause-cause : goal.returns-in-Err-clause-cause
returns-in-Err-clause-cause g c =
    let m = c.args.filed.now in
    let reads = c.loop-kind.invariant.reads in
    fault_weaker c.in-Err.fault ⊤ (λ at. IfSome (g.D.Disk.told c.loop-kind.disk) (λ z. IsDamagedSplitOf z m at)) (λ at. IfSome (g.D.Disk.told c.args.disk.now) (λ z. IsDamagedSplitOf z m at))
    (λ rose. Rose-from _ (g.met.D.Disk.came_later 0 _ _ reads.came) rose)
    (λ at damaged. subst (λ t. IfSome t (λ z. IsDamagedSplitOf z m at)) reads.told damaged)
    c.in-Err.ensures.cause

pub returns-then-is_err-clause-reads : goal.returns-then-is_err-clause-reads
returns-then-is_err-clause-reads g c = read_then g.D.Disk g.met.D.Disk.came_then g.met.D.Disk.came_goes_on _ _ _ c.loop-kind.invariant.reads c.make_one.ensures.reads

pub loop-kind-preserved : goal.loop-kind-preserved
loop-kind-preserved g c =
    let m = c.args.filed.now in
    let p = c.args.prepared.now in
    let inv = c.loop-kind.invariant in
    let told = g.D.Disk.told c.args.disk.now in
    let made = c.in-Ok.made in
    let pushed : c.push.new.self.items ≡ c.loop-kind.all.items ++ made ∷ [] = search rules in
    let long : c.len.result ≡ length c.loop-kind.all.items = search rules in
    let next = subst (λ (n : ℕ). IsMadeAt told m p n made) long (subst (λ t. IsMadeAt t m p c.len.result made) inv.reads.told c.in-Ok.ensures.made) in
    record {
      count = (let n = inv.count in omega (arith, ap length pushed, length-append c.loop-kind.all.items (made ∷ []), n));
      made = subst (λ (l : List Made). AreMade told m p l) (sym pushed) (made_more told m p c.loop-kind.all.items made inv.made next);
      reads = read_then g.D.Disk g.met.D.Disk.came_then g.met.D.Disk.came_goes_on _ _ _ inv.reads c.make_one.ensures.reads;
    }

pub returns-clause-count : goal.returns-clause-count
returns-clause-count g c =
    let n = c.loop-kind.invariant.count in
    let end = c.loop-kind-test.false in
    let upto = c.loop-kind.auto.kind-end in
    let kinds : length c.kinds-kinds.result.now ≡ length c.args.filed.now.policy.kinds = ap length (c.kinds-kinds.ensures.value ∙ ap (λ q. q.kinds) c.policy.ensures) in
    omega (arith, n, end, upto, kinds, add-mul c.args.definition 1 (length c.args.filed.now.policy.kinds))

pub returns-clause-made : goal.returns-clause-made
returns-clause-made g c = c.loop-kind.invariant.made

pub returns-clause-reads : goal.returns-clause-reads
returns-clause-reads g c = c.loop-kind.invariant.reads
