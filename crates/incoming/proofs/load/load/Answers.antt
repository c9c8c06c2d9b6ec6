use Rattle.std.proofs.Common.{◌≡◌, ◌+◌, ◌≤◌, length, take, refl, sym, ap, subst, ◌∙◌, arith}
use Rattle.std.specs.Option.{IfSome}
use Rattle.gate_log.specs.LogView.{MatchMountFault}
use Rattle.gate_log.specs.declared.fault.MountFault.TheVariants.{DiskFault, Damaged, Memory}
use Rattle.log_pair.specs.PairView.{both_faults}
use Rattle.incoming.specs.Contents.{AreOf}
use Rattle.incoming.proofs.ReadLemmas.{later, read_none, read_then, since_fault}
use Rattle.incoming.proofs.Taken.{odd_moved}
use Rattle.incoming.proofs.Views.{all_taken, none_yet}
use Rattle.incoming.proofs.load.load.Goals as goal

pub loop-index-init : goal.loop-index-init
loop-index-init g c = record {
  reads = read_none g.D.Disk g.met.D.Disk.came_none g.met.D.Disk.only_now c.args.pair.now;
  whole = c.requires;
  kept = c.empty-contents.ensures.kept;
  counted = omega (arith, c.empty-contents.ensures.next.0, ap length c.empty-contents.ensures.none);
  are = none_yet c.empty-contents.result c.args.pair.now.records c.empty-contents.ensures.are;
}

pub load_one-requires : goal.load_one-requires
load_one-requires g c =
    let inv = c.loop-index.invariant in
    record {
      known = omega (arith, inv.reads.count, c.count-count.ensures.value);
      whole = inv.whole;
      kept = inv.kept;
      counted = sym inv.counted;
      are = subst (λ o. IfSome o (λ rs. AreOf c.loop-index.contents (take c.loop-index.index rs))) (sym inv.reads.records) inv.are;
    }

pub loop-index-preserved : goal.loop-index-preserved
loop-index-preserved g c =
    let inv = c.loop-index.invariant in
    record {
      reads = read_then g.D.Disk g.met.D.Disk.came_then g.met.D.Disk.came_goes_on c.args.pair.now c.loop-index.pair c.load_one.new.pair inv.reads c.load_one.ensures.reads;
      whole = c.in-Ok.ensures.whole;
      kept = c.load_one.ensures.kept;
      counted = c.in-Ok.ensures.counted;
      are = subst (λ o. IfSome o (λ rs. AreOf c.load_one.new.contents (take (c.loop-index.index + 1) rs))) inv.reads.records c.in-Ok.ensures.are;
    }

pub returns-in-Err-clause-reads : goal.returns-in-Err-clause-reads
returns-in-Err-clause-reads g c =
    read_then g.D.Disk g.met.D.Disk.came_then g.met.D.Disk.came_goes_on c.args.pair.now c.loop-index.pair c.load_one.new.pair c.loop-index.invariant.reads c.load_one.ensures.reads

pub returns-in-Err-clause-cause : goal.returns-in-Err-clause-cause
returns-in-Err-clause-cause g c =
    let old = c.args.pair.now in
    let mid = c.loop-index.pair in
    let read = c.loop-index.invariant.reads in
    let e = c.in-Err.fault in
    let r = c.since.result in
    let is = subst (λ n. MatchMountFault e (λ f. r ≡ DiskFault (record { before = n; after = f.after })) (λ d. r ≡ Damaged d) (r ≡ Memory)) c.faults-before.ensures c.since.ensures in
    since_fault e r (both_faults g.D.Disk old.first old.second) (both_faults g.D.Disk mid.first mid.second) _ _ _ _ _ _ (later g.D.Disk g.met.D.Disk.came_later old mid read)
    (λ d odd. odd_moved old mid d read.records read.place read.epoch read.on_second odd) (λ u. u) c.in-Err.ensures.cause is

pub returns-clause-are : goal.returns-clause-are
returns-clause-are g c =
    let inv = c.loop-index.invariant in
    all_taken c.loop-index.contents c.args.pair.now.records c.loop-index.index
    (let end : c.loop-index.index ≡ c.count-count.result = omega arith in subst (λ n. IfSome c.args.pair.now.records (λ rs. length rs ≡ n)) (sym end) c.count-count.ensures.told) inv.are
