use Rattle.std.proofs.Common.{◌≡◌, ◌⊎◌, inr, ◌+◌, [], length, take, sym, subst, arith}
use Rattle.std.specs.Option.{IfSome}
use Rattle.std.proofs.lemmas.Option.{IfSome_then}
use Rattle.gate_log.specs.LogView.{MatchMountFault}
use Rattle.gate_log.specs.declared.fault.MountFault.TheVariants.{DiskFault, Damaged, Memory}
use Rattle.log_pair.specs.PairView.{both_faults}
use Rattle.metric_index.specs.Catalog.{maps_in}
use Rattle.metric_index.specs.IndexLog.{IsIndexLog}
use Rattle.metric_index.specs.Reading.{IsOddOf}
use Rattle.metric_index.proofs.LoadLemmas.{all_taken, odd_moved}
use Rattle.metric_index.proofs.ReadLemmas.{later, read_then, since_fault}
use Rattle.metric_index.proofs.load.load.Goals as goal

pub returns-in-Err-load_one-clause-reads : goal.returns-in-Err-load_one-clause-reads
returns-in-Err-load_one-clause-reads g c =
    read_then g.D.Disk g.met.D.Disk.came_then g.met.D.Disk.came_goes_on c.args.pair.now c.loop-index.pair c.load_one.new.pair c.loop-index.invariant.reads c.load_one.ensures.reads

pub returns-in-Err-load_one-clause-cause : goal.returns-in-Err-load_one-clause-cause
returns-in-Err-load_one-clause-cause g c =
    let old = c.args.pair.now in
    let mid = c.loop-index.pair in
    let read = c.loop-index.invariant.reads in
    let e = c.in-Err-load_one.fault in
    let r = c.since-in-Err-load_one.result in
    let is = subst (λ n. MatchMountFault e (λ f. r ≡ DiskFault (record { before = n; after = f.after })) (λ d. r ≡ Damaged d) (r ≡ Memory)) c.faults-before.ensures c.since-in-Err-load_one.ensures in
    since_fault e r (both_faults g.D.Disk old.first old.second) (both_faults g.D.Disk mid.first mid.second) _ _ (λ d. IfSome old.records (λ records. (records ≡ [] × d.disk ≡ 0 × d.at ≡ 0) ⊎ IsOddOf old records d)) _ _ (later g.D.Disk g.met.D.Disk.came_later old mid read)
    (λ d odd. IfSome_then old.records (odd_moved old mid d read.records read.place read.epoch read.on_second odd) (λ rs o. inr o)) (λ u. u) c.in-Err-load_one.ensures.cause is

pub loop-index-preserved : goal.loop-index-preserved
loop-index-preserved g c =
    let inv = c.loop-index.invariant in
    record {
      reads = read_then g.D.Disk g.met.D.Disk.came_then g.met.D.Disk.came_goes_on c.args.pair.now c.loop-index.pair c.load_one.new.pair inv.reads c.load_one.ensures.reads;
      whole = c.in-Ok-load_one.ensures.whole;
      kept = c.load_one.ensures.kept;
      are = subst (λ o. IfSome o (λ rs. IsIndexLog (take (c.loop-index.index + 1) rs) (maps_in c.load_one.new.catalog))) inv.reads.records c.in-Ok-load_one.ensures.are;
    }

pub returns-clause-are : goal.returns-clause-are
returns-clause-are g c =
    let inv = c.loop-index.invariant in
    all_taken (maps_in c.loop-index.catalog) c.args.pair.now.records c.loop-index.index
    (let end : c.loop-index.index ≡ c.count-count.result = omega arith in subst (λ n. IfSome c.args.pair.now.records (λ rs. length rs ≡ n)) (sym end) c.count-count.ensures.told) inv.are
