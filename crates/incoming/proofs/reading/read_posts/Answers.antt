use Rattle.std.proofs.Common.{◌≡◌, ◌+◌, ◌-◌, ◌≤◌, [], ◌∷◌, ◌++◌, ℕ, List, map, take, get_or, length, refl, sym, ap, subst, ◌∙◌, arith, rules}
use Rattle.std.specs.Option.{IfSome}
use Rattle.series_model.specs.declared.measure.Measure.{Measure}
use Rattle.gate_log.specs.LogView.{MatchMountFault}
use Rattle.gate_log.specs.declared.fault.MountFault.TheVariants.{DiskFault, Damaged, Memory}
use Rattle.log_pair.specs.PairView.{both_faults}
use Rattle.incoming.specs.Lists.{number_at}
use Rattle.incoming.specs.Posts.{Post}
use Rattle.incoming.specs.Reading.{IsFoundIn, answer_at}
use Rattle.incoming.proofs.Places.{numbers_more, told_all, told_more}
use Rattle.incoming.proofs.ReadLemmas.{later, read_then, since_fault}
use Rattle.incoming.proofs.reading.read_posts.Goals as goal

pub loop-at-preserved : goal.loop-at-preserved
loop-at-preserved g c =
    let inv = c.loop-at.invariant in
    let i = c.loop-at.at-index in
    let places = c.args.places.now in
    let records = c.args.pair.now.records in
    let here = subst (λ o. IfSome o (λ rs. (posts : List Post) → IsFoundIn rs c.args.first c.args.marks.now posts → c.in-Ok.post ≡ answer_at posts (get_or places i 0))) inv.reads.records c.in-Ok.ensures.found in
    let items = c.push_reserved.ensures.items in
    record {
      reads = read_then g.D.Disk g.met.D.Disk.came_then g.met.D.Disk.came_goes_on c.args.pair.now c.loop-at.pair c.read_at.new.pair inv.reads c.read_at.ensures.reads;
      whole = c.in-Ok.ensures.whole;
      room = omega (arith, inv.room, c.push_reserved.ensures.len, c.push_reserved.ensures.capacity);
      numbers = ap (map (λ (p : ℕ × List Measure). p.0)) items ∙ numbers_more c.args.marks.now places i c.loop-at.found.items c.in-Ok.post (omega arith) inv.numbers c.in-Ok.ensures.number;
      found = subst (λ (l : List (ℕ × List Measure)). IfSome records (λ rs. (posts : List Post) → IsFoundIn rs c.args.first c.args.marks.now posts → l ≡ map (answer_at posts) (take (i + 1) places))) (sym items)
          (told_more records c.args.first c.args.marks.now places i c.loop-at.found.items c.in-Ok.post (omega arith) inv.found here);
    }

pub returns-in-Err-clause-reads : goal.returns-in-Err-clause-reads
returns-in-Err-clause-reads g c =
    read_then g.D.Disk g.met.D.Disk.came_then g.met.D.Disk.came_goes_on c.args.pair.now c.loop-at.pair c.read_at.new.pair c.loop-at.invariant.reads c.read_at.ensures.reads

pub returns-in-Err-clause-cause : goal.returns-in-Err-clause-cause
returns-in-Err-clause-cause g c =
    let old = c.args.pair.now in
    let mid = c.loop-at.pair in
    let read = c.loop-at.invariant.reads in
    let e = c.in-Err.fault in
    let r = c.since.result in
    let is = subst (λ n. MatchMountFault e (λ f. r ≡ DiskFault (record { before = n; after = f.after })) (λ d. r ≡ Damaged d) (r ≡ Memory)) c.faults-before.ensures c.since.ensures in
    since_fault e r (both_faults g.D.Disk old.first old.second) (both_faults g.D.Disk mid.first mid.second) _ _ _ _ _ _ (later g.D.Disk g.met.D.Disk.came_later old mid read)
    (λ d bad. (bad.0, bad.1, subst (λ o. IfSome o (λ rs. (posts : List Post) → IsFoundIn rs c.args.first c.args.marks.now posts → ⊥)) read.records bad.2)) (λ u. u) c.in-Err.ensures.cause is

pub returns-clause-found : goal.returns-clause-found
returns-clause-found g c =
    told_all c.args.pair.now.records c.args.first c.args.marks.now c.args.places.now c.loop-at.at-index c.loop-at.found.items (omega arith) c.loop-at.invariant.found
