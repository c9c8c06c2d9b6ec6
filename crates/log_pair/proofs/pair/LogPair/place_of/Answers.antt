use Rattle.std.proofs.Common.{◌≡◌, ◌-◌, ◌<◌, subst, length, take, suc, rules, arith}
use Rattle.std.specs.Option.{IfSome}
use Rattle.gate_log.specs.Records.{log_bytes}
use Rattle.log_pair.specs.Pair.{place_behind}
use Rattle.log_pair.specs.PairView.{PairView}
use Rattle.log_pair.proofs.Mounted.{placed_behind}
use Rattle.log_pair.proofs.pair.LogPair.place_of.Goals as goal

pub returns-clause-at : goal.returns-clause-at
returns-clause-at g c =
    let p = c.self.inside in
    let i = c.self.invariant in
    let last = c.count-last.result - 1 in
    let known : c.args.index < last = search rules in
    let index_is : last - (last - c.args.index - 1) ≡ suc c.args.index = omega (arith, known) in
    let got : IfSome p.log.records (λ records. c.place_of.result ≡ length (log_bytes (take (last - (last - c.args.index - 1)) records))) = search rules in
    let here : IfSome p.log.records (λ records. c.place_of.result ≡ length (log_bytes (take (suc c.args.index) records))) = subst (λ n. IfSome p.log.records (λ records. c.place_of.result ≡ length (log_bytes (take n records)))) index_is got in
    subst (λ (v : PairView _). IfSome v.records (λ records. c.place_of.result ≡ place_behind v.place v.epoch (take c.args.index records))) c.self.view_is
    (placed_behind p.place p.epoch (g.D.Disk.told p.other) p.log.records c.args.index c.place_of.result i.header here)
