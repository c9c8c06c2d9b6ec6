use Rattle.std.proofs.Common.{sym, ◌≡◌, ◌∙◌, ◌<◌, ◌-◌, List, ℕ, Option, get_or, subst, ap, length, take, IfSome, rules, arith}
use Rattle.gate_log.specs.LogView.{LogView}
use Rattle.gate_log.specs.Records.{log_bytes}
use Rattle.gate_log.proofs.PlaceLemmas.{Spans-above, told_gate}
use Rattle.gate_log.proofs.log.Log.place_of.Goals as goal

pub overflow_sub-result : goal.overflow_sub-result
overflow_sub-result g c =
    let l = c.self.inside in
    let known : c.args.index < length l.places.items = search rules in
    let place_is : c.index.result.now ≡ get_or l.places.items c.args.index c.index.result.now = search rules in
    let above = Spans-above l.places.items 0 l.end c.args.index c.index.result.now c.self.invariant.places known in
    rw place_is (omega (arith, above))

pub returns : goal.returns
returns g c =
    let l = c.self.inside in
    let known : c.args.index < length l.places.items = search rules in
    let place_is : c.index.result.now ≡ get_or l.places.items c.args.index c.index.result.now = search rules in
    let room = c.self.invariant.room (ap (λ (v : LogView _). v.broken) c.self.view_is ∙ c.requires.whole) in
    let is = told_gate l.places.items l.end (g.D.Disk.size l.disk) c.args.index c.index.result.now (g.D.Disk.told l.disk) c.self.invariant.places (g.met.D.Disk.whole l.disk) room known in
    let here : IfSome c.args.self.now.records (λ records. (get_or l.places.items c.args.index c.index.result.now).at - 9 ≡ length (log_bytes (take c.args.index records))) =
    subst (λ (records : Option (List (List ℕ))). IfSome records (λ rs. (get_or l.places.items c.args.index c.index.result.now).at - 9 ≡ length (log_bytes (take c.args.index rs)))) (ap (λ (v : LogView _). v.records) c.self.view_is) is in
    record { place = rw (sym place_is) at here }
