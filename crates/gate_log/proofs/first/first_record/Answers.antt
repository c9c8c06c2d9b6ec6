use Rattle.std.proofs.Common.{◌≡◌, ◌+◌, ◌<◌, take, drop, IfSome, subst, List, ℕ, Option, rules, vec_len}
use Rattle.gate_log.specs.Scan.{IsRecordAt}
use Rattle.gate_log.proofs.FindLemmas.{told_first}
use Rattle.gate_log.proofs.first.first_record.Goals as goal

pub returns-clause-found : goal.returns-clause-found
returns-clause-found g c =
    let old = c.args.disk.now in
    let place = c.in-Ok-Some.place in
    let at : place.at ≡ 9 = search rules in
    let fits : place.at + place.len < g.D.Disk.size old = search rules in
    let is : IfSome (g.D.Disk.told old) (IsRecordAt 0 place) = search rules in
    let long : vec_len c.in_ok-body.body ≡ place.len = search rules in
    let read : IfSome (g.D.Disk.told c.first_place.new.disk) (λ bytes. c.read_body.new.body.items ≡ take (vec_len c.in_ok-body.body) (drop place.at bytes)) = search rules in
    let body_is : IfSome (g.D.Disk.told c.first_place.new.disk) (λ bytes. c.read_body.new.body.items ≡ take place.len (drop place.at bytes)) = rw long at read in
    told_first (g.D.Disk.told old) (g.D.Disk.size old) (g.met.D.Disk.whole old) place c.read_body.new.body.items at fits is
    (subst (λ (t : Option (List ℕ)). IfSome t (λ bytes. c.read_body.new.body.items ≡ take place.len (drop place.at bytes))) c.first_place.ensures.untouched.same_bytes body_is)
