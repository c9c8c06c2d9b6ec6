use Rattle.std.specs.Prelude.{option_map}
use Rattle.gate_log.specs.Places.{bodies_at}
use Rattle.std.proofs.Common.{sym, ◌≡◌, ◌∙◌, ◌<◌, List, ℕ, Option, Some, get_or, slice_get, subst, ap, length, IfSome, rules, arith, vec_len, take, drop}
use Rattle.gno_disk.specs.Moments.{LeavesOnly}
use Rattle.gno_disk.proofs.Moments.{LeavesOnly-start, LeavesOnly-weaker}
use Rattle.gate_log.specs.LogView.{LogView, IsOfRecords}
use Rattle.gate_log.proofs.PlaceLemmas.{Spans-get_or}
use Rattle.gno_disk.proofs.Moments.{leaves_now}
use Rattle.gate_log.proofs.LogLemmas.{read_record, log_durable, log_stands, view_durable}
use Rattle.gate_log.proofs.log.Log.read.Goals as goal

pub read_body-requires : goal.read_body-requires
read_body-requires g c =
    let l = c.self.inside in
    let known : c.args.index < length l.places.items = search rules in
    let within = Spans-get_or l.places.items 0 l.end c.args.index c.index-place.result.now c.self.invariant.places known in
    let room = c.self.invariant.room (ap (λ (v : LogView _). v.broken) c.self.view_is ∙ c.requires.whole) in
    let long : vec_len c.in_ok-body.body ≡ c.index-place.result.now.len = search rules in
    let place_is : c.index-place.result.now ≡ get_or l.places.items c.args.index c.index-place.result.now = search rules in
    rw long (rw place_is (omega (arith, within, room)))

pub returns-clause-record_asked : goal.returns-clause-record_asked
returns-clause-record_asked g c =
    let l = c.self.inside in
    let known : c.args.index < length l.places.items = search rules in
    let place_is : c.index-place.result.now ≡ get_or l.places.items c.args.index c.index-place.result.now = search rules in
    let long : vec_len c.in_ok-body.body ≡ c.index-place.result.now.len = search rules in
    let read : IfSome (g.D.Disk.told l.disk) (λ bytes. c.read_body.new.body.items ≡ take (vec_len c.in_ok-body.body) (drop c.index-place.result.now.at bytes)) = search rules in
    let body_is : IfSome (g.D.Disk.told l.disk) (λ bytes. c.read_body.new.body.items ≡ take c.index-place.result.now.len (drop c.index-place.result.now.at bytes)) = rw long at read in
    subst (λ (records : Option (List (List ℕ))). IfSome records (λ rs. slice_get rs c.args.index ≡ Some c.read_body.new.body.items)) (ap (λ (v : LogView _). v.records) c.self.view_is)
    (read_record l.places.items c.args.index _ (g.D.Disk.told l.disk) _ known place_is body_is)

pub returns-then-is_err-clause-any_moment : goal.returns-then-is_err-clause-any_moment
returns-then-is_err-clause-any_moment g c =
    let l = c.self.inside in
    subst (λ (d : _). LeavesOnly g.D.Disk d c.read_body.new.disk (IsOfRecords c.args.self.now.records)) (ap (λ (v : LogView _). v.disk) c.self.view_is)
    (LeavesOnly-weaker g.D.Disk l.disk c.read_body.new.disk (g.D.Disk.may_leave l.disk) (IsOfRecords c.args.self.now.records)
    (log_durable g.D.Disk l c.args.self.now c.self.view_is c.self.invariant (g.met.D.Disk.whole l.disk) c.requires.whole) c.read_body.ensures.untouched.leaves)

pub returns-clause-any_moment : goal.returns-clause-any_moment
returns-clause-any_moment g c =
    let l = c.self.inside in
    subst (λ (d : _). LeavesOnly g.D.Disk d c.read_body.new.disk (IsOfRecords c.args.self.now.records)) (ap (λ (v : LogView _). v.disk) c.self.view_is)
    (LeavesOnly-weaker g.D.Disk l.disk c.read_body.new.disk (g.D.Disk.may_leave l.disk) (IsOfRecords c.args.self.now.records)
    (log_durable g.D.Disk l c.args.self.now c.self.view_is c.self.invariant (g.met.D.Disk.whole l.disk) c.requires.whole) c.read_body.ensures.untouched.leaves)

pub returns-in_err-body-clause-any_moment : goal.returns-in_err-body-clause-any_moment
returns-in_err-body-clause-any_moment g c =
    let v = c.args.self.now in
    LeavesOnly-start g.D.Disk v.disk (IsOfRecords v.records)
    (λ image left. view_durable g.D.Disk c.self.inside v c.self.view_is c.self.invariant (g.met.D.Disk.whole c.self.inside.disk) c.requires.whole image (g.met.D.Disk.only_now v.disk image left))

pub returns-clause-durable : goal.returns-clause-durable
returns-clause-durable g c = λ image left.
    let l = c.self.inside in
    let same = c.read_body.ensures.untouched in
    let has = log_durable g.D.Disk l c.args.self.now c.self.view_is c.self.invariant (g.met.D.Disk.whole l.disk) c.requires.whole image (same.no_more image left) in
    subst (λ (t : Option (List ℕ)). IsOfRecords (option_map (bodies_at l.places.items) t) image) (sym same.same_bytes)
    (subst (λ (rs : Option (List (List ℕ))). IsOfRecords rs image) (sym (ap (λ (v : LogView _). v.records) c.self.view_is)) has)

pub returns-then-is_err-clause-left : goal.returns-then-is_err-clause-left
returns-then-is_err-clause-left g c =
    leaves_now g.D.Disk c.args.self.now.disk c.read_body.new.disk (IsOfRecords c.args.self.now.records) g.met.D.Disk.counts_now (returns-then-is_err-clause-any_moment g c)

pub returns-then-is_err-clause-stands : goal.returns-then-is_err-clause-stands
returns-then-is_err-clause-stands g c =
    let l = c.self.inside in
    let has = log_stands g.D.Disk l c.args.self.now c.self.view_is c.self.invariant (g.met.D.Disk.whole l.disk) c.requires.whole in
    subst (λ (t : Option (List ℕ)). IfSome t (IsOfRecords c.args.self.now.records)) (sym c.read_body.ensures.untouched.same_bytes) has

pub returns-clause-left : goal.returns-clause-left
returns-clause-left g c =
    leaves_now g.D.Disk c.args.self.now.disk c.read_body.new.disk (IsOfRecords c.args.self.now.records) g.met.D.Disk.counts_now (returns-clause-any_moment g c)

pub returns-clause-stands : goal.returns-clause-stands
returns-clause-stands g c =
    let l = c.self.inside in
    let has = log_stands g.D.Disk l c.args.self.now c.self.view_is c.self.invariant (g.met.D.Disk.whole l.disk) c.requires.whole in
    subst (λ (t : Option (List ℕ)). IfSome t (IsOfRecords c.args.self.now.records)) (sym c.read_body.ensures.untouched.same_bytes) has

pub returns-in_err-body-clause-left : goal.returns-in_err-body-clause-left
returns-in_err-body-clause-left g c =
    leaves_now g.D.Disk c.args.self.now.disk c.args.self.now.disk (IsOfRecords c.args.self.now.records) g.met.D.Disk.counts_now (returns-in_err-body-clause-any_moment g c)

pub returns-in_err-body-clause-stands : goal.returns-in_err-body-clause-stands
returns-in_err-body-clause-stands g c =
    let l = c.self.inside in
    let has = log_stands g.D.Disk l c.args.self.now c.self.view_is c.self.invariant (g.met.D.Disk.whole l.disk) c.requires.whole in
    subst (λ (d : _). IfSome (g.D.Disk.told d) (IsOfRecords c.args.self.now.records)) (ap (λ (v : LogView _). v.disk) c.self.view_is) has
