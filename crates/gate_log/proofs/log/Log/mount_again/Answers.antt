use Rattle.std.proofs.Common.{◌≡◌, ℕ, List, Option, Some, IfSome, refl, sym, subst, arith}
use Rattle.std.specs.Prelude.{option_map}
use Rattle.gate_log.specs.Records.{Holds}
use Rattle.gate_log.specs.Places.{bodies_at, AreWritten, IsClosed}
use Rattle.gate_log.proofs.LogLemmas.{told_durable, told_exact, told_holds}
use Rattle.gate_log.proofs.log.Log.mount_again.Goals as goal

pub returns-in-Ok-clause-held : goal.returns-in-Ok-clause-held
returns-in-Ok-clause-held g c =
    let found = c.in-Ok.ensures in
    let places = c.find_records.new.places.items in
    let old = c.self.inside.disk in
    subst (λ v. IfSome (g.D.Disk.told v.disk) (λ bytes. IfSome (option_map (bodies_at places) (g.D.Disk.told c.find_records.new.disk)) (Holds bytes))) c.self.view_is
    (subst (λ (t : Option (List ℕ)). IfSome (g.D.Disk.told old) (λ bytes. IfSome (option_map (bodies_at places) t) (Holds bytes))) (sym c.find_records.ensures.untouched.same_bytes)
    (told_holds places c.in-Ok.end found.places (g.D.Disk.size old) (g.D.Disk.told old) (g.met.D.Disk.whole old) found.inside found.written found.closed))

pub returns-in-Ok-clause-durable : goal.returns-in-Ok-clause-durable
returns-in-Ok-clause-durable g c =
    let found = c.in-Ok.ensures in
    let places = c.find_records.new.places.items in
    let new = c.find_records.new.disk in
    let same = c.find_records.ensures.untouched in
    let long = same.same_size in
    let inside = found.inside in
    told_durable places c.in-Ok.end (g.D.Disk.size new) found.places (omega (arith, inside, long)) (g.D.Disk.told new) _ (g.D.Disk.may_leave new) refl (g.met.D.Disk.whole new)
    (subst (λ (t : Option (List ℕ)). IfSome t (AreWritten places c.in-Ok.end)) (sym same.same_bytes) found.written)
    (subst (λ (t : Option (List ℕ)). IfSome t (IsClosed c.in-Ok.end)) (sym same.same_bytes) found.closed) found.durable

pub returns-in-Ok-clause-exact : goal.returns-in-Ok-clause-exact
returns-in-Ok-clause-exact g c =
    let found = c.in-Ok.ensures in
    let places = c.find_records.new.places.items in
    let old = c.self.inside.disk in
    subst (λ v. IfSome (g.D.Disk.told v.disk) (λ bytes. (records : List (List ℕ)) → Holds bytes records → option_map (bodies_at places) (g.D.Disk.told c.find_records.new.disk) ≡ Some records)) c.self.view_is
    (subst (λ (t : Option (List ℕ)). IfSome (g.D.Disk.told old) (λ bytes. (records : List (List ℕ)) → Holds bytes records → option_map (bodies_at places) t ≡ Some records)) (sym c.find_records.ensures.untouched.same_bytes)
    (told_exact places c.in-Ok.end found.places (g.D.Disk.size old) (g.D.Disk.told old) (g.met.D.Disk.whole old) found.size_limit found.inside found.written found.closed))
