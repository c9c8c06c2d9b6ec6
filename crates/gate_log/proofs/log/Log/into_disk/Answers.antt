use Rattle.std.proofs.Common.{◌∙◌, List, ℕ, Option, subst, ap, IfSome}
use Rattle.gate_log.specs.LogView.{LogView}
use Rattle.gate_log.specs.Records.{Begins, Holds}
use Rattle.gate_log.proofs.LogLemmas.{told_begins, told_holds}
use Rattle.gate_log.proofs.log.Log.into_disk.Goals as goal

pub returns-clause-held : goal.returns-clause-held
returns-clause-held g c = λ whole.
    let l = c.self.inside in
    let sound = ap (λ (v : LogView _). v.broken) c.self.view_is ∙ whole in
    let held = told_holds l.places.items l.end c.self.invariant.places _ (g.D.Disk.told l.disk) (g.met.D.Disk.whole l.disk) (c.self.invariant.room sound) c.self.invariant.written (c.self.invariant.closed sound) in
    subst (λ (records : Option (List (List ℕ))). IfSome (g.D.Disk.told l.disk) (λ bytes. IfSome records (Holds bytes))) (ap (λ (v : LogView _). v.records) c.self.view_is) held

pub returns-clause-begins : goal.returns-clause-begins
returns-clause-begins g c =
    let l = c.self.inside in
    subst (λ (records : Option (List (List ℕ))). IfSome (g.D.Disk.told l.disk) (λ bytes. IfSome records (Begins bytes))) (ap (λ (v : LogView _). v.records) c.self.view_is)
    (told_begins l.places.items l.end c.self.invariant.places (g.D.Disk.told l.disk) c.self.invariant.written)
