use Rattle.std.proofs.Common.{◌≡◌, ◌≤◌, ◌^◌, List, ℕ, length, subst, sym, ap, ◌∙◌, arith, rules}
use Rattle.gno_disk.specs.Content.{ContentView}
use Rattle.gno_disk.specs.Images.{State, fresh, after_all, bytes_after}
use Rattle.gno_disk.specs.Inside.{state_of}
use Rattle.gno_disk.proofs.content.Content.bytes.Goals as goal

pub returns-clause-bytes : goal.returns-clause-bytes
returns-clause-bytes c =
    let l = c.self.inside in
    let s = state_of l.bytes.items l.since in
    let tracked = subst (λ (v : ContentView). after_all (fresh v.first) v.steps ≡ s) c.self.view_is c.self.invariant.tracked in
    c.deref.ensures.value ∙ sym (ap (λ (t : State). t.bytes) tracked)

pub returns-clause-limit : goal.returns-clause-limit
returns-clause-limit c =
    let l = c.self.inside in
    let s = state_of l.bytes.items l.since in
    let tracked = subst (λ (v : ContentView). after_all (fresh v.first) v.steps ≡ s) c.self.view_is c.self.invariant.tracked in
    let high = c.self.invariant.greatest in
    let limit = c.self.invariant.limit in
    omega (arith, high, limit, ap (λ (t : State). length t.bytes) tracked)
