use Rattle.std.proofs.Common.{◌≡◌, List, [], ◌∷◌, ◌++◌, false, length, map, refl, sym, ap, subst, ◌∙◌, rules, arith}
use Rattle.gno_disk.specs.Content.{ContentView}
use Rattle.gno_disk.specs.Memory.{Step, synced}
use Rattle.gno_disk.specs.Images.{State, fresh, after_all}
use Rattle.gno_disk.specs.Inside.{range_of, state_of}
use Rattle.gno_disk.proofs.ContentLemmas.{tracked_next, sync_Only, sync_NoMore, state_same}
use Rattle.gno_disk.proofs.StepLemmas.{Elapses-made}
use Rattle.gno_disk.proofs.content.Content.sync.Goals as goal

pub invariant_of-self-2 : goal.invariant_of-self-2
invariant_of-self-2 c =
    let l = c.self.inside in
    let s = state_of l.bytes.items l.since in
    let next = tracked_next _ _ _ _ (synced false) s refl c.in_ok-remember.ensures.ok c.self.invariant.tracked in
    let long : c.len-len.result ≡ length l.bytes.items = search rules in
    let limit = c.self.invariant.limit in
    let high = c.self.invariant.greatest in
    record {
      tracked = next ∙ state_same _ _ _ _ _ _ _ _ refl (sym long) (sym long) (sym (ap (λ spans. map range_of spans) c.clear.ensures.items));
      least = omega (arith, long);
      greatest = omega (arith, long);
      limit = omega (arith, long, high, limit);
    }

pub returns-clause-crash : goal.returns-clause-crash
returns-clause-crash c =
    let l = c.self.inside in
    let s = state_of l.bytes.items l.since in
    let tracked = subst (λ (v : ContentView). after_all (fresh v.first) v.steps ≡ s) c.self.view_is c.self.invariant.tracked in
    let first = ap (λ (v : ContentView). v.first) c.self.view_is in
    let made = c.in_ok-remember.ensures.ok ∙ ap (λ (steps : List Step). steps ++ (synced false) ∷ []) (ap (λ (v : ContentView). v.steps) c.self.view_is) in
    sync_NoMore _ _ _ _ s first tracked c.self.invariant.least c.self.invariant.greatest made

pub returns-clause-durable : goal.returns-clause-durable
returns-clause-durable c =
    let l = c.self.inside in
    let s = state_of l.bytes.items l.since in
    let tracked = subst (λ (v : ContentView). after_all (fresh v.first) v.steps ≡ s) c.self.view_is c.self.invariant.tracked in
    let first = ap (λ (v : ContentView). v.first) c.self.view_is in
    let made = c.in_ok-remember.ensures.ok ∙ ap (λ (steps : List Step). steps ++ (synced false) ∷ []) (ap (λ (v : ContentView). v.steps) c.self.view_is) in
    let bytes = sym (ap (λ (t : State). t.bytes) tracked) in
    rw (← bytes) (sync_Only _ _ _ _ s first tracked c.self.invariant.least c.self.invariant.greatest made)

pub returns-clause-time : goal.returns-clause-time
returns-clause-time c =
    let l = c.self.inside in
    let s = state_of l.bytes.items l.since in
    let tracked = subst (λ (v : ContentView). after_all (fresh v.first) v.steps ≡ s) c.self.view_is c.self.invariant.tracked in
    let first = ap (λ (v : ContentView). v.first) c.self.view_is in
    let made = c.in_ok-remember.ensures.ok ∙ ap (λ (steps : List Step). steps ++ (synced false) ∷ []) (ap (λ (v : ContentView). v.steps) c.self.view_is) in
    Elapses-made _ _ _ _ (synced false) first made
