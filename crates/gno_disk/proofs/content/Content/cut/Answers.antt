use Rattle.std.proofs.Common.{◌≡◌, ◌≤◌, List, [], ◌∷◌, ◌++◌, false, length, length-take, refl, sym, ap, subst, ◌∙◌, arith}
use Rattle.gno_disk.specs.Content.{ContentView}
use Rattle.gno_disk.specs.Memory.{Step, cut_to}
use Rattle.gno_disk.specs.Images.{State, fresh, after_all}
use Rattle.gno_disk.specs.Inside.{state_of}
use Rattle.gno_disk.proofs.ContentLemmas.{tracked_next, cut_Follows, state_same}
use Rattle.gno_disk.proofs.StepLemmas.{Elapses-made}
use Rattle.gno_disk.proofs.content.Content.cut.Goals as goal

pub invariant_of-self-2 : goal.invariant_of-self-2
invariant_of-self-2 c =
    let l = c.self.inside in
    let s = state_of l.bytes.items l.since in
    let next = tracked_next _ _ _ _ (cut_to c.args.to false) s c.cut_remembered.ensures.first c.in_ok-cut_remembered.ensures.remembered c.self.invariant.tracked in
    let low = c.self.invariant.least in
    let high = c.self.invariant.greatest in
    let long = ap length c.in_ok-cut_remembered.ensures.cut ∙ length-take c.args.to l.bytes.items in
    record {
      tracked = next ∙ state_same _ _ _ _ _ _ _ _ (sym c.in_ok-cut_remembered.ensures.cut) (sym c.min-self-inside.ensures) refl refl;
      least = omega (arith, long, low, c.min-self-inside.ensures);
      greatest = omega (arith, long, high);
      limit = c.self.invariant.limit;
    }

pub returns-clause-crash : goal.returns-clause-crash
returns-clause-crash c =
    let l = c.self.inside in
    let s = state_of l.bytes.items l.since in
    let tracked = subst (λ (v : ContentView). after_all (fresh v.first) v.steps ≡ s) c.self.view_is c.self.invariant.tracked in
    let first = c.cut_remembered.ensures.first ∙ ap (λ (v : ContentView). v.first) c.self.view_is in
    let made = c.in_ok-cut_remembered.ensures.remembered ∙ ap (λ (steps : List Step). steps ++ (cut_to c.args.to false) ∷ []) (ap (λ (v : ContentView). v.steps) c.self.view_is) in
    let bytes = sym (ap (λ (t : State). t.bytes) tracked) in
    let inside : c.args.to ≤ length l.bytes.items = rw bytes c.requires in
    cut_Follows _ _ _ _ s first tracked c.self.invariant.least c.self.invariant.greatest c.args.to inside made

pub returns-clause-time : goal.returns-clause-time
returns-clause-time c =
    let l = c.self.inside in
    let s = state_of l.bytes.items l.since in
    let tracked = subst (λ (v : ContentView). after_all (fresh v.first) v.steps ≡ s) c.self.view_is c.self.invariant.tracked in
    let first = c.cut_remembered.ensures.first ∙ ap (λ (v : ContentView). v.first) c.self.view_is in
    let made = c.in_ok-cut_remembered.ensures.remembered ∙ ap (λ (steps : List Step). steps ++ (cut_to c.args.to false) ∷ []) (ap (λ (v : ContentView). v.steps) c.self.view_is) in
    Elapses-made _ _ _ _ (cut_to c.args.to false) first made
