use Rattle.std.proofs.Common.{◌≡◌, List, [], ◌∷◌, ◌++◌, true, refl, ap, subst, ◌∙◌}
use Rattle.gno_disk.specs.Content.{ContentView}
use Rattle.gno_disk.specs.Memory.{Step, cut_to}
use Rattle.gno_disk.specs.Images.{fresh, after_all}
use Rattle.gno_disk.specs.Inside.{state_of}
use Rattle.gno_disk.proofs.ContentLemmas.{tracked_next, still_NoMore}
use Rattle.gno_disk.proofs.ImageLemmas.{LooseCut-same}
use Rattle.gno_disk.proofs.StepLemmas.{Elapses-made}
use Rattle.gno_disk.proofs.content.Content.fail_cut.Goals as goal

pub invariant_of-self-2 : goal.invariant_of-self-2
invariant_of-self-2 c =
    let l = c.self.inside in
    let s = state_of l.bytes.items l.since in
    let next = tracked_next _ _ _ _ (cut_to c.args.to true) s refl c.in_ok-remember.ensures.ok c.self.invariant.tracked in
    record { tracked = next; least = c.self.invariant.least; greatest = c.self.invariant.greatest; limit = c.self.invariant.limit }

pub returns-clause-crash : goal.returns-clause-crash
returns-clause-crash c =
    let l = c.self.inside in
    let s = state_of l.bytes.items l.since in
    let tracked = subst (λ (v : ContentView). after_all (fresh v.first) v.steps ≡ s) c.self.view_is c.self.invariant.tracked in
    let first = ap (λ (v : ContentView). v.first) c.self.view_is in
    let made = c.in_ok-remember.ensures.ok ∙ ap (λ (steps : List Step). steps ++ (cut_to c.args.to true) ∷ []) (ap (λ (v : ContentView). v.steps) c.self.view_is) in
    λ image left. (image, still_NoMore _ _ _ _ (cut_to c.args.to true) s first made tracked refl image left, LooseCut-same c.args.to image)

pub returns-clause-time : goal.returns-clause-time
returns-clause-time c =
    let l = c.self.inside in
    let s = state_of l.bytes.items l.since in
    let tracked = subst (λ (v : ContentView). after_all (fresh v.first) v.steps ≡ s) c.self.view_is c.self.invariant.tracked in
    let first = ap (λ (v : ContentView). v.first) c.self.view_is in
    let made = c.in_ok-remember.ensures.ok ∙ ap (λ (steps : List Step). steps ++ (cut_to c.args.to true) ∷ []) (ap (λ (v : ContentView). v.steps) c.self.view_is) in
    Elapses-made _ _ _ _ (cut_to c.args.to true) first made
