use Rattle.std.proofs.Common.{◌≡◌, List, [], ◌∷◌, ◌++◌, refl, ap, subst, ◌∙◌}
use Rattle.gno_disk.specs.Content.{ContentView}
use Rattle.gno_disk.specs.Memory.{Step, has_read}
use Rattle.gno_disk.specs.Images.{fresh, after_all}
use Rattle.gno_disk.specs.Inside.{state_of}
use Rattle.gno_disk.proofs.ContentLemmas.{tracked_next, still_NoMore}
use Rattle.gno_disk.proofs.ByteLemmas.{pushed_read}
use Rattle.gno_disk.proofs.StepLemmas.{Elapses-made}
use Rattle.gno_disk.proofs.content.Content.note_read.Goals as goal

pub invariant_of-self-2 : goal.invariant_of-self-2
invariant_of-self-2 c =
    let l = c.self.inside in
    let s = state_of l.bytes.items l.since in
    let next = tracked_next _ _ _ _ (has_read c.args.failed) s refl c.in_ok-remember.ensures.ok c.self.invariant.tracked in
    record { tracked = next; least = c.self.invariant.least; greatest = c.self.invariant.greatest; limit = c.self.invariant.limit }

pub returns-clause-crash : goal.returns-clause-crash
returns-clause-crash c =
    let l = c.self.inside in
    let s = state_of l.bytes.items l.since in
    let tracked = subst (λ (v : ContentView). after_all (fresh v.first) v.steps ≡ s) c.self.view_is c.self.invariant.tracked in
    let first = ap (λ (v : ContentView). v.first) c.self.view_is in
    let made = c.in_ok-remember.ensures.ok ∙ ap (λ (steps : List Step). steps ++ (has_read c.args.failed) ∷ []) (ap (λ (v : ContentView). v.steps) c.self.view_is) in
    still_NoMore _ _ _ _ (has_read c.args.failed) s first made tracked refl

pub returns-clause-time : goal.returns-clause-time
returns-clause-time c =
    let l = c.self.inside in
    let s = state_of l.bytes.items l.since in
    let tracked = subst (λ (v : ContentView). after_all (fresh v.first) v.steps ≡ s) c.self.view_is c.self.invariant.tracked in
    let first = ap (λ (v : ContentView). v.first) c.self.view_is in
    let made = c.in_ok-remember.ensures.ok ∙ ap (λ (steps : List Step). steps ++ (has_read c.args.failed) ∷ []) (ap (λ (v : ContentView). v.steps) c.self.view_is) in
    Elapses-made _ _ _ _ (has_read c.args.failed) first made

pub returns-clause-bytes : goal.returns-clause-bytes
returns-clause-bytes c =
    let first = ap (λ (v : ContentView). v.first) c.self.view_is in
    let made = c.in_ok-remember.ensures.ok ∙ ap (λ (steps : List Step). steps ++ (has_read c.args.failed) ∷ []) (ap (λ (v : ContentView). v.steps) c.self.view_is) in
    pushed_read _ _ _ _ c.args.failed first made
