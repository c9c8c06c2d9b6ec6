use Rattle.std.proofs.Common.{◌≡◌, ◌≤◌, List, [], ◌∷◌, ◌++◌, true, length, refl, ap, sym, subst, ◌∙◌}
use Rattle.gno_disk.specs.Content.{ContentView}
use Rattle.gno_disk.specs.Memory.{Step, wrote}
use Rattle.gno_disk.specs.Images.{State, fresh, after_all}
use Rattle.gno_disk.specs.Inside.{state_of}
use Rattle.gno_disk.proofs.ContentLemmas.{tracked_next, fail_write_Follows, failed_state}
use Rattle.gno_disk.proofs.StepLemmas.{Elapses-made}
use Rattle.gno_disk.proofs.content.Content.fail_write.Goals as goal

pub invariant_of-self-2 : goal.invariant_of-self-2
invariant_of-self-2 c =
    let l = c.self.inside in
    let s = state_of l.bytes.items l.since in
    let next = tracked_next _ _ _ _ (wrote c.args.at c.args.bytes.now true) s refl c.in_ok-remember_failed_write.ensures.remembered c.self.invariant.tracked in
    let spans = c.add_range.ensures ∙ ap (λ spans. spans ++ (record { at = c.args.at; len = length c.args.bytes.now }) ∷ []) c.reserve.ensures.items in
    record {
      tracked = next ∙ failed_state l.bytes.items l.since.least l.since.greatest l.since.ranges.items c.add_range.new.ranges.items c.args.at c.args.bytes.now spans;
      least = c.self.invariant.least;
      greatest = c.self.invariant.greatest;
      limit = c.self.invariant.limit;
    }

pub returns-clause-crash : goal.returns-clause-crash
returns-clause-crash c =
    let l = c.self.inside in
    let s = state_of l.bytes.items l.since in
    let tracked = subst (λ (v : ContentView). after_all (fresh v.first) v.steps ≡ s) c.self.view_is c.self.invariant.tracked in
    let first = ap (λ (v : ContentView). v.first) c.self.view_is in
    let made = c.in_ok-remember_failed_write.ensures.remembered ∙ ap (λ (steps : List Step). steps ++ (wrote c.args.at c.args.bytes.now true) ∷ []) (ap (λ (v : ContentView). v.steps) c.self.view_is) in
    let bytes = sym (ap (λ (t : State). t.bytes) tracked) in
    let inside : c.args.at ≤ length l.bytes.items = rw bytes c.requires in
    fail_write_Follows _ _ _ _ s first tracked c.self.invariant.least c.self.invariant.greatest c.args.at c.args.bytes.now inside made

pub returns-clause-time : goal.returns-clause-time
returns-clause-time c =
    let l = c.self.inside in
    let s = state_of l.bytes.items l.since in
    let tracked = subst (λ (v : ContentView). after_all (fresh v.first) v.steps ≡ s) c.self.view_is c.self.invariant.tracked in
    let first = ap (λ (v : ContentView). v.first) c.self.view_is in
    let made = c.in_ok-remember_failed_write.ensures.remembered ∙ ap (λ (steps : List Step). steps ++ (wrote c.args.at c.args.bytes.now true) ∷ []) (ap (λ (v : ContentView). v.steps) c.self.view_is) in
    Elapses-made _ _ _ _ (wrote c.args.at c.args.bytes.now true) first made
