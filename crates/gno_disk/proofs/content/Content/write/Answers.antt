use Rattle.std.proofs.Common.{◌≡◌, ◌≤◌, List, [], ◌∷◌, ◌++◌, false, length, ap, sym, subst, ◌∙◌, ◌+◌, ◌^◌, arith, rules}
use Rattle.gno_disk.specs.Content.{ContentView}
use Rattle.gno_disk.specs.Memory.{Step, wrote}
use Rattle.gno_disk.specs.Images.{State, fresh, after_all}
use Rattle.gno_disk.specs.Inside.{state_of}
use Rattle.gno_disk.proofs.ContentLemmas.{tracked_next, write_Follows, written_state, length-overwrites}
use Rattle.gno_disk.proofs.ByteLemmas.{inside_of}
use Rattle.gno_disk.proofs.StepLemmas.{Elapses-made}
use Rattle.gno_disk.proofs.content.Content.write.Goals as goal

pub invariant_of-self-2 : goal.invariant_of-self-2
invariant_of-self-2 c =
    let l = c.self.inside in
    let s = state_of l.bytes.items l.since in
    let next = tracked_next _ _ _ _ (wrote c.args.at c.args.bytes.now false) s c.write_remembered.ensures.first c.in_ok-write_remembered.ensures.remembered c.self.invariant.tracked in
    let spans = c.add_range.ensures ∙ ap (λ spans. spans ++ (record { at = c.args.at; len = length c.args.bytes.now }) ∷ []) c.reserve.ensures.items in
    let long = length-overwrites c.args.at c.args.bytes.now l.bytes.items c.write_remembered.new.bytes.items c.in_ok-write_remembered.ensures.written (inside_of c.args.self.now.first c.args.self.now.steps s c.args.at (subst (λ (v : ContentView). after_all (fresh v.first) v.steps ≡ s) c.self.view_is c.self.invariant.tracked) c.requires) in
    let low = c.self.invariant.least in
    let high = c.self.invariant.greatest in
    let limit = c.self.invariant.limit in
    let fits : c.args.at + length c.args.bytes.now ≤ 2 ^ 60 = search rules in
    record {
      tracked = next ∙ written_state l.bytes.items l.since.least l.since.greatest l.since.ranges.items c.add_range.new.ranges.items c.args.at c.args.bytes.now spans c.write_remembered.new.bytes.items c.max-self-inside.result c.in_ok-write_remembered.ensures.written c.max-self-inside.ensures;
      least = omega (arith, long, low);
      greatest = omega (arith, long, high, c.max-self-inside.ensures);
      limit = omega (arith, limit, c.max-self-inside.ensures, fits);
    }

pub returns-clause-crash : goal.returns-clause-crash
returns-clause-crash c =
    let l = c.self.inside in
    let s = state_of l.bytes.items l.since in
    let tracked = subst (λ (v : ContentView). after_all (fresh v.first) v.steps ≡ s) c.self.view_is c.self.invariant.tracked in
    let first = c.write_remembered.ensures.first ∙ ap (λ (v : ContentView). v.first) c.self.view_is in
    let made = c.in_ok-write_remembered.ensures.remembered ∙ ap (λ (steps : List Step). steps ++ (wrote c.args.at c.args.bytes.now false) ∷ []) (ap (λ (v : ContentView). v.steps) c.self.view_is) in
    let bytes = sym (ap (λ (t : State). t.bytes) tracked) in
    let inside : c.args.at ≤ length l.bytes.items = rw bytes c.requires in
    write_Follows _ _ _ _ s first tracked c.self.invariant.least c.self.invariant.greatest c.args.at c.args.bytes.now inside made

pub returns-clause-time : goal.returns-clause-time
returns-clause-time c =
    let l = c.self.inside in
    let s = state_of l.bytes.items l.since in
    let tracked = subst (λ (v : ContentView). after_all (fresh v.first) v.steps ≡ s) c.self.view_is c.self.invariant.tracked in
    let first = c.write_remembered.ensures.first ∙ ap (λ (v : ContentView). v.first) c.self.view_is in
    let made = c.in_ok-write_remembered.ensures.remembered ∙ ap (λ (steps : List Step). steps ++ (wrote c.args.at c.args.bytes.now false) ∷ []) (ap (λ (v : ContentView). v.steps) c.self.view_is) in
    Elapses-made _ _ _ _ (wrote c.args.at c.args.bytes.now false) first made
