use Rattle.std.proofs.Common.{◌≡◌, ◌-◌, length, get_or, sym, ap, ◌∙◌, arith}
use Rattle.std.proofs.lemmas.List.{get_or-map, length-map}
use Rattle.archive_policy.specs.declared.definition.Definition.{Definition}
use Rattle.archive_policy.specs.Policies.{granularities, largest_of}
use Rattle.archive_policy.proofs.AskedLemmas.{last_largest}
use Rattle.archive_policy.proofs.policy.Policy.largest.Goals as goal

pub returns-clause-value : goal.returns-clause-value
returns-clause-value c =
    let ds = c.self.inside.definitions.items in
    let gs = granularities ds in
    let some = c.self.invariant.definitions.some in
    let last = c.len.result - 1 in
    let long : length gs ≡ length ds = length-map ds (λ (d : Definition). d.granularity) in
    let place : last ≡ length gs - 1 = omega (arith, long) in
    let read : c.index.result.now.granularity ≡ get_or gs last 0 =
    ap (λ (d : Definition). d.granularity) c.index.ensures ∙ sym (get_or-map (λ (d : Definition). d.granularity) ds last c.index.result.now 0 (omega (arith, some))) in
    read ∙ ap (λ i. get_or gs i 0) place ∙ last_largest gs c.self.invariant.definitions.rising (omega (arith, long, some))
    ∙ ap (λ p. largest_of p.definitions) c.self.view_is
