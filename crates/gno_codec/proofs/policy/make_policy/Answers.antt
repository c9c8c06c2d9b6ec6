use Rattle.std.proofs.Common.{◌≡◌, ◌∙◌, List, Ok, None, ℕ, map, subst, ap}
use Rattle.archive_policy.specs.declared.definition.Definition.{Definition}
use Rattle.archive_policy.specs.declared.kind.Kind.{Kind}
use Rattle.archive_policy.specs.declared.wanted.Wanted.{Wanted}
use Rattle.archive_policy.specs.Faults.{first_fault}
use Rattle.archive_policy.specs.Policies.{ArchivePolicy}
use Rattle.archive_policy.specs.PolicyLaws.{IsAsked, as_kept}
use Rattle.gno_codec.proofs.Policies.{made_or_fault, makes}
use Rattle.gno_codec.proofs.policy.make_policy.Goals as goal

pub returns-in-Ok : goal.returns-in-Ok
returns-in-Ok c =
    let f = c.fields.inside in
    let own : ArchivePolicy = record { name = f.name; back_window = f.back_window; definitions = f.definitions.items; kinds = f.kinds.items } in
    let made = c.in-Ok.policy in
    let wanted : c.as_slice-2.result.now ≡ map as_kept f.definitions.items =
    c.as_slice-2.ensures.value ∙ c.in_ok-wanted.ensures ∙ ap (λ (ds : List Definition). map as_kept ds) c.as_slice.ensures.value in
    let window : c.from.result ≡ f.back_window = c.from.ensures in
    let kinds = c.as_slice-3.ensures.value in
    let none : first_fault f.back_window (map as_kept f.definitions.items) f.kinds.items ≡ None =
    subst (λ (ks : List Kind). first_fault f.back_window (map as_kept f.definitions.items) ks ≡ None) kinds
    (subst (λ (ws : List Wanted). first_fault f.back_window ws c.as_slice-3.result.now ≡ None) wanted
    (subst (λ (w : ℕ). first_fault w c.as_slice-2.result.now c.as_slice-3.result.now ≡ None) window c.in-Ok.ensures.none)) in
    let asked : IsAsked f.name f.back_window (map as_kept f.definitions.items) f.kinds.items made =
    subst (λ (ks : List Kind). IsAsked f.name f.back_window (map as_kept f.definitions.items) ks made) kinds
    (subst (λ (ws : List Wanted). IsAsked f.name f.back_window ws c.as_slice-3.result.now made) wanted
    (subst (λ (w : ℕ). IsAsked f.name w c.as_slice-2.result.now c.as_slice-3.result.now made) window c.in-Ok.ensures.asked)) in
    subst (λ (p : ArchivePolicy). made_or_fault p c.args.at ≡ Ok made) c.fields.view_is (makes own made c.args.at c.fields.invariant.0 c.fields.invariant.1 none asked)
