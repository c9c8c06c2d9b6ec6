use Rattle.std.proofs.Common.{◌≡◌, ℕ, Bool, true, eqb, ◌&&◌, sym, ap, ◌∙◌, subst}
use Rattle.std.proofs.lemmas.Bool.{and_parts, and_from, eqb-true, eq-eqb}
use Rattle.std.proofs.lemmas.Slice.Eq.{slice_eq-Decides}
use Rattle.archive_policy.specs.declared.definition.Definition.{Definition}
use Rattle.archive_policy.proofs.policy.same_definitions.Goals as goal

same : (a b : Definition) → (eqb a.granularity b.granularity && eqb a.points b.points) ≡ true → a ≡ b
same a b is =
    let parts = and_parts (eqb a.granularity b.granularity) (eqb a.points b.points) is in
    let made : ℕ → ℕ → Definition = λ granularity points. record { granularity = granularity; points = points } in
    ap (λ g. made g a.points) (eqb-true a.granularity b.granularity parts.0) ∙ ap (made b.granularity) (eqb-true a.points b.points parts.1)

tested : (a b : Definition) → a ≡ b → (eqb a.granularity b.granularity && eqb a.points b.points) ≡ true
tested a b e =
    and_from (eqb a.granularity b.granularity) (eqb a.points b.points) (eq-eqb a.granularity b.granularity (ap (λ (d : Definition). d.granularity) e)) (eq-eqb a.points b.points (ap (λ (d : Definition). d.points) e))

pub returns : goal.returns
returns c = slice_eq-Decides (λ a b. (same a b, tested a b)) c.args.definitions.now c.args.others.now c.eq.result c.eq.ensures
