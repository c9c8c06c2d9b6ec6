use Rattle.std.proofs.Common.{◌≡◌, true, eqb, ◌&&◌, ap, ◌∙◌}
use Rattle.std.specs.Ordering.{int_eq}
use Rattle.std.proofs.lemmas.Bool.{and_parts, and_from, eqb-true, eq-eqb}
use Rattle.std.proofs.lemmas.Bool.Decides.{Decides-int_eq}
use Rattle.std.proofs.lemmas.Slice.Eq.{slice_eq-Decides}
use Rattle.series_model.specs.declared.measure.Measure.{Measure}
use Rattle.sack_state.proofs.committing.same_measures.Goals as goal

same : (a b : Measure) → (eqb a.at b.at && int_eq a.value b.value) ≡ true → a ≡ b
same a b is =
    let parts = and_parts (eqb a.at b.at) (int_eq a.value b.value) is in
    ap (λ n. let m : Measure = record { at = n; value = a.value } in m) (eqb-true a.at b.at parts.0)
    ∙ ap (λ n. let m : Measure = record { at = b.at; value = n } in m) ((Decides-int_eq a.value b.value).0 parts.1)

tested : (a b : Measure) → a ≡ b → (eqb a.at b.at && int_eq a.value b.value) ≡ true
tested a b e =
    and_from (eqb a.at b.at) (int_eq a.value b.value) (eq-eqb a.at b.at (ap (λ (m : Measure). m.at) e)) ((Decides-int_eq a.value b.value).1 (ap (λ (m : Measure). m.value) e))

pub returns : goal.returns
returns c = slice_eq-Decides (λ a b. (same a b, tested a b)) c.args.a.now c.args.b.now c.eq.result c.eq.ensures
