use Rattle.std.proofs.Common.{◌≡◌, ◌+◌, [], ◌∷◌, ◌++◌, Some, None, ℤ, ◌-ℤ◌, map, take, sym, ap, subst, ◌∙◌, unsigned_abs, ◌≤◌, ◌*◌, ◌^◌, append-nil, rules, to_z, of_z, w64}
use Rattle.std.proofs.lemmas.Int.{ints}
use Rattle.std.specs.List.{All}
use Rattle.std.proofs.lemmas.List.{take_more, map-append}
use Rattle.std.proofs.lemmas.List.Elements.{All-push}
use Rattle.series_model.specs.declared.measure.Measure.{Measure}
use Rattle.series_model.specs.Tail.{last_onto}
use Rattle.regroup.specs.Tallies.{changes_behind}
use Rattle.regroup.proofs.Steps.{last-push, changes-first, changes-next}
use Rattle.regroup.proofs.runs.changes_of.Goals.{in-Some+in_ok-push, in_default}
use Rattle.regroup.proofs.runs.changes_of.Goals as goal

pub loop-m-preserved : goal.loop-m-preserved
loop-m-preserved c =
    let run = c.args.run.now in
    let i = c.loop-m.m-index in
    let m = c.m-item.result in
    let o = c.args.before in
    let value : Measure → ℤ = λ x. x.value in
    let small : ℤ → Type 0 = λ v. unsigned_abs v ≤ 2 * 10 ^ 18 in
    let before = c.loop-m.values.items in
    let cut : take (i + 1) run ≡ take i run ++ m ∷ [] =
    take_more run i m c.loop-m-test.true ∙ ap (λ x. take i run ++ x ∷ []) (sym c.m-item.is) in
    let last : Some m ≡ last_onto o (take (i + 1) run) = sym (ap (last_onto o) cut ∙ last-push o (take i run) m) in
    elim c.match-previous.branch [
      | in-Some+in_ok-push w ↦
          let exact : to_z w64 (of_z w64 w.change.result) ≡ w.change.result = search (rules, ints) in
          let items : c.match-previous.values.items ≡ before ++ (m.value -ℤ w.in-Some.p.value) ∷ [] =
          ap (λ v. v.items) w.values-is ∙ w.in_ok-push.ensures.items ∙ ap (λ v. before ++ v ∷ []) (exact ∙ w.change.ensures.value) in
          let was : last_onto o (take i run) ≡ Some w.in-Some.p = sym c.loop-m.invariant.previous ∙ w.in-Some.is in
          record {
            values = items ∙ ap (λ l. l ++ (m.value -ℤ w.in-Some.p.value) ∷ []) c.loop-m.invariant.values
                ∙ sym (ap (λ l. map value (changes_behind o l)) cut ∙ ap (map value) (changes-next o (take i run) m w.in-Some.p was) ∙ map-append value (changes_behind o (take i run)) _);
            small = subst (All small) (sym items) (All-push small before (m.value -ℤ w.in-Some.p.value) c.loop-m.invariant.small (subst small w.change.ensures.value w.change.ensures.small));
            previous = last;
          }
      | in_default w ↦
          let items : c.match-previous.values.items ≡ before = ap (λ v. v.items) w.values-is in
          let was : last_onto o (take i run) ≡ None = sym c.loop-m.invariant.previous ∙ w.in_default.is in
          record {
            values = items ∙ c.loop-m.invariant.values
                ∙ sym (ap (λ l. map value (changes_behind o l)) cut ∙ ap (map value) (changes-first o (take i run) m was ∙ append-nil (changes_behind o (take i run))));
            small = subst (All small) (sym items) c.loop-m.invariant.small;
            previous = last;
          }
    ]
