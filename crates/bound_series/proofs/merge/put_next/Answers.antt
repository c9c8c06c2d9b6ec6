use Rattle.std.proofs.Common.{◌≡◌, ℕ, ◌+◌, ◌<◌, ◌≤◌, [], ◌∷◌, ◌++◌, drop, length, get_or, sym, ap, subst, ◌∙◌, arith}
use Rattle.std.specs.List.{All}
use Rattle.std.proofs.Math.Logic.{⊎_elim}
use Rattle.std.proofs.lemmas.Bool.{cases_lt}
use Rattle.std.proofs.lemmas.List.{drop_all, get_or_default}
use Rattle.series_model.specs.declared.measure.Measure.{Measure}
use Rattle.bound_series.proofs.Merging.{between, range_before, move_all, place_same, place_lower, place_last, merged_upto}
use Rattle.bound_series.proofs.merge.put_next.Goals as goal

pub returns-then-is_at-clause-moved : goal.returns-then-is_at-clause-moved
returns-then-is_at-clause-moved c =
    let old = c.args.old.now in
    let m = c.args.m.now in
    let from = c.args.from in
    let place = c.end_before-place.result in
    let out = c.args.merged.now.items in
    let mid = out ++ between old from place in
    let after = c.end_before-place.ensures.after in
    let inside = c.end_before-place.ensures.inside in
    let before : (k : ℕ) (d : Measure) → from ≤ k → k < place → (get_or old k d).at < m.at =
    λ k d low high. omega (arith, c.end_before-place.ensures.before k d low high, c.nanos.ensures.value) in
    let items : c.push.new.self.items ≡ mid ++ m ∷ [] =
    c.in_ok-push.ensures.items ∙ ap (λ l. l ++ m ∷ []) c.in_ok-extend_from_slice.ensures.items in
    let found = c.is_at.ensures.found c.if-is_at.true in
    ap (λ l. l ++ drop (place + 1) old) items
    ∙ place_same old place (get_or old place m) m mid found.0 (get_or_default old place m (get_or old place m) found.0) (found.1 m)
    ∙ move_all old from place m out after inside before

pub returns-then-is_at-clause-before : goal.returns-then-is_at-clause-before
returns-then-is_at-clause-before c so_far =
    let old = c.args.old.now in
    let m = c.args.m.now in
    let from = c.args.from in
    let place = c.end_before-place.result in
    let out = c.args.merged.now.items in
    let mid = out ++ between old from place in
    let after = c.end_before-place.ensures.after in
    let inside = c.end_before-place.ensures.inside in
    let before : (k : ℕ) (d : Measure) → from ≤ k → k < place → (get_or old k d).at < m.at =
    λ k d low high. omega (arith, c.end_before-place.ensures.before k d low high, c.nanos.ensures.value) in
    let items : c.push.new.self.items ≡ mid ++ m ∷ [] =
    c.in_ok-push.ensures.items ∙ ap (λ l. l ++ m ∷ []) c.in_ok-extend_from_slice.ensures.items in
    subst (λ l. All (λ x. x.at ≤ m.at) l) (sym items) (merged_upto out (between old from place) m so_far (range_before old from place m.at after inside before))

pub returns-clause-moved : goal.returns-clause-moved
returns-clause-moved c =
    let old = c.args.old.now in
    let m = c.args.m.now in
    let from = c.args.from in
    let place = c.end_before-place.result in
    let out = c.args.merged.now.items in
    let mid = out ++ between old from place in
    let after = c.end_before-place.ensures.after in
    let inside = c.end_before-place.ensures.inside in
    let before : (k : ℕ) (d : Measure) → from ≤ k → k < place → (get_or old k d).at < m.at =
    λ k d low high. omega (arith, c.end_before-place.ensures.before k d low high, c.nanos.ensures.value) in
    let items : c.push.new.self.items ≡ mid ++ m ∷ [] =
    c.in_ok-push.ensures.items ∙ ap (λ l. l ++ m ∷ []) c.in_ok-extend_from_slice.ensures.items in
    ap (λ l. l ++ drop place old) items
    ∙ ⊎_elim
    (λ below.
    let apart = c.is_at.ensures.missing c.if-is_at.false m below in
    let late : m.at ≤ (get_or old place m).at = omega (arith, c.end_before-place.ensures.next m below, c.nanos.ensures.value) in
    place_lower old place (get_or old place m) m mid below (get_or_default old place m (get_or old place m) below) (omega (arith, late, apart)))
    (λ end. place_last old place m mid (drop_all place old end))
    (cases_lt place (length old))
    ∙ move_all old from place m out after inside before

pub returns-clause-before : goal.returns-clause-before
returns-clause-before c so_far =
    let old = c.args.old.now in
    let m = c.args.m.now in
    let from = c.args.from in
    let place = c.end_before-place.result in
    let out = c.args.merged.now.items in
    let mid = out ++ between old from place in
    let after = c.end_before-place.ensures.after in
    let inside = c.end_before-place.ensures.inside in
    let before : (k : ℕ) (d : Measure) → from ≤ k → k < place → (get_or old k d).at < m.at =
    λ k d low high. omega (arith, c.end_before-place.ensures.before k d low high, c.nanos.ensures.value) in
    let items : c.push.new.self.items ≡ mid ++ m ∷ [] =
    c.in_ok-push.ensures.items ∙ ap (λ l. l ++ m ∷ []) c.in_ok-extend_from_slice.ensures.items in
    subst (λ l. All (λ x. x.at ≤ m.at) l) (sym items) (merged_upto out (between old from place) m so_far (range_before old from place m.at after inside before))
