use Rattle.std.proofs.Common.{◌≡◌, ◌+◌, ◌≤◌, ◌^◌, ◌↔◌, ℕ, List, sym, subst, rules}
use Rattle.std.specs.List.{Any}
use Rattle.std.specs.List.Sorted.{IsPermutation}
use Rattle.std.proofs.lemmas.List.Sorted.{All-permutation, IsPermutation-sym}
use Rattle.std.proofs.lemmas.Result.{IfOk-weaker}
use Rattle.extent_map.specs.Extents.{ExtentsView, IsLastEnd, IsUsed}
use Rattle.extent_map.specs.Ranges.{LiesIn}
use Rattle.extent_map.proofs.SortLemmas.{any_permutation, disjoint_permutation, last_permutation}
use Rattle.extent_map.proofs.extents.Extents.of_used.Goals as goal

moved : (used copy sorted seen : List (ℕ × ℕ)) → copy ≡ used → IsPermutation copy sorted → seen ≡ sorted → IsPermutation used seen
moved used copy sorted seen same moves is =
    subst (λ (ys : List (ℕ × ℕ)). IsPermutation used ys) (sym is) (subst (λ (xs : List (ℕ × ℕ)). IsPermutation xs sorted) same moves)

pub of_sorted-requires : goal.of_sorted-requires
of_sorted-requires c =
    let used = c.args.used.now in
    let sorted = c.as_slice.result.now in
    let moves : IsPermutation used sorted = moved used c.in_ok-sorted.sorted.items c.sort_unstable_by_key.new.self.items sorted (c.in_ok-sorted.ensures.items_if_clones_equal (λ x y h. search rules)) c.sort_unstable_by_key.ensures.permutation c.as_slice.ensures.value in
    record {
      disjoint = disjoint_permutation used sorted moves c.requires.filled c.requires.disjoint;
      filled = All-permutation (λ (r : ℕ × ℕ). 1 ≤ r.1) used sorted moves c.requires.filled;
      within = All-permutation (λ (r : ℕ × ℕ). r.0 + r.1 ≤ 2 ^ 60) used sorted moves c.requires.within;
    }

pub returns-clause-used : goal.returns-clause-used
returns-clause-used c =
    let used = c.args.used.now in
    let sorted = c.as_slice.result.now in
    let moves : IsPermutation used sorted = moved used c.in_ok-sorted.sorted.items c.sort_unstable_by_key.new.self.items sorted (c.in_ok-sorted.ensures.items_if_clones_equal (λ x y h. search rules)) c.sort_unstable_by_key.ensures.permutation c.as_slice.ensures.value in
    IfOk-weaker c.of_sorted.result (λ (e : ExtentsView). (place : ℕ) → IsUsed e place ↔ Any (LiesIn place) sorted) (λ (e : ExtentsView). (place : ℕ) → IsUsed e place ↔ Any (LiesIn place) used)
    (λ e h place. (
      (λ u. any_permutation (LiesIn place) sorted used (IsPermutation-sym used sorted moves) ((h place).0 u)),
      (λ a. (h place).1 (any_permutation (LiesIn place) used sorted moves a)),
    ))
    c.of_sorted.ensures.used

pub returns-clause-end : goal.returns-clause-end
returns-clause-end c =
    let used = c.args.used.now in
    let sorted = c.as_slice.result.now in
    let moves : IsPermutation used sorted = moved used c.in_ok-sorted.sorted.items c.sort_unstable_by_key.new.self.items sorted (c.in_ok-sorted.ensures.items_if_clones_equal (λ x y h. search rules)) c.sort_unstable_by_key.ensures.permutation c.as_slice.ensures.value in
    IfOk-weaker c.of_sorted.result (λ (e : ExtentsView). IsLastEnd sorted e.end) (λ (e : ExtentsView). IsLastEnd used e.end)
    (λ e last. last_permutation sorted used e.end (IsPermutation-sym used sorted moves) last)
    c.of_sorted.ensures.end
