use Rattle.std.proofs.Common.{◌≡◌, ◌≢◌, ◌+◌, ◌<◌, ◌≤◌, ℕ, List, Some, take, drop, slice_get, sym, subst}
use Rattle.std.specs.List.{All}
use Rattle.extent_map.specs.Edits.{Joins}
use Rattle.extent_map.proofs.JoinLemmas.{joined_alone, joined_before, joined_behind, joined_both}
use Rattle.extent_map.proofs.ranges.join.Goals as goal

pub returns-in-Some-beginning_at-clause-ok : goal.returns-in-Some-beginning_at-clause-ok
returns-in-Some-beginning_at-clause-ok c =
    let a = c.args in
    let i = c.count_before-i.result in
    let x = c.in-Some.before in
    let y = c.in-Some-beginning_at.behind in
    subst (λ (new : List (ℕ × ℕ)). Joins (a.at, a.len) a.free.now.items new) (sym c.put_for_two.ensures.items)
    (joined_both a.free.now.items i a.at a.len x y c.requires.form.apart c.requires.filled
    (subst (λ (ys : List (ℕ × ℕ)). slice_get ys i ≡ Some x) c.deref-2.ensures.value c.in-Some.ensures.some.0) c.in-Some.ensures.some.1
    (subst (λ (ys : List (ℕ × ℕ)). slice_get ys (i + 1) ≡ Some y) c.deref-in-Some.ensures.value c.in-Some-beginning_at.ensures.some.0) c.in-Some-beginning_at.ensures.some.1)

pub returns-in-None-beginning_at-clause-ok : goal.returns-in-None-beginning_at-clause-ok
returns-in-None-beginning_at-clause-ok c =
    let a = c.args in
    let i = c.count_before-i.result in
    let x = c.in-Some.before in
    subst (λ (new : List (ℕ × ℕ)). Joins (a.at, a.len) a.free.now.items new) (sym c.put.ensures.items)
    (joined_before a.free.now.items i a.at a.len x c.requires.form.apart c.requires.outside c.requires.filled
    (subst (λ (ys : List (ℕ × ℕ)). slice_get ys i ≡ Some x) c.deref-2.ensures.value c.in-Some.ensures.some.0) c.in-Some.ensures.some.1
    (subst (λ (ys : List (ℕ × ℕ)). (r : ℕ × ℕ) → slice_get ys (i + 1) ≡ Some r → r.0 ≢ a.at + a.len) c.deref-in-Some.ensures.value c.in-None-beginning_at.ensures.none))

pub returns-in-Some-beginning_at-2-clause-ok : goal.returns-in-Some-beginning_at-2-clause-ok
returns-in-Some-beginning_at-2-clause-ok c =
    let a = c.args in
    let i = c.count_before-i.result in
    let y = c.in-Some-beginning_at-2.behind in
    subst (λ (new : List (ℕ × ℕ)). Joins (a.at, a.len) a.free.now.items new) (sym c.put-in-Some-beginning_at-2.ensures.items)
    (joined_behind a.free.now.items i a.at a.len y c.requires.form.apart c.requires.filled
    (subst (λ (ys : List (ℕ × ℕ)). All (λ (r : ℕ × ℕ). r.0 + r.1 < a.at) (take i ys)) c.deref.ensures.value c.count_before-i.ensures.before)
    (subst (λ (ys : List (ℕ × ℕ)). slice_get ys i ≡ Some y) c.deref-in-None.ensures.value c.in-Some-beginning_at-2.ensures.some.0) c.in-Some-beginning_at-2.ensures.some.1)

pub returns-in_ok-insert-in-None-beginning_at-2-clause-ok : goal.returns-in_ok-insert-in-None-beginning_at-2-clause-ok
returns-in_ok-insert-in-None-beginning_at-2-clause-ok c =
    let a = c.args in
    let i = c.count_before-i.result in
    subst (λ (new : List (ℕ × ℕ)). Joins (a.at, a.len) a.free.now.items new) (sym c.in_ok-insert-in-None-beginning_at-2.ensures.ok)
    (joined_alone a.free.now.items i a.at a.len c.requires.form.apart c.requires.outside c.requires.filled
    (subst (λ (ys : List (ℕ × ℕ)). All (λ (r : ℕ × ℕ). r.0 + r.1 < a.at) (take i ys)) c.deref.ensures.value c.count_before-i.ensures.before)
    (subst (λ (ys : List (ℕ × ℕ)). All (λ (r : ℕ × ℕ). a.at ≤ r.0 + r.1) (drop i ys)) c.deref.ensures.value c.count_before-i.ensures.behind)
    (subst (λ (ys : List (ℕ × ℕ)). (r : ℕ × ℕ) → slice_get ys i ≡ Some r → r.0 + r.1 ≢ a.at) c.deref-2.ensures.value c.in-None.ensures.none)
    (subst (λ (ys : List (ℕ × ℕ)). (r : ℕ × ℕ) → slice_get ys i ≡ Some r → r.0 ≢ a.at + a.len) c.deref-in-None.ensures.value c.in-None-beginning_at-2.ensures.none))
