use Rattle.std.proofs.Common.{◌≡◌, ◌+◌, ◌≤◌, ℕ, inl, inr, Some, slice_get, sym, arith}
use Rattle.extent_map.proofs.HolderLemmas.{first_of, outside_between}
use Rattle.extent_map.proofs.holder.holder.Goals as goal

pub returns-then-at-range-clause-none : goal.returns-then-at-range-clause-none
returns-then-at-range-clause-none c =
    let free = c.args.free.now in
    let i = c.count_before-i.result in
    let at = c.args.at in
    let x = c.in_ok-range.range in
    let got : slice_get free i ≡ Some x = sym c.in_ok-range.ensures in
    (at, omega arith, omega arith, outside_between free i at at x c.requires.form.apart c.count_before-i.ensures.before (omega arith) got (omega arith) (inl c.if-at-range.true))

pub returns-then-range-min-clause-none : goal.returns-then-range-min-clause-none
returns-then-range-min-clause-none c =
    let free = c.args.free.now in
    let i = c.count_before-i.result in
    let at = c.args.at in
    let x = c.in_ok-range.range in
    let got : slice_get free i ≡ Some x = sym c.in_ok-range.ensures in
    let low : at + 1 ≤ x.0 + x.1 = first_of (λ (r : ℕ × ℕ). at + 1 ≤ r.0 + r.1) free i x c.count_before-i.ensures.behind got in
    (x.0 + x.1, omega arith, omega (arith, c.min.ensures), outside_between free i at (x.0 + x.1) x c.requires.form.apart c.count_before-i.ensures.before (omega arith) got (omega arith) (inr (omega arith)))

pub returns-clause-some : goal.returns-clause-some
returns-clause-some c =
    let x = c.in_ok-range.range in
    let got : slice_get c.args.free.now c.count_before-i.result ≡ Some x = sym c.in_ok-range.ensures in
    rw got (omega arith, omega (arith, c.min.ensures))
