use Rattle.std.proofs.Common.{◌+◌, ◌-◌, ◌≤◌, ℕ, sym, subst, arith, vec_len, vec_capacity}
use Rattle.extent_map.specs.Edits.{Joins}
use Rattle.extent_map.specs.Extents.{ExtentsView, IsUsed}
use Rattle.extent_map.specs.Ranges.{LiesIn}
use Rattle.extent_map.proofs.HolderLemmas.{misses_outside}
use Rattle.extent_map.proofs.ExtentLemmas.{gives_joined, sure_ok}
use Rattle.extent_map.proofs.extents.Extents.give.Goals as goal

pub join-given-requires-clause-outside : goal.join-given-requires-clause-outside
join-given-requires-clause-outside c =
    let used = subst (λ (v : ExtentsView). (p : ℕ) → LiesIn p (c.args.at, c.args.len) → IsUsed v p) (sym c.self.view_is) c.requires.used in
    misses_outside c.self.inside.free.items c.args.at c.from.result (omega (arith, c.from.ensures, c.requires.filled)) c.self.invariant.filled
    (λ p h. (used p (h.0, omega (arith, h.1, c.from.ensures))).1)

joined : (c : goal.After-join-given) → Joins (c.args.at, c.args.len) c.self.inside.free.items c.join-given.new.free.items
joined c =
    let sure : 1 ≤ vec_capacity c.self.inside.free - vec_len c.self.inside.free = subst (λ (v : ExtentsView). 1 ≤ v.spare) (sym c.self.view_is) c.requires.sure in
    subst (λ (n : ℕ). Joins (c.args.at, n) c.self.inside.free.items c.join-given.new.free.items) c.from.ensures
    (sure_ok c.join-given.result c.join-given.ensures.ok c.join-given.ensures.full (λ (full : vec_capacity c.self.inside.free ≤ vec_len c.self.inside.free). omega arith))

form : (c : goal.After-join-given) → c.args.at + c.args.len ≤ c.self.inside.end
form c =
    let used = subst (λ (v : ExtentsView). (p : ℕ) → LiesIn p (c.args.at, c.args.len) → IsUsed v p) (sym c.self.view_is) c.requires.used in
    omega (arith, c.requires.filled, (used (c.args.at + c.args.len - 1) (omega (arith, c.requires.filled), omega (arith, c.requires.filled))).0)

pub invariant_of-self : goal.invariant_of-self
invariant_of-self c = (joined c).form c.self.inside.end (form c) c.self.invariant

pub returns-clause-form : goal.returns-clause-form
returns-clause-form c = (joined c).form c.self.inside.end (form c) c.self.invariant

pub returns-clause-used : goal.returns-clause-used
returns-clause-used c = rw (← c.self.view_is) (gives_joined c.self.inside.end c.self.inside.free.items c.join-given.new.free.items (c.args.at, c.args.len) (joined c))
