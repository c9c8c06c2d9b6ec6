use Rattle.std.proofs.Common.{◌≡◌, ◌+◌, ◌≤◌, ◌++◌, ℕ, Some, slice_get, take, drop, refl, sym, subst}
use Rattle.std.specs.Option.{IsSomeAnd}
use Rattle.extent_map.specs.Extents.{ExtentsView, without_front}
use Rattle.extent_map.proofs.RangeLemmas.{got_read, held}
use Rattle.extent_map.proofs.ExtentLemmas.{front_cut, takes_front}
use Rattle.extent_map.proofs.extents.Extents.take_front.Goals as goal

pub invariant_of-self : goal.invariant_of-self
invariant_of-self c =
    let free = c.self.inside.free.items in
    let fits = subst (λ (v : ExtentsView). IsSomeAnd (slice_get v.free c.args.i) (λ (r : ℕ × ℕ). c.args.len ≤ r.1)) (sym c.self.view_is) c.requires in
    let got : slice_get free c.args.i ≡ Some c.index.result.now = got_read free c.args.i c.index.result.now _ fits c.index.ensures in
    (front_cut free c.cut_front.new.free.items c.args.i c.args.len c.index.result.now c.self.invariant.apart fits got c.cut_front.ensures.items).form c.self.inside.end c.self.invariant

pub returns-clause-form : goal.returns-clause-form
returns-clause-form c =
    let free = c.self.inside.free.items in
    let fits = subst (λ (v : ExtentsView). IsSomeAnd (slice_get v.free c.args.i) (λ (r : ℕ × ℕ). c.args.len ≤ r.1)) (sym c.self.view_is) c.requires in
    let got : slice_get free c.args.i ≡ Some c.index.result.now = got_read free c.args.i c.index.result.now _ fits c.index.ensures in
    (front_cut free c.cut_front.new.free.items c.args.i c.args.len c.index.result.now c.self.invariant.apart fits got c.cut_front.ensures.items).form c.self.inside.end c.self.invariant

pub returns-clause-used : goal.returns-clause-used
returns-clause-used c =
    let free = c.self.inside.free.items in
    let fits = subst (λ (v : ExtentsView). IsSomeAnd (slice_get v.free c.args.i) (λ (r : ℕ × ℕ). c.args.len ≤ r.1)) (sym c.self.view_is) c.requires in
    let got : slice_get free c.args.i ≡ Some c.index.result.now = got_read free c.args.i c.index.result.now _ fits c.index.ensures in
    rw (← c.self.view_is)
    (takes_front _ _ c.args.i c.args.len c.index.result.now c.self.invariant fits got
    (front_cut free c.cut_front.new.free.items c.args.i c.args.len c.index.result.now c.self.invariant.apart fits got c.cut_front.ensures.items) refl)

pub returns-clause-exact : goal.returns-clause-exact
returns-clause-exact c =
    let free = c.self.inside.free.items in
    let x = c.index.result.now in
    let fits = subst (λ (v : ExtentsView). IsSomeAnd (slice_get v.free c.args.i) (λ (r : ℕ × ℕ). c.args.len ≤ r.1)) (sym c.self.view_is) c.requires in
    let got : slice_get free c.args.i ≡ Some x = got_read free c.args.i x _ fits c.index.ensures in
    let is : c.cut_front.new.free.items ≡ take c.args.i free ++ (without_front c.args.len x ++ drop (c.args.i + 1) free) = held free c.args.i x _ c.cut_front.ensures.items got in
    rw (← c.self.view_is)
    (record {
      front = rw got (refl, is);
      end = refl;
    })
