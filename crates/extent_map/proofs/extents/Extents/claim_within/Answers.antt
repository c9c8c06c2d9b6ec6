use Rattle.std.proofs.Common.{◌+◌, ◌≤◌, ◌<◌, ℕ, min, slice_get, sym, subst, arith}
use Rattle.std.specs.Option.{IsSomeAnd}
use Rattle.extent_map.specs.Extents.{ExtentsView}
use Rattle.extent_map.proofs.ExtentLemmas.{form_wider, takes_within}
use Rattle.extent_map.proofs.extents.Extents.claim_within.Goals as goal

pub invariant_of-self-2 : goal.invariant_of-self-2
invariant_of-self-2 c =
    c.in_ok-cut.ensures.ok.form c.max-self-inside.result (form_wider c.self.inside.end c.max-self-inside.result c.self.inside.free.items (omega (arith, c.max-self-inside.ensures)) c.self.invariant)

pub returns-clause-form : goal.returns-clause-form
returns-clause-form c =
    c.in_ok-cut.ensures.ok.form c.max-self-inside.result (form_wider c.self.inside.end c.max-self-inside.result c.self.inside.free.items (omega (arith, c.max-self-inside.ensures)) c.self.invariant)

pub returns-clause-ok : goal.returns-clause-ok
returns-clause-ok c =
    let at = c.args.at in
    let len = c.args.len in
    let holds = subst (λ (v : ExtentsView). IsSomeAnd (slice_get v.free c.args.i) (λ (r : ℕ × ℕ). (r.0 ≤ at) × (min (at + len) v.end ≤ r.0 + r.1))) (sym c.self.view_is) c.requires.held in
    let below : at < c.self.inside.end = subst (λ (v : ExtentsView). at < v.end) (sym c.self.view_is) c.requires.below in
    rw (← c.self.view_is)
    (record {
      taken = takes_within _ _ c.args.i at len c.min.result c.self.invariant holds below c.min.ensures c.in_ok-cut.ensures.ok c.max-self-inside.ensures;
      end = c.max-self-inside.ensures;
      spare = omega (arith, c.cut.ensures.len, c.cut.ensures.capacity);
    })
