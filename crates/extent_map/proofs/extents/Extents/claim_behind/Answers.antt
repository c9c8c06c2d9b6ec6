use Rattle.std.proofs.Common.{◌+◌, ◌≤◌, refl, sym, subst, arith}
use Rattle.extent_map.specs.Extents.{ExtentsView}
use Rattle.extent_map.proofs.ExtentLemmas.{form_wider, takes_behind}
use Rattle.extent_map.proofs.extents.Extents.claim_behind.Goals as goal

pub returns-clause-form : goal.returns-clause-form
returns-clause-form c =
    let behind : c.self.inside.end ≤ c.args.at = subst (λ (v : ExtentsView). v.end ≤ c.args.at) (sym c.self.view_is) c.requires.behind in
    c.in_ok-join.ensures.ok.form (c.args.at + c.args.len) (omega arith) (form_wider c.self.inside.end (c.args.at + c.args.len) c.self.inside.free.items (omega arith) c.self.invariant)

pub returns-clause-ok : goal.returns-clause-ok
returns-clause-ok c =
    let behind : c.self.inside.end ≤ c.args.at = subst (λ (v : ExtentsView). v.end ≤ c.args.at) (sym c.self.view_is) c.requires.behind in
    rw (← c.self.view_is)
    (record {
      taken = takes_behind _ _ c.args.at c.args.len c.self.invariant (omega (arith, c.if-self-at.false)) c.in_ok-join.ensures.ok refl;
      end = omega arith;
      spare = omega (arith, c.join.ensures.len, c.join.ensures.capacity);
    })
