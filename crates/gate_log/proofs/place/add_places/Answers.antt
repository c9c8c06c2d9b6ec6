use Rattle.std.proofs.Common.{length, ap, ◌∙◌, arith}
use Rattle.std.specs.Prelude.{Vec, ℕ}
use Rattle.std.specs.declared.alloc.Global.{Global}
use Rattle.gate_log.proofs.MadeLemmas.{log_long-next, placed_next}
use Rattle.gate_log.proofs.place.add_places.Goals as goal

pub add_place-end-requires-in-records-clause-limit : goal.add_place-end-requires-in-records-clause-limit
add_place-end-requires-in-records-clause-limit c =
    let placed = c.records.invariant in
    let end = placed.end in
    let next = log_long-next c.args.first.now c.args.rest.now c.records.body-index c.body-item.result c.records-test.true in
    let limit = c.requires.limit in
    omega (arith, end, next, limit, ap length c.deref.ensures.value, ap (λ (v : Vec ℕ Global). length v.items) c.body-item.is)

pub records-preserved : goal.records-preserved
records-preserved c =
    placed_next c.args.places.now _ _ c.records.end _ c.args.first.now c.args.rest.now c.records.body-index c.body-item.result c.deref.result.now c.records-test.true
    (c.deref.ensures.value ∙ ap (λ (v : Vec ℕ Global). v.items) c.body-item.is) c.records.invariant c.add_place-end-in-records.ensures.place c.add_place-end-in-records.ensures.end c.add_place-end-in-records.ensures.capacity
