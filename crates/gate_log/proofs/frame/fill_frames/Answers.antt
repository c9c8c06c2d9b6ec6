use Rattle.std.proofs.Common.{◌≡◌, ℕ, length, ap, arith, true, false}
use Rattle.std.specs.Prelude.{Vec}
use Rattle.std.specs.declared.alloc.Global.{Global}
use Rattle.gate_log.proofs.MadeLemmas.{log_long-next}
use Rattle.gate_log.proofs.frame.fill_frames.Goals as goal

pub returns-in_err-push-clause-room : goal.returns-in_err-push-clause-room
returns-in_err-push-clause-room c = λ room.
    let filled = c.records.invariant in
    let capacity = filled.capacity in
    let next = log_long-next c.args.first.now c.args.rest.now c.records.body-index c.body-item.result c.records-test.true in
    absurd (omega (arith, room, capacity, next, ap length filled.bytes, c.in_err-push.ensures.full))

pub returns-in_err-push_body-2-clause-room : goal.returns-in_err-push_body-2-clause-room
returns-in_err-push_body-2-clause-room c = λ room.
    let filled = c.records.invariant in
    let capacity = filled.capacity in
    let next = log_long-next c.args.first.now c.args.rest.now c.records.body-index c.body-item.result c.records-test.true in
    let no : false ≡ true = c.in_err-push_body-2.ensures.room
    (omega (arith, room, capacity, next, ap length filled.bytes, c.in_ok-push.ensures.len, c.push.ensures.capacity, ap length c.deref.ensures.value, ap (λ (v : Vec ℕ Global). length v.items) c.body-item.is)) in
    cc
