use Rattle.std.proofs.Common.{[], refl}
use Rattle.std.proofs.lemmas.Result.{err_from_is_err_and}
use Rattle.measure_json.specs.declared.fault.JsonKind.TheVariants.{Syntax}
use Rattle.measure_json.specs.Fault.{fault_at}
use Rattle.measure_json.proofs.ItemLemmas.{begins, goes_on, closes, no_item, no_next, is_over}
use Rattle.measure_json.proofs.batch.entries_within.Goals as goal

pub loop-init : goal.loop-init
loop-init c = rw c.new-entries.ensures.items (begins _ _ _ _ _)

pub returns-in-Err : goal.returns-in-Err
returns-in-Err c = no_item c.loop.invariant c.in-Err.error c.loop-test.true c.in-Err.ensures

pub returns-in_err-another : goal.returns-in_err-another
returns-in_err-another c =
    let p = err_from_is_err_and c.from_residual-in_err-another.result c.from_residual-in_err-another.ensures.1 in
    rw (p.1, p.2)
    (no_next c.loop.invariant c.in_err-another.field-0.0 c.in-Ok.found.0 c.in-Ok.found.1.now c.loop-test.true c.in-Ok.ensures c.in_err-another.ensures)

pub returns-then-not-another : goal.returns-then-not-another
returns-then-not-another c =
    rw c.in_ok-push.ensures.items
    (closes c.loop.invariant c.in-Ok.found.0 c.in-Ok.found.1.now c.in_ok-another.next.now c.in_ok-another.another c.loop-test.true c.in-Ok.ensures c.in_ok-another.ensures c.if-not-another.true)

pub loop-preserved : goal.loop-preserved
loop-preserved c =
    rw c.in_ok-push.ensures.items
    (goes_on c.loop.invariant c.in-Ok.found.0 c.in-Ok.found.1.now c.in_ok-another.next.now c.in_ok-another.another c.loop-test.true c.in-Ok.ensures c.in_ok-another.ensures c.if-not-another.false)

pub returns : goal.returns
returns c = rw c.syntax.ensures (is_over c.loop.invariant (fault_at Syntax []) c.loop-test.false refl)
