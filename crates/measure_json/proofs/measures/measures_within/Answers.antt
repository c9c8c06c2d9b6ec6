use Rattle.std.proofs.Common.{ℕ, List, refl, arith}
use Rattle.std.proofs.lemmas.Result.{err_from_is_err_and}
use Rattle.measure_json.specs.declared.fault.ReadError.{ReadError}
use Rattle.measure_json.specs.declared.fault.ReadError.TheVariants as errors
use Rattle.measure_json.specs.declared.fault.JsonKind.TheVariants.{TooMany}
use Rattle.measure_json.specs.Fault.{Fails, fault_at}
use Rattle.measure_json.specs.Marks.{opened}
use Rattle.measure_json.specs.Measures.{one_too_many}
use Rattle.measure_json.proofs.ItemLemmas.{begins, goes_on, closes, no_item, no_next, over_fails, is_over}
use Rattle.measure_json.proofs.measures.measures_within.Goals as goal

no_brace : (e : ReadError) (text : List ℕ) → Fails e (opened 123 text) → Fails e (one_too_many text)
no_brace errors.Memory text h = tt
no_brace (errors.Fault fault) text h = rw h refl

pub loop-init : goal.loop-init
loop-init c = record { so_far = rw c.new-measures.ensures.items (begins _ _ _ _ _); few = omega (arith, c.new-measures.ensures.len) }

pub returns-in-Err-clause-found : goal.returns-in-Err-clause-found
returns-in-Err-clause-found c = no_item c.loop.invariant.so_far c.in-Err.error c.loop-test.true c.in-Err.ensures

pub returns-in_err-another-clause-found : goal.returns-in_err-another-clause-found
returns-in_err-another-clause-found c =
    let p = err_from_is_err_and c.from_residual-in_err-another.result c.from_residual-in_err-another.ensures.1 in
    rw (p.1, p.2)
    (no_next c.loop.invariant.so_far c.in_err-another.field-0.0 c.in-Ok.found.0 c.in-Ok.found.1.now c.loop-test.true c.in-Ok.ensures c.in_err-another.ensures)

pub returns-then-not-another-clause-found : goal.returns-then-not-another-clause-found
returns-then-not-another-clause-found c =
    rw c.in_ok-push.ensures.items
    (closes c.loop.invariant.so_far c.in-Ok.found.0 c.in-Ok.found.1.now c.in_ok-another.next.now c.in_ok-another.another c.loop-test.true c.in-Ok.ensures c.in_ok-another.ensures c.if-not-another.true)

pub loop-preserved : goal.loop-preserved
loop-preserved c = record {
  so_far = rw c.in_ok-push.ensures.items
      (goes_on c.loop.invariant.so_far c.in-Ok.found.0 c.in-Ok.found.1.now c.in_ok-another.next.now c.in_ok-another.another c.loop-test.true c.in-Ok.ensures c.in_ok-another.ensures c.if-not-another.false);
  few = omega (arith, c.in_ok-push.ensures.len);
}

pub returns-in_err-opened-clause-found : goal.returns-in_err-opened-clause-found
returns-in_err-opened-clause-found c =
    let p = err_from_is_err_and c.from_residual-in_err-opened.result c.from_residual-in_err-opened.ensures.1 in
    rw (p.1, p.2) (over_fails c.loop.invariant.so_far c.in_err-opened.field-0.0 c.loop-test.false (no_brace c.in_err-opened.field-0.0 c.loop.rest.now c.in_err-opened.ensures))

pub returns-clause-found : goal.returns-clause-found
returns-clause-found c =
    rw c.fault_at.ensures
    (is_over c.loop.invariant.so_far (fault_at TooMany c.loop.rest.now) c.loop-test.false (rw c.in_ok-opened.ensures refl))
