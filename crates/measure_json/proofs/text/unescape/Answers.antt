use Rattle.std.proofs.Common.{length, ◌∙◌, sym}
use Rattle.std.proofs.lemmas.Result.{err_from_is_err_and}
use Rattle.measure_json.specs.Text.{string_at}
use Rattle.measure_json.proofs.TextLemmas.{begins, goes_on, fails, closes, runs_out}
use Rattle.measure_json.proofs.text.unescape.Goals as goal

pub loop-init : goal.loop-init
loop-init c = rw c.clear.ensures.items (begins c.args.text.now)

pub returns-then-closes : goal.returns-then-closes
returns-then-closes c =
    rw c.skip-closes.ensures.rest
    (closes c.loop.unescaped.items (length c.args.text.now) c.loop.counter c.loop.rest.now (string_at c.args.text.now) c.loop-test.true (sym c.skip-closes.ensures.found ∙ c.if-closes.true) c.loop.invariant)

pub returns-in_err-rest : goal.returns-in_err-rest
returns-in_err-rest c =
    let p = err_from_is_err_and c.from_residual.result c.from_residual.ensures.1 in
    rw (p.1, p.2)
    (fails c.in_err-rest.field-0.0 c.loop.unescaped.items (length c.args.text.now) c.loop.counter c.loop.rest.now (string_at c.args.text.now) c.loop-test.true (sym c.skip-closes.ensures.found ∙ c.if-closes.false) c.in_err-rest.ensures c.loop.invariant)

pub loop-preserved : goal.loop-preserved
loop-preserved c =
    goes_on c.loop.unescaped.items c.push_character.new.out.items (length c.args.text.now) c.loop.counter c.loop.rest.now c.in_ok-rest.rest.now (string_at c.args.text.now) c.loop-test.true (sym c.skip-closes.ensures.found ∙ c.if-closes.false) c.in_ok-rest.ensures c.loop.invariant

pub returns : goal.returns
returns c =
    rw c.syntax.ensures
    (runs_out c.loop.unescaped.items (length c.args.text.now) c.loop.counter c.loop.rest.now (string_at c.args.text.now) c.loop-test.false c.loop.invariant)
