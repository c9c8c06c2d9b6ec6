use Rattle.std.proofs.Common.{None, arith}
use Rattle.std.proofs.lemmas.Result.{err_from_is_err_and}
use Rattle.std.proofs.lemmas.List.{length_push}
use Rattle.gno_codec.specs.Reading.{items_at}
use Rattle.gno_codec.specs.IncomingReading.{measure_at}
use Rattle.gno_codec.proofs.Loop.{goes_on_any, ends, is_done}
use Rattle.gno_codec.proofs.incoming.read_measures.Goals as goal

pub returns-in_err-measure-clause-read : goal.returns-in_err-measure-clause-read
returns-in_err-measure-clause-read c =
    let p = err_from_is_err_and c.from_residual-in_err-measure.result c.from_residual-in_err-measure.ensures.1 in
    rw (p.1, p.2) (ends (λ _. measure_at) c.in_err-measure.field-0.0 None c.loop.measures.items c.args.count c.loop.counter c.loop.reader (items_at (λ _. measure_at) None c.args.count c.args.reader.now) c.loop-test.true c.in_err-measure.ensures c.loop.invariant.0)

pub loop-preserved : goal.loop-preserved
loop-preserved c =
    let pushed = c.in_ok-push.ensures.items in
    (rw pushed (goes_on_any measure_at c.loop.measures.items c.args.count c.loop.counter c.loop.reader c.in_ok-measure.measure c.read_measure.new.reader (items_at (λ _. measure_at) None c.args.count c.args.reader.now) c.loop-test.true c.in_ok-measure.ensures c.loop.invariant.0), rw pushed (omega (arith, length_push c.loop.measures.items c.in_ok-measure.measure)))

pub returns-clause-read : goal.returns-clause-read
returns-clause-read c =
    is_done (λ _. measure_at) None c.loop.measures.items c.args.count c.loop.counter c.loop.reader (items_at (λ _. measure_at) None c.args.count c.args.reader.now) c.loop-test.false c.loop.invariant.0
