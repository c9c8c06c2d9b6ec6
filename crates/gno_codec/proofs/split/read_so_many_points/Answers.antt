use Rattle.std.proofs.Common.{None}
use Rattle.std.proofs.lemmas.Result.{err_from_is_err_and}
use Rattle.gno_codec.specs.Reading.{items_at, last_of}
use Rattle.gno_codec.specs.BlocksReading.{point_after}
use Rattle.gno_codec.proofs.Loop.{goes_on_last, ends_last, is_done}
use Rattle.gno_codec.proofs.split.read_so_many_points.Goals as goal

pub returns-in_err-point : goal.returns-in_err-point
returns-in_err-point c =
    let item = point_after c.args.granularity c.args.key in
    let p = err_from_is_err_and c.from_residual-in_err-point.result c.from_residual-in_err-point.ensures.1 in
    rw (p.1, p.2) (ends_last item c.in_err-point.field-0.0 c.as_slice.result.now c.loop.points.items c.args.count c.loop.counter c.loop.reader (items_at item None c.args.count c.args.reader.now) c.loop-test.true c.as_slice.ensures.value c.in_err-point.ensures c.loop.invariant)

pub loop-preserved : goal.loop-preserved
loop-preserved c =
    let item = point_after c.args.granularity c.args.key in
    goes_on_last item c.as_slice.result.now c.loop.points.items c.push.new.self.items c.args.count c.loop.counter c.loop.reader c.in_ok-point.point c.read_point.new.reader (items_at item None c.args.count c.args.reader.now) c.loop-test.true c.as_slice.ensures.value c.in_ok-point.ensures c.loop.invariant c.in_ok-push.ensures.items

pub returns : goal.returns
returns c =
    let item = point_after c.args.granularity c.args.key in
    is_done item (last_of c.loop.points.items) c.loop.points.items c.args.count c.loop.counter c.loop.reader (items_at item None c.args.count c.args.reader.now) c.loop-test.false c.loop.invariant
