use Rattle.std.proofs.Common.{None}
use Rattle.std.proofs.lemmas.Result.{err_from_is_err_and}
use Rattle.gno_codec.specs.Reading.{items_at, last_of}
use Rattle.gno_codec.specs.ShelfReading.{change_after}
use Rattle.gno_codec.proofs.Loop.{goes_on_last, ends_last, is_done}
use Rattle.gno_codec.proofs.shelf.read_so_many_changes.Goals as goal

pub returns-in_err-change : goal.returns-in_err-change
returns-in_err-change c =
    let p = err_from_is_err_and c.from_residual-in_err-change.result c.from_residual-in_err-change.ensures.1 in
    rw (p.1, p.2) (ends_last change_after c.in_err-change.field-0.0 c.as_slice.result.now c.loop.changes.items c.args.count c.loop.counter c.loop.reader (items_at change_after None c.args.count c.args.reader.now) c.loop-test.true c.as_slice.ensures.value c.in_err-change.ensures c.loop.invariant)

pub loop-preserved : goal.loop-preserved
loop-preserved c =
    goes_on_last change_after c.as_slice.result.now c.loop.changes.items c.push.new.self.items c.args.count c.loop.counter c.loop.reader c.in_ok-change.change c.read_change.new.reader (items_at change_after None c.args.count c.args.reader.now) c.loop-test.true c.as_slice.ensures.value c.in_ok-change.ensures c.loop.invariant c.in_ok-push.ensures.items

pub returns : goal.returns
returns c =
    is_done change_after (last_of c.loop.changes.items) c.loop.changes.items c.args.count c.loop.counter c.loop.reader (items_at change_after None c.args.count c.args.reader.now) c.loop-test.false c.loop.invariant
