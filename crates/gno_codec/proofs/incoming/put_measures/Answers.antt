use Rattle.std.proofs.Common.{subst}
use Rattle.std.proofs.lemmas.List.Elements.{All-more}
use Rattle.gno_codec.specs.Incoming.{measure_bytes, IsMeasure}
use Rattle.gno_codec.proofs.Writes.{one_more_item}
use Rattle.gno_codec.proofs.incoming.put_measures.Goals as goal

pub loop-measure-preserved : goal.loop-measure-preserved
loop-measure-preserved c =
    let measures = c.args.measures.now in
    let i = c.loop-measure.measure-index in
    let m = c.measure-item.result in
    let put = c.in_ok-put_measure.ensures in
    let lt = c.loop-measure-test.true in
    (one_more_item measure_bytes _ _ _ measures i m lt c.measure-item.is c.loop-measure.invariant.0 put.bytes, All-more IsMeasure measures i m lt c.loop-measure.invariant.1 (subst IsMeasure c.measure-item.is put.is))
