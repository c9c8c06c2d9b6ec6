use Rattle.std.proofs.Common.{subst, sym}
use Rattle.std.proofs.lemmas.List.Elements.{All-more, All-get_or}
use Rattle.gno_codec.specs.Blocks.{point_bytes, IsPlaced, IsPointOf}
use Rattle.gno_codec.proofs.Writes.{one_more_item}
use Rattle.gno_codec.proofs.split.put_points.Goals as goal

pub put_point-requires : goal.put_point-requires
put_point-requires c =
    let P = IsPlaced c.args.granularity c.args.key in
    subst P (sym c.point-item.is) (All-get_or P c.args.points.now c.loop-point.point-index c.point-item.result c.loop-point-test.true c.requires)

pub loop-point-preserved : goal.loop-point-preserved
loop-point-preserved c =
    let points = c.args.points.now in
    let i = c.loop-point.point-index in
    let p = c.point-item.result in
    let put = c.in_ok-next.ensures in
    let lt = c.loop-point-test.true in
    let Is = IsPointOf c.args.granularity c.args.key in
    (one_more_item (point_bytes c.args.granularity c.args.key) _ _ _ points i p lt c.point-item.is c.loop-point.invariant.0 put.bytes, All-more Is points i p lt c.loop-point.invariant.1 (subst Is c.point-item.is put.is))
