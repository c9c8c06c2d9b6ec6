use Rattle.std.proofs.Common.{subst, sym}
use Rattle.std.specs.Prelude.{IfSome}
use Rattle.std.proofs.lemmas.List.Elements.{All-more, All-get_or}
use Rattle.gno_codec.specs.declared.item.Change.{Change}
use Rattle.gno_codec.specs.Shelf.{change_bytes, HasLength, IsChange}
use Rattle.gno_codec.proofs.Writes.{one_more_item}
use Rattle.gno_codec.proofs.shelf.put_each_change.Goals as goal

pub loop-change-preserved : goal.loop-change-preserved
loop-change-preserved c =
    let items = c.args.changes.now in
    let i = c.loop-change.change-index in
    let x = c.change-item.result in
    let lt = c.loop-change-test.true in
    let put = c.in_ok-put_change.ensures in (
      one_more_item change_bytes _ _ _ items i x lt c.change-item.is c.loop-change.invariant.0 put.bytes,
      λ all. All-more IsChange items i x lt (c.loop-change.invariant.1 all) (subst IsChange c.change-item.is (put.is (subst (λ (change : Change). IfSome change.block HasLength) (sym c.change-item.is) (All-get_or (λ (change : Change). IfSome change.block HasLength) items i x lt all)))),
    )
