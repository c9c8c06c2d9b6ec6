use Rattle.std.proofs.Common.{arith}
use Rattle.std.proofs.lemmas.List.{take_rest}
use Rattle.gno_io.proofs.PutAll.{HasPut-more}
use Rattle.gno_io.proofs.sink.put_all.Goals as goal

pub loop-rest-preserved : goal.loop-rest-preserved
loop-rest-preserved g c =
    let more = c.in_ok-n.ensures in
    (rw take_rest (HasPut-more _ _ _ _ _ _ c.loop-rest.invariant.0 more.count more.bytes), omega arith)
