use Rattle.std.proofs.Common.{◌≤◌, length}
use Rattle.gno_io.proofs.PutAll.{HasPut}
use Rattle.gno_io.proofs.sink.put_all.Given as goal

abbrev pub invariant-loop-rest : goal.invariant-loop-rest
invariant-loop-rest g l =
    HasPut (g.K.Sink.taken l.fn.sink) (g.K.Sink.taken l.sink) l.bytes l.rest × (g.K.Sink.faults l.fn.sink ≤ g.K.Sink.faults l.sink)

abbrev pub decreases-loop-rest : goal.decreases-loop-rest
decreases-loop-rest g l = length l.rest
