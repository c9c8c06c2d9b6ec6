use Rattle.std.proofs.Common.{◌≡◌, ◌++◌, take, All}
use Rattle.std.specs.List.{flat_map}
use Rattle.gno_codec.specs.Incoming.{measure_bytes, IsMeasure}
use Rattle.gno_codec.proofs.incoming.put_measures.Given as goal

abbrev pub invariant-loop-measure : goal.invariant-loop-measure
invariant-loop-measure l =
    (l.out.items ≡ l.initial.out.items ++ flat_map measure_bytes (take l.measure-index l.measures))
    × All IsMeasure (take l.measure-index l.measures)
