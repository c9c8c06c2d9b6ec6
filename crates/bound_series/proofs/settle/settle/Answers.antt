use Rattle.std.proofs.Common.{sym, rules}
use Rattle.std.specs.List.Sorted.{IsStrictlyIncreasing}
use Rattle.series_model.proofs.Rising.{Rises_from_rising, times}
use Rattle.series_model.proofs.TailLaws.{series-own}
use Rattle.bound_series.proofs.settle.settle.Goals as goal

pub returns-then-rises : goal.returns-then-rises
returns-then-rises c =
    let rising : IsStrictlyIncreasing (times c.args.measures.items) = search rules in
    sym (series-own c.args.measures.items (Rises_from_rising (times c.args.measures.items) rising))
