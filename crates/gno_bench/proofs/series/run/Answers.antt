use Rattle.std.proofs.Common.{rules}
use Rattle.gno_bench.proofs.series.run.Goals as goal

pub returns : goal.returns
returns c = (
  c.in_ok-summed.summed.outcome,
  c.in_ok-raw.risen.outcome,
  c.in_ok-mixed.mixed.outcome,
  c.in_ok-points.points.outcome,
  search rules,
  search rules,
  search rules,
  search rules,
)
