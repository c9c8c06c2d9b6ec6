use Rattle.std.proofs.Common.{length}
use Rattle.gno_time.proofs.span.+part_of.Given as goal

abbrev pub decreases-part_of : goal.decreases-part_of
decreases-part_of l = length l.fraction.now
