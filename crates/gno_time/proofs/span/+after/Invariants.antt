use Rattle.std.proofs.Common.{length}
use Rattle.gno_time.proofs.span.+after.Given as goal

abbrev pub decreases-after : goal.decreases-after
decreases-after l = length l.bytes.now
