use Rattle.std.proofs.Common.{length}
use Rattle.archive_policy.proofs.first_fault.+has_same.Given as goal

abbrev pub decreases-has_same : goal.decreases-has_same
decreases-has_same l = length l.wanted.now
