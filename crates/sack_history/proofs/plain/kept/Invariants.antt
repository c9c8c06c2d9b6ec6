use Rattle.std.proofs.Common.{◌≡◌, ◌++◌, drop}
use Rattle.sack_history.specs.Entries.{kept}
use Rattle.sack_history.proofs.plain.kept.Given as goal

abbrev pub invariant-loop-place : goal.invariant-loop-place
invariant-loop-place l = l.counts.items ++ kept (drop l.place l.entries) ≡ kept l.entries
