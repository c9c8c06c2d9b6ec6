use Rattle.std.proofs.Common.{◌≡◌, drop}
use Rattle.sack_history.specs.Entries.{is_found}
use Rattle.sack_history.proofs.plain.is_found.Given as goal

abbrev pub invariant-loop-entry : goal.invariant-loop-entry
invariant-loop-entry l = is_found l.entries ≡ is_found (drop l.entry-index l.entries)
