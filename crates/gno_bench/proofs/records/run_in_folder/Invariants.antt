use Rattle.std.specs.Prelude.{All}
use Rattle.gno_bench.specs.Rounds.{IsRoundOf}
use Rattle.gno_bench.proofs.records.run_in_folder.Given as goal

abbrev pub invariant-loop : goal.invariant-loop
invariant-loop l = All (IsRoundOf l.size) l.rows.items
