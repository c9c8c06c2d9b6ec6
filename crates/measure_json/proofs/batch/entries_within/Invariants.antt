use Rattle.std.proofs.Common.{length}
use Rattle.measure_json.specs.Items.{items_within}
use Rattle.measure_json.specs.Batch.{entry_at, runs_out}
use Rattle.measure_json.proofs.ItemLemmas.{SoFar}
use Rattle.measure_json.proofs.batch.entries_within.Given as goal

abbrev pub invariant-loop : goal.invariant-loop
invariant-loop l = SoFar entry_at 125 runs_out l.entries.items l.len l.counter l.rest (items_within entry_at 125 runs_out (length l.text) l.text)
