use Rattle.std.proofs.Common.{◌≤◌, length}
use Rattle.measure_json.specs.Measures.{measure_at, one_too_many, measures_within}
use Rattle.measure_json.proofs.ItemLemmas.{SoFar}
use Rattle.measure_json.proofs.measures.measures_within.Given as goal

abbrev pub invariant-loop : goal.invariant-loop
invariant-loop l = record {
  so_far : SoFar measure_at 93 one_too_many l.measures.items 50000 l.counter l.rest (measures_within 50000 l.text);
  few : length l.measures.items ≤ l.counter;
}
