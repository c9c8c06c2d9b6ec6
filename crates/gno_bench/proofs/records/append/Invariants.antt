use Rattle.std.proofs.Common.{◌≡◌, ◌+◌, false}
use Rattle.gno_bench.proofs.records.append.Given as goal

abbrev pub invariant-loop : goal.invariant-loop
invariant-loop g l = record { whole : l.log.broken ≡ false; counted : l.log.count ≡ l.initial.log.count + l.counter }
