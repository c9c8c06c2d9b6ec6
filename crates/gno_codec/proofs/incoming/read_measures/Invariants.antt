use Rattle.std.proofs.Common.{◌≡◌, ◌-◌, length, None}
use Rattle.gno_codec.specs.Reading.{items_at}
use Rattle.gno_codec.specs.IncomingReading.{measure_at}
use Rattle.gno_codec.proofs.Loop.{with_front}
use Rattle.gno_codec.proofs.incoming.read_measures.Given as goal

abbrev pub invariant-loop : goal.invariant-loop
invariant-loop l =
    (with_front l.measures.items (items_at (λ _. measure_at) None (l.count - l.counter) l.reader) ≡ items_at (λ _. measure_at) None l.count l.fn.reader)
    × (length l.measures.items ≡ l.counter)
