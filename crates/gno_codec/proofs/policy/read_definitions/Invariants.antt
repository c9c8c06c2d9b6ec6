use Rattle.std.proofs.Common.{◌≡◌, ◌-◌, None}
use Rattle.gno_codec.specs.Reading.{items_at, last_of}
use Rattle.gno_codec.specs.PolicyReading.{definition_after}
use Rattle.gno_codec.proofs.Loop.{with_front}
use Rattle.gno_codec.proofs.policy.read_definitions.Given as goal

abbrev pub invariant-loop : goal.invariant-loop
invariant-loop l =
    with_front l.definitions.items (items_at definition_after (last_of l.definitions.items) (l.count - l.counter) l.reader)
    ≡ items_at definition_after None l.count l.fn.reader
