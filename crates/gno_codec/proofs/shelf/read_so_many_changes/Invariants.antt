use Rattle.std.proofs.Common.{◌≡◌, ◌-◌, None}
use Rattle.gno_codec.specs.Reading.{items_at, last_of}
use Rattle.gno_codec.specs.ShelfReading.{change_after}
use Rattle.gno_codec.proofs.Loop.{with_front}
use Rattle.gno_codec.proofs.shelf.read_so_many_changes.Given as goal

abbrev pub invariant-loop : goal.invariant-loop
invariant-loop l =
    with_front l.changes.items (items_at change_after (last_of l.changes.items) (l.count - l.counter) l.reader)
    ≡ items_at change_after None l.count l.fn.reader
