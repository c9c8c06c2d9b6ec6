use Rattle.std.proofs.Common.{◌≡◌, ◌-◌, None}
use Rattle.gno_codec.specs.Reading.{items_at}
use Rattle.gno_codec.specs.ShelfReading.{block_at}
use Rattle.gno_codec.proofs.Loop.{with_front}
use Rattle.gno_codec.proofs.shelf.read_so_many_blocks.Given as goal

abbrev pub invariant-loop : goal.invariant-loop
invariant-loop l =
    with_front l.blocks.items (items_at (λ _. block_at) None (l.count - l.counter) l.reader) ≡ items_at (λ _. block_at) None l.count l.fn.reader
