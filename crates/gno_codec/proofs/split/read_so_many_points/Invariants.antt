use Rattle.std.proofs.Common.{◌≡◌, ◌-◌, None}
use Rattle.gno_codec.specs.Reading.{items_at, last_of}
use Rattle.gno_codec.specs.BlocksReading.{point_after}
use Rattle.gno_codec.proofs.Loop.{with_front}
use Rattle.gno_codec.proofs.split.read_so_many_points.Given as goal

abbrev pub invariant-loop : goal.invariant-loop
invariant-loop l =
    with_front l.points.items (items_at (point_after l.granularity l.key) (last_of l.points.items) (l.count - l.counter) l.reader) ≡ items_at (point_after l.granularity l.key) None l.count l.fn.reader
