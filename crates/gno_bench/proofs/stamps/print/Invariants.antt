use Rattle.std.proofs.Common.{◌≡◌, take}
use Rattle.std.specs.List.{flat_map}
use Rattle.gno_time.specs.Text.{stamp_text_of}
use Rattle.gno_bench.proofs.stamps.print.Given as goal

abbrev pub invariant-loop-at : goal.invariant-loop-at
invariant-loop-at l = l.text.items ≡ flat_map stamp_text_of (take l.at-index l.stamps)
