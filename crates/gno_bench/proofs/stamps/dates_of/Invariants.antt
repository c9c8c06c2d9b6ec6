use Rattle.std.proofs.Common.{◌≡◌, take, map}
use Rattle.gno_time.specs.Text.{stamp_text_of}
use Rattle.gno_bench.specs.Outcome.{texts_of}
use Rattle.gno_bench.proofs.stamps.dates_of.Given as goal

abbrev pub invariant-loop-at : goal.invariant-loop-at
invariant-loop-at l = texts_of l.tokens.items ≡ map stamp_text_of (take l.at-index l.stamps)
