use Rattle.std.proofs.Common.{◌≡◌, take}
use Rattle.std.specs.List.{flat_map}
use Rattle.gno_num.specs.Text.{units_text}
use Rattle.gno_bench.proofs.values.print.Given as goal

abbrev pub invariant-loop-value : goal.invariant-loop-value
invariant-loop-value l = l.text.items ≡ flat_map units_text (take l.value-index l.values)
