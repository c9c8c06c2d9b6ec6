use Rattle.std.proofs.Common.{◌*◌, ◌^◌}
use Rattle.std.specs.List.{All}
use Rattle.gno_codec.specs.Blocks.{IsSplit}
use Rattle.gno_bench.proofs.blocks.read_all.Given as goal

-- the splits so far
abbrev pub invariant-loop-block : goal.invariant-loop-block
invariant-loop-block l = All (IsSplit (60 * 10 ^ 9)) l.items.items
