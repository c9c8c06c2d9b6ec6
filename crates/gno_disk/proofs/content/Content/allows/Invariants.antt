use Rattle.std.proofs.Common.{◌≡◌, ◌<◌, ℕ, false, slice_index}
use Rattle.gno_disk.specs.Images.{is_loose}
use Rattle.gno_disk.specs.Inside.{state_of}
use Rattle.gno_disk.proofs.content.Content.allows.Given as goal

abbrev pub invariant-loop-place : goal.invariant-loop-place
invariant-loop-place l = (k : ℕ) → k < l.place → is_loose (state_of l.self-inside.bytes.items l.self-inside.since) k ≡ false → slice_index l.image k ≡ slice_index l.self-inside.bytes.items k
