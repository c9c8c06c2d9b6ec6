use Rattle.std.proofs.Common.{◌≡◌, ◌<◌, length, slice_index, ℕ}
use Rattle.gno_disk.specs.Inside.{state_of}
use Rattle.gno_disk.specs.Stop.{next_draw, before_turn, byte_drawn}
use Rattle.gno_disk.proofs.stop.draw_image.Given as goal

abbrev pub invariant-loop-place : goal.invariant-loop-place
invariant-loop-place l = record {
  size : length l.image.items ≡ l.place;
  turn : l.draws.state ≡ before_turn (state_of l.bytes l.since) (next_draw l.choice) l.place;
  each : (k : ℕ) → k < l.place → slice_index l.image.items k ≡ byte_drawn (state_of l.bytes l.since) (before_turn (state_of l.bytes l.since) (next_draw l.choice) k) k;
}
