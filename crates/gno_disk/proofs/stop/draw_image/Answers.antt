use Rattle.std.proofs.Common.{◌+◌, ℕ, List, length, slice_index, sym, ap, ◌∙◌, arith}
use Rattle.std.proofs.lemmas.List.{length_push}
use Rattle.gno_disk.specs.Inside.{state_of}
use Rattle.gno_disk.specs.Stop.{next_draw, after_place, before_turn, byte_drawn}
use Rattle.gno_disk.proofs.StopLemmas.{before_turn-zero, before_turn-next, each-push}
use Rattle.gno_disk.proofs.stop.draw_image.Goals as goal

pub loop-place-init : goal.loop-place-init
loop-place-init c =
    let s = state_of c.args.bytes.now c.args.since.now in
    record {
      size = ap length c.in_ok-image.ensures.items;
      turn = c.length-len.ensures.state ∙ sym (before_turn-zero s (next_draw c.args.choice));
      each = λ k lt. absurd (omega arith);
    }

pub loop-place-preserved : goal.loop-place-preserved
loop-place-preserved c =
    let s = state_of c.args.bytes.now c.args.since.now in
    let x = next_draw c.args.choice in
    let i = c.loop-place.place in
    let so_far = c.loop-place.invariant in
    let byte = c.image_byte.ensures.draw ∙ ap (λ (y : ℕ). byte_drawn s y i) so_far.turn in
    let items = c.in_ok-push.ensures.items in
    record {
      size = ap length items ∙ length_push _ _ ∙ ap (λ (n : ℕ). n + 1) so_far.size;
      turn = c.image_byte.ensures.state ∙ ap (λ (y : ℕ). after_place s y i) so_far.turn ∙ sym (before_turn-next s x i);
      each = λ k lt. ap (λ (l : List ℕ). slice_index l k) items ∙ each-push (λ k. byte_drawn s (before_turn s x k) k) _ _ i so_far.size so_far.each byte k lt;
    }
