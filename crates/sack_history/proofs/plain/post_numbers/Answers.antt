use Rattle.std.proofs.Common.{take, sym, ap, ◌∙◌}
use Rattle.std.specs.Option.{is_some}
use Rattle.sack_history.specs.Lives.{last_post, life_of}
use Rattle.sack_history.specs.Plain.{numbers_in}
use Rattle.sack_history.proofs.Walking.{life_step}
use Rattle.sack_history.proofs.plain.post_numbers.Goals as goal

pub loop-c-preserved : goal.loop-c-preserved
loop-c-preserved c =
    let counts = c.args.counts.now in
    let i = c.loop-c.c-index in
    let m = c.args.metric in
    let step = life_step m counts i c.c-item.result c.loop-c-test.true c.c-item.is in
    let before = life_of m (take i counts) in (
      c.in_ok-live.ensures.live before (last_post (take i counts)) c.loop-c.invariant.0 ∙ sym (ap is_some step),
      c.in_ok-live.ensures.numbers before (last_post (take i counts)) c.loop-c.invariant.0 c.loop-c.invariant.1 ∙ sym (ap numbers_in step),
    )
