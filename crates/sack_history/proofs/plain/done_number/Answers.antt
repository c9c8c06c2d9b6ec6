use Rattle.std.proofs.Common.{take, sym, ap, ◌∙◌}
use Rattle.std.specs.Option.{option_map}
use Rattle.sack_history.specs.Lives.{Life, last_after, life_after, life_of}
use Rattle.sack_history.proofs.Walking.{last_step, life_step}
use Rattle.sack_history.proofs.plain.done_number.Goals as goal

pub loop-c-preserved : goal.loop-c-preserved
loop-c-preserved c =
    let counts = c.args.counts.now in
    let i = c.loop-c.c-index in
    let x = c.c-item.result in
    let m = c.args.metric in (
      c.last_after-last.ensures ∙ ap (λ n. last_after n x) c.loop-c.invariant.0 ∙ sym (last_step counts i x c.loop-c-test.true c.c-item.is),
      c.done_after-done.ensures (life_of m (take i counts)) c.loop-c.invariant.1
          ∙ ap (λ n. option_map (λ (life : Life). life.done) (life_after m n (life_of m (take i counts)) x)) c.loop-c.invariant.0
          ∙ sym (ap (option_map (λ (life : Life). life.done)) (life_step m counts i x c.loop-c-test.true c.c-item.is)),
    )
