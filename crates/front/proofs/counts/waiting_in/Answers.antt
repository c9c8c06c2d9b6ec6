use Rattle.std.proofs.Common.{Some, length, sym, ap, ◌∙◌, arith}
use Rattle.std.proofs.lemmas.Option.{slice_get-get_or}
use Rattle.sack_history.specs.Lives.{pending_posts}
use Rattle.front.proofs.Counting.{sum_counted, sum_whole}
use Rattle.front.proofs.counts.waiting_in.Goals as goal

pub loop-sack-preserved : goal.loop-sack-preserved
loop-sack-preserved g c books lists are counted =
    let v = c.sack-item.result in
    let there = slice_get-get_or c.args.sacks.now c.loop-sack.sack-index v c.loop-sack-test.true ∙ ap Some (sym c.sack-item.is) in
    sum_counted g.D.Disk (λ counts. length (pending_posts counts)) c.loop-sack.sack-index c.loop-sack.total c.pending.result c.saturating_add-total.result c.args.sacks.now books lists v are counted there
    c.pending.ensures.by_history (c.loop-sack.invariant books lists are counted) (omega (arith, c.saturating_add-total.ensures))

pub returns : goal.returns
returns g c books lists are counted =
    sum_whole g.D.Disk (λ counts. length (pending_posts counts)) c.loop-sack.sack-index c.loop-sack.total c.args.sacks.now books lists are counted
    (omega (arith, c.loop-sack-test.false, c.loop-sack.auto.sack-index-end)) (c.loop-sack.invariant books lists are counted)
