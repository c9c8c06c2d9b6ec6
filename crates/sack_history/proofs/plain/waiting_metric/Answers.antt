use Rattle.std.proofs.Common.{refl, sym, ◌∙◌}
use Rattle.sack_history.proofs.Walking.{post_first, post_none}
use Rattle.sack_history.proofs.plain.waiting_metric.Goals as goal

pub returns-then-waits : goal.returns-then-waits
returns-then-waits c =
    sym (post_first c.args.counts.now c.args.c.now c.in-Post.number c.in-Post.metric c.in-Post.measures c.in-Post.is
    (sym (c.waits.ensures (record { number = c.in-Post.number; metric = c.in-Post.metric; measures = c.in-Post.measures }) refl refl) ∙ c.if-waits.true))

pub returns-else-waits : goal.returns-else-waits
returns-else-waits c =
    sym (post_none c.args.counts.now c.args.c.now c.in-Post.number c.in-Post.metric c.in-Post.measures c.in-Post.is
    (sym (c.waits.ensures (record { number = c.in-Post.number; metric = c.in-Post.metric; measures = c.in-Post.measures }) refl refl) ∙ c.if-waits.false))
