use Rattle.std.proofs.Common.{sym, ◌∙◌}
use Rattle.sack_state.proofs.PostLemmas.{post_refused}
use Rattle.sack_state.proofs.books.Books.post.Goals as goal

pub returns-in-Err-clause-outcome : goal.returns-in-Err-clause-outcome
returns-in-Err-clause-outcome g c =
    let e = c.in-Err.ensures in
    post_refused g.D.Disk c.args.metric c.args.batch.now c.args.self.now c.post.new.self c.in-Err.fault c.refusal_of.result c.faults-before.result c.faults.result (sym c.knows.ensures ∙ c.if-not-knows.false)
    c.faults-before.ensures c.faults.ensures e.kept.1 e.kept.0
    (record { moments = e.any_moment; left = e.left; came_first = e.came.0; came_second = e.came.1 }) e.spent e.cause c.refusal_of.ensures
