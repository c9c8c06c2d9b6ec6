use Rattle.std.proofs.Common.{◌≡◌, ◌-◌, drop, length, Some}
use Rattle.series_model.specs.Query.{rows_over, asked_of}
use Rattle.series_model.proofs.replies.rows_over.Given as goal

-- the rows of the coarsest definitions so far
abbrev pub invariant-loop-k : goal.invariant-loop-k
invariant-loop-k l =
    l.answer ≡ rows_over l.query l.kind l.series (Some l.last) (asked_of l.query (drop (length l.definitions - l.k) l.definitions))
