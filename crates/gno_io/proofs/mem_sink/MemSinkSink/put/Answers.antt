use Rattle.std.proofs.Common.{rules, inl, inr}
use Rattle.gno_io.proofs.mem_sink.MemSinkSink.put.Goals.{then-is_planned-via-then-is_planned, then-is_planned-via-else-is_planned+then-is_err}
use Rattle.gno_io.proofs.mem_sink.MemSinkSink.put.Goals as goal

pub returns-then-is_planned-clause-only : goal.returns-then-is_planned-clause-only
returns-then-is_planned-clause-only c =
    elim c.then-is_planned.branch [
      | then-is_planned-via-then-is_planned w ↦ inl (search (rules, w.if-is_planned.ensures))
      | then-is_planned-via-else-is_planned+then-is_err w ↦ inr (search rules)
    ]
