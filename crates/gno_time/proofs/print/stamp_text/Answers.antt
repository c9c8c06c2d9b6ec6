use Rattle.std.proofs.Common.{◌*◌, ◌^◌, ◌<◌}
use Rattle.gno_time.proofs.StampPrinted.{read-stamp_text}
use Rattle.gno_time.proofs.print.stamp_text.Goals as goal

pub returns-clause-again : goal.returns-clause-again
returns-clause-again c =
    let early : c.args.at < 9 * 10 ^ 18 = rw c.nanos.ensures.value at c.nanos.ensures.range in
    read-stamp_text c.args.at early
