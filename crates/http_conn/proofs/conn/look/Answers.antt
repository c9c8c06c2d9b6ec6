use Rattle.std.proofs.Common.{ap, Err}
use Rattle.http_conn.proofs.HeadSize.{few_lines}
use Rattle.http_conn.proofs.conn.look.Goals as goal

pub returns-in-Err-clause-never : goal.returns-in-Err-clause-never
returns-in-Err-clause-never c =
    λ _. c.in-Err.ensures.invalid (λ many. few_lines c.args.bytes.now _ c.requires.few c.requires.room (c.in-Err.ensures.too_many (ap Err many)))
