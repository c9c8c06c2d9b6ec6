use Rattle.std.proofs.Common.{◌+◌, ◌*◌, ap, arith}
use Rattle.gno_time.proofs.SpanLemmas.{part_err, part_some, part_none, rest_is}
use Rattle.gno_time.proofs.span.+part_of.Goals as goal

pub returns-in_err-behind-in-len1-up-clause-none : goal.returns-in_err-behind-in-len1-up-clause-none
returns-in_err-behind-in-len1-up-clause-none t c =
    let ds = c.args.fraction.now in
    let broken = rw (rest_is ds) at c.in_err-behind-in-len1-up.ensures.none in
    rw c.from_residual.ensures (part_err ds c.args.unit (omega arith) broken)

pub returns-then-tenths-eq0-clause-some : goal.returns-then-tenths-eq0-clause-some
returns-then-tenths-eq0-clause-some t c =
    let ds = c.args.fraction.now in
    let behind = c.in_ok-behind-in-len1-up.behind in
    let whole = rw (rest_is ds) at c.in_ok-behind-in-len1-up.ensures.some in
    part_some ds c.args.unit behind (c.from.result * c.args.unit + behind) (omega arith) (ap (λ n. n * c.args.unit + behind) c.from.ensures) whole c.if-tenths-eq0.true

pub returns-else-tenths-eq0-clause-none : goal.returns-else-tenths-eq0-clause-none
returns-else-tenths-eq0-clause-none t c =
    let ds = c.args.fraction.now in
    let behind = c.in_ok-behind-in-len1-up.behind in
    let whole = rw (rest_is ds) at c.in_ok-behind-in-len1-up.ensures.some in
    part_none ds c.args.unit behind (c.from.result * c.args.unit + behind) (omega arith) (ap (λ n. n * c.args.unit + behind) c.from.ensures) whole c.if-tenths-eq0.false
