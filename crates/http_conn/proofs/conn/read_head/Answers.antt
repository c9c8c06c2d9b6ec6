use Rattle.std.proofs.Common.{◌≤◌, length, drop, refl, arith}
use Rattle.httparse.specs.Grammar.{print_request}
use Rattle.http_conn.proofs.AnswerLemmas.{refused_unless_memory}
use Rattle.http_conn.proofs.conn.read_head.Goals as goal

pub returns-in-Err-clause-end : goal.returns-in-Err-clause-end
returns-in-Err-clause-end c =
    let bytes = c.args.bytes.now in
    let spans = c.in-Whole.spans in
    let found = c.in-Whole.ensures.whole spans refl in
    let within = c.in-Whole.ensures.within spans refl in
    let fits : length (print_request found.0) ≤ 16384 = omega (arith, found.1.len, within.section.len_fits) in
    refused_unless_memory bytes found.0 (drop spans.len bytes) c.in-Err.end found.1.reads fits (λ other. c.in-Err.ensures.err other found.0 found.1)
