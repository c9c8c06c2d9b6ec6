use Rattle.std.proofs.Common.{◌≡◌, ◌==◌, ℕ, false, not, map, codes, sym, ap, arith, Err}
use Rattle.std.proofs.lemmas.Bool.Decides.{nat_tests}
use Rattle.std.proofs.lemmas.Result.{err_from_is_err_and}
use Rattle.std.proofs.lemmas.Grind.{common_steps}
use Rattle.std.specs.Str.{bytes_eq}
use Rattle.httparse.specs.Spans.{header_bytes}
use Rattle.http_conn.specs.Message.{lacks_host, has_coding}
use Rattle.http_conn.proofs.FramingLemmas.{judged}
use Rattle.http_conn.proofs.framing.framing_of.Goals.{else-minor-eq1-via-then-minor-eq1+else-count_of-ne1, else-minor-eq1-via-else-minor-eq1}
use Rattle.http_conn.proofs.framing.framing_of.Goals as goal

pub returns-in_err-length-clause-err : goal.returns-in_err-length-clause-err
returns-in_err-length-clause-err c =
    let p = err_from_is_err_and c.from_residual.result c.from_residual.ensures.1 in
    let lines = map (header_bytes c.args.bytes.now) c.args.headers.now in
    let host : lacks_host c.args.minor lines ≡ false =
    elim c.else-minor-eq1.branch [
      | else-minor-eq1-via-then-minor-eq1+else-count_of-ne1 w ↦ grind (arith, nat_tests)
      | else-minor-eq1-via-else-minor-eq1 w ↦ grind (arith, nat_tests)
    ] in
    let is_coding : has_coding lines ≡ not (c.count_of-has_coding.result == 0) = ap (λ (n : ℕ). not (n == 0)) (sym c.count_of-has_coding.ensures) in
    let is_post : bytes_eq c.args.method.now (codes "POST") ≡ c.eq-is_post.result = grind (arith, common_steps) in
    let here = judged c.args.method.now c.args.minor lines c.stated_length-stated.result (not (c.count_of-has_coding.result == 0)) c.eq-is_post.result (Err c.in_err-length.field-0.0) host c.stated_length-stated.ensures is_coding is_post c.in_err-length.ensures in
    rw (p.1, p.2) here
