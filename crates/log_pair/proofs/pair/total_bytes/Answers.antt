use Rattle.std.proofs.Common.{◌≡◌, ◌+◌, [], ◌∷◌, ◌++◌, take, length, sym, ap, ◌∙◌, arith, rules}
use Rattle.gate_log.specs.Records.{bodies_of, total_length}
use Rattle.gate_log.proofs.MadeLemmas.{bodies_of-more}
use Rattle.log_pair.proofs.Making.{total_length-push}
use Rattle.log_pair.proofs.pair.total_bytes.Goals as goal

pub loop-body-preserved : goal.loop-body-preserved
loop-body-preserved c =
    let rest = c.args.rest.now in
    let i = c.loop-body.body-index in
    let body = c.body-item.result in
    let more : bodies_of (take (i + 1) rest) ≡ bodies_of (take i rest) ++ body.items ∷ [] =
    bodies_of-more rest i body c.loop-body-test.true ∙ ap (λ b. bodies_of (take i rest) ++ b.items ∷ []) (sym c.body-item.is) in
    let len : c.len.result ≡ length body.items = search rules in
    let sum : c.in_ok-total.total ≡ c.loop-body.total + c.len.result = search rules in
    omega (arith, sum, len, c.loop-body.invariant, ap total_length more, total_length-push (bodies_of (take i rest)) body.items)
