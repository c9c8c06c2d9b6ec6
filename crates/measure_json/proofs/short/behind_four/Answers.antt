use Rattle.std.proofs.Common.{rules, arith, sym, ap, ◌∙◌}
use Rattle.std.specs.Int.{w32, from_le_bytes}
use Rattle.measure_json.proofs.ShortLemmas.{same_four}
use Rattle.measure_json.proofs.short.behind_four.Goals as goal

pub returns-then-from_le_bytes : goal.returns-then-from_le_bytes
returns-then-from_le_bytes c =
    let text = c.args.text.now in
    let parts = c.in_ok-front.ensures.cases in
    let front = c.from_le_bytes.ensures ∙ ap (from_le_bytes w32) parts.0 in
    same_four text c.in_ok-front.rest.now c.args.bytes.now c.from_le_bytes.result c.from_le_bytes-2.result (omega (arith, parts.2)) parts.1 (λ i. let f = c.type_inv.text i in omega (arith, f)) (search rules) (λ i. let f = c.fits-bytes i in omega (arith, f)) front c.from_le_bytes-2.ensures c.if-from_le_bytes.true
