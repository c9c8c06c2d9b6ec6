use Rattle.std.proofs.Common.{◌-◌, arith, rules, append_assoc}
use Rattle.std.proofs.lemmas.Grind.{common_steps}
use Rattle.gno_num.proofs.DigitLemmas.{pow_ten_above, padded_step, padded_none}
use Rattle.gno_time.proofs.print.+push_padded.Goals as goal

pub returns-then-places-eq0 : goal.returns-then-places-eq0
returns-then-places-eq0 t c = rw (c.if-places-eq0.true, padded_none) (search rules)

pub nonzero_div-n : goal.nonzero_div-n
nonzero_div-n t c = omega (arith, pow_ten_above (c.args.places - 1))

pub returns : goal.returns
returns t c =
    let step = padded_step c.args.places c.args.n (omega arith) in
    rw step (grind (arith, common_steps, append_assoc))
