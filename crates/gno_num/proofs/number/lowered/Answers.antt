use Rattle.std.proofs.Common.{◌<◌, length, ◌++◌, sym, arith, length-append}
use Rattle.gno_num.specs.Digits.{number_onto}
use Rattle.gno_num.proofs.ScaleLemmas.{scaled_of-short, zero_row}
use Rattle.gno_num.proofs.number.lowered.Goals as goal

pub returns-then-len-by : goal.returns-then-len-by
returns-then-len-by c =
    let row = c.args.whole.now ++ c.args.fraction.now in
    let far : length row < c.args.by = omega (arith, length-append c.args.whole.now c.args.fraction.now) in
    let short = scaled_of-short row c.args.by c.requires.row.digits far in
    rw (c.row_number.ensures, zero_row (number_onto 0 row)) (sym short)
