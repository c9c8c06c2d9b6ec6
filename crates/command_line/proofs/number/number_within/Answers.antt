use Rattle.std.proofs.Common.{◌≡◌, true, ◌<◌, ◌^◌, Err, sym, arith}
use Rattle.command_line.specs.Number.{is_decimal}
use Rattle.command_line.proofs.NumberLemmas.{digits_some, outside, parsed}
use Rattle.command_line.proofs.number.number_within.Goals as goal

pub returns-in_default-3-clause-value : goal.returns-in_default-3-clause-value
returns-in_default-3-clause-value c =
    let word = c.args.word.now in
    let is : is_decimal word ≡ true = cc in
    let small : c.args.most < 2 ^ 64 = c.ranges.most.fits in
    sym (outside c.args.least c.args.most word
    (λ low high. parsed word (Err c.in_default.field-0) is c.in_default.ensures.value.0 (digits_some word is, omega arith)))
