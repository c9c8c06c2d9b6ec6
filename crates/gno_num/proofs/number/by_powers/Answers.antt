use Rattle.std.proofs.Common.{◌++◌, ◌∙◌, sym, arith}
use Rattle.gno_num.specs.Digits.{number_onto}
use Rattle.gno_num.proofs.ScaleLemmas.{scaled_of-raised, scaled_of-lowered}
use Rattle.gno_num.proofs.number.by_powers.Goals as goal

pub returns-then-down-up : goal.returns-then-down-up
returns-then-down-up c =
    c.raised.ensures ∙ sym (scaled_of-raised (number_onto 0 (c.args.whole.now ++ c.args.fraction.now)) c.args.up c.args.down (omega arith))

pub returns-else-down-up : goal.returns-else-down-up
returns-else-down-up c =
    c.lowered.ensures ∙ sym (scaled_of-lowered (number_onto 0 (c.args.whole.now ++ c.args.fraction.now)) c.args.up c.args.down (omega arith))
