use Rattle.std.proofs.Common.{◌+◌, ◌-◌, ◌^◌, min, if◌then◌else◌, ◌∙◌, ap}
use Rattle.gno_num.specs.Number.{numerator, denominator}
use Rattle.gno_num.specs.declared.number.Scaled.{Scaled}
use Rattle.gno_num.proofs.ValueLemmas.{rounded-scaled, denominator-above}
use Rattle.gno_time.proofs.stamp.nanos_of.Goals as goal

pub returns : goal.returns
returns c =
    let n = c.args.number.now in
    c.rounded.ensures ∙ ap (λ (s : Scaled). min (s.units + (if s.is_half then 1 else 0)) (2 ^ 64 - 1)) c.scaled.ensures ∙ rounded-scaled (numerator 9 n) (denominator n) (denominator-above n)
