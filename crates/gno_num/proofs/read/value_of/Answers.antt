use Rattle.std.proofs.Common.{◌≡◌, ◌+◌, ◌-◌, ◌^◌, min, if◌then◌else◌, ◌∙◌, ap}
use Rattle.gno_num.specs.Number.{numerator, denominator, nearest}
use Rattle.gno_num.specs.declared.number.Scaled.{Scaled}
use Rattle.gno_num.proofs.ValueLemmas.{rounded-scaled, denominator-above, value_is}
use Rattle.gno_num.proofs.read.value_of.Goals as goal

pub returns : goal.returns
returns c =
    let n = c.args.number.now in
    let magnitude : c.rounded.result ≡ min (nearest (numerator 6 n) (denominator n)) (2 ^ 64 - 1) = c.rounded.ensures ∙ ap (λ (s : Scaled). min (s.units + (if s.is_half then 1 else 0)) (2 ^ 64 - 1)) c.scaled.ensures ∙ rounded-scaled (numerator 6 n) (denominator n) (denominator-above n) in
    rw (c.signed_value.ensures, c.is_negative.ensures, magnitude) (value_is n)
