use Rattle.std.proofs.Common.{◌≡◌, Some, ℤ, pos, to_z, of_z, w8, w16, w64, ◌∙◌, ap, arith}
use Rattle.jiff_core.specs.Date.{epoch_day}
use Rattle.jiff_core.proofs.SignedLemmas.{signed_casts}
use Rattle.std.proofs.lemmas.Int.{to_z_pos}
use Rattle.gno_time.proofs.CalendarLemmas.{date_is}
use Rattle.gno_time.proofs.stamp.day_number.Goals as goal

pub returns-in-Ok-clause-found : goal.returns-in-Ok-clause-found
returns-in-Ok-clause-found c =
    let date = c.in-Ok.date in
    let year : date.year ≡ pos c.args.year = c.in-Ok.ensures.value.0 ∙ to_z_pos w16 c.args.year (omega arith) in
    let month_sign : pos date.month ≡ pos c.args.month = c.in-Ok.ensures.value.1 ∙ to_z_pos w8 c.args.month (omega arith) in
    let month : date.month ≡ c.args.month = cc in
    let day_sign : pos date.day ≡ pos c.args.day = c.in-Ok.ensures.value.2 ∙ to_z_pos w8 c.args.day (omega arith) in
    let day : date.day ≡ c.args.day = cc in
    let number : to_z w64 (of_z w64 c.from.result) ≡ epoch_day date = omega (arith, signed_casts, c.from.ensures, c.to_unix_epoch_day.ensures.value, c.to_unix_epoch_day.ensures.bound) in
    ap (λ (n : ℤ). Some n) number ∙ date_is c.args.year c.args.month c.args.day date year month day
