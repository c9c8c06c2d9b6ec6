use Rattle.std.proofs.Common.{◌≡◌, to_z, w64, arith}
use Rattle.std.proofs.lemmas.Int.{to_z_pos}
use Rattle.std.proofs.lemmas.Result.{IfOk-at_ok}
use Rattle.jiff_core.specs.Date.{epoch_day}
use Rattle.gno_time.proofs.CalendarLemmas.{same_date}
use Rattle.gno_time.proofs.print.date_of.Goals as goal

pub returns-clause-year : goal.returns-clause-year
returns-clause-year c =
    let number : epoch_day c.unwrap.result ≡ to_z w64 c.args.day = IfOk-at_ok _ c.unwrap.ensures c.from_unix_epoch_day.ensures.value in
    (same_date c.args.day c.unwrap.result (omega arith) (rw (← to_z_pos w64 c.args.day (omega arith)) number)).0

pub returns-clause-month : goal.returns-clause-month
returns-clause-month c =
    let number : epoch_day c.unwrap.result ≡ to_z w64 c.args.day = IfOk-at_ok _ c.unwrap.ensures c.from_unix_epoch_day.ensures.value in
    (same_date c.args.day c.unwrap.result (omega arith) (rw (← to_z_pos w64 c.args.day (omega arith)) number)).1

pub returns-clause-day : goal.returns-clause-day
returns-clause-day c =
    let number : epoch_day c.unwrap.result ≡ to_z w64 c.args.day = IfOk-at_ok _ c.unwrap.ensures c.from_unix_epoch_day.ensures.value in
    (same_date c.args.day c.unwrap.result (omega arith) (rw (← to_z_pos w64 c.args.day (omega arith)) number)).2
