-- The calendar day by day, and by day numbers.
use Rattle.std.proofs.Common.{Option, Some, None, true, if◌then◌else◌, ◌≡◌, ℕ, zero, suc, ◌+◌, ◌<◌, ◌≤◌, inl, inr, nat_lt, refl, sym, ap, ◌∙◌, arith, lit≤, ℤ, pos}
use Rattle.std.proofs.lemmas.Bool.{cond_both, ltb-true, ltb-false, cases_lt, and_from, le-leb}
use Rattle.gno_time.specs.StampReading.{is_date}
use Rattle.jiff_core.specs.declared.civil.date.Date.{Date}
use Rattle.jiff_core.specs.Date.{epoch_day}
use Rattle.jiff_core.specs.Calendar.{days_from_civil, days_in_month, IsCivilDate}
use Rattle.jiff_core.proofs.SignedLemmas.{signed_arith}
use Rattle.jiff_core.proofs.CalendarLemmas.{days_from_civil-day_count, day_count-lt_year, days_in_month_bounds, day_count-epoch}
use Rattle.jiff_core.proofs.DateLemmas.{days_from_civil-day, days_from_civil-next_month, days_from_civil-next_year, days_from_civil-max, epoch_day_injective}
use Rattle.gno_time.specs.Calendar.{CalendarDate, day_after, date_of_day}

-- a date of the calendar, and how many days it lies after 1 January 1970
pub record IsDay (n : ℕ) (date : CalendarDate) : Type 0 where
  pub month_low : 1 ≤ date.month
  pub month_high : date.month ≤ 12
  pub day_low : 1 ≤ date.day
  pub day_high : date.day ≤ days_in_month (pos date.year) date.month
  pub year_low : 1970 ≤ date.year
  pub number : days_from_civil (pos date.year) date.month date.day ≡ pos n

next_day : (n : ℕ) (date : CalendarDate) → IsDay n date → date.day < days_in_month (pos date.year) date.month → IsDay (suc n) (record { year = date.year; month = date.month; day = date.day + 1 })
next_day n date h lt = record {
  month_low = h.month_low;
  month_high = h.month_high;
  day_low = omega arith;
  day_high = omega arith;
  year_low = h.year_low;
  number = omega (arith, signed_arith, h.number, days_from_civil-day (pos date.year) date.month date.day (date.day + 1) h.day_low (omega arith));
}

next_month : (n : ℕ) (date : CalendarDate) → IsDay n date → days_in_month (pos date.year) date.month ≤ date.day → date.month < 12 → IsDay (suc n) (record { year = date.year; month = date.month + 1; day = 1 })
next_month n date h last lt =
    let end : date.day ≡ days_in_month (pos date.year) date.month = omega (arith, h.day_high) in
    record {
      month_low = omega arith;
      month_high = omega arith;
      day_low = omega arith;
      day_high = omega (arith, days_in_month_bounds (pos date.year) (date.month + 1));
      year_low = h.year_low;
      number = omega (arith, signed_arith, h.number, days_from_civil-next_month (pos date.year) date.month date.day h.month_low end);
    }

december : (y : ℤ) (month : ℕ) → month ≡ 12 → days_in_month y month ≡ 31
december y month e = rw e refl

next_year : (n : ℕ) (date : CalendarDate) → IsDay n date → days_in_month (pos date.year) date.month ≤ date.day → 12 ≤ date.month → IsDay (suc n) (record { year = date.year + 1; month = 1; day = 1 })
next_year n date h last end =
    let twelve : date.month ≡ 12 = omega (arith, h.month_high) in
    let long = december (pos date.year) date.month twelve in
    let day : date.day ≡ 31 = omega (arith, h.day_high) in
    let number : days_from_civil (pos date.year) 12 31 ≡ pos n = rw (twelve, day) at h.number in
    record {
      month_low = omega arith;
      month_high = omega arith;
      day_low = omega arith;
      day_high = omega (arith, days_in_month_bounds (pos (date.year + 1)) 1);
      year_low = omega (arith, h.year_low);
      number = omega (arith, signed_arith, number, days_from_civil-next_year (pos date.year) (pos (date.year + 1)) (omega (arith, signed_arith)) (omega (arith, signed_arith)));
    }

day_after_is : (n : ℕ) (date : CalendarDate) → IsDay n date → IsDay (suc n) (day_after date)
day_after_is n date h =
    let last = days_in_month (pos date.year) date.month in
    cond_both (nat_lt date.day last) _ _ (IsDay (suc n)) (λ lt. next_day n date h (ltb-true date.day last lt))
    (λ ge. cond_both (nat_lt date.month 12) _ _ (IsDay (suc n))
    (λ lt. next_month n date h (ltb-false date.day last ge) (ltb-true date.month 12 lt))
    (λ end. next_year n date h (ltb-false date.day last ge) (ltb-false date.month 12 end)))

epoch : days_from_civil (pos 1970) 1 1 ≡ pos 0
epoch = omega (arith, signed_arith, days_from_civil-day_count (pos 1970) 1 1, day_count-epoch)

-- the nth day is a date of the calendar, and its day number is n
pub date_of_day_is : (n : ℕ) → IsDay n (date_of_day n)
unfolding date_of_day
date_of_day_is zero = record {
  month_low = omega arith;
  month_high = omega arith;
  day_low = omega arith;
  day_high = lit≤ tt;
  year_low = omega arith;
  number = epoch;
}
date_of_day_is (suc n) = day_after_is n (date_of_day n) (date_of_day_is n)

last_day : IsCivilDate (pos 9999) 12 31
last_day =
    ((omega (arith, signed_arith), omega (arith, signed_arith)), (lit≤ tt, lit≤ tt), (lit≤ tt, lit≤ tt))

-- the days up to the end of the year 9999 lie before it
pub year_below : (n : ℕ) (date : CalendarDate) → IsDay n date → n ≤ 2_932_896 → date.year ≤ 9999
year_below n date h le =
    elim (cases_lt 9999 date.year) [
      | inl lt ↦ absurd (omega (arith, signed_arith, h.number, days_from_civil-max, days_from_civil-day_count, day_count-lt_year (pos 9999) 12 31 (pos date.year) date.month date.day last_day h.day_low (omega (arith, signed_arith))))
      | inr ge ↦ ge
    ]

-- the date of the library with this day number has the same parts
pub same_date : (n : ℕ) (d : Date) → n ≤ 2_932_896 → epoch_day d ≡ pos n → (d.year ≡ pos (date_of_day n).year) × (d.month ≡ (date_of_day n).month) × (d.day ≡ (date_of_day n).day)
same_date n d le e =
    let day = date_of_day_is n in
    let low = year_below n (date_of_day n) day le in
    let other : Date = record {
      year = pos (date_of_day n).year;
      month = (date_of_day n).month;
      day = (date_of_day n).day;
      year_in = (omega (arith, signed_arith), omega (arith, signed_arith));
      month_in = (day.month_low, day.month_high);
      day_in = (day.day_low, day.day_high);
    } in
    epoch_day_injective d other (e ∙ sym day.number)

last_below : (y z : ℤ) (m n d e : ℕ) → y ≡ z → m ≡ n → d ≡ e → d ≤ days_in_month y m → e ≤ days_in_month z n
last_below y z m n d e year month day h =
    let long : days_in_month y m ≡ days_in_month z n = ap (λ (x : ℤ). days_in_month x m) year ∙ ap (λ (x : ℕ). days_in_month z x) month in
    omega (arith, h, long, day)

-- a date of the library is one of the calendar
pub date_is : (y m d : ℕ) (date : Date) → date.year ≡ pos y → date.month ≡ m → date.day ≡ d → ◌≡◌ {A = Option ℤ} (Some (epoch_day date)) (if is_date y m d then Some (days_from_civil (pos y) m d) else None)
date_is y m d date year month day =
    let known : is_date y m d ≡ true = and_from _ _ (le-leb 1 m (omega (arith, date.month_in.0))) (and_from _ _ (le-leb m 12 (omega (arith, date.month_in.1))) (and_from _ _ (le-leb 1 d (omega (arith, date.day_in.0))) (le-leb d (days_in_month (pos y) m) (last_below date.year (pos y) date.month m date.day d year month day date.day_in.1)))) in
    rw (known, year, month, day) refl
