-- A printed stamp is read back.
use Rattle.std.proofs.Common.{◌≡◌, ℕ, ◌+◌, ◌-◌, ◌*◌, ◌/◌, ◌%◌, ◌^◌, ◌<◌, ◌≤◌, ◌==◌, false, List, ◌∷◌, ◌++◌, length, Ok, inl, inr, refl, sym, ap, ◌∙◌, arith, ℤ, pos, append_assoc, codes}
use Rattle.std.proofs.lemmas.Bool.{cases_Bool, eqb-true, lt-ltb}
use Rattle.std.proofs.lemmas.Nat.{div-add-mod'}
use Rattle.jiff_core.proofs.SignedLemmas.{signed_arith}
use Rattle.gno_num.specs.Text.{padded}
use Rattle.gno_time.specs.Calendar.{CalendarDate, date_of_day}
use Rattle.gno_time.specs.Fields.{nanos_of}
use Rattle.gno_time.specs.Moment.{seconds_of, stamp_at, stamp_of_moment}
use Rattle.gno_time.specs.StampReading.{stamp_read}
use Rattle.gno_time.specs.StampText.{IsDateText, IsNanosText, IsSecondText, IsHoursText, IsOffsetText, IsTimeText, IsMomentText}
use Rattle.gno_time.specs.Text.{date_text, clock_text, nanos_text, stamp_text_of}
use Rattle.gno_time.specs.declared.moment.Moment.{Moment}
use Rattle.gno_time.proofs.CalendarLemmas.{IsDay, date_of_day_is, year_below}
use Rattle.gno_time.proofs.PaddedLemmas.{length-padded, padded-all, number-padded, small_mod}
use Rattle.gno_time.proofs.MomentLemmas.{stamp_read-moment}

printed_date : (n : ℕ) (date : CalendarDate) → IsDay n date → n ≤ 2_932_896 → IsDateText (date_text date) date.year date.month date.day
printed_date n date h le = record {
  year_fits = year_below n date h le;
  month_low = h.month_low;
  month_high = h.month_high;
  day_low = h.day_low;
  day_high = h.day_high;
  spelled = refl;
}

pub printed_nanos : (n : ℕ) → n < 10 ^ 9 → IsNanosText (nanos_text n) n
printed_nanos n h =
    elim (cases_Bool (n == 0)) [
      | inl none ↦ rw none (inl (refl, eqb-true n 0 none))
      | inr some ↦
          let len = length-padded 9 n in
          let number : n ≡ nanos_of (padded 9 n) = sym (ap (λ m. m * 10 ^ (9 - length (padded 9 n))) (number-padded 9 n ∙ small_mod n (10 ^ 9) h) ∙ ap (λ m. n * 10 ^ (9 - m)) len ∙ omega arith) in
          rw some (inr (padded 9 n, record { all = padded-all 9 n; some = omega arith }, omega arith, refl, number))
    ]

-- the moment of a stamp
abbrev moment_at : ℕ → Moment
moment_at nanos =
    record { day = pos (nanos / 10 ^ 9 / 86400); clock = nanos / 10 ^ 9 % 86400; nanos = nanos % 10 ^ 9; is_west = false; offset = 0 }

printed_hours : (clock : ℕ) → clock < 86400 → IsHoursText (padded 2 (clock / 3600) ++ 58 ∷ padded 2 (clock / 60 % 60)) (clock / 3600 * 3600 + clock / 60 % 60 * 60)
printed_hours clock h = (clock / 3600, clock / 60 % 60, omega arith, omega arith, refl, refl)

printed_second : (clock nanos : ℕ) → nanos < 10 ^ 9 → IsSecondText (58 ∷ (padded 2 (clock % 60) ++ nanos_text nanos)) (clock % 60) nanos
printed_second clock nanos h = inr (nanos_text nanos, printed_nanos nanos h, omega arith, refl)

utc : codes "00:00" ≡ padded 2 0 ++ 58 ∷ padded 2 0
unfolding padded
utc = refl

printed_zone : IsOffsetText (codes "+00:00") false 0
printed_zone = inr (codes "00:00", (0, 0, omega arith, omega arith, utc, refl), inl (refl, refl))

regroup_time : (hours minute fraction zone : List ℕ) → ((hours ++ 58 ∷ minute) ++ fraction) ++ zone ≡ hours ++ ((58 ∷ (minute ++ fraction)) ++ zone)
regroup_time hours minute fraction zone =
    ap (λ cs. cs ++ zone) (append_assoc hours (58 ∷ minute) fraction) ∙ append_assoc hours (58 ∷ (minute ++ fraction)) zone

regroup_stamp : (date clock fraction zone : List ℕ) → ((date ++ 84 ∷ clock) ++ fraction) ++ zone ≡ date ++ (84 ∷ (clock ++ fraction ++ zone))
regroup_stamp date clock fraction zone =
    ap (λ cs. cs ++ zone) (append_assoc date (84 ∷ clock) fraction) ∙ append_assoc date (84 ∷ (clock ++ fraction)) zone

printed_time : (nanos : ℕ) → IsTimeText (84 ∷ (clock_text (nanos / 10 ^ 9 % 86400) ++ nanos_text (nanos % 10 ^ 9) ++ codes "+00:00")) (nanos / 10 ^ 9 % 86400) (nanos % 10 ^ 9) false 0
printed_time nanos =
    let clock = nanos / 10 ^ 9 % 86400 in
    let fraction = nanos % 10 ^ 9 in
    let least : clock < 86400 = omega arith in
    let below : fraction < 10 ^ 9 = omega arith in
    let hours = padded 2 (clock / 3600) ++ 58 ∷ padded 2 (clock / 60 % 60) in
    inr (84, hours, clock / 3600 * 3600 + clock / 60 % 60 * 60, 58 ∷ (padded 2 (clock % 60) ++ nanos_text fraction), clock % 60, codes "+00:00", inl refl, printed_hours clock least, printed_second clock fraction below, printed_zone, ap (λ cs. 84 ∷ cs) (regroup_time hours (padded 2 (clock % 60)) (nanos_text fraction) (codes "+00:00")), omega arith)

printed_moment : (nanos : ℕ) → nanos < 9 * 10 ^ 18 → IsMomentText (stamp_text_of nanos) (moment_at nanos)
unfolding stamp_text_of
printed_moment nanos h =
    let day = nanos / 10 ^ 9 / 86400 in
    let date = date_of_day day in
    let is = date_of_day_is day in
    let early : day ≤ 2_932_896 = omega arith in
    record {
      date_text = date_text date;
      time_text = 84 ∷ (clock_text (nanos / 10 ^ 9 % 86400) ++ nanos_text (nanos % 10 ^ 9) ++ codes "+00:00");
      year = date.year;
      month = date.month;
      date = date.day;
      is_date = printed_date day date is early;
      is_time = printed_time nanos;
      is_day = sym is.number;
      spelled = regroup_stamp (date_text date) (clock_text (nanos / 10 ^ 9 % 86400)) (nanos_text (nanos % 10 ^ 9)) (codes "+00:00");
    }

moment_seconds : (nanos : ℕ) → seconds_of (moment_at nanos) ≡ pos (nanos / 10 ^ 9)
moment_seconds nanos = omega (arith, signed_arith)

moment_stamp : (nanos : ℕ) → nanos < 9 * 10 ^ 18 → stamp_of_moment (moment_at nanos) ≡ Ok nanos
unfolding stamp_of_moment
moment_stamp nanos h =
    let early = lt-ltb (nanos / 10 ^ 9) 9_000_000_000 (omega arith) in
    let all : nanos / 10 ^ 9 * 10 ^ 9 + nanos % 10 ^ 9 ≡ nanos = div-add-mod' nanos (10 ^ 9) in
    ap (λ (s : ℤ). stamp_at s (nanos % 10 ^ 9)) (moment_seconds nanos) ∙ rw (early, all) refl

-- a printed stamp is read back
pub read-stamp_text : (nanos : ℕ) → nanos < 9 * 10 ^ 18 → stamp_read (stamp_text_of nanos) ≡ Ok nanos
read-stamp_text nanos h =
    stamp_read-moment (stamp_text_of nanos) (moment_at nanos) (printed_moment nanos h) ∙ moment_stamp nanos h
