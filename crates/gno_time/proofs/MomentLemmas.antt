-- What is read of a date and a time is what its grammar gives it.
use Rattle.std.proofs.Common.{◌≡◌, ℕ, ◌+◌, ◌*◌, ◌≤◌, ◌==◌, Bool, true, false, ◌||◌, cond, List, [], ◌∷◌, ◌++◌, length, Option, None, Some, ◌⊎◌, inl, inr, refl, sym, ap, subst, ◌∙◌, arith, ℤ, pos, append_assoc, length-append, Err}
use Rattle.std.proofs.lemmas.Bool.{cases_Bool, and_parts, and_from, or_cases, eqb-true, lt-ltb, le-ltb, cases_lt, le-leb, leb-true}
use Rattle.std.proofs.lemmas.List.{append-nil}
use Rattle.std.proofs.lemmas.Option.{cond_some, some_pair_parts}
use Rattle.jiff_core.specs.Calendar.{days_in_month, days_from_civil}
use Rattle.jiff_core.proofs.CalendarLemmas.{days_in_month_bounds}
use Rattle.gno_num.specs.Digits.{digits_front, digits_back, begins_with, without_front}
use Rattle.gno_num.specs.Number.{AreDigits, Number, IsNumber}
use Rattle.gno_num.specs.Reading.{number_of, is_whole, fraction_at, exponent_of}
use Rattle.gno_num.specs.Text.{padded}
use Rattle.gno_num.proofs.RowLemmas.{no_digits}
use Rattle.gno_num.proofs.GrammarLemmas.{number_sound, number_complete, not_first, front_without, Stops, stops_at, no_text, digits_front-append, digits_back-append, behind_point, front_digits, some_same, if_some}
use Rattle.gno_time.specs.Fields.{◌>>=◌, number_at, field_at, nanos_of, nanos_at}
use Rattle.gno_time.specs.StampReading.{is_date, date_at, second_at, hours_of, offset_of, clock_of, time_of, moment_of, stamp_of_number, stamp_of_either, stamp_read}
use Rattle.gno_time.specs.Moment.{stamp_of_moment}
use Rattle.gno_time.specs.declared.stamp.TimeFault.TheVariants.{BadTime}
use Rattle.gno_time.specs.StampText.{IsDateText, IsNanosText, IsSecondText, IsHoursText, IsOffsetText, IsTimeText, IsMomentText}
use Rattle.gno_time.specs.declared.moment.Moment.{Moment}
use Rattle.gno_time.proofs.PaddedLemmas.{length-padded, padded-all, number_at_sound, number_at_complete, field_at_sound, field_at_complete}

pub bind_some : {A B : Type 0} (o : Option A) (f : A → Option B) (y : B) → (o >>= f) ≡ Some y → (x : A) × (o ≡ Some x) × (f x ≡ Some y)
bind_some None f y h = cc
bind_some (Some x) f y h = (x, refl, h)

-- ---- the fraction of a second

pub nanos_sound : (text : List ℕ) (nanos : ℕ) (rest : List ℕ) → nanos_at text ≡ Some (nanos, rest) → (piece : List ℕ) × IsNanosText piece nanos × (text ≡ piece ++ rest)
unfolding nanos_at
nanos_sound text nanos rest h =
    elim (cases_Bool (begins_with 46 text)) [
      | inl is ↦
          let digits = digits_front (without_front 46 text) in
          let parts = cond_some _ _ _ (rw is at h) in
          let tests = and_parts _ _ parts.0 in
          let number : nanos_of digits ≡ nanos = ap (λ (p : ℕ × List ℕ). p.0) parts.1 in
          let back : digits_back (without_front 46 text) ≡ rest = ap (λ (p : ℕ × List ℕ). p.1) parts.1 in
          (46 ∷ digits, inr (digits, front_digits (without_front 46 text) tests.0, leb-true (length digits) 9 tests.1, refl, sym number), behind_point text is ∙ ap (λ cs. (46 ∷ digits) ++ cs) back)
      | inr not ↦
          let parts = some_pair_parts _ _ _ _ (rw not at h) in
          ([], inl (refl, sym parts.0), parts.1)
    ]

pub nanos_complete : (piece rest : List ℕ) (nanos : ℕ) → IsNanosText piece nanos → Stops rest → begins_with 46 rest ≡ false → nanos_at (piece ++ rest) ≡ Some (nanos, rest)
unfolding nanos_at
nanos_complete piece rest nanos (inl h) stops far = rw (h.0, h.1, far) refl
nanos_complete piece rest nanos (inr (digits, are, few, text, number)) stops far =
    rw (text, number, digits_front-append digits rest are.all stops, digits_back-append digits rest are.all stops, lt-ltb 0 (length digits) are.some, le-leb (length digits) 9 few) refl

nanos_stops : (piece rest : List ℕ) (nanos : ℕ) → IsNanosText piece nanos → Stops rest → Stops (piece ++ rest)
nanos_stops piece rest nanos (inl h) stops = rw h.0 stops
nanos_stops piece rest nanos (inr (digits, are, few, text, number)) stops =
    rw text (stops_at 46 (digits ++ rest) refl)

-- ---- the second

pub second_sound : (text : List ℕ) (second nanos : ℕ) (rest : List ℕ) → second_at text ≡ Some (second, nanos, rest) → (piece : List ℕ) × IsSecondText piece second nanos × (text ≡ piece ++ rest)
unfolding second_at
second_sound text second nanos rest h =
    elim (cases_Bool (begins_with 58 text)) [
      | inl is ↦
          let field = bind_some _ _ _ (rw is at h) in
          let fraction = bind_some _ _ _ field.2 in
          let all : (field.0.0, fraction.0.0, fraction.0.1) ≡ (second, nanos, rest) = some_same fraction.2 in
          let number : field.0.0 ≡ second = ap (λ (p : ℕ × ℕ × List ℕ). p.0) all in
          let parts : fraction.0.0 ≡ nanos = ap (λ (p : ℕ × ℕ × List ℕ). p.1) all in
          let back : fraction.0.1 ≡ rest = ap (λ (p : ℕ × ℕ × List ℕ). p.2) all in
          let digits = field_at_sound 58 2 59 text field.0.0 field.0.1 field.1 in
          let piece = nanos_sound field.0.1 fraction.0.0 fraction.0.1 fraction.1 in
          (58 ∷ (padded 2 second ++ piece.0), inr (piece.0, subst (λ (n : ℕ). IsNanosText piece.0 n) parts piece.1, omega (arith, digits.0, number), refl), digits.2 ∙ ap (λ n. 58 ∷ (padded 2 n ++ field.0.1)) number ∙ ap (λ cs. 58 ∷ (padded 2 second ++ cs)) (piece.2 ∙ ap (λ cs. piece.0 ++ cs) back) ∙ ap (λ cs. 58 ∷ cs) (sym (append_assoc (padded 2 second) piece.0 rest)))
      | inr not ↦
          let all : (0, 0, text) ≡ (second, nanos, rest) = some_same (rw not at h) in
          ([], inl (refl, ap (λ (p : ℕ × ℕ × List ℕ). p.0) (sym all), ap (λ (p : ℕ × ℕ × List ℕ). p.1) (sym all)), ap (λ (p : ℕ × ℕ × List ℕ). p.2) all)
    ]

pub second_complete : (piece rest : List ℕ) (second nanos : ℕ) → IsSecondText piece second nanos → Stops rest → begins_with 46 rest ≡ false → begins_with 58 rest ≡ false → second_at (piece ++ rest) ≡ Some (second, nanos, rest)
unfolding second_at
second_complete piece rest second nanos (inl h) stops no_point no_colon = rw (h.0, h.1, h.2, no_colon) refl
second_complete piece rest second nanos (inr (fraction, is, most, text)) stops no_point no_colon =
    let spelled : piece ++ rest ≡ 58 ∷ (padded 2 second ++ (fraction ++ rest)) = ap (λ cs. cs ++ rest) text ∙ ap (λ cs. 58 ∷ cs) (append_assoc (padded 2 second) fraction rest) in
    let field = field_at_complete 58 2 59 second (fraction ++ rest) most (omega arith) in
    let behind = nanos_complete fraction rest nanos is stops no_point in
    ap second_at spelled ∙ ap (λ (o : Option (ℕ × List ℕ)). o >>= λ s. nanos_at s.1 >>= λ n. Some (s.0, n.0, n.1)) field ∙ ap (λ (o : Option (ℕ × List ℕ)). o >>= λ n. Some (second, n.0, n.1)) behind

-- ---- hours and minutes, and what follows

both_sound : (text : List ℕ) (hour minute : ℕ × List ℕ) → number_at 2 23 text ≡ Some hour → field_at 58 2 59 hour.1 ≡ Some minute → (hour.0 ≤ 23) × (minute.0 ≤ 59) × (text ≡ (padded 2 hour.0 ++ 58 ∷ padded 2 minute.0) ++ minute.1)
both_sound text hour minute h m =
    let first = number_at_sound 2 23 text hour.0 hour.1 h in
    let second = field_at_sound 58 2 59 hour.1 minute.0 minute.1 m in
    (first.0, second.0, first.2 ∙ ap (λ cs. padded 2 hour.0 ++ cs) second.2 ∙ sym (append_assoc (padded 2 hour.0) (58 ∷ padded 2 minute.0) minute.1))

pub hours_sound : (text : List ℕ) (seconds : ℕ) → hours_of text ≡ Some seconds → IsHoursText text seconds
unfolding hours_of
hours_sound text seconds h =
    let hour = bind_some _ _ _ h in
    let minute = bind_some _ _ _ hour.2 in
    let end = cond_some _ _ _ minute.2 in
    let both = both_sound text hour.0 minute.0 hour.1 minute.1 in
    let none : minute.0.1 ≡ [] = no_digits minute.0.1 (eqb-true _ 0 end.0) in
    (hour.0.0, minute.0.0, both.0, both.1, both.2 ∙ ap (λ cs. (padded 2 hour.0.0 ++ 58 ∷ padded 2 minute.0.0) ++ cs) none ∙ append-nil _, sym end.1)

hour_read : (hour minute : ℕ) (rest : List ℕ) → hour ≤ 23 → number_at 2 23 ((padded 2 hour ++ 58 ∷ padded 2 minute) ++ rest) ≡ Some (hour, 58 ∷ (padded 2 minute ++ rest))
hour_read hour minute rest low =
    ap (number_at 2 23) (append_assoc (padded 2 hour) (58 ∷ padded 2 minute) rest) ∙ number_at_complete 2 23 hour (58 ∷ (padded 2 minute ++ rest)) low (omega arith)

minute_read : (minute : ℕ) (rest : List ℕ) → minute ≤ 59 → field_at 58 2 59 (58 ∷ (padded 2 minute ++ rest)) ≡ Some (minute, rest)
minute_read minute rest low = field_at_complete 58 2 59 minute rest low (omega arith)

pub hours_complete : (text : List ℕ) (seconds : ℕ) → IsHoursText text seconds → hours_of text ≡ Some seconds
unfolding hours_of
hours_complete text seconds (hour, minute, low, least, spelled, is) =
    let all : text ≡ (padded 2 hour ++ 58 ∷ padded 2 minute) ++ [] = spelled ∙ sym (append-nil _) in
    rw (all, hour_read hour minute [] low, minute_read minute [] least, is) refl

-- ---- the offset

pub offset_sound : (text : List ℕ) (w : Bool) (o : ℕ) → offset_of text ≡ Some (w, o) → IsOffsetText text w o
unfolding offset_of
offset_sound [] w o h = let parts = some_pair_parts _ _ _ _ h in inl (inl refl, sym parts.0, sym parts.1)
offset_sound (c ∷ cs) w o h =
    elim (cases_Bool ((c == 43) || (c == 45))) [
      | inl is ↦
          let hours = bind_some _ _ _ (rw is at h) in
          let all : (c == 45, hours.0) ≡ (w, o) = some_same hours.2 in
          let seconds : hours.0 ≡ o = ap (λ (p : Bool × ℕ). p.1) all in
          let west : (c == 45) ≡ w = ap (λ (p : Bool × ℕ). p.0) all in
          let text = subst (λ (n : ℕ). IsHoursText cs n) seconds (hours_sound cs hours.0 hours.1) in
          inr (
            cs,
            text,
            elim (or_cases (c == 43) (c == 45) is) [
              | inl plus ↦ let sign : c ≡ 43 = eqb-true c 43 plus in inl (ap (λ d. d ∷ cs) sign, sym west ∙ ap (λ d. d == 45) sign)
              | inr minus ↦ inr (ap (λ d. d ∷ cs) (eqb-true c 45 minus), sym west ∙ minus)
            ],
          )
      | inr not ↦
          let parts = cond_some _ _ _ (rw not at h) in
          let tests = and_parts _ _ parts.0 in
          let none : cs ≡ [] = no_digits cs (eqb-true _ 0 tests.1) in
          let west : false ≡ w = ap (λ (p : Bool × ℕ). p.0) parts.1 in
          let seconds : 0 ≡ o = ap (λ (p : Bool × ℕ). p.1) parts.1 in
          inl (
            elim (or_cases (c == 90) (c == 122) tests.0) [
              | inl large ↦ inr (inl (ap (λ d. d ∷ cs) (eqb-true c 90 large) ∙ ap (λ ds. 90 ∷ ds) none))
              | inr small ↦ inr (inr (ap (λ d. d ∷ cs) (eqb-true c 122 small) ∙ ap (λ ds. 122 ∷ ds) none))
            ],
            sym west,
            sym seconds,
          )
    ]

pub offset_complete : (text : List ℕ) (w : Bool) (o : ℕ) → IsOffsetText text w o → offset_of text ≡ Some (w, o)
unfolding offset_of
offset_complete text w o (inl (inl e, west, none)) = rw (e, west, none) refl
offset_complete text w o (inl (inr (inl e), west, none)) = rw (e, west, none) refl
offset_complete text w o (inl (inr (inr e), west, none)) = rw (e, west, none) refl
offset_complete text w o (inr (hours, is, inl (e, west))) = rw (e, west, hours_complete hours o is) refl
offset_complete text w o (inr (hours, is, inr (e, west))) = rw (e, west, hours_complete hours o is) refl

-- what follows a time doesn't go on with it
pub offset_stops : (text : List ℕ) (w : Bool) (o : ℕ) → IsOffsetText text w o → Stops text × (begins_with 46 text ≡ false) × (begins_with 58 text ≡ false)
offset_stops text w o (inl (inl e, west, none)) = rw e (no_text, refl, refl)
offset_stops text w o (inl (inr (inl e), west, none)) = rw e (stops_at 90 [] refl, refl, refl)
offset_stops text w o (inl (inr (inr e), west, none)) = rw e (stops_at 122 [] refl, refl, refl)
offset_stops text w o (inr (hours, is, inl (e, west))) = rw e (stops_at 43 hours refl, refl, refl)
offset_stops text w o (inr (hours, is, inr (e, west))) = rw e (stops_at 45 hours refl, refl, refl)

-- ---- the date

date_parts : (year month day : ℕ) (rest : List ℕ) → (padded 4 year ++ 45 ∷ padded 2 month ++ 45 ∷ padded 2 day) ++ rest ≡ padded 4 year ++ (45 ∷ (padded 2 month ++ (45 ∷ (padded 2 day ++ rest))))
date_parts year month day rest =
    append_assoc (padded 4 year ++ 45 ∷ padded 2 month) (45 ∷ padded 2 day) rest ∙ append_assoc (padded 4 year) (45 ∷ padded 2 month) (45 ∷ (padded 2 day ++ rest))

abbrev Dated : List ℕ → ℤ → List ℕ → Type 0
Dated text day rest =
    (piece : List ℕ) × (year : ℕ) × (month : ℕ) × (date : ℕ) × IsDateText piece year month date × (day ≡ days_from_civil (pos year) month date) × (text ≡ piece ++ rest)

pub date_sound : (text : List ℕ) (day : ℤ) (rest : List ℕ) → date_at text ≡ Some (day, rest) → Dated text day rest
unfolding date_at
date_sound text day rest h =
    let year = bind_some _ _ _ h in
    let month = bind_some _ _ _ year.2 in
    let date = bind_some _ _ _ month.2 in
    let known = cond_some _ _ _ date.2 in
    let a = and_parts _ _ known.0 in
    let b = and_parts _ _ a.1 in
    let c = and_parts _ _ b.1 in
    let y = number_at_sound 4 9999 text year.0.0 year.0.1 year.1 in
    let m = field_at_sound 45 2 99 year.0.1 month.0.0 month.0.1 month.1 in
    let d = field_at_sound 45 2 99 month.0.1 date.0.0 date.0.1 date.1 in
    let number : days_from_civil (pos year.0.0) month.0.0 date.0.0 ≡ day = ap (λ (p : ℤ × List ℕ). p.0) known.1 in
    let back : date.0.1 ≡ rest = ap (λ (p : ℤ × List ℕ). p.1) known.1 in
    let is : IsDateText (padded 4 year.0.0 ++ 45 ∷ padded 2 month.0.0 ++ 45 ∷ padded 2 date.0.0) year.0.0 month.0.0 date.0.0 = record {
      year_fits = y.0;
      month_low = leb-true 1 month.0.0 a.0;
      month_high = leb-true month.0.0 12 b.0;
      day_low = leb-true 1 date.0.0 c.0;
      day_high = leb-true date.0.0 (days_in_month (pos year.0.0) month.0.0) c.1;
      spelled = refl;
    } in
    let spelled : text ≡ (padded 4 year.0.0 ++ 45 ∷ padded 2 month.0.0 ++ 45 ∷ padded 2 date.0.0) ++ rest = y.2 ∙ ap (λ cs. padded 4 year.0.0 ++ cs) (m.2 ∙ ap (λ cs. 45 ∷ (padded 2 month.0.0 ++ cs)) d.2) ∙ sym (date_parts year.0.0 month.0.0 date.0.0 date.0.1) ∙ ap (λ cs. (padded 4 year.0.0 ++ 45 ∷ padded 2 month.0.0 ++ 45 ∷ padded 2 date.0.0) ++ cs) back in
    (padded 4 year.0.0 ++ 45 ∷ padded 2 month.0.0 ++ 45 ∷ padded 2 date.0.0, year.0.0, month.0.0, date.0.0, is, sym number, spelled)

pub date_complete : (piece rest : List ℕ) (year month date : ℕ) → IsDateText piece year month date → date_at (piece ++ rest) ≡ Some (days_from_civil (pos year) month date, rest)
unfolding date_at
date_complete piece rest year month date h =
    let few : days_in_month (pos year) month ≤ 31 = (days_in_month_bounds (pos year) month).0 in
    let known : is_date year month date ≡ true = and_from _ _ (le-leb 1 month h.month_low) (and_from _ _ (le-leb month 12 h.month_high) (and_from _ _ (le-leb 1 date h.day_low) (le-leb date (days_in_month (pos year) month) h.day_high))) in
    let y = number_at_complete 4 9999 year (45 ∷ (padded 2 month ++ (45 ∷ (padded 2 date ++ rest)))) h.year_fits (omega (arith, h.year_fits)) in
    let m = field_at_complete 45 2 99 month (45 ∷ (padded 2 date ++ rest)) (omega (arith, h.month_high)) (omega (arith, h.month_high)) in
    let d = field_at_complete 45 2 99 date rest (omega (arith, h.day_high, few)) (omega (arith, h.day_high, few)) in
    rw (h.spelled, date_parts year month date rest, y, m, d, known) refl

-- ---- the time

abbrev Timed : List ℕ → Moment → Type 0
Timed text m =
    (hours : List ℕ) × (minutes : ℕ) × (behind : List ℕ) × (second : ℕ) × (zone : List ℕ) × IsHoursText hours minutes × IsSecondText behind second m.nanos × IsOffsetText zone m.is_west m.offset × (text ≡ hours ++ (behind ++ zone)) × (m.clock ≡ minutes + second)

clock_sound : (day : ℤ) (text : List ℕ) (m : Moment) → clock_of day text ≡ Some m → (m.day ≡ day) × Timed text m
unfolding clock_of
clock_sound day text m h =
    let hour = bind_some _ _ _ h in
    let minute = bind_some _ _ _ hour.2 in
    let second = bind_some _ _ _ minute.2 in
    let offset = bind_some _ _ _ second.2 in
    let all = some_same offset.2 in
    let both = both_sound text hour.0 minute.0 hour.1 minute.1 in
    let piece = second_sound minute.0.1 second.0.0 second.0.1 second.0.2 second.1 in
    let zone = offset_sound second.0.2 offset.0.0 offset.0.1 offset.1 in
    let nanos : second.0.1 ≡ m.nanos = ap (λ (x : Moment). x.nanos) all in
    let west : offset.0.0 ≡ m.is_west = ap (λ (x : Moment). x.is_west) all in
    let seconds : offset.0.1 ≡ m.offset = ap (λ (x : Moment). x.offset) all in
    let hours = padded 2 hour.0.0 ++ 58 ∷ padded 2 minute.0.0 in
    let is_hours : IsHoursText hours (hour.0.0 * 3600 + minute.0.0 * 60) = (hour.0.0, minute.0.0, both.0, both.1, refl, refl) in
    let zone_west = subst (λ (w : Bool). IsOffsetText second.0.2 w offset.0.1) west zone in
    (ap (λ (x : Moment). x.day) (sym all), (hours, hour.0.0 * 3600 + minute.0.0 * 60, piece.0, second.0.0, second.0.2, is_hours, subst (λ (n : ℕ). IsSecondText piece.0 second.0.0 n) nanos piece.1, subst (λ (n : ℕ). IsOffsetText second.0.2 m.is_west n) seconds zone_west, both.2 ∙ ap (λ cs. hours ++ cs) piece.2, ap (λ (x : Moment). x.clock) (sym all)))

is_time_mark : (c : ℕ) → ((c == 84) || (c == 32)) ≡ true → (c ≡ 84) ⊎ (c ≡ 32)
is_time_mark c h =
    elim (or_cases (c == 84) (c == 32) h) [
      | inl letter ↦ inl (eqb-true c 84 letter)
      | inr space ↦ inr (eqb-true c 32 space)
    ]

time_sound : (day : ℤ) (text : List ℕ) (m : Moment) → time_of day text ≡ Some m → (m.day ≡ day) × IsTimeText text m.clock m.nanos m.is_west m.offset
unfolding time_of
time_sound day [] m h =
    let all = some_same h in
    (ap (λ (x : Moment). x.day) (sym all), inl (refl, ap (λ (x : Moment). x.clock) (sym all), ap (λ (x : Moment). x.nanos) (sym all), ap (λ (x : Moment). x.is_west) (sym all), ap (λ (x : Moment). x.offset) (sym all)))
time_sound day (c ∷ cs) m h =
    let parts = if_some _ _ _ h in
    let read = clock_sound day cs m parts.1 in
    let t = read.1 in
    (read.0, inr (c, t.0, t.1, t.2, t.3, t.4, is_time_mark c parts.0, t.5, t.6, t.7, ap (λ ds. c ∷ ds) t.8, t.9))

moment_is : (m : Moment) (day : ℤ) (clock nanos : ℕ) (w : Bool) (o : ℕ) → m.day ≡ day → m.clock ≡ clock → m.nanos ≡ nanos → m.is_west ≡ w → m.offset ≡ o → ◌≡◌ {A = Moment} (record { day = day; clock = clock; nanos = nanos; is_west = w; offset = o }) m
moment_is m day clock nanos w o a b c d e = rw (← a, ← b, ← c, ← d, ← e) refl

clock_complete : (text : List ℕ) (m : Moment) → Timed text m → clock_of m.day text ≡ Some m
unfolding clock_of
clock_complete text m (hours, minutes, behind, second, zone, (hour, minute, low, least, spelled, is), is_second, is_offset, all, clock) =
    let stops = offset_stops zone m.is_west m.offset is_offset in
    let whole : text ≡ (padded 2 hour ++ 58 ∷ padded 2 minute) ++ (behind ++ zone) = all ∙ ap (λ cs. cs ++ (behind ++ zone)) spelled in
    let sum : hour * 3600 + minute * 60 + second ≡ m.clock = ap (λ n. n + second) (sym is) ∙ sym clock in
    rw (whole, hour_read hour minute (behind ++ zone) low, minute_read minute (behind ++ zone) least, second_complete behind zone second m.nanos is_second stops.0 stops.1 stops.2, offset_complete zone m.is_west m.offset is_offset, sum) refl

time_complete : (text : List ℕ) (m : Moment) → IsTimeText text m.clock m.nanos m.is_west m.offset → time_of m.day text ≡ Some m
unfolding time_of
time_complete text m (inl (none, clock, nanos, west, offset)) =
    ap (time_of m.day) none ∙ ap (λ (x : Moment). Some x) (moment_is m m.day 0 0 false 0 refl clock nanos west offset)
time_complete text m (inr (mark, hours, minutes, behind, second, zone, inl letter, h, s, o, all, clock)) =
    rw (all, letter) (clock_complete (hours ++ (behind ++ zone)) m (hours, minutes, behind, second, zone, h, s, o, refl, clock))
time_complete text m (inr (mark, hours, minutes, behind, second, zone, inr space, h, s, o, all, clock)) =
    rw (all, space) (clock_complete (hours ++ (behind ++ zone)) m (hours, minutes, behind, second, zone, h, s, o, refl, clock))

-- ---- a date and a time

pub moment_sound : (text : List ℕ) (m : Moment) → moment_of text ≡ Some m → IsMomentText text m
unfolding moment_of
moment_sound text m h =
    let date = bind_some _ _ _ h in
    let d = date_sound text date.0.0 date.0.1 date.1 in
    let t = time_sound date.0.0 date.0.1 m date.2 in
    record {
      date_text = d.0;
      time_text = date.0.1;
      year = d.1;
      month = d.2;
      date = d.3;
      is_date = d.4;
      is_time = t.1;
      is_day = t.0 ∙ d.5;
      spelled = d.6;
    }

pub moment_complete : (text : List ℕ) (m : Moment) → IsMomentText text m → moment_of text ≡ Some m
unfolding moment_of
moment_complete text m h =
    let date = date_complete h.date_text h.time_text h.year h.month h.date h.is_date in
    let time = time_complete h.time_text m h.is_time in
    ap moment_of h.spelled ∙ ap (λ (o : Option (ℤ × List ℕ)). o >>= λ d. time_of d.0 d.1) date ∙ ap (λ (n : ℤ). time_of n h.time_text) (sym h.is_day) ∙ time

-- ---- a date is no number token, and is short

either_none : (b : Bool) → cond {A = Option Number} b None None ≡ None
either_none true = refl
either_none false = refl

pub date_no_number : (year : ℕ) (rest : List ℕ) → number_of (padded 4 year ++ 45 ∷ rest) ≡ None
unfolding number_of fraction_at exponent_of
date_no_number year rest =
    let all = padded-all 4 year in
    let are : AreDigits (padded 4 year) = record { all = all; some = omega (arith, length-padded 4 year) } in
    let plain = not_first 45 (padded 4 year) (45 ∷ rest) are (λ low high. absurd (omega arith)) in
    let stops = stops_at 45 rest refl in
    rw (plain, front_without 45 (padded 4 year ++ 45 ∷ rest) plain, digits_front-append (padded 4 year) (45 ∷ rest) all stops, digits_back-append (padded 4 year) (45 ∷ rest) all stops) (either_none (is_whole (padded 4 year)))

moment_no_number : (text : List ℕ) (m : Moment) → IsMomentText text m → number_of text ≡ None
moment_no_number text m h =
    let parts : text ≡ padded 4 h.year ++ (45 ∷ (padded 2 h.month ++ (45 ∷ (padded 2 h.date ++ h.time_text)))) = h.spelled ∙ ap (λ cs. cs ++ h.time_text) h.is_date.spelled ∙ date_parts h.year h.month h.date h.time_text in
    ap number_of parts ∙ date_no_number h.year (padded 2 h.month ++ (45 ∷ (padded 2 h.date ++ h.time_text)))

hours_length : (text : List ℕ) (n : ℕ) → IsHoursText text n → length text ≡ 5
hours_length text n (hour, minute, low, least, spelled, is) =
    ap length spelled ∙ length-append (padded 2 hour) (58 ∷ padded 2 minute) ∙ omega (arith, length-padded 2 hour, length-padded 2 minute)

second_length : (text : List ℕ) (second nanos : ℕ) → IsSecondText text second nanos → length text ≤ 13
second_length text second nanos (inl h) = omega (arith, ap length h.0)
second_length text second nanos (inr (fraction, inl is, most, spelled)) =
    omega (arith, ap length spelled, length-append (padded 2 second) fraction, length-padded 2 second, ap length is.0)
second_length text second nanos (inr (fraction, inr (digits, are, few, point, number), most, spelled)) =
    omega (arith, ap length spelled, length-append (padded 2 second) fraction, length-padded 2 second, ap length point, few)

offset_length : (text : List ℕ) (w : Bool) (o : ℕ) → IsOffsetText text w o → length text ≤ 6
offset_length text w o (inl (inl e, west, none)) = omega (arith, ap length e)
offset_length text w o (inl (inr (inl e), west, none)) = omega (arith, ap length e)
offset_length text w o (inl (inr (inr e), west, none)) = omega (arith, ap length e)
offset_length text w o (inr (hours, is, inl e)) = omega (arith, ap length e.0, hours_length hours o is)
offset_length text w o (inr (hours, is, inr e)) = omega (arith, ap length e.0, hours_length hours o is)

time_length : (text : List ℕ) (clock nanos : ℕ) (w : Bool) (o : ℕ) → IsTimeText text clock nanos w o → length text ≤ 25
time_length text clock nanos w o (inl h) = omega (arith, ap length h.0)
time_length text clock nanos w o (inr (mark, hours, minutes, behind, second, zone, is, h, s, z, all, sum)) =
    omega (arith, ap length all, length-append hours (behind ++ zone), length-append behind zone, hours_length hours minutes h, second_length behind second nanos s, offset_length zone w o z)

moment_length : (text : List ℕ) (m : Moment) → IsMomentText text m → length text ≤ 64
moment_length text m h =
    omega (arith, ap length h.spelled, length-append h.date_text h.time_text, ap length h.is_date.spelled, length-append (padded 4 h.year ++ 45 ∷ padded 2 h.month) (45 ∷ padded 2 h.date), length-append (padded 4 h.year) (45 ∷ padded 2 h.month), length-padded 4 h.year, length-padded 2 h.month, length-padded 2 h.date, time_length h.time_text m.clock m.nanos m.is_west m.offset h.is_time)

-- ---- what is answered

pub stamp_read-number : (text : List ℕ) (n : Number) → length text ≤ 64 → IsNumber text n → stamp_read text ≡ stamp_of_number n
unfolding stamp_read
stamp_read-number text n short h = rw (le-ltb 64 (length text) short, number_complete text n h) refl

pub stamp_read-moment : (text : List ℕ) (m : Moment) → IsMomentText text m → stamp_read text ≡ stamp_of_moment m
unfolding stamp_read
stamp_read-moment text m h =
    rw (le-ltb 64 (length text) (moment_length text m h), moment_no_number text m h, moment_complete text m h) refl

bad_either : (o : Option Number) (p : Option Moment) → ((n : Number) → o ≡ Some n → ⊥) → ((m : Moment) → p ≡ Some m → ⊥) → stamp_of_either o p ≡ Err BadTime
bad_either (Some n) p h k = absurd (h n refl)
bad_either None (Some m) h k = absurd (k m refl)
bad_either None None h k = refl

pub stamp_read-bad : (text : List ℕ) → ((n : Number) → length text ≤ 64 → IsNumber text n → ⊥) → ((m : Moment) → IsMomentText text m → ⊥) → stamp_read text ≡ Err BadTime
unfolding stamp_read
stamp_read-bad text no_number no_moment =
    elim (cases_lt 64 (length text)) [
      | inl long ↦ rw (lt-ltb 64 (length text) long) refl
      | inr short ↦ rw (le-ltb 64 (length text) short) (bad_either (number_of text) (moment_of text) (λ n e. no_number n short (number_sound text n e)) (λ m e. no_moment m (moment_sound text m e)))
    ]
