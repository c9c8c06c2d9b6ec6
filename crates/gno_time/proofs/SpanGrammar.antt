-- What is read of a length of time is what its grammars give it.
use Rattle.std.proofs.Common.{◌≡◌, ℕ, zero, suc, ◌+◌, ◌*◌, ◌^◌, ◌<◌, ◌≤◌, ◌==◌, nat_lt, nat_le, Bool, true, false, ◌&&◌, cond, if◌then◌else◌, List, [], ◌∷◌, ◌++◌, length, replicate, Option, None, Some, Result, Err, ◌⊎◌, inl, inr, refl, sym, ap, subst, ◌∙◌, arith, append_assoc, length-append, codes}
use Rattle.std.specs.Str.{all_ascii_digits}
use Rattle.std.specs.Char.{is_ascii_digit}
use Rattle.std.proofs.lemmas.Bool.{cases_Bool, cases_lt, and_parts, and_right, eqb-true, eq-eqb, ne_eqb, lt-ltb, le-ltb, le-leb, leb-true, lt-leb}
use Rattle.std.proofs.lemmas.List.{append-nil}
use Rattle.std.proofs.lemmas.Option.{cond_some, some_pair_parts}
use Rattle.gno_num.specs.Digits.{digits_front, digits_back, begins_with, without_front, number_onto}
use Rattle.gno_num.specs.Number.{AreDigits, IsFractionText, Number, IsNumber}
use Rattle.gno_num.specs.Reading.{number_of, is_whole, fraction_at, exponent_of}
use Rattle.gno_num.specs.Text.{padded}
use Rattle.gno_num.proofs.RowLemmas.{no_digits}
use Rattle.gno_num.proofs.GrammarLemmas.{number_sound, number_complete, not_first, front_with, front_without, digits_join, Stops, stops_at, no_text, digits_front-append, digits_back-append, front_digits, fraction_sound, some_same, if_some}
use Rattle.gno_time.specs.Fields.{nanos_at}
use Rattle.gno_time.specs.SpanReading.{span_in_range, span_of_number, without_spaces, span_of_units, amount_of, after, behind_days, days_at, hour_at, clock_of, days_and_clock_of, span_of_any, span_of_token, span_read}
use Rattle.gno_time.specs.SpanText.{IsAmountText, IsDaysText, IsHourText, IsClockText}
use Rattle.gno_time.specs.Units.{unit_of}
use Rattle.gno_time.specs.declared.span.SpanFault.{SpanFault}
use Rattle.gno_time.specs.declared.span.SpanFault.TheVariants.{BadSpan}
use Rattle.gno_time.proofs.PaddedLemmas.{length-padded, padded-all, number_at_sound, number_at_complete, field_at_sound, field_at_complete}
use Rattle.gno_time.proofs.MomentLemmas.{bind_some, nanos_sound, nanos_complete}

-- ---- units begin with a small letter, but not with an `e`

no_unit : (c : ℕ) (cs : List ℕ) → c < 97 → unit_of (c ∷ cs) ≡ None
unfolding unit_of
no_unit c cs h =
    rw (ne_eqb c 109 (λ e. absurd (omega arith)), ne_eqb c 115 (λ e. absurd (omega arith)), ne_eqb c 104 (λ e. absurd (omega arith)), ne_eqb c 100 (λ e. absurd (omega arith)), ne_eqb c 119 (λ e. absurd (omega arith))) refl

no_unit_e : (cs : List ℕ) → unit_of (101 ∷ cs) ≡ None
unfolding unit_of
no_unit_e cs = refl

no_unit_nil : unit_of [] ≡ None
unfolding unit_of
no_unit_nil = refl

-- a text that no digits, point or exponent begin
record IsApart (text : List ℕ) : Type 0 where
  stops : Stops text
  point : begins_with 46 text ≡ false
  exponent : exponent_of text ≡ None

apart_at : (c : ℕ) (cs : List ℕ) → is_ascii_digit c ≡ false → (c ≡ 46 → ⊥) → (c ≡ 101 → ⊥) → (c ≡ 69 → ⊥) → IsApart (c ∷ cs)
unfolding exponent_of
apart_at c cs digit point small large = record {
  stops = stops_at c cs digit;
  point = ne_eqb c 46 point;
  exponent = rw (ne_eqb c 101 small, ne_eqb c 69 large) refl;
}

letter : (c : ℕ) → 58 ≤ c → is_ascii_digit c ≡ false
letter c h = and_right _ _ (lt-leb c 57 h)

unit_apart : (word : List ℕ) (unit : ℕ) → unit_of word ≡ Some unit → IsApart word × (without_spaces word ≡ word)
unit_apart [] unit h = let f : None ≡ Some unit = sym no_unit_nil ∙ h in cc
unit_apart (c ∷ cs) unit h =
    elim (cases_lt c 97) [
      | inl low ↦ let f : None ≡ Some unit = sym (no_unit c cs low) ∙ h in cc
      | inr high ↦ (apart_at c cs (letter c (omega arith)) (λ e. absurd (omega arith)) (λ e. let f : None ≡ Some unit = sym (no_unit_e cs) ∙ ap (λ d. unit_of (d ∷ cs)) (sym e) ∙ h in cc) (λ e. absurd (omega arith)), rw (ne_eqb c 32 (λ e. absurd (omega arith))) refl)
    ]

-- ---- spaces

spaces_apart : (n : ℕ) (word : List ℕ) → IsApart word → IsApart (replicate n 32 ++ word)
spaces_apart zero word h = h
spaces_apart (suc n) word h =
    apart_at 32 (replicate n 32 ++ word) refl (λ e. absurd (omega arith)) (λ e. absurd (omega arith)) (λ e. absurd (omega arith))

spaces_off : (n : ℕ) (word : List ℕ) → without_spaces word ≡ word → without_spaces (replicate n 32 ++ word) ≡ word
spaces_off zero word h = h
spaces_off (suc n) word h = spaces_off n word h

spaces_split : (text : List ℕ) → (n : ℕ) × (text ≡ replicate n 32 ++ without_spaces text)
spaces_split [] = (0, refl)
spaces_split (c ∷ cs) =
    elim (cases_Bool (c == 32)) [
      | inl is ↦ let rest = spaces_split cs in (suc rest.0, rw is (ap (λ d. d ∷ cs) (eqb-true c 32 is) ∙ ap (λ ds. 32 ∷ ds) rest.1))
      | inr not ↦ (0, rw not refl)
    ]

-- ---- digits, a fraction, and what follows

fraction_read : (piece fraction rest : List ℕ) → IsFractionText piece fraction → IsApart rest → fraction_at (piece ++ rest) ≡ Some (fraction, rest)
unfolding fraction_at
fraction_read piece fraction rest (inl h) apart = rw (h.0, h.1, apart.point) refl
fraction_read piece fraction rest (inr (point, are)) apart =
    rw (point, digits_front-append fraction rest are.all apart.stops, digits_back-append fraction rest are.all apart.stops, lt-ltb 0 (length fraction) are.some) refl

fraction_stops : (piece fraction rest : List ℕ) → IsFractionText piece fraction → IsApart rest → Stops (piece ++ rest)
fraction_stops piece fraction rest (inl h) apart = rw h.0 apart.stops
fraction_stops piece fraction rest (inr (point, are)) apart = rw point (stops_at 46 (fraction ++ rest) refl)

none_either : (b : Bool) → cond {A = Option Number} b None None ≡ None
none_either true = refl
none_either false = refl

-- digits and a fraction before such a text are no number token
no_token : (whole piece fraction rest : List ℕ) → AreDigits whole → IsFractionText piece fraction → IsApart rest → number_of (whole ++ (piece ++ rest)) ≡ None
unfolding number_of
no_token whole piece fraction rest are is apart =
    let stops = fraction_stops piece fraction rest is apart in
    let plain = not_first 45 whole (piece ++ rest) are (λ low high. absurd (omega arith)) in
    rw (plain, front_without 45 (whole ++ (piece ++ rest)) plain, digits_front-append whole (piece ++ rest) are.all stops, digits_back-append whole (piece ++ rest) are.all stops, fraction_read piece fraction rest is apart, apart.exponent) (none_either (is_whole whole))

amount_complete : (text whole fraction word : List ℕ) (unit : ℕ) → unit_of word ≡ Some unit → IsAmountText text whole fraction word → amount_of text ≡ Some (span_of_units whole fraction unit)
unfolding amount_of
amount_complete text whole fraction word unit known h =
    let letters = unit_apart word unit known in
    let tail = replicate h.spaces 32 ++ word in
    let apart = spaces_apart h.spaces word letters.0 in
    let stops = fraction_stops h.fraction_text fraction tail h.is_fraction apart in
    let fits : nat_le (length (whole ++ (h.fraction_text ++ tail))) (64 + length tail) ≡ true = le-leb _ _ (omega (arith, h.short, length-append whole (h.fraction_text ++ tail), length-append h.fraction_text tail)) in
    rw (h.spelled, digits_front-append whole (h.fraction_text ++ tail) h.is_whole.all stops, digits_back-append whole (h.fraction_text ++ tail) h.is_whole.all stops, lt-ltb 0 (length whole) h.is_whole.some, fraction_read h.fraction_text fraction tail h.is_fraction apart, fits, spaces_off h.spaces word letters.1, known) refl

amount_no_token : (text whole fraction word : List ℕ) (unit : ℕ) → unit_of word ≡ Some unit → IsAmountText text whole fraction word → number_of text ≡ None
amount_no_token text whole fraction word unit known h =
    let letters = unit_apart word unit known in
    ap number_of h.spelled ∙ no_token whole h.fraction_text fraction (replicate h.spaces 32 ++ word) h.is_whole h.is_fraction (spaces_apart h.spaces word letters.0)

amount_sound : (text : List ℕ) (r : Result ℕ SpanFault) → amount_of text ≡ Some r → (whole : List ℕ) × (fraction : List ℕ) × (word : List ℕ) × (unit : ℕ) × (unit_of word ≡ Some unit) × IsAmountText text whole fraction word
unfolding amount_of
amount_sound text r h =
    let some = if_some _ _ _ h in
    let fraction = bind_some _ _ _ some.1 in
    let fits = if_some _ _ _ fraction.2 in
    let long : length text ≤ 64 + length fraction.0.1 = leb-true (length text) (64 + length fraction.0.1) fits.0 in
    let unit = bind_some _ _ _ fits.1 in
    let piece = fraction_sound (digits_back text) fraction.0.0 fraction.0.1 fraction.1 in
    let spaces = spaces_split fraction.0.1 in
    let word = without_spaces fraction.0.1 in
    let whole = digits_front text in
    let spelled : text ≡ whole ++ (piece.0 ++ fraction.0.1) = sym (digits_join text) ∙ ap (λ cs. whole ++ cs) piece.2 in (
      whole,
      fraction.0.0,
      word,
      unit.0,
      unit.1,
      record {
        fraction_text = piece.0;
        spaces = spaces.0;
        is_whole = front_digits text some.0;
        is_fraction = piece.1;
        short = omega (arith, long, ap length spelled, length-append whole (piece.0 ++ fraction.0.1), length-append piece.0 fraction.0.1);
        spelled = spelled ∙ ap (λ cs. whole ++ (piece.0 ++ cs)) spaces.1;
      },
    )

-- ---- days

after_sound : (bs text rest : List ℕ) → after bs text ≡ Some rest → text ≡ bs ++ rest
unfolding after
after_sound [] text rest h = some_same h
after_sound (b ∷ bs) text rest h =
    let parts = if_some _ _ _ h in
    front_with b text parts.0 ∙ ap (λ cs. b ∷ cs) (after_sound bs (without_front b text) rest parts.1)

days_word : (text rest : List ℕ) → behind_days text ≡ Some rest → (text ≡ codes "day, " ++ rest) ⊎ (text ≡ codes "days, " ++ rest)
unfolding behind_days
days_word text rest h =
    let day = bind_some _ _ _ h in
    let front = after_sound (codes "day") text day.0 day.1 in
    let back = after_sound (codes ", ") (without_front 115 day.0) rest day.2 in
    elim (cases_Bool (begins_with 115 day.0)) [
      | inl many ↦ inr (front ∙ ap (λ cs. codes "day" ++ cs) (front_with 115 day.0 many ∙ ap (λ cs. 115 ∷ cs) back))
      | inr one ↦ inl (front ∙ ap (λ cs. codes "day" ++ cs) (sym (front_without 115 day.0 one) ∙ back))
    ]

one_day : (rest : List ℕ) → behind_days (codes "day, " ++ rest) ≡ Some rest
unfolding behind_days after
one_day rest = refl

many_days : (rest : List ℕ) → behind_days (codes "days, " ++ rest) ≡ Some rest
unfolding behind_days after
many_days rest = refl

days_sound : (text : List ℕ) (days : ℕ) (rest : List ℕ) → days_at text ≡ Some (days, rest) → (piece : List ℕ) × IsDaysText piece days × (text ≡ piece ++ rest)
unfolding days_at
days_sound text days rest h =
    elim (cases_Bool (nat_lt 0 (length (digits_front text)) && begins_with 32 (digits_back text))) [
      | inl is ↦
          let tests = and_parts _ _ is in
          let digits = digits_front text in
          let behind = bind_some _ _ _ (rw is at h) in
          let all : (number_onto 0 digits, behind.0) ≡ (days, rest) = some_same behind.2 in
          let number : number_onto 0 digits ≡ days = ap (λ (p : ℕ × List ℕ). p.0) all in
          let same : behind.0 ≡ rest = ap (λ (p : ℕ × List ℕ). p.1) all in
          let are = front_digits text tests.0 in
          let back : text ≡ digits ++ (32 ∷ without_front 32 (digits_back text)) = sym (digits_join text) ∙ ap (λ cs. digits ++ cs) (front_with 32 (digits_back text) tests.1) in
          elim (days_word (without_front 32 (digits_back text)) behind.0 behind.1) [
            | inl one ↦ (digits ++ codes " day, ", inr (digits, codes " day, ", are, inl refl, refl, sym number), back ∙ ap (λ cs. digits ++ (32 ∷ cs)) (one ∙ ap (λ cs. codes "day, " ++ cs) same) ∙ sym (append_assoc digits (codes " day, ") rest))
            | inr many ↦ (digits ++ codes " days, ", inr (digits, codes " days, ", are, inr refl, refl, sym number), back ∙ ap (λ cs. digits ++ (32 ∷ cs)) (many ∙ ap (λ cs. codes "days, " ++ cs) same) ∙ sym (append_assoc digits (codes " days, ") rest))
          ]
      | inr not ↦
          let parts = some_pair_parts _ _ _ _ (rw not at h) in
          ([], inl (refl, sym parts.0), parts.1)
    ]

some_days : (digits word rest : List ℕ) → AreDigits digits → behind_days word ≡ Some rest → days_at (digits ++ (32 ∷ word)) ≡ Some (number_onto 0 digits, rest)
unfolding days_at
some_days digits word rest are h =
    let stops = stops_at 32 word refl in
    rw (digits_front-append digits (32 ∷ word) are.all stops, digits_back-append digits (32 ∷ word) are.all stops, lt-ltb 0 (length digits) are.some, h) refl

no_days : (digits rest : List ℕ) → all_ascii_digits digits ≡ true → days_at (digits ++ (58 ∷ rest)) ≡ Some (0, digits ++ (58 ∷ rest))
unfolding days_at
no_days digits rest all =
    let test : (nat_lt 0 (length (digits_front (digits ++ (58 ∷ rest)))) && begins_with 32 (digits_back (digits ++ (58 ∷ rest)))) ≡ false = and_right _ _ (ap (begins_with 32) (digits_back-append digits (58 ∷ rest) all (stops_at 58 rest refl))) in
    rw test refl

hour_digits : (text : List ℕ) (hour : ℕ) → IsHourText text hour → AreDigits text
hour_digits text hour (inl (e, low)) =
    subst (λ (cs : List ℕ). AreDigits cs) (sym e) (record { all = padded-all 1 hour; some = omega (arith, length-padded 1 hour) })
hour_digits text hour (inr (e, low)) =
    subst (λ (cs : List ℕ). AreDigits cs) (sym e) (record { all = padded-all 2 hour; some = omega (arith, length-padded 2 hour) })

days_complete : (piece hour : List ℕ) (days h : ℕ) (rest : List ℕ) → IsDaysText piece days → IsHourText hour h → days_at (piece ++ (hour ++ (58 ∷ rest))) ≡ Some (days, hour ++ (58 ∷ rest))
days_complete piece hour days h rest (inl (none, zero_days)) is =
    rw (none, zero_days) (no_days hour rest (hour_digits hour h is).all)
days_complete piece hour days h rest (inr (digits, word, are, inl one, spelled, number)) is =
    let tail = hour ++ (58 ∷ rest) in
    let all : piece ++ tail ≡ digits ++ (32 ∷ (codes "day, " ++ tail)) = ap (λ cs. cs ++ tail) (spelled ∙ ap (λ cs. digits ++ cs) one) ∙ append_assoc digits (codes " day, ") tail in
    ap days_at all ∙ some_days digits (codes "day, " ++ tail) tail are (one_day tail) ∙ ap (λ (n : ℕ). Some (n, tail)) (sym number)
days_complete piece hour days h rest (inr (digits, word, are, inr many, spelled, number)) is =
    let tail = hour ++ (58 ∷ rest) in
    let all : piece ++ tail ≡ digits ++ (32 ∷ (codes "days, " ++ tail)) = ap (λ cs. cs ++ tail) (spelled ∙ ap (λ cs. digits ++ cs) many) ∙ append_assoc digits (codes " days, ") tail in
    ap days_at all ∙ some_days digits (codes "days, " ++ tail) tail are (many_days tail) ∙ ap (λ (n : ℕ). Some (n, tail)) (sym number)

-- ---- hours

hour_sound : (text : List ℕ) (hour : ℕ) (rest : List ℕ) → hour_at text ≡ Some (hour, rest) → (piece : List ℕ) × IsHourText piece hour × (text ≡ piece ++ rest)
unfolding hour_at
hour_sound text hour rest h =
    elim (cases_Bool (length (digits_front text) == 1)) [
      | inl is ↦ let read = number_at_sound 1 23 text hour rest (rw is at h) in (padded 1 hour, inl (refl, omega (arith, read.1)), read.2)
      | inr not ↦ let read = number_at_sound 2 23 text hour rest (rw not at h) in (padded 2 hour, inr (refl, read.0), read.2)
    ]

hour_complete : (piece : List ℕ) (hour : ℕ) (rest : List ℕ) → IsHourText piece hour → hour_at (piece ++ (58 ∷ rest)) ≡ Some (hour, 58 ∷ rest)
unfolding hour_at
hour_complete piece hour rest (inl (e, low)) =
    let front = digits_front-append (padded 1 hour) (58 ∷ rest) (padded-all 1 hour) (stops_at 58 rest refl) in
    rw (e, front, eq-eqb _ 1 (length-padded 1 hour)) (number_at_complete 1 23 hour (58 ∷ rest) (omega arith) (omega arith))
hour_complete piece hour rest (inr (e, low)) =
    let front = digits_front-append (padded 2 hour) (58 ∷ rest) (padded-all 2 hour) (stops_at 58 rest refl) in
    rw (e, front, ne_eqb (length (padded 2 hour)) 1 (λ f. absurd (omega (arith, length-padded 2 hour, f)))) (number_at_complete 2 23 hour (58 ∷ rest) low (omega arith))

-- ---- days and a time

clock_complete : (text days_text : List ℕ) (days seconds nanos : ℕ) (h : IsClockText text days seconds nanos) → days_and_clock_of text ≡ Some (span_in_range ((days * 86400 + seconds) * 10 ^ 9 + nanos))
unfolding days_and_clock_of clock_of
clock_complete text days_text days seconds nanos h =
    let fraction = h.fraction_text in
    let behind = 58 ∷ (padded 2 h.second ++ fraction) in
    let tail = padded 2 h.minute ++ behind in
    let read_days = days_complete h.days_text h.hour_text days h.hour tail h.is_days h.is_hour in
    let read_hour = hour_complete h.hour_text h.hour tail h.is_hour in
    let read_minute = field_at_complete 58 2 59 h.minute behind h.minute_fits (omega (arith, h.minute_fits)) in
    let read_second = field_at_complete 58 2 59 h.second fraction h.second_fits (omega (arith, h.second_fits)) in
    let read_nanos : nanos_at fraction ≡ Some (nanos, []) = ap nanos_at (sym (append-nil fraction)) ∙ nanos_complete fraction [] nanos h.is_nanos no_text refl in
    rw (h.spelled, read_days, read_hour, read_minute, read_second, read_nanos, h.sum) refl

clock_sound : (text : List ℕ) (r : Result ℕ SpanFault) → days_and_clock_of text ≡ Some r → (days : ℕ) × (seconds : ℕ) × (nanos : ℕ) × IsClockText text days seconds nanos
unfolding days_and_clock_of clock_of
clock_sound text r h =
    let days = bind_some _ _ _ h in
    let clock = bind_some _ _ _ days.2 in
    let hour = bind_some _ _ _ clock.1 in
    let minute = bind_some _ _ _ hour.2 in
    let second = bind_some _ _ _ minute.2 in
    let nanos = bind_some _ _ _ second.2 in
    let end = cond_some _ _ _ nanos.2 in
    let piece = days_sound text days.0.0 days.0.1 days.1 in
    let hours = hour_sound days.0.1 hour.0.0 hour.0.1 hour.1 in
    let m = field_at_sound 58 2 59 hour.0.1 minute.0.0 minute.0.1 minute.1 in
    let s = field_at_sound 58 2 59 minute.0.1 second.0.0 second.0.1 second.1 in
    let fraction = nanos_sound second.0.1 nanos.0.0 nanos.0.1 nanos.1 in
    let none : nanos.0.1 ≡ [] = no_digits nanos.0.1 (eqb-true _ 0 end.0) in
    let last : second.0.1 ≡ fraction.0 = fraction.2 ∙ ap (λ cs. fraction.0 ++ cs) none ∙ append-nil fraction.0 in (
      days.0.0,
      hour.0.0 * 3600 + minute.0.0 * 60 + second.0.0,
      nanos.0.0,
      record {
        days_text = piece.0;
        hour_text = hours.0;
        fraction_text = fraction.0;
        hour = hour.0.0;
        minute = minute.0.0;
        second = second.0.0;
        is_days = piece.1;
        is_hour = hours.1;
        minute_fits = m.0;
        second_fits = s.0;
        is_nanos = fraction.1;
        sum = refl;
        spelled = piece.2 ∙ ap (λ cs. piece.0 ++ cs) (hours.2 ∙ ap (λ cs. hours.0 ++ cs) (m.2 ∙ ap (λ cs. 58 ∷ (padded 2 minute.0.0 ++ cs)) (s.2 ∙ ap (λ cs. 58 ∷ (padded 2 second.0.0 ++ cs)) last)));
      },
    )

-- ---- no two forms are the same

none_test : (b : Bool) → cond {A = Option (Result ℕ SpanFault)} b None None ≡ None
none_test true = refl
none_test false = refl

no_amount : (whole rest : List ℕ) → AreDigits whole → IsApart rest → unit_of (without_spaces rest) ≡ None → amount_of (whole ++ rest) ≡ None
unfolding amount_of
no_amount whole rest are apart h =
    let some = lt-ltb 0 (length whole) are.some in
    let fraction = fraction_read [] [] rest (inl (refl, refl)) apart in
    rw (digits_front-append whole rest are.all apart.stops, digits_back-append whole rest are.all apart.stops, some, fraction, h) (none_test (nat_le (length (whole ++ rest)) (64 + length rest)))

colon_apart : (rest : List ℕ) → IsApart (58 ∷ rest)
colon_apart rest =
    apart_at 58 rest refl (λ e. absurd (omega arith)) (λ e. absurd (omega arith)) (λ e. absurd (omega arith))

space_apart : (rest : List ℕ) → IsApart (32 ∷ rest)
space_apart rest =
    apart_at 32 rest refl (λ e. absurd (omega arith)) (λ e. absurd (omega arith)) (λ e. absurd (omega arith))

one_day_no_unit : (rest : List ℕ) → unit_of (codes "day, " ++ rest) ≡ None
unfolding unit_of
one_day_no_unit rest = refl

many_days_no_unit : (rest : List ℕ) → unit_of (codes "days, " ++ rest) ≡ None
unfolding unit_of
many_days_no_unit rest = refl

abbrev IsNeither : List ℕ → Type 0
IsNeither text = (number_of text ≡ None) × (amount_of text ≡ None)

neither : (digits rest : List ℕ) → AreDigits digits → IsApart rest → unit_of (without_spaces rest) ≡ None → IsNeither (digits ++ rest)
neither digits rest are apart h =
    (no_token digits [] [] rest are (inl (refl, refl)) apart, no_amount digits rest are apart h)

neither_parts : (text piece hour tail : List ℕ) (days h : ℕ) → IsDaysText piece days → IsHourText hour h → text ≡ piece ++ (hour ++ (58 ∷ tail)) → IsNeither text
neither_parts text piece hour tail days h (inl (none, zero_days)) is spelled =
    let all : text ≡ hour ++ (58 ∷ tail) = spelled ∙ ap (λ cs. cs ++ (hour ++ (58 ∷ tail))) none in
    subst (λ (cs : List ℕ). IsNeither cs) (sym all) (neither hour (58 ∷ tail) (hour_digits hour h is) (colon_apart tail) (no_unit 58 tail (omega arith)))
neither_parts text piece hour tail days h (inr (digits, word, are, inl one, parts, number)) is spelled =
    let rest = hour ++ (58 ∷ tail) in
    let all : text ≡ digits ++ (32 ∷ (codes "day, " ++ rest)) = spelled ∙ ap (λ cs. cs ++ rest) (parts ∙ ap (λ cs. digits ++ cs) one) ∙ append_assoc digits (codes " day, ") rest in
    subst (λ (cs : List ℕ). IsNeither cs) (sym all) (neither digits (32 ∷ (codes "day, " ++ rest)) are (space_apart (codes "day, " ++ rest)) (one_day_no_unit rest))
neither_parts text piece hour tail days h (inr (digits, word, are, inr many, parts, number)) is spelled =
    let rest = hour ++ (58 ∷ tail) in
    let all : text ≡ digits ++ (32 ∷ (codes "days, " ++ rest)) = spelled ∙ ap (λ cs. cs ++ rest) (parts ∙ ap (λ cs. digits ++ cs) many) ∙ append_assoc digits (codes " days, ") rest in
    subst (λ (cs : List ℕ). IsNeither cs) (sym all) (neither digits (32 ∷ (codes "days, " ++ rest)) are (space_apart (codes "days, " ++ rest)) (many_days_no_unit rest))

clock_neither : (text : List ℕ) (days seconds nanos : ℕ) (h : IsClockText text days seconds nanos) → IsNeither text
clock_neither text days seconds nanos h =
    neither_parts text h.days_text h.hour_text (padded 2 h.minute ++ (58 ∷ (padded 2 h.second ++ h.fraction_text))) days h.hour h.is_days h.is_hour h.spelled

-- ---- what is answered

pub span_read-number : (text : List ℕ) (n : Number) → length text ≤ 64 → IsNumber text n → span_read text ≡ span_of_number n
unfolding span_read
span_read-number text n short h = rw (le-ltb 64 (length text) short, number_complete text n h) refl

either_way : (b : Bool) (text : List ℕ) → number_of text ≡ None → (if b then span_of_any (amount_of text) (days_and_clock_of text) else span_of_token text (number_of text)) ≡ span_of_any (amount_of text) (days_and_clock_of text)
either_way true text h = refl
either_way false text h = ap (span_of_token text) h

pub span_read-amount : (text whole fraction word : List ℕ) (unit : ℕ) → unit_of word ≡ Some unit → IsAmountText text whole fraction word → span_read text ≡ span_of_units whole fraction unit
unfolding span_read
span_read-amount text whole fraction word unit known h =
    either_way (nat_lt 64 (length text)) text (amount_no_token text whole fraction word unit known h) ∙ ap (λ (o : Option (Result ℕ SpanFault)). span_of_any o (days_and_clock_of text)) (amount_complete text whole fraction word unit known h)

pub span_read-clock : (text : List ℕ) (days seconds nanos : ℕ) → IsClockText text days seconds nanos → span_read text ≡ span_in_range ((days * 86400 + seconds) * 10 ^ 9 + nanos)
unfolding span_read
span_read-clock text days seconds nanos h =
    let others = clock_neither text days seconds nanos h in
    either_way (nat_lt 64 (length text)) text others.0 ∙ ap (λ (o : Option (Result ℕ SpanFault)). span_of_any o (days_and_clock_of text)) others.1 ∙ ap (λ (o : Option (Result ℕ SpanFault)). span_of_any None o) (clock_complete text h.days_text days seconds nanos h)

bad_any : (o p : Option (Result ℕ SpanFault)) → ((r : Result ℕ SpanFault) → o ≡ Some r → ⊥) → ((r : Result ℕ SpanFault) → p ≡ Some r → ⊥) → span_of_any o p ≡ Err BadSpan
bad_any (Some r) p h k = absurd (h r refl)
bad_any None (Some r) h k = absurd (k r refl)
bad_any None None h k = refl

bad_token : (text : List ℕ) (o : Option Number) → ((n : Number) → o ≡ Some n → ⊥) → span_of_any (amount_of text) (days_and_clock_of text) ≡ Err BadSpan → span_of_token text o ≡ Err BadSpan
bad_token text (Some n) h k = absurd (h n refl)
bad_token text None h k = k

pub span_read-bad : (text : List ℕ) → ((n : Number) → length text ≤ 64 → IsNumber text n → ⊥) → ((whole fraction word : List ℕ) (unit : ℕ) → unit_of word ≡ Some unit → IsAmountText text whole fraction word → ⊥) → ((days seconds nanos : ℕ) → IsClockText text days seconds nanos → ⊥) → span_read text ≡ Err BadSpan
unfolding span_read
span_read-bad text no_number no_units no_clock =
    let any = bad_any (amount_of text) (days_and_clock_of text) (λ r e. let a = amount_sound text r e in no_units a.0 a.1 a.2 a.3 a.4 a.5) (λ r e. let k = clock_sound text r e in no_clock k.0 k.1 k.2 k.3) in
    elim (cases_lt 64 (length text)) [
      | inl long ↦ rw (lt-ltb 64 (length text) long) any
      | inr short ↦ rw (le-ltb 64 (length text) short) (bad_token text (number_of text) (λ n e. no_number n short (number_sound text n e)) any)
    ]
