-- A printed length of time is read back.
use Rattle.std.proofs.Common.{◌≡◌, ℕ, ◌+◌, ◌*◌, ◌/◌, ◌%◌, ◌^◌, ◌<◌, ◌≤◌, ◌==◌, nat_le, false, List, [], ◌∷◌, ◌++◌, length, Ok, inl, inr, refl, sym, ap, ◌∙◌, arith, append_assoc, length-append, codes}
use Rattle.std.specs.Fmt.{decimal}
use Rattle.std.proofs.lemmas.Bool.{cases_Bool, cases_lt, eqb-true, and_from, le-leb}
use Rattle.std.proofs.lemmas.Fmt.{digits_decimal, digits_value-decimal, decimal_nonempty, decimal_digit, decimal_step, length-decimal-le}
use Rattle.std.proofs.lemmas.Nat.{mod-mul-add, div-mul-add}
use Rattle.gno_num.specs.Digits.{number_onto}
use Rattle.gno_num.specs.Number.{AreDigits, denominator}
use Rattle.gno_num.specs.Span.{IsSpan}
use Rattle.gno_num.specs.Text.{padded, point_text, fraction_digits}
use Rattle.gno_num.proofs.RowLemmas.{own}
use Rattle.gno_num.proofs.ValueLemmas.{denominator-above}
use Rattle.gno_num.proofs.PrintedLemmas.{pieces, pieces_spelled, pieces_value, length-fraction_digits}
use Rattle.gno_time.specs.SpanReading.{span_in_range, span_of, span_of_number, span_read}
use Rattle.gno_time.specs.SpanText.{IsDaysText, IsHourText, IsClockText}
use Rattle.gno_time.specs.Text.{days_text, nanos_text, seconds_text_of, span_text_of}
use Rattle.gno_time.proofs.SpanGrammar.{span_read-number, span_read-clock}
use Rattle.gno_time.proofs.StampPrinted.{printed_nanos}

in_range : (n : ℕ) → IsSpan n → span_in_range n ≡ Ok n
unfolding span_in_range
in_range n h =
    rw (and_from (nat_le (10 ^ 6) n) (nat_le n (9 * 10 ^ 18)) (le-leb (10 ^ 6) n h.shortest) (le-leb n (9 * 10 ^ 18) h.longest)) refl

whole_span : (n den : ℕ) → 0 < den → span_of (n * den) den ≡ span_in_range n
unfolding span_of
whole_span n den above =
    let plain : n * den ≡ n * den + 0 = omega arith in
    let rest : n * den % den ≡ 0 = ap (λ m. m % den) plain ∙ mod-mul-add n den 0 above in
    let quotient : n * den / den ≡ n = ap (λ m. m / den) plain ∙ div-mul-add n den 0 above in
    rw (rest, quotient) refl

printed_seconds : (n : ℕ) → IsSpan n → span_of_number (pieces false 9 n) ≡ Ok n
unfolding span_of_number
printed_seconds n h =
    let value = pieces_value false 9 n (omega (arith, h.longest)) in
    ap (λ m. span_of m (denominator (pieces false 9 n))) value ∙ whole_span n (denominator (pieces false 9 n)) (denominator-above (pieces false 9 n)) ∙ in_range n h

-- a length printed in seconds is read back
pub read-seconds_text : (n : ℕ) → IsSpan n → span_read (seconds_text_of n) ≡ Ok n
read-seconds_text n h =
    let fits : n / 10 ^ 9 < 2 ^ 64 = omega (arith, h.longest) in
    let short : length (point_text 9 n) ≤ 64 = omega (arith, h.longest, length-append (decimal (n / 10 ^ 9)) (46 ∷ fraction_digits 9 (n % 10 ^ 9)), length-decimal-le 10 (n / 10 ^ 9) (omega arith) (omega (arith, h.longest)) fits, length-fraction_digits 9 (n % 10 ^ 9)) in
    span_read-number (point_text 9 n) (pieces false 9 n) short (pieces_spelled false 9 n (omega arith) fits) ∙ printed_seconds n h

decimal_are : (n : ℕ) → n < 2 ^ 64 → AreDigits (decimal n)
decimal_are n h = record { all = digits_decimal own n h; some = decimal_nonempty n h }

printed_days : (days : ℕ) → days < 2 ^ 64 → IsDaysText (days_text days) days
printed_days days h =
    let number : days ≡ number_onto 0 (decimal days) = sym (digits_value-decimal own days h) in
    elim (cases_Bool (days == 0)) [
      | inl none ↦ rw none (inl (refl, eqb-true days 0 none))
      | inr some ↦ elim (cases_Bool (days == 1)) [
        | inl one ↦ rw (some, one) (inr (decimal days, codes " day, ", decimal_are days h, inl refl, refl, number))
        | inr many ↦ rw (some, many) (inr (decimal days, codes " days, ", decimal_are days h, inr refl, refl, number))
      ]
    ]

one_digit : (n : ℕ) → n < 10 → padded 1 n ≡ (48 + n) ∷ []
unfolding padded
one_digit n h = let same : n / 1 % 10 ≡ n = omega arith in ap (λ m. (48 + m) ∷ []) same

two_digits : (n : ℕ) → n < 100 → padded 2 n ≡ (48 + n / 10) ∷ (48 + n % 10) ∷ []
unfolding padded
two_digits n h =
    let first : n / 10 % 10 ≡ n / 10 = omega arith in
    let second : n / 1 % 10 ≡ n % 10 = omega arith in
    rw (first, second) refl

printed_hour : (hour : ℕ) → hour ≤ 23 → IsHourText (decimal hour) hour
printed_hour hour low =
    elim (cases_lt hour 10) [
      | inl one ↦ inl (decimal_digit hour one ∙ sym (one_digit hour one), omega arith)
      | inr two ↦ inr (decimal_step hour two (omega arith) ∙ ap (λ cs. cs ++ (48 + hour % 10) ∷ []) (decimal_digit (hour / 10) (omega arith)) ∙ sym (two_digits hour (omega arith)), low)
    ]

regroup : (days hour minute second fraction : List ℕ) → (((days ++ hour) ++ 58 ∷ minute) ++ 58 ∷ second) ++ fraction ≡ days ++ (hour ++ (58 ∷ (minute ++ (58 ∷ (second ++ fraction)))))
regroup days hour minute second fraction =
    append_assoc ((days ++ hour) ++ 58 ∷ minute) (58 ∷ second) fraction ∙ append_assoc (days ++ hour) (58 ∷ minute) (58 ∷ (second ++ fraction)) ∙ append_assoc days hour (58 ∷ (minute ++ (58 ∷ (second ++ fraction))))

printed_clock : (nanos : ℕ) → nanos ≤ 9 * 10 ^ 18 → IsClockText (span_text_of nanos) (nanos / 10 ^ 9 / 86400) (nanos / 10 ^ 9 % 86400) (nanos % 10 ^ 9)
unfolding span_text_of
printed_clock nanos h =
    let clock = nanos / 10 ^ 9 % 86400 in
    let days = nanos / 10 ^ 9 / 86400 in
    let fraction = nanos % 10 ^ 9 in
    record {
      days_text = days_text days;
      hour_text = decimal (clock / 3600);
      fraction_text = nanos_text fraction;
      hour = clock / 3600;
      minute = clock / 60 % 60;
      second = clock % 60;
      is_days = printed_days days (omega arith);
      is_hour = printed_hour (clock / 3600) (omega arith);
      minute_fits = omega arith;
      second_fits = omega arith;
      is_nanos = printed_nanos fraction (omega arith);
      sum = omega arith;
      spelled = regroup (days_text days) (decimal (clock / 3600)) (padded 2 (clock / 60 % 60)) (padded 2 (clock % 60)) (nanos_text fraction);
    }

-- a length printed as days and a time is read back
pub read-span_text : (n : ℕ) → IsSpan n → span_read (span_text_of n) ≡ Ok n
read-span_text n h =
    let days = n / 10 ^ 9 / 86400 in
    let clock = n / 10 ^ 9 % 86400 in
    let whole : (days * 86400 + clock) * 10 ^ 9 + n % 10 ^ 9 ≡ n = omega arith in
    span_read-clock (span_text_of n) days clock (n % 10 ^ 9) (printed_clock n h.longest) ∙ ap span_in_range whole ∙ in_range n h
