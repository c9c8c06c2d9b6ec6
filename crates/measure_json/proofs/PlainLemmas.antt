-- What is written plainly is in the grammar.
use Rattle.std.proofs.Common.{◌≡◌, ℕ, ℤ, suc, ◌+◌, ◌*◌, ◌/◌, ◌%◌, ◌^◌, ◌≤◌, ◌<◌, ◌&&◌, Bool, true, false, List, [], ◌∷◌, ◌++◌, map, length, Result, Ok, ◌⊎◌, inl, inr, refl, sym, ap, ◌∙◌, arith}
use Rattle.std.specs.Prelude.{codes, unsigned_abs, pos, negsuc}
use Rattle.std.specs.Fmt.{decimal}
use Rattle.std.specs.List.{flat_map, AllByRecursion}
use Rattle.std.proofs.lemmas.Bool.{and_parts, le-ltb, lt-ltb}
use Rattle.std.proofs.lemmas.List.{length-append}
use Rattle.std.proofs.lemmas.Fmt.{length-decimal-le}
use Rattle.gno_num.specs.Number.{Number, IsNumber, numerator, denominator, nearest}
use Rattle.gno_num.specs.Value.{value_read}
use Rattle.gno_num.specs.Text.{point_text, units_text, fraction_digits}
use Rattle.gno_num.proofs.PrintedLemmas.{pieces, pieces_spelled, pieces_value, nearest-exact, length-fraction_digits, read-units_text}
use Rattle.gno_num.proofs.ValueLemmas.{denominator-above}
use Rattle.gno_num.proofs.GrammarLemmas.{number_complete}
use Rattle.gno_time.specs.StampReading.{stamp_read, stamp_of_number}
use Rattle.series_model.specs.declared.measure.Measure.{Measure}
use Rattle.measure_json.specs.Fault.{placed}
use Rattle.measure_json.specs.Text.{is_plain}
use Rattle.measure_json.specs.Characters.{Character, plain, AreCharacters, written, meant, IsString}
use Rattle.measure_json.specs.Grammar.{Blanks, Mark, StringText, TimeText, ValueText, MeasureText, ItemsText, IsMeasures}
use Rattle.measure_json.specs.Plain.{InRange, measure_before, items_json, measures_json}

all_plain : List ℕ → Bool
all_plain [] = true
all_plain (c ∷ cs) = is_plain c && all_plain cs

plain_are : (bytes : List ℕ) → all_plain bytes ≡ true → AreCharacters (map plain bytes)
unfolding all_plain
plain_are [] h = tt
plain_are (c ∷ cs) h =
    let parts = and_parts (is_plain c) (all_plain cs) h in
    (parts.0, tt, plain_are cs parts.1)

plain_written : (bytes : List ℕ) → bytes ≡ flat_map written (map plain bytes)
plain_written [] = refl
plain_written (c ∷ cs) = ap (λ x. c ∷ x) (plain_written cs)

plain_meant : (bytes : List ℕ) → bytes ≡ flat_map meant (map plain bytes)
plain_meant [] = refl
plain_meant (c ∷ cs) = ap (λ x. c ∷ x) (plain_meant cs)

plain_string : (bytes rest : List ℕ) → all_plain bytes ≡ true → StringText (34 ∷ (bytes ++ 34 ∷ rest)) bytes rest
plain_string bytes rest h =
    (bytes, (map plain bytes, plain_are bytes h, plain_written bytes, plain_meant bytes), refl)

-- the two keys
pub time_key : (rest : List ℕ) → StringText (34 ∷ (codes "timestamp" ++ 34 ∷ rest)) (codes "timestamp") rest
unfolding all_plain
time_key rest = plain_string (codes "timestamp") rest refl

pub value_key : (rest : List ℕ) → StringText (34 ∷ (codes "value" ++ 34 ∷ rest)) (codes "value") rest
unfolding all_plain
value_key rest = plain_string (codes "value") rest refl

pub no_blanks : (text : List ℕ) → Blanks text text
no_blanks text = ([], tt, refl)

pub close_mark : (mark : ℕ) (text : List ℕ) → Mark mark (mark ∷ text) text
close_mark mark text = (text, no_blanks (mark ∷ text), no_blanks text)

short_seconds : (n : ℕ) → n < 9 * 10 ^ 18 → length (point_text 9 n) ≤ 64
short_seconds n h =
    omega (arith, length-append (decimal (n / 10 ^ 9)) (46 ∷ fraction_digits 9 (n % 10 ^ 9)), length-decimal-le 10 (n / 10 ^ 9) (omega arith) (omega arith) (omega arith), length-fraction_digits 9 (n % 10 ^ 9))

seconds_read : (n : ℕ) → n < 9 * 10 ^ 18 → stamp_read (point_text 9 n) ≡ Ok n
unfolding stamp_read stamp_of_number
seconds_read n h =
    let p = pieces false 9 n in
    let short = le-ltb 64 _ (short_seconds n h) in
    let read = number_complete (point_text 9 n) p (pieces_spelled false 9 n (omega arith) (omega arith)) in
    rw (short, read, pieces_value false 9 n (omega arith), nearest-exact n (denominator p) (denominator-above p), lt-ltb n (9 * 10 ^ 18) h) refl

time_text : (n : ℕ) (rest : List ℕ) → n < 9 * 10 ^ 18 → TimeText (point_text 9 n ++ rest) n rest
time_text n rest h =
    (point_text 9 n, inr (pieces false 9 n, pieces_spelled false 9 n (omega arith) (omega arith), refl), seconds_read n h)

value_number : (v : ℤ) → unsigned_abs v ≤ 10 ^ 18 → (n : Number) × IsNumber (units_text v) n
value_number (pos n) h = (pieces false 6 n, pieces_spelled false 6 n (omega arith) (omega arith))
value_number (negsuc n) h = (pieces true 6 (suc n), pieces_spelled true 6 (suc n) (omega arith) (omega arith))

value_text : (v : ℤ) (rest : List ℕ) → unsigned_abs v ≤ 10 ^ 18 → ValueText (units_text v ++ rest) v rest
value_text v rest h =
    let number = value_number v h in
    (units_text v, inr (number.0, number.1, refl), read-units_text v h)

measure_text : (m : Measure) (rest : List ℕ) → InRange m → MeasureText (measure_before m rest) m rest
measure_text m rest h =
    let closing = 125 ∷ rest in
    let value = units_text m.value ++ closing in
    let second = 34 ∷ (codes "value" ++ 34 ∷ 58 ∷ value) in
    let time = point_text 9 m.at ++ 44 ∷ second in
    let inside = 34 ∷ (codes "timestamp" ++ 34 ∷ 58 ∷ time) in (
      inside,
      inside,
      closing,
      refl,
      no_blanks inside,
      inl (44 ∷ second, second, (58 ∷ time, time, time_key (58 ∷ time), close_mark 58 time, time_text m.at (44 ∷ second) h.0), close_mark 44 second, (58 ∷ value, value, value_key (58 ∷ value), close_mark 58 value, value_text m.value closing h.1)),
      no_blanks closing,
    )

items_text : (m : Measure) (ms : List Measure) → AllByRecursion InRange (m ∷ ms) → ItemsText MeasureText 93 (items_json (m ∷ ms)) (m ∷ ms) []
items_text m [] h = (93 ∷ [], measure_text m (93 ∷ []) h.0, no_blanks (93 ∷ []))
items_text m (n ∷ ms) h =
    (44 ∷ items_json (n ∷ ms), items_json (n ∷ ms), measure_text m (44 ∷ items_json (n ∷ ms)) h.0, close_mark 44 (items_json (n ∷ ms)), items_text n ms h.1)

pub plain_measures : (ms : List Measure) → AllByRecursion InRange ms → length ms ≤ 50000 → IsMeasures (measures_json ms) ms
plain_measures [] h few =
    (91 ∷ 93 ∷ [], [], no_blanks (91 ∷ 93 ∷ []), ((93 ∷ [], 93 ∷ [], refl, no_blanks (93 ∷ []), inl (refl, refl)), few), no_blanks [])
plain_measures (m ∷ ms) h few =
    let items = items_json (m ∷ ms) in
    (91 ∷ items, [], no_blanks (91 ∷ items), ((items, items, refl, no_blanks items, inr (items_text m ms h)), few), no_blanks [])
