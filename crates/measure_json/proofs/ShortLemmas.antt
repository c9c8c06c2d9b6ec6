-- Numbers of few digits, and measures of them, are in the grammar.
use Rattle.std.proofs.Common.{◌≡◌, ℕ, ℤ, suc, ◌+◌, ◌-◌, ◌*◌, ◌^◌, ◌≤◌, ◌<◌, ◌==◌, ◌||◌, Bool, true, false, List, [], ◌∷◌, ◌++◌, length, take, drop, get_or, Option, None, Some, IfSome, Ok, inl, inr, refl, sym, ap, subst, ◌∙◌, append_assoc, add-one, arith}
use Rattle.std.specs.Prelude.{codes}
use Rattle.std.specs.Int.{w32, w64, from_le_bytes, to_le_bytes}
use Rattle.std.specs.Char.{is_ascii_digit}
use Rattle.std.specs.Str.{all_ascii_digits}
use Rattle.std.proofs.Math.Nat.{pow-suc, mul-le-mul, mul-lt-mul_of_pos_right}
use Rattle.std.proofs.Math.Seq.{take-suc}
use Rattle.std.proofs.lemmas.Bool.{cases_lt, le-ltb, lt-ltb, eqb-true, or_cases}
use Rattle.std.proofs.lemmas.Grind.{common_steps}
use Rattle.std.proofs.lemmas.List.{length-append, append-nil, take-append-drop, length-take-le, get_or-take, get_or_past}
use Rattle.std.proofs.lemmas.Nat.{pow-add, le_bytes_4, le_bytes_8}
use Rattle.gno_num.specs.Digits.{number_onto}
use Rattle.gno_num.specs.Number.{Number, AreDigits, IsWhole, IsFractionText, IsNumber, sign_text, numerator, denominator}
use Rattle.gno_num.specs.Value.{signed, value_read, value_of, units_of}
use Rattle.gno_num.proofs.DigitLemmas.{pow_ten_above, pow_ten_order}
use Rattle.gno_num.proofs.RowLemmas.{number_onto-append, number_onto-short, all_ascii_digits-append}
use Rattle.gno_num.proofs.ValueLemmas.{denominator-above, rounded-signed, unsigned_abs-signed}
use Rattle.gno_num.proofs.PrintedLemmas.{nearest-exact, value_read-number}
use Rattle.gno_num.proofs.GrammarLemmas.{number_complete}
use Rattle.gno_time.specs.StampReading.{stamp_read, stamp_of_number}
use Rattle.measure_json.specs.Grammar.{Blanks, Mark, StringText, TimeText, ValueText, TimeMember, ValueMember, MeasureText}
use Rattle.measure_json.specs.Marks.{is_blank, skip_blank}
use Rattle.measure_json.specs.Measures.{measure_at}
use Rattle.measure_json.specs.Short.{IsShortWhole, IsShortFraction, IsShortNumber, ends_token}
use Rattle.measure_json.proofs.NumberLemmas.{Ends, ends_comma, ends_brace, blank_ends}
use Rattle.measure_json.proofs.SoundLemmas.{skips}
use Rattle.measure_json.proofs.CompleteLemmas.{measure_reads}
use Rattle.measure_json.proofs.PlainLemmas.{time_key, value_key, no_blanks}

-- what is found has a further property
pub if_some : {A : Type 0} {P Q : A → Type 0} (o : Option A) → ((x : A) → P x → Q x) → IfSome o P → IfSome o Q
if_some None f h = tt
if_some (Some x) f h = f x h

-- ---- digits one by one

pub take-more : (xs : List ℕ) (i : ℕ) → i < length xs → take (i + 1) xs ≡ take i xs ++ (get_or xs i 0 ∷ [])
take-more xs i h = rw (add-one i) (take-suc xs i 0 h)

ten_times : (t p : ℕ) → (t + 1) * (p * 10) ≡ (10 * t + 10) * p
ten_times t p = grind arith

-- ten of what stands before the next digit
pub next_fits : (t most count : ℕ) → count < most → (t + 1) * 10 ^ (most - count) ≤ 2 ^ 64 → (10 * t + 10) * 10 ^ (most - (count + 1)) ≤ 2 ^ 64
next_fits t most count lt h =
    let one : most - count ≡ suc (most - (count + 1)) = omega arith in
    let power : 10 ^ (most - count) ≡ 10 ^ (most - (count + 1)) * 10 = ap (λ n. 10 ^ n) one ∙ pow-suc 10 (most - (count + 1)) in
    subst (λ n. n ≤ 2 ^ 64) (ap (λ n. (t + 1) * n) power ∙ ten_times t (10 ^ (most - (count + 1)))) h

pub digit_fits : (n d p m : ℕ) → n + d + 1 ≤ n + 10 → (n + 10) * p ≤ m → (n + d + 1) * p ≤ m
digit_fits n d p m h k =
    let less : (n + d + 1) * p ≤ (n + 10) * p = mul-le-mul h (omega arith) in
    omega (arith, less, k)

pub within_fits : (n p m : ℕ) → 0 < p → n * p ≤ m → n ≤ m
within_fits n p m above h =
    let less : n * 1 ≤ n * p = mul-le-mul (omega arith) (omega arith) in
    omega (arith, less, h)

-- so there is room for any next digit
pub ten_fits : (t most count : ℕ) → count < most → (t + 1) * 10 ^ (most - count) ≤ 2 ^ 64 → 10 * t + 10 ≤ 2 ^ 64
ten_fits t most count lt h =
    within_fits (10 * t + 10) (10 ^ (most - (count + 1))) (2 ^ 64) (pow_ten_above (most - (count + 1))) (next_fits t most count lt h)

pub next_number : (n : ℕ) (row : List ℕ) (byte total digit : ℕ) → total ≡ number_onto n row → digit ≡ byte - 48 → 10 * total + digit ≡ number_onto n (row ++ (byte ∷ []))
next_number n row byte total digit is digit-is =
    ap (λ t. 10 * t + digit) is ∙ ap (λ d. 10 * number_onto n row + d) digit-is ∙ sym (number_onto-append n row (byte ∷ []))

pub one_digit : (byte : ℕ) → is_ascii_digit byte ≡ true → all_ascii_digits (byte ∷ []) ≡ true
one_digit byte h = rw h refl

-- ---- bytes as one number

take_under : (n : ℕ) (text : List ℕ) (i : ℕ) → i < length (take n text) → i < n
take_under n text i h = grind (arith, common_steps)

take_small : (n : ℕ) (text : List ℕ) → ((i : ℕ) → get_or text i 0 < 256) → (i : ℕ) → get_or (take n text) i 0 < 256
take_small n text h i =
    elim (cases_lt i (length (take n text))) [
      | inl lt ↦ let under : i < n = take_under n text i lt in rw (get_or-take n text i 0 under) (h i)
      | inr ge ↦ rw (get_or_past (take n text) i 0 ge) (omega arith)
    ]

-- what stands in front, where it is the same number
pub same_eight : (text rest bytes : List ℕ) (m n : ℕ) → 8 ≤ length text → rest ≡ drop 8 text → ((i : ℕ) → get_or text i 0 < 256) → length bytes ≡ 8 → ((i : ℕ) → get_or bytes i 0 < 256) → m ≡ from_le_bytes w64 (take 8 text) → n ≡ from_le_bytes w64 bytes → m ≡ n → text ≡ bytes ++ rest
same_eight text rest bytes m n enough left small len bytes-small h k e =
    let front : take 8 text ≡ bytes = sym (le_bytes_8 (take 8 text) m (length-take-le 8 text enough) (take_small 8 text small) h) ∙ ap (to_le_bytes w64) e ∙ le_bytes_8 bytes n len bytes-small k in
    sym (take-append-drop 8 text) ∙ ap (λ f. f ++ drop 8 text) front ∙ ap (λ r. bytes ++ r) (sym left)

pub same_four : (text rest bytes : List ℕ) (m n : ℕ) → 4 ≤ length text → rest ≡ drop 4 text → ((i : ℕ) → get_or text i 0 < 256) → length bytes ≡ 4 → ((i : ℕ) → get_or bytes i 0 < 256) → m ≡ from_le_bytes w32 (take 4 text) → n ≡ from_le_bytes w32 bytes → m ≡ n → text ≡ bytes ++ rest
same_four text rest bytes m n enough left small len bytes-small h k e =
    let front : take 4 text ≡ bytes = sym (le_bytes_4 (take 4 text) m (length-take-le 4 text enough) (take_small 4 text small) h) ∙ ap (to_le_bytes w32) e ∙ le_bytes_4 bytes n len bytes-small k in
    sym (take-append-drop 4 text) ∙ ap (λ f. f ++ drop 4 text) front ∙ ap (λ r. bytes ++ r) (sym left)

-- ---- numbers

-- what is taken of all that is left
pub all_of : (xs : List ℕ) (i : ℕ) → take (length xs - i) (drop i xs) ≡ drop i xs
all_of xs i = grind (arith, common_steps)

pub no_fraction : (whole : ℕ) (text : List ℕ) → IsShortFraction whole text whole 0 text
no_fraction whole text = record { piece = []; digits = []; is_fraction = inl (refl, refl); all = refl; counted = refl; few = omega arith; number_is = refl; spelled = refl }

pub point_fraction : (whole : ℕ) (text behind : List ℕ) (number places : ℕ) (rest : List ℕ) → text ≡ 46 ∷ behind → number ≡ number_onto whole (take places behind) → all_ascii_digits (take places behind) ≡ true → places ≤ 6 → places ≤ length behind → (places ≡ 0 → ⊥) → rest ≡ drop places behind → IsShortFraction whole text number places rest
point_fraction whole text behind number places rest begun is all few within some left =
    let counted : length (take places behind) ≡ places = length-take-le places behind within in
    let is_digits : AreDigits (take places behind) = record { all = all; some = omega arith } in record {
      piece = 46 ∷ take places behind;
      digits = take places behind;
      is_fraction = inr (refl, is_digits);
      all = all;
      counted = sym counted;
      few = few;
      number_is = is;
      spelled = begun ∙ ap (λ b. 46 ∷ b) (sym (take-append-drop places behind) ∙ ap (λ r. take places behind ++ r) (sym left));
    }

pub short_number_is : (most : ℕ) (text : List ℕ) (whole : ℕ) (middle : List ℕ) (number places : ℕ) (rest : List ℕ) → IsShortWhole most text whole middle → IsShortFraction whole middle number places rest → IsShortNumber most text number places rest
short_number_is most text whole middle number places rest w f = record {
  whole = w.digits;
  piece = f.piece;
  fraction = f.digits;
  is_whole = w.is_whole;
  is_fraction = f.is_fraction;
  all = f.all;
  few = w.few;
  counted = f.counted;
  few_places = f.few;
  number_is = f.number_is ∙ ap (λ (n : ℕ). number_onto n f.digits) w.number_is ∙ sym (number_onto-append 0 w.digits f.digits);
  spelled = w.spelled ∙ ap (λ r. w.digits ++ r) f.spelled;
}

-- so many digits spell no more than fits in them
pub short_number_small : (most : ℕ) (text : List ℕ) (number places : ℕ) (rest : List ℕ) → IsShortNumber most text number places rest → number < 10 ^ (most + places)
short_number_small most text number places rest h =
    let row = h.whole ++ h.fraction in
    let digits = all_ascii_digits-append h.whole h.fraction h.is_whole.are_digits.all h.all in
    let below : number_onto 0 row < 10 ^ length row = number_onto-short row digits in
    let most_digits : 10 ^ length row ≤ 10 ^ (most + places) = pow_ten_order (length row) (most + places) (omega (arith, length-append h.whole h.fraction, h.few, h.counted)) in
    let is = h.number_is in
    omega (arith, below, most_digits, is)

pub short_whole_small : (text : List ℕ) (number : ℕ) (rest : List ℕ) (most : ℕ) → most ≤ 12 → IsShortWhole most text number rest → number < 10 ^ 12
short_whole_small text number rest most few h =
    let below : number_onto 0 h.digits < 10 ^ length h.digits = number_onto-short h.digits h.is_whole.are_digits.all in
    let most_digits : 10 ^ length h.digits ≤ 10 ^ 12 = pow_ten_order (length h.digits) 12 (omega (arith, h.few)) in
    let is = h.number_is in
    omega (arith, below, most_digits, is)

-- what is raised by the places that are left fits in all of the digits
pub raised_small : (number most places up : ℕ) → number < 10 ^ (most + places) → places ≤ up → number * 10 ^ (up - places) < 10 ^ (most + up)
raised_small number most places up small few =
    let less : number * 10 ^ (up - places) < 10 ^ (most + places) * 10 ^ (up - places) = mul-lt-mul_of_pos_right small (pow_ten_above (up - places)) in
    let all : (most + places) + (up - places) ≡ most + up = omega arith in
    let power : 10 ^ (most + up) ≡ 10 ^ (most + places) * 10 ^ (up - places) = ap (λ n. 10 ^ n) (sym all) ∙ pow-add 10 (most + places) (up - places) in
    subst (λ n. number * 10 ^ (up - places) < n) (sym power) less

-- the pieces of a token without an exponent
abbrev pieces : Bool → List ℕ → List ℕ → Number
pieces negative whole fraction =
    record { negative = negative; whole = whole; fraction = fraction; lowers = false; exponent = [] }

abbrev token : Bool → List ℕ → List ℕ → List ℕ
token negative whole piece = sign_text negative ++ (whole ++ piece)

pieces_spelled : (negative : Bool) (whole piece fraction : List ℕ) → IsWhole whole → IsFractionText piece fraction → IsNumber (token negative whole piece) (pieces negative whole fraction)
pieces_spelled negative whole piece fraction is_whole is_fraction = record {
  fraction_text = piece;
  exponent_text = [];
  whole = is_whole;
  fraction = is_fraction;
  exponent = inl (refl, refl, refl);
  spelled = ap (λ p. sign_text negative ++ (whole ++ p)) (sym (append-nil piece));
}

times_assoc : (n a b : ℕ) → n * (a * b) ≡ n * a * b
times_assoc n a b = grind arith

-- its value, in units of 10 ^ -up
pieces_value : (negative : Bool) (up : ℕ) (whole fraction : List ℕ) → length fraction ≤ up → numerator up (pieces negative whole fraction) ≡ number_onto 0 (whole ++ fraction) * 10 ^ (up - length fraction) * denominator (pieces negative whole fraction)
unfolding numerator denominator
pieces_value negative up whole fraction few =
    let places = length fraction in
    let number = number_onto 0 (whole ++ fraction) in
    let a : up + 0 ≡ up = omega arith in
    let b : places + 0 ≡ places = omega arith in
    let parts : up ≡ (up - places) + places = omega arith in
    let power : 10 ^ up ≡ 10 ^ (up - places) * 10 ^ places = ap (λ n. 10 ^ n) parts ∙ pow-add 10 (up - places) places in
    rw (a, b) (ap (λ n. number * n) power ∙ times_assoc number (10 ^ (up - places)) (10 ^ places))

piece_length : (piece fraction : List ℕ) → IsFractionText piece fraction → length piece ≤ suc (length fraction)
piece_length piece fraction (inl h) = rw h.0 (omega arith)
piece_length piece fraction (inr h) = rw h.0 (omega arith)

token_length : (negative : Bool) (whole piece fraction : List ℕ) → length whole ≤ 12 → length fraction ≤ 6 → IsFractionText piece fraction → length (token negative whole piece) ≤ 64
token_length negative whole piece fraction few places is =
    let sign : length (sign_text negative) ≤ 1 = elim negative as (λ b. length (sign_text b) ≤ 1) [ true ↦ omega arith | false ↦ omega arith ] in
    omega (arith, length-append (sign_text negative) (whole ++ piece), length-append whole piece, piece_length piece fraction is)

-- ---- times and values

seconds_read : (whole piece fraction : List ℕ) (nanos : ℕ) → IsWhole whole → IsFractionText piece fraction → length whole ≤ 12 → length fraction ≤ 6 → nanos ≡ number_onto 0 (whole ++ fraction) * 10 ^ (9 - length fraction) → nanos < 9 * 10 ^ 18 → stamp_read (token false whole piece) ≡ Ok nanos
unfolding stamp_read stamp_of_number
seconds_read whole piece fraction nanos is_whole is_fraction few places is small =
    let n = pieces false whole fraction in
    let short = le-ltb 64 _ (token_length false whole piece fraction few places is_fraction) in
    let read = number_complete (token false whole piece) n (pieces_spelled false whole piece fraction is_whole is_fraction) in
    let value : numerator 9 n ≡ nanos * denominator n = pieces_value false 9 whole fraction (omega arith) ∙ ap (λ m. m * denominator n) (sym is) in
    rw (short, read, value, nearest-exact nanos (denominator n) (denominator-above n), lt-ltb nanos (9 * 10 ^ 18) small) refl

value_is : (negative : Bool) (whole fraction : List ℕ) (units : ℕ) → length fraction ≤ 6 → units ≡ number_onto 0 (whole ++ fraction) * 10 ^ (6 - length fraction) → units ≤ 10 ^ 18 → value_of (pieces negative whole fraction) ≡ Ok (signed negative units)
unfolding value_of units_of
value_is negative whole fraction units places is small =
    let n = pieces negative whole fraction in
    let den = denominator n in
    let above = denominator-above n in
    let value : numerator 6 n ≡ units * den = pieces_value negative 6 whole fraction places ∙ ap (λ m. m * den) (sym is) in
    rw (value, rounded-signed negative (units * den) den above, nearest-exact units den above, unsigned_abs-signed negative units, le-ltb (10 ^ 18) units small) refl

value_token_read : (negative : Bool) (whole piece fraction : List ℕ) (units : ℕ) → IsWhole whole → IsFractionText piece fraction → length whole ≤ 12 → length fraction ≤ 6 → units ≡ number_onto 0 (whole ++ fraction) * 10 ^ (6 - length fraction) → units ≤ 10 ^ 18 → value_read (token negative whole piece) ≡ Ok (signed negative units)
value_token_read negative whole piece fraction units is_whole is_fraction few places is small =
    let n = pieces negative whole fraction in
    value_read-number (token negative whole piece) n (token_length negative whole piece fraction few places is_fraction) (pieces_spelled negative whole piece fraction is_whole is_fraction) ∙ value_is negative whole fraction units places is small

pub short_time_is : (text : List ℕ) (number places : ℕ) (rest : List ℕ) (nanos : ℕ) → IsShortNumber 10 text number places rest → nanos ≡ number * 10 ^ (9 - places) → nanos < 9 * 10 ^ 18 → TimeText text nanos rest
short_time_is text number places rest nanos h is small =
    let scaled : nanos ≡ number_onto 0 (h.whole ++ h.fraction) * 10 ^ (9 - length h.fraction) = is ∙ ap (λ n. n * 10 ^ (9 - places)) h.number_is ∙ ap (λ n. number_onto 0 (h.whole ++ h.fraction) * 10 ^ (9 - n)) h.counted in
    let few : length h.fraction ≤ 6 = omega (arith, h.counted, h.few_places) in
    (token false h.whole h.piece, inr (pieces false h.whole h.fraction, pieces_spelled false h.whole h.piece h.fraction h.is_whole h.is_fraction, h.spelled ∙ sym (append_assoc h.whole h.piece rest)), seconds_read h.whole h.piece h.fraction nanos h.is_whole h.is_fraction (omega (arith, h.few)) few scaled small)

signed_spelled : (sign whole piece rest text unsigned : List ℕ) → text ≡ sign ++ unsigned → unsigned ≡ whole ++ (piece ++ rest) → text ≡ (sign ++ (whole ++ piece)) ++ rest
signed_spelled sign whole piece rest text unsigned e f =
    e ∙ ap (λ u. sign ++ u) (f ∙ sym (append_assoc whole piece rest)) ∙ sym (append_assoc sign (whole ++ piece) rest)

pub short_value_is : (negative : Bool) (text unsigned : List ℕ) (number places : ℕ) (rest : List ℕ) (units : ℕ) → text ≡ sign_text negative ++ unsigned → IsShortNumber 12 unsigned number places rest → units ≡ number * 10 ^ (6 - places) → units ≤ 10 ^ 18 → ValueText text (signed negative units) rest
short_value_is negative text unsigned number places rest units sign h is small =
    let scaled : units ≡ number_onto 0 (h.whole ++ h.fraction) * 10 ^ (6 - length h.fraction) = is ∙ ap (λ n. n * 10 ^ (6 - places)) h.number_is ∙ ap (λ n. number_onto 0 (h.whole ++ h.fraction) * 10 ^ (6 - n)) h.counted in
    let few : length h.fraction ≤ 6 = omega (arith, h.counted, h.few_places) in
    (token negative h.whole h.piece, inr (pieces negative h.whole h.fraction, pieces_spelled negative h.whole h.piece h.fraction h.is_whole h.is_fraction, signed_spelled (sign_text negative) h.whole h.piece rest text unsigned sign h.spelled), value_token_read negative h.whole h.piece h.fraction units h.is_whole h.is_fraction h.few few scaled small)

-- ---- keys, members and measures

pub time_key_is : (text m p quote rest : List ℕ) → text ≡ 34 ∷ (codes "timesta" ++ m) → m ≡ 109 ∷ p → p ≡ 112 ∷ quote → quote ≡ 34 ∷ rest → StringText text (codes "timestamp") rest
time_key_is text m p quote rest d e f g =
    let all : text ≡ 34 ∷ (codes "timestamp" ++ 34 ∷ rest) = d ∙ ap (λ x. 34 ∷ (codes "timesta" ++ x)) (e ∙ ap (λ x. 109 ∷ x) (f ∙ ap (λ x. 112 ∷ x) g)) in
    subst (λ t. StringText t (codes "timestamp") rest) (sym all) (time_key rest)

pub value_key_is : (text u e quote rest : List ℕ) → text ≡ 34 ∷ (codes "val" ++ u) → u ≡ 117 ∷ e → e ≡ 101 ∷ quote → quote ≡ 34 ∷ rest → StringText text (codes "value") rest
value_key_is text u e quote rest d f g h =
    let all : text ≡ 34 ∷ (codes "value" ++ 34 ∷ rest) = d ∙ ap (λ x. 34 ∷ (codes "val" ++ x)) (f ∙ ap (λ x. 117 ∷ x) (g ∙ ap (λ x. 101 ∷ x) h)) in
    subst (λ t. StringText t (codes "value") rest) (sym all) (value_key rest)

pub mark_is : (mark : ℕ) (text behind : List ℕ) → text ≡ mark ∷ behind → Mark mark text (skip_blank behind)
mark_is mark text behind begun = (behind, subst (λ t. Blanks text t) begun (no_blanks text), skips behind)

pub time_member_is : (text a b : List ℕ) (at : ℕ) (rest : List ℕ) → StringText text (codes "timestamp") a → Mark 58 a b → TimeText b at rest → TimeMember text at rest
time_member_is text a b at rest key colon time = (a, b, key, colon, time)

pub value_member_is : (text a b : List ℕ) (value : ℤ) (rest : List ℕ) → StringText text (codes "value") a → Mark 58 a b → ValueText b value rest → ValueMember text value rest
value_member_is text a b value rest key colon number = (a, b, key, colon, number)

pub short_measure_is : (text a b c d rest : List ℕ) (at : ℕ) (value : ℤ) → text ≡ 123 ∷ a → TimeMember a at b → Mark 44 b c → ValueMember c value d → d ≡ 125 ∷ rest → measure_at text ≡ Ok (record { at = at; value = value }, rest)
short_measure_is text a b c d rest at value begun time comma number shut =
    let is : MeasureText text (record { at = at; value = value }) rest = (a, a, d, begun, no_blanks a, inl (b, c, time, comma, number), subst (λ t. Blanks d t) shut (no_blanks d)) in
    measure_reads text (record { at = at; value = value }) rest is

-- ---- where a token ends

pub token_ends : (text : List ℕ) → ends_token text ≡ true → Ends text
token_ends [] h = absurd cc
token_ends (c ∷ cs) h =
    elim (or_cases ((c == 44) || (c == 125)) (is_blank c) h) [
      | inl mark ↦
          elim (or_cases (c == 44) (c == 125) mark) [
            | inl comma ↦ subst (λ x. Ends (x ∷ cs)) (sym (eqb-true c 44 comma)) (ends_comma cs)
            | inr brace ↦ subst (λ x. Ends (x ∷ cs)) (sym (eqb-true c 125 brace)) (ends_brace cs)
          ]
      | inr blank ↦ (blank_ends c blank).at cs
    ]
