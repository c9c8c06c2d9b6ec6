-- Texts whose bytes want no escape.
use Rattle.std.proofs.Common.{◌≡◌, ◌≢◌, ℕ, zero, suc, ◌+◌, ◌-◌, ◌/◌, ◌%◌, ◌^◌, ◌<◌, ◌≤◌, List, [], ◌∷◌, ◌++◌, Bool, true, false, cond, ◌==◌, ◌||◌, ltb, eqb, refl, sym, ap, arith, codes, nat_lt, slice_index}
use Rattle.std.proofs.lemmas.Bool.Decides.{nat_tests}
use Rattle.std.specs.Fmt.{decimal, digit_glyph, digits, digits_onto}
use Rattle.std.specs.Int.{w128, to_be_bytes}
use Rattle.json.proofs.Printed.Strings.{escape_byte_plain}
use Rattle.json.proofs.Printed.Utf8.{are_ascii}
use Rattle.json.specs.Print.{escape, escape_byte, quoted}
use Rattle.uuid.specs.Text.{by_index, digit_place, hex_digit, hyphen, is_hyphen_place, lower, nibble}
use Rattle.archive_policy.specs.declared.kind.Kind.{Kind}
use Rattle.archive_policy.specs.declared.kind.Kind.TheVariants.{Mean, Min, Max, Sum, Count, First, Last, Nunique, RateMean, RateMin, RateMax, RateSum, RateCount, RateFirst, RateLast, RateNunique}
use Rattle.archive_policy.specs.Kinds.{kind_name}
use Rattle.gno_num.specs.Text.{padded}
use Rattle.gno_time.specs.Text.{days_text, nanos_text, span_text_of}
use Rattle.control_docs.specs.Documents.{id_text}
use Rattle.control_docs.specs.Texts.{in_quotes}

-- a byte of ASCII that stands for itself in a JSON string
abbrev pub IsPlainByte : ℕ → Type 0
IsPlainByte b = (escape_byte b ≡ b ∷ []) × (nat_lt b 128 ≡ true)

abbrev pub IsPlainText : List ℕ → Type 0
IsPlainText [] = Unit {0}
IsPlainText (b ∷ bs) = IsPlainByte b × IsPlainText bs

pub escape-plain : (bs : List ℕ) → IsPlainText bs → escape bs ≡ bs
escape-plain [] h = refl
escape-plain (b ∷ bs) h = rw h.0.0 (ap (λ more. b ∷ more) (escape-plain bs h.1))

pub quoted-plain : (bs : List ℕ) → IsPlainText bs → in_quotes bs ≡ quoted bs
quoted-plain bs h = ap (λ inner. 34 ∷ inner ++ 34 ∷ []) (sym (escape-plain bs h))

pub ascii-plain : (bs : List ℕ) → IsPlainText bs → are_ascii bs ≡ true
ascii-plain [] h = refl
ascii-plain (b ∷ bs) h = rw (h.0.1, ascii-plain bs h.1) refl

plain-append : (front bs : List ℕ) → IsPlainText front → IsPlainText bs → IsPlainText (front ++ bs)
plain-append [] bs h more = more
plain-append (b ∷ front) bs h more = (h.0, plain-append front bs h.1 more)

-- a byte from 32 to 127, other than the quote and the backslash
plain-byte : (b : ℕ) → 32 ≤ b → b < 128 → b ≢ 34 → b ≢ 92 → IsPlainByte b
plain-byte b least most quote slash =
    let small : nat_lt b 128 ≡ true = grind (arith, nat_tests) in (escape_byte_plain b quote slash least, small)

pub escape-unmarked : (b : ℕ) → 32 ≤ b → ((b == 34) || (b == 92)) ≡ false → escape_byte b ≡ b ∷ []
escape-unmarked b least other = escape_byte_plain b quote slash least
  where
    quote : b ≢ 34
    quote is = grind (arith, nat_tests)

    slash : b ≢ 92
    slash is = grind (arith, nat_tests)

pub escape-marked : (b : ℕ) → ((b == 34) || (b == 92)) ≡ true → escape_byte b ≡ 92 ∷ b ∷ []
unfolding escape_byte
escape-marked b is = let some : ltb 0 b ≡ true = positive in rw (is, some) refl
  where
    positive : ltb 0 b ≡ true
    positive = grind (arith, nat_tests)

plain-digit : (d : ℕ) → d < 10 → IsPlainByte (48 + d)
plain-digit d small = plain-byte (48 + d) (omega arith) (omega arith) (omega arith) (omega arith)

plain-letter : (b : ℕ) → 93 ≤ b → b < 128 → IsPlainByte b
plain-letter b least most = plain-byte b (omega arith) most (omega arith) (omega arith)

-- ---- digits

plain-glyph : (d : ℕ) → d < 10 → IsPlainByte (digit_glyph false d)
plain-glyph d small =
    let is : ltb d 10 ≡ true = grind (arith, nat_tests) in rw is (plain-digit d small)

plain-onto : (k n : ℕ) (acc : List ℕ) → IsPlainText acc → IsPlainText (digits_onto k 10 false n acc)
plain-onto zero n acc h = h
plain-onto (suc k) n acc h =
    let glyph = plain-glyph (n % 10) (omega arith) in
    either (eqb (n / 10) 0) (digit_glyph false (n % 10) ∷ acc) (digits_onto k 10 false (n / 10) (digit_glyph false (n % 10) ∷ acc)) (glyph, h) (plain-onto k (n / 10) (digit_glyph false (n % 10) ∷ acc) (glyph, h))
  where
    either : (v : Bool) (xs ys : List ℕ) → IsPlainText xs → IsPlainText ys → IsPlainText (cond v xs ys)
    either true xs ys x y = x
    either false xs ys x y = y

plain-decimal : (n : ℕ) → IsPlainText (decimal n)
unfolding digits
plain-decimal n = plain-onto 64 n [] tt

plain-padded : (k n : ℕ) → IsPlainText (padded k n)
unfolding padded
plain-padded zero n = tt
plain-padded (suc k) n = (plain-digit (n / 10 ^ k % 10) (omega arith), plain-padded k n)

-- ---- spans

plain-days : (days : ℕ) → IsPlainText (days_text days)
unfolding escape_byte
plain-days days = by (eqb days 0) refl
  where
    word : (v : Bool) → IsPlainText (cond v (codes " day, ") (codes " days, "))
    word true = ((refl, refl), ((refl, refl), ((refl, refl), ((refl, refl), ((refl, refl), ((refl, refl), tt))))))
    word false = ((refl, refl), ((refl, refl), ((refl, refl), ((refl, refl), ((refl, refl), ((refl, refl), ((refl, refl), tt)))))))

    by : (v : Bool) → eqb days 0 ≡ v → IsPlainText (days_text days)
    by true e = rw e tt
    by false e = rw e (plain-append (decimal days) _ (plain-decimal days) (word (eqb days 1)))

plain-mark : (b : ℕ) → 44 ≤ b → b ≤ 58 → IsPlainByte b
plain-mark b least most = plain-byte b (omega arith) (omega arith) (omega arith) (omega arith)

plain-nanos : (nanos : ℕ) → IsPlainText (nanos_text nanos)
plain-nanos nanos = by (eqb nanos 0) refl
  where
    by : (v : Bool) → eqb nanos 0 ≡ v → IsPlainText (nanos_text nanos)
    by true e = rw e tt
    by false e = rw e (plain-mark 46 (omega arith) (omega arith), plain-padded 9 nanos)

plain-field : (n : ℕ) → IsPlainText (58 ∷ padded 2 n)
plain-field n = (plain-mark 58 (omega arith) (omega arith), plain-padded 2 n)

pub plain-span_text : (nanos : ℕ) → IsPlainText (span_text_of nanos)
unfolding span_text_of
plain-span_text nanos =
    let seconds = nanos / 10 ^ 9 in
    let clock = seconds % 86400 in
    let hours = days_text (seconds / 86400) ++ decimal (clock / 3600) in
    let minutes = hours ++ 58 ∷ padded 2 (clock / 60 % 60) in
    let all = minutes ++ 58 ∷ padded 2 (clock % 60) in
    plain-append all (nanos_text (nanos % 10 ^ 9)) (plain-append minutes (58 ∷ padded 2 (clock % 60)) (plain-append hours (58 ∷ padded 2 (clock / 60 % 60)) (plain-append (days_text (seconds / 86400)) (decimal (clock / 3600)) (plain-days (seconds / 86400)) (plain-decimal (clock / 3600))) (plain-field (clock / 60 % 60))) (plain-field (clock % 60))) (plain-nanos (nanos % 10 ^ 9))

-- ---- identifiers

plain-by_index : (n : ℕ) (f : ℕ → ℕ) → ((k : ℕ) → IsPlainByte (f k)) → IsPlainText (by_index n f)
unfolding by_index
plain-by_index zero f each = tt
plain-by_index (suc n) f each = plain-append (by_index n f) (f n ∷ []) (plain-by_index n f each) (each n, tt)

plain-hex : (d : ℕ) → d < 16 → IsPlainByte (hex_digit lower d)
plain-hex d most = by (ltb d 10) refl
  where
    by : (v : Bool) → ltb d 10 ≡ v → IsPlainByte (hex_digit lower d)
    by true e = let small : d < 10 = grind (arith, nat_tests) in rw e (plain-digit d small)
    by false e =
        let large : 10 ≤ d = grind (arith, nat_tests) in rw e (plain-letter (97 + d - 10) (omega arith) (omega arith))

nibble-small : (bytes : List ℕ) (k : ℕ) → nibble bytes k < 16
nibble-small bytes k = by (eqb (k % 2) 0) (slice_index bytes (k / 2))
  where
    by : (v : Bool) (b : ℕ) → cond v (b / 16 % 16) (b % 16) < 16
    by true b = omega arith
    by false b = omega arith

pub plain-id_text : (id : ℕ) → IsPlainText (id_text id)
plain-id_text id =
    plain-by_index 36 (λ k. cond (is_hyphen_place k) hyphen (hex_digit lower (nibble (to_be_bytes w128 id) (digit_place k)))) (λ k. glyph (is_hyphen_place k) (nibble (to_be_bytes w128 id) (digit_place k)) (nibble-small (to_be_bytes w128 id) (digit_place k)))
  where
    glyph : (v : Bool) (d : ℕ) → d < 16 → IsPlainByte (cond v hyphen (hex_digit lower d))
    glyph true d most = plain-mark 45 (omega arith) (omega arith)
    glyph false d most = plain-hex d most

-- ---- kinds

pub escape-kind_name : (kind : Kind) → escape (kind_name kind) ≡ kind_name kind
unfolding escape_byte
escape-kind_name Mean = refl
escape-kind_name Min = refl
escape-kind_name Max = refl
escape-kind_name Sum = refl
escape-kind_name Count = refl
escape-kind_name First = refl
escape-kind_name Last = refl
escape-kind_name Nunique = refl
escape-kind_name RateMean = refl
escape-kind_name RateMin = refl
escape-kind_name RateMax = refl
escape-kind_name RateSum = refl
escape-kind_name RateCount = refl
escape-kind_name RateFirst = refl
escape-kind_name RateLast = refl
escape-kind_name RateNunique = refl
