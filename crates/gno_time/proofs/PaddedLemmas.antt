-- Numbers of fixed width, as they are written and read.
use Rattle.std.proofs.Common.{◌≡◌, ℕ, zero, suc, ◌+◌, ◌-◌, ◌*◌, ◌/◌, ◌%◌, ◌^◌, ◌<◌, ◌≤◌, true, List, [], ◌∷◌, ◌++◌, length, take, drop, Some, refl, sym, ap, ◌∙◌, arith, length-append}
use Rattle.std.specs.Str.{all_ascii_digits}
use Rattle.std.specs.Char.{is_ascii_digit}
use Rattle.std.proofs.Math.Nat.{pow-suc, mul-le-mul}
use Rattle.std.proofs.lemmas.Bool.{and_parts, and_from, le-leb, leb-true, eq-eqb}
use Rattle.std.proofs.lemmas.List.{take-append-le, drop-append-le, take_all, drop_all, take-append-drop, length-take-le}
use Rattle.std.proofs.lemmas.Nat.{mod-mul-add, mod_below, div-add-mod', same_from_place}
use Rattle.std.proofs.lemmas.Option.{cond_some}
use Rattle.gno_num.specs.Digits.{number_onto, without_front}
use Rattle.gno_num.specs.Text.{padded}
use Rattle.gno_num.proofs.DigitLemmas.{pow_ten_above}
use Rattle.gno_num.proofs.RowLemmas.{number_onto-split, number_onto-short}
use Rattle.gno_num.proofs.ScaleLemmas.{digit_range}
use Rattle.gno_num.proofs.GrammarLemmas.{front_with, if_some}
use Rattle.gno_num.proofs.PrintedLemmas.{digit_is}
use Rattle.gno_time.specs.Fields.{number_at, field_at}

pub length-padded : (k n : ℕ) → length (padded k n) ≡ k
unfolding padded
length-padded zero n = refl
length-padded (suc k) n = ap suc (length-padded k n)

pub padded-all : (k n : ℕ) → all_ascii_digits (padded k n) ≡ true
unfolding padded
padded-all zero n = refl
padded-all (suc k) n =
    and_from _ _ (digit_is (n / 10 ^ k % 10) (mod_below (n / 10 ^ k) 10 (omega arith))) (padded-all k n)

parts_of : (t d p r : ℕ) → (t * 10 + d) * p + r ≡ t * (p * 10) + (d * p + r)
parts_of t d p r = grind arith

two_below : (d p r : ℕ) → d < 10 → r < p → d * p + r < p * 10
two_below d p r h below = let most : d * p ≤ 9 * p = let small : d ≤ 9 = omega arith in let same : p ≤ p = omega arith in mul-le-mul small same in omega arith

pub number-padded : (k n : ℕ) → number_onto 0 (padded k n) ≡ n % 10 ^ k
unfolding padded
number-padded zero n = omega arith
number-padded (suc k) n =
    let p = 10 ^ k in
    let q = n / p in
    let r = n % p in
    let d = q % 10 in
    let t = q / 10 in
    let above = pow_ten_above k in
    let least : d < 10 = omega arith in
    let below = two_below d p r least (mod_below n p above) in
    let digit : 10 * 0 + (48 + d - 48) ≡ d = omega arith in
    let read : number_onto 0 ((48 + d) ∷ padded k n) ≡ d * 10 ^ length (padded k n) + number_onto 0 (padded k n) = ap (λ (m : ℕ). number_onto m (padded k n)) digit ∙ number_onto-split d (padded k n) in
    let all : number_onto 0 ((48 + d) ∷ padded k n) ≡ d * p + r = read ∙ ap (λ m. d * 10 ^ m + number_onto 0 (padded k n)) (length-padded k n) ∙ ap (λ m. d * p + m) (number-padded k n) in
    let parts : n ≡ t * (p * 10) + (d * p + r) = sym (div-add-mod' n p) ∙ ap (λ m. m * p + r) (sym (div-add-mod' q 10)) ∙ parts_of t d p r in
    let rest : n % (p * 10) ≡ d * p + r = ap (λ m. m % (p * 10)) parts ∙ mod-mul-add t (p * 10) (d * p + r) below in
    all ∙ sym rest ∙ ap (λ m. n % m) (sym (pow-suc 10 k))

pub small_mod : (n m : ℕ) → n < m → n % m ≡ n
small_mod n m h =
    let parts : n ≡ 0 * m + n = omega arith in
    ap (λ k. k % m) parts ∙ mod-mul-add 0 m n h

row_parts : (c : ℕ) (cs : List ℕ) → number_onto 0 (c ∷ cs) ≡ (c - 48) * 10 ^ length cs + number_onto 0 cs
row_parts c cs =
    let same : 10 * 0 + (c - 48) ≡ c - 48 = omega arith in
    ap (λ (n : ℕ). number_onto n cs) same ∙ number_onto-split (c - 48) cs

ap_below : (ds : List ℕ) (k : ℕ) → length ds ≡ k → number_onto 0 ds < 10 ^ length ds → number_onto 0 ds < 10 ^ k
ap_below ds k len h = rw (← len) h

-- a row of digits is known by its length and its number
pub same_row : (xs ys : List ℕ) → all_ascii_digits xs ≡ true → all_ascii_digits ys ≡ true → length xs ≡ length ys → number_onto 0 xs ≡ number_onto 0 ys → xs ≡ ys
same_row [] [] h k len number = refl
same_row [] (y ∷ ys) h k len number = absurd (omega arith)
same_row (x ∷ xs) [] h k len number = absurd (omega arith)
same_row (x ∷ xs) (y ∷ ys) h k len number =
    let a = and_parts (is_ascii_digit x) (all_ascii_digits xs) h in
    let b = and_parts (is_ascii_digit y) (all_ascii_digits ys) k in
    let lens : length xs ≡ length ys = omega arith in
    let first = row_parts x xs in
    let second : number_onto 0 (y ∷ ys) ≡ (y - 48) * 10 ^ length xs + number_onto 0 ys = row_parts y ys ∙ ap (λ m. (y - 48) * 10 ^ m + number_onto 0 ys) (sym lens) in
    let below : number_onto 0 ys < 10 ^ length xs = rw lens (number_onto-short ys b.1) in
    let places = same_from_place (x - 48) (number_onto 0 xs) (y - 48) (number_onto 0 ys) (10 ^ length xs) (number_onto-short xs a.1) below (sym first ∙ number ∙ second) in
    let digits : x ≡ y = omega (arith, places.0, digit_range x a.0, digit_range y b.0) in
    ap (λ c. c ∷ xs) digits ∙ ap (λ cs. y ∷ cs) (same_row xs ys a.1 b.1 lens places.1)

-- digits are the number that they spell, at their width
pub padded-number : (ds : List ℕ) → all_ascii_digits ds ≡ true → padded (length ds) (number_onto 0 ds) ≡ ds
padded-number ds h =
    let k = length ds in
    let n = number_onto 0 ds in
    same_row (padded k n) ds (padded-all k n) h (length-padded k n) (number-padded k n ∙ small_mod n (10 ^ k) (number_onto-short ds h))

-- ---- fields

pub number_at_sound : (k most : ℕ) (text : List ℕ) (n : ℕ) (rest : List ℕ) → number_at k most text ≡ Some (n, rest) → (n ≤ most) × (n < 10 ^ k) × (text ≡ padded k n ++ rest)
unfolding number_at
number_at_sound k most text n rest h =
    let parts = cond_some _ _ _ h in
    let tests = and_parts _ _ parts.0 in
    let more = and_parts _ _ tests.1 in
    let number : number_onto 0 (take k text) ≡ n = ap (λ (p : ℕ × List ℕ). p.0) parts.1 in
    let behind : drop k text ≡ rest = ap (λ (p : ℕ × List ℕ). p.1) parts.1 in
    let long : k ≤ length text = leb-true k (length text) tests.0 in
    let len : length (take k text) ≡ k = length-take-le k text long in
    let row : padded k n ≡ take k text = ap (λ m. padded k m) (sym number) ∙ ap (λ m. padded m (number_onto 0 (take k text))) (sym len) ∙ padded-number (take k text) more.0 in
    let below : number_onto 0 (take k text) < 10 ^ k = ap_below (take k text) k len (number_onto-short (take k text) more.0) in
    (omega (arith, leb-true (number_onto 0 (take k text)) most more.1), omega arith, sym (take-append-drop k text) ∙ ap (λ cs. cs ++ drop k text) (sym row) ∙ ap (λ cs. padded k n ++ cs) behind)

pub number_at_complete : (k most n : ℕ) (rest : List ℕ) → n ≤ most → n < 10 ^ k → number_at k most (padded k n ++ rest) ≡ Some (n, rest)
unfolding number_at
number_at_complete k most n rest le lt =
    let len = length-padded k n in
    let front : take k (padded k n ++ rest) ≡ padded k n = take-append-le k (padded k n) rest (omega arith) ∙ take_all k (padded k n) (omega arith) in
    let back : drop k (padded k n ++ rest) ≡ rest = drop-append-le k (padded k n) rest (omega arith) ∙ ap (λ cs. cs ++ rest) (drop_all k (padded k n) (omega arith)) in
    let number : number_onto 0 (padded k n) ≡ n = number-padded k n ∙ small_mod n (10 ^ k) lt in
    let long = le-leb k (length (padded k n ++ rest)) (omega (arith, length-append (padded k n) rest)) in
    rw (long, front, back, padded-all k n, number, le-leb n most le) refl

pub field_at_sound : (mark k most : ℕ) (text : List ℕ) (n : ℕ) (rest : List ℕ) → field_at mark k most text ≡ Some (n, rest) → (n ≤ most) × (n < 10 ^ k) × (text ≡ mark ∷ (padded k n ++ rest))
unfolding field_at
field_at_sound mark k most text n rest h =
    let parts = if_some _ _ _ h in
    let read = number_at_sound k most (without_front mark text) n rest parts.1 in
    (read.0, read.1, front_with mark text parts.0 ∙ ap (λ cs. mark ∷ cs) read.2)

pub field_at_complete : (mark k most n : ℕ) (rest : List ℕ) → n ≤ most → n < 10 ^ k → field_at mark k most (mark ∷ (padded k n ++ rest)) ≡ Some (n, rest)
unfolding field_at
field_at_complete mark k most n rest le lt =
    rw (eq-eqb mark mark refl) (number_at_complete k most n rest le lt)
