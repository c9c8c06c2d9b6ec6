-- The pieces of a token are those that its grammar gives it.
use Rattle.std.proofs.Common.{◌≡◌, ℕ, ◌≤◌, ◌==◌, nat_lt, Bool, true, false, not, ◌||◌, cond, List, [], ◌∷◌, ◌++◌, length, get_or, Option, None, Some, IfSome, ◌⊎◌, inl, inr, refl, sym, ap, ◌∙◌, arith}
use Rattle.std.specs.Str.{all_ascii_digits}
use Rattle.std.specs.Char.{is_ascii_digit}
use Rattle.std.proofs.lemmas.Bool.{cases_Bool, and_parts, and_from, or_cases, or_left, or_right, eqb-true, eq-eqb, ne_eqb, lt-ltb, ltb-true, not_from_false}
use Rattle.std.proofs.lemmas.List.{append-nil}
use Rattle.std.proofs.lemmas.Option.{cond_some, some_pair_parts}
use Rattle.gno_num.specs.Digits.{digits_front, digits_back, begins_with, without_front}
use Rattle.gno_num.specs.Number.{Number, AreDigits, IsWhole, IsFractionText, IsExponentSign, IsExponentText, sign_text, IsNumber}
use Rattle.gno_num.specs.Reading.{is_whole, fraction_at, exponent_digits, signed_exponent, exponent_of, with_exponent, with_fraction, unsigned_of, number_of}
use Rattle.gno_num.proofs.RowLemmas.{digits_front-all, no_digits}
use Rattle.gno_num.proofs.ScaleLemmas.{digit_range}

pub some_same : {A : Type 0} {x y : A} → Some x ≡ Some y → x ≡ y
some_same h = cc

-- ---- what is taken off the front

pub front_with : (b : ℕ) (text : List ℕ) → begins_with b text ≡ true → text ≡ b ∷ without_front b text
front_with b [] h = cc
front_with b (c ∷ cs) h = rw h (ap (λ x. x ∷ cs) (eqb-true c b h))

pub front_without : (b : ℕ) (text : List ℕ) → begins_with b text ≡ false → without_front b text ≡ text
front_without b [] h = refl
front_without b (c ∷ cs) h = rw h refl

pub digits_join : (cs : List ℕ) → digits_front cs ++ digits_back cs ≡ cs
digits_join [] = refl
digits_join (c ∷ cs) =
    elim (cases_Bool (is_ascii_digit c)) [
      | inl is ↦ rw is (ap (λ ds. c ∷ ds) (digits_join cs))
      | inr not ↦ rw not refl
    ]

sign_join : (text : List ℕ) → text ≡ sign_text (begins_with 45 text) ++ without_front 45 text
sign_join text =
    elim (cases_Bool (begins_with 45 text)) [
      | inl is ↦ rw is (front_with 45 text is)
      | inr not ↦ rw not (sym (front_without 45 text not))
    ]

-- ---- what is read is in the grammar

pub front_digits : (text : List ℕ) → nat_lt 0 (length (digits_front text)) ≡ true → AreDigits (digits_front text)
front_digits text h = record { all = digits_front-all text; some = ltb-true 0 _ h }

one_zero : (ds : List ℕ) → (not (begins_with 48 ds) || (length ds == 1)) ≡ true → get_or ds 0 0 ≡ 48 → length ds ≡ 1
one_zero [] h z = absurd (omega arith)
one_zero (d ∷ ds) h z = eqb-true (length (d ∷ ds)) 1 (rw (eq-eqb d 48 z) at h)

whole_sound : (text : List ℕ) → is_whole (digits_front text) ≡ true → IsWhole (digits_front text)
whole_sound text h =
    let parts = and_parts _ _ h in
    record { are_digits = front_digits text parts.0; no_zero_in_front = one_zero (digits_front text) parts.1 }

pub behind_point : (text : List ℕ) → begins_with 46 text ≡ true → text ≡ (46 ∷ digits_front (without_front 46 text)) ++ digits_back (without_front 46 text)
behind_point text is =
    front_with 46 text is ∙ sym (ap (λ cs. 46 ∷ cs) (digits_join (without_front 46 text)))

pub fraction_sound : (text ds rest : List ℕ) → fraction_at text ≡ Some (ds, rest) → (piece : List ℕ) × IsFractionText piece ds × (text ≡ piece ++ rest)
unfolding fraction_at
fraction_sound text ds rest h =
    elim (cases_Bool (begins_with 46 text)) [
      | inl is ↦
          let parts = cond_some _ _ _ (rw is at h) in
          let front : digits_front (without_front 46 text) ≡ ds = ap (λ (p : List ℕ × List ℕ). p.0) parts.1 in
          let back : digits_back (without_front 46 text) ≡ rest = ap (λ (p : List ℕ × List ℕ). p.1) parts.1 in
          (46 ∷ ds, inr (refl, rw (← front) (front_digits (without_front 46 text) parts.0)), rw (← front, ← back) (behind_point text is))
      | inr not ↦
          let parts = some_pair_parts _ _ _ _ (rw not at h) in
          ([], inl (refl, sym parts.0), parts.1)
    ]

exponent_digits_sound : (lowers l : Bool) (text ds : List ℕ) → exponent_digits lowers text ≡ Some (l, ds) → (l ≡ lowers) × AreDigits ds × (text ≡ ds)
exponent_digits_sound lowers l text ds h =
    let parts = cond_some _ _ _ h in
    let tests = and_parts _ _ parts.0 in
    let front : digits_front text ≡ ds = ap (λ (p : Bool × List ℕ). p.1) parts.1 in
    let none : digits_back text ≡ [] = no_digits (digits_back text) (eqb-true _ 0 tests.1) in
    let all : text ≡ digits_front text = sym (digits_join text) ∙ ap (λ cs. digits_front text ++ cs) none ∙ append-nil (digits_front text) in
    (ap (λ (p : Bool × List ℕ). p.0) (sym parts.1), rw (← front) (front_digits text tests.0), all ∙ front)

signed_sound : (text : List ℕ) (l : Bool) (ds : List ℕ) → signed_exponent text ≡ Some (l, ds) → (sign : List ℕ) × IsExponentSign sign l × AreDigits ds × (text ≡ sign ++ ds)
signed_sound text l ds h =
    elim (cases_Bool (begins_with 45 text)) [
      | inl minus ↦
          let read = exponent_digits_sound true l (without_front 45 text) ds (rw minus at h) in
          (45 ∷ [], inl (refl, read.0), read.1, front_with 45 text minus ∙ ap (λ cs. 45 ∷ cs) read.2)
      | inr not ↦
          let read = exponent_digits_sound false l (without_front 43 text) ds (rw not at h) in
          elim (cases_Bool (begins_with 43 text)) [
            | inl plus ↦ (43 ∷ [], inr (inl refl, read.0), read.1, front_with 43 text plus ∙ ap (λ cs. 43 ∷ cs) read.2)
            | inr none ↦ ([], inr (inr refl, read.0), read.1, sym (front_without 43 text none) ∙ read.2)
          ]
    ]

is_mark : (mark : ℕ) → ((mark == 101) || (mark == 69)) ≡ true → (mark ≡ 101) ⊎ (mark ≡ 69)
is_mark mark h =
    elim (or_cases (mark == 101) (mark == 69) h) [
      | inl small ↦ inl (eqb-true mark 101 small)
      | inr large ↦ inr (eqb-true mark 69 large)
    ]

pub if_some : {A : Type 0} (b : Bool) (o : Option A) (y : A) → cond b o None ≡ Some y → (b ≡ true) × (o ≡ Some y)
if_some true o y h = (refl, h)
if_some false o y h = cc

exponent_sound : (text : List ℕ) (l : Bool) (ds : List ℕ) → exponent_of text ≡ Some (l, ds) → IsExponentText text l ds
unfolding exponent_of
exponent_sound [] l ds h = let parts = some_pair_parts _ _ _ _ h in inl (refl, sym parts.0, sym parts.1)
exponent_sound (mark ∷ text) l ds h =
    let parts = if_some _ _ _ h in
    let read = signed_sound text l ds parts.1 in
    inr (mark, read.0, is_mark mark parts.0, read.1, read.2, ap (λ cs. mark ∷ cs) read.3)

with_exponent_some : (negative : Bool) (whole fraction : List ℕ) (o : Option (Bool × List ℕ)) (n : Number) → with_exponent negative whole fraction o ≡ Some n → (l : Bool) × (ds : List ℕ) × (o ≡ Some (l, ds)) × (◌≡◌ {A = Number} (record { negative = negative; whole = whole; fraction = fraction; lowers = l; exponent = ds }) n)
with_exponent_some negative whole fraction None n h = cc
with_exponent_some negative whole fraction (Some (l, ds)) n h = (l, ds, refl, some_same h)

with_fraction_some : (negative : Bool) (whole : List ℕ) (o : Option (List ℕ × List ℕ)) (n : Number) → with_fraction negative whole o ≡ Some n → (ds : List ℕ) × (rest : List ℕ) × (o ≡ Some (ds, rest)) × (with_exponent negative whole ds (exponent_of rest) ≡ Some n)
with_fraction_some negative whole None n h = cc
with_fraction_some negative whole (Some (ds, rest)) n h = (ds, rest, refl, h)

pub number_sound : (text : List ℕ) (n : Number) → number_of text ≡ Some n → IsNumber text n
unfolding number_of
number_sound text n h =
    let body = without_front 45 text in
    let tested = if_some _ _ _ h in
    let fraction = with_fraction_some _ _ _ n tested.1 in
    let exponent = with_exponent_some _ _ _ _ n fraction.3 in
    let piece = fraction_sound (digits_back body) fraction.0 fraction.1 fraction.2 in
    let whole : body ≡ digits_front body ++ (piece.0 ++ fraction.1) = sym (digits_join body) ∙ ap (λ cs. digits_front body ++ cs) piece.2 in
    rw (← exponent.3) (record {
      fraction_text = piece.0;
      exponent_text = fraction.1;
      whole = whole_sound body tested.0;
      fraction = piece.1;
      exponent = exponent_sound fraction.1 exponent.0 exponent.1 exponent.2;
      spelled = sign_join text ∙ ap (λ cs. sign_text (begins_with 45 text) ++ cs) whole;
    })

-- ---- what is in the grammar is read

-- a text that doesn't begin with a digit
pub record Stops (text : List ℕ) : Type 0 where
  pub front : digits_front text ≡ []
  pub back : digits_back text ≡ text

pub stops_at : (c : ℕ) (cs : List ℕ) → is_ascii_digit c ≡ false → Stops (c ∷ cs)
stops_at c cs h = record { front = rw h refl; back = rw h refl }

pub digits_front-append : (ds text : List ℕ) → all_ascii_digits ds ≡ true → Stops text → digits_front (ds ++ text) ≡ ds
digits_front-append [] text h stops = stops.front
digits_front-append (d ∷ ds) text h stops =
    let parts = and_parts (is_ascii_digit d) (all_ascii_digits ds) h in
    rw (parts.0, digits_front-append ds text parts.1 stops) refl

pub digits_back-append : (ds text : List ℕ) → all_ascii_digits ds ≡ true → Stops text → digits_back (ds ++ text) ≡ text
digits_back-append [] text h stops = stops.back
digits_back-append (d ∷ ds) text h stops =
    let parts = and_parts (is_ascii_digit d) (all_ascii_digits ds) h in
    rw (parts.0, digits_back-append ds text parts.1 stops) refl

pub no_text : Stops []
no_text = record { front = refl; back = refl }

-- digits at the end of a text
pub digits_alone : (ds : List ℕ) → all_ascii_digits ds ≡ true → (digits_front ds ≡ ds) × (digits_back ds ≡ [])
digits_alone ds h =
    (rw append-nil at (digits_front-append ds [] h no_text), rw append-nil at (digits_back-append ds [] h no_text))

pub not_first : (b : ℕ) (ds rest : List ℕ) → AreDigits ds → (48 ≤ b → b ≤ 57 → ⊥) → begins_with b (ds ++ rest) ≡ false
not_first b [] rest h far = absurd (omega (arith, h.some))
not_first b (d ∷ ds) rest h far =
    let parts = and_parts (is_ascii_digit d) (all_ascii_digits ds) h.all in
    let digit = digit_range d parts.0 in
    ne_eqb d b (λ e. far (omega (arith, e)) (omega (arith, e)))

whole_complete : (ds : List ℕ) → IsWhole ds → is_whole ds ≡ true
whole_complete [] h = absurd (omega (arith, h.are_digits.some))
whole_complete (d ∷ ds) h =
    and_from _ _ (lt-ltb 0 (length (d ∷ ds)) (omega arith)) (elim (cases_Bool (d == 48)) [
      | inl is ↦ or_right _ _ (eq-eqb (length (d ∷ ds)) 1 (h.no_zero_in_front (eqb-true d 48 is)))
      | inr isnt ↦ or_left _ _ (not_from_false (d == 48) isnt)
    ])

mark_stops : (mark : ℕ) → (mark ≡ 101) ⊎ (mark ≡ 69) → is_ascii_digit mark ≡ false
mark_stops mark (inl small) = rw small refl
mark_stops mark (inr large) = rw large refl

no_point : (text : List ℕ) (l : Bool) (ds : List ℕ) → IsExponentText text l ds → begins_with 46 text ≡ false
no_point text l ds (inl h) = rw h.0 refl
no_point text l ds (inr (mark, sign, inl small, s, a, e)) = rw (e, small) refl
no_point text l ds (inr (mark, sign, inr large, s, a, e)) = rw (e, large) refl

exponent_stops : (text : List ℕ) (l : Bool) (ds : List ℕ) → IsExponentText text l ds → Stops text
exponent_stops text l ds (inl h) = rw h.0 no_text
exponent_stops text l ds (inr (mark, sign, is, s, a, e)) = rw e (stops_at mark (sign ++ ds) (mark_stops mark is))

exponent_digits_complete : (l : Bool) (ds : List ℕ) → AreDigits ds → exponent_digits l ds ≡ Some (l, ds)
exponent_digits_complete l ds h =
    let alone = digits_alone ds h.all in
    rw (alone.0, alone.1, lt-ltb 0 (length ds) h.some) refl

signed_complete : (sign : List ℕ) (l : Bool) (ds : List ℕ) → IsExponentSign sign l → AreDigits ds → signed_exponent (sign ++ ds) ≡ Some (l, ds)
signed_complete sign l ds (inl h) are = rw (h.0, h.1) (exponent_digits_complete true ds are)
signed_complete sign l ds (inr (inl plus, lowers)) are =
    rw (plus, lowers) (exponent_digits_complete false ds are)
signed_complete sign l ds (inr (inr none, lowers)) are =
    let no_minus : begins_with 45 ds ≡ false = rw append-nil at (not_first 45 ds [] are (λ low high. absurd (omega arith))) in
    let no_plus : begins_with 43 ds ≡ false = rw append-nil at (not_first 43 ds [] are (λ low high. absurd (omega arith))) in
    rw (none, lowers, no_minus, front_without 43 ds no_plus) (exponent_digits_complete false ds are)

exponent_complete : (text : List ℕ) (l : Bool) (ds : List ℕ) → IsExponentText text l ds → exponent_of text ≡ Some (l, ds)
unfolding exponent_of
exponent_complete text l ds (inl h) = rw (h.0, h.1, h.2) refl
exponent_complete text l ds (inr (mark, sign, inl small, s, a, e)) =
    rw (e, small) (signed_complete sign l ds s a)
exponent_complete text l ds (inr (mark, sign, inr large, s, a, e)) =
    rw (e, large) (signed_complete sign l ds s a)

fraction_complete : (piece ds rest : List ℕ) (l : Bool) (es : List ℕ) → IsFractionText piece ds → IsExponentText rest l es → fraction_at (piece ++ rest) ≡ Some (ds, rest)
unfolding fraction_at
fraction_complete piece ds rest l es (inl h) exponent =
    rw (h.0, h.1, no_point rest l es exponent) refl
fraction_complete piece ds rest l es (inr (point, are)) exponent =
    let stops = exponent_stops rest l es exponent in
    rw (point, digits_front-append ds rest are.all stops, digits_back-append ds rest are.all stops, lt-ltb 0 (length ds) are.some) refl

fraction_stops : (piece ds rest : List ℕ) (l : Bool) (es : List ℕ) → IsFractionText piece ds → IsExponentText rest l es → Stops (piece ++ rest)
fraction_stops piece ds rest l es (inl h) exponent = rw h.0 (exponent_stops rest l es exponent)
fraction_stops piece ds rest l es (inr (point, are)) exponent =
    rw point (stops_at 46 (ds ++ rest) refl)

unsigned_complete : (negative : Bool) (body : List ℕ) (n : Number) (piece rest : List ℕ) → negative ≡ n.negative → IsWhole n.whole → IsFractionText piece n.fraction → IsExponentText rest n.lowers n.exponent → body ≡ n.whole ++ (piece ++ rest) → unsigned_of negative body ≡ Some n
unsigned_complete negative body n piece rest sign whole fraction exponent spelled =
    let stops = fraction_stops piece n.fraction rest n.lowers n.exponent fraction exponent in
    let front = digits_front-append n.whole (piece ++ rest) whole.are_digits.all stops in
    let back = digits_back-append n.whole (piece ++ rest) whole.are_digits.all stops in
    rw (spelled, front, back, whole_complete n.whole whole, fraction_complete piece n.fraction rest n.lowers n.exponent fraction exponent, exponent_complete rest n.lowers n.exponent exponent, sign) refl

pub number_complete : (text : List ℕ) (n : Number) → IsNumber text n → number_of text ≡ Some n
unfolding number_of
number_complete text n h =
    let body = n.whole ++ (h.fraction_text ++ h.exponent_text) in
    elim (cases_Bool n.negative) [
      | inl is ↦
          let spelled : text ≡ 45 ∷ body = h.spelled ∙ ap (λ b. sign_text b ++ body) is in
          rw spelled (unsigned_complete true body n h.fraction_text h.exponent_text (sym is) h.whole h.fraction h.exponent refl)
      | inr not ↦
          let spelled : text ≡ body = h.spelled ∙ ap (λ b. sign_text b ++ body) not in
          let plain = not_first 45 n.whole (h.fraction_text ++ h.exponent_text) h.whole.are_digits (λ low high. absurd (omega arith)) in
          rw (spelled, plain, front_without 45 body plain) (unsigned_complete false body n h.fraction_text h.exponent_text (sym not) h.whole h.fraction h.exponent refl)
    ]

pub found_in_grammar : (text : List ℕ) (o : Option Number) → o ≡ number_of text → IfSome o (IsNumber text)
found_in_grammar text None e = tt
found_in_grammar text (Some n) e = number_sound text n (sym e)
