-- The token of a number that is read is one of the grammar's, and the other way round.
use Rattle.std.proofs.Common.{◌≡◌, ℕ, ◌-◌, ◌<◌, ◌==◌, ◌||◌, Bool, true, false, nat_lt, List, [], ◌∷◌, ◌++◌, length, get_or, Ok, ◌⊎◌, inl, inr, refl, sym, ap, subst, ◌∙◌, append_assoc, arith}
use Rattle.std.specs.Str.{all_ascii_digits}
use Rattle.std.specs.Char.{is_ascii_digit}
use Rattle.std.specs.List.{AllByRecursion}
use Rattle.std.proofs.lemmas.Bool.{cases_Bool, and_parts, eqb-true, eq-eqb, lt-ltb, or_cases, or_right}
use Rattle.std.proofs.lemmas.List.{length-append, take_at}
use Rattle.gno_num.specs.Digits.{digits_front, digits_back, begins_with, without_front}
use Rattle.gno_num.specs.Number.{Number, AreDigits, IsWhole, IsFractionText, IsExponentSign, IsExponentText, sign_text, IsNumber}
use Rattle.gno_num.proofs.GrammarLemmas.{front_with, front_without, digits_join, front_digits, behind_point, Stops, stops_at, digits_back-append, not_first}
use Rattle.gno_num.proofs.RowLemmas.{no_digits}
use Rattle.measure_json.specs.Fault.{◌>>=◌, front_of}
use Rattle.measure_json.specs.Marks.{is_blank, begins_number}
use Rattle.measure_json.specs.Number.{digits_end, whole_end, fraction_end, without_sign, exponent_end, number_end, number_at}
use Rattle.measure_json.specs.Grammar.{Blanks}
use Rattle.measure_json.proofs.StepLemmas.{bind_ok, chosen, held, ok_is}

-- ---- what is read is in the grammar

digits_sound : (text rest : List ℕ) → digits_end text ≡ Ok rest → AreDigits (digits_front text) × (digits_back text ≡ rest)
unfolding digits_end
digits_sound [] rest e = absurd cc
digits_sound (c ∷ cs) rest e =
    let h = held (is_ascii_digit c) (Ok (digits_back cs)) _ rest e in
    let some : nat_lt 0 (length (digits_front (c ∷ cs))) ≡ true = rw h.0 (lt-ltb 0 _ (omega arith)) in
    (front_digits (c ∷ cs) some, rw h.0 (ok_is (digits_back cs) rest h.1))

first_digit : (c : ℕ) (cs : List ℕ) → AreDigits (digits_front (c ∷ cs)) → (c == 48) ≡ false → get_or (digits_front (c ∷ cs)) 0 0 ≡ 48 → ⊥
first_digit c cs are isnt z =
    elim (cases_Bool (is_ascii_digit c)) [
      | inl is ↦
          let same : c ≡ 48 = rw is at z in
          let never : false ≡ true = sym isnt ∙ eq-eqb c 48 same in
          absurd cc
      | inr not ↦ let none : 0 < 0 = rw not at are.some in absurd (omega arith)
    ]

whole_sound : (text rest : List ℕ) → whole_end text ≡ Ok rest → (w : List ℕ) × IsWhole w × (text ≡ w ++ rest)
unfolding whole_end digits_end
whole_sound [] rest e = absurd cc
whole_sound (c ∷ cs) rest e =
    elim (chosen (begins_with 48 (c ∷ cs)) (Ok (without_front 48 (c ∷ cs))) (digits_end (c ∷ cs)) (Ok rest) e) [
      | inl h ↦ (
        48 ∷ [],
        record { are_digits = record { all = refl; some = omega arith }; no_zero_in_front = λ z. refl },
        front_with 48 (c ∷ cs) h.0 ∙ ap (λ r. 48 ∷ r) (ok_is (without_front 48 (c ∷ cs)) rest h.1),
      )
      | inr h ↦
          let d = digits_sound (c ∷ cs) rest h.1 in (
            digits_front (c ∷ cs),
            record { are_digits = d.0; no_zero_in_front = λ z. absurd (first_digit c cs d.0 h.0 z) },
            sym (digits_join (c ∷ cs)) ∙ ap (λ r. digits_front (c ∷ cs) ++ r) d.1,
          )
    ]

fraction_sound : (text rest : List ℕ) → fraction_end text ≡ Ok rest → (piece ds : List ℕ) × IsFractionText piece ds × (text ≡ piece ++ rest)
unfolding fraction_end
fraction_sound text rest e =
    elim (chosen (begins_with 46 text) (digits_end (without_front 46 text)) (Ok text) (Ok rest) e) [
      | inl h ↦
          let ds = digits_front (without_front 46 text) in
          let d = digits_sound (without_front 46 text) rest h.1 in
          (46 ∷ ds, ds, inr (refl, d.0), behind_point text h.0 ∙ ap (λ r. (46 ∷ ds) ++ r) d.1)
      | inr h ↦ ([], [], inl (refl, refl), ok_is text rest h.1)
    ]

sign_sound : (text : List ℕ) → (sign : List ℕ) × (l : Bool) × IsExponentSign sign l × (text ≡ sign ++ without_sign text)
unfolding without_sign
sign_sound text =
    elim (cases_Bool (begins_with 45 text)) [
      | inl minus ↦ (45 ∷ [], true, inl (refl, refl), rw minus (front_with 45 text minus))
      | inr other ↦
          elim (cases_Bool (begins_with 43 text)) [
            | inl plus ↦ (43 ∷ [], false, inr (inl refl, refl), rw other (front_with 43 text plus))
            | inr none ↦ ([], false, inr (inr refl, refl), rw other (sym (front_without 43 text none)))
          ]
    ]

is_mark : (mark : ℕ) → ((mark == 101) || (mark == 69)) ≡ true → (mark ≡ 101) ⊎ (mark ≡ 69)
is_mark mark h =
    elim (or_cases (mark == 101) (mark == 69) h) [
      | inl small ↦ inl (eqb-true mark 101 small)
      | inr large ↦ inr (eqb-true mark 69 large)
    ]

exponent_sound : (text rest : List ℕ) → exponent_end text ≡ Ok rest → (piece : List ℕ) × (l : Bool) × (ds : List ℕ) × IsExponentText piece l ds × (text ≡ piece ++ rest)
unfolding exponent_end
exponent_sound [] rest e = ([], false, [], inl (refl, refl, refl), ok_is [] rest e)
exponent_sound (c ∷ cs) rest e =
    elim (chosen ((c == 101) || (c == 69)) (digits_end (without_sign cs)) (Ok (c ∷ cs)) (Ok rest) e) [
      | inl h ↦
          let s = sign_sound cs in
          let behind = without_sign cs in
          let ds = digits_front behind in
          let d = digits_sound behind rest h.1 in
          let tail : behind ≡ ds ++ rest = sym (digits_join behind) ∙ ap (λ r. ds ++ r) d.1 in
          let all : cs ≡ (s.0 ++ ds) ++ rest = s.3 ∙ ap (λ r. s.0 ++ r) tail ∙ sym (append_assoc s.0 ds rest) in
          (c ∷ (s.0 ++ ds), s.1, ds, inr (c, s.0, is_mark c h.0, s.2, d.0, refl), ap (λ r. c ∷ r) all)
      | inr h ↦ ([], false, [], inl (refl, refl, refl), ok_is (c ∷ cs) rest h.1)
    ]

pub front_is : (a rest : List ℕ) → front_of (a ++ rest) rest ≡ a
front_is a rest =
    let n : length (a ++ rest) - length rest ≡ length a = omega (arith, length-append a rest) in
    rw n (take_at a rest (length a) refl)

joined : (s w p x rest : List ℕ) → s ++ (w ++ (p ++ (x ++ rest))) ≡ (s ++ (w ++ (p ++ x))) ++ rest
joined s w p x rest = simp append_assoc

pub minus_join : (text : List ℕ) → text ≡ sign_text (begins_with 45 text) ++ without_front 45 text
minus_join text =
    elim (cases_Bool (begins_with 45 text)) [
      | inl is ↦ rw is (front_with 45 text is)
      | inr not ↦ rw not (sym (front_without 45 text not))
    ]

pub number_is : (text token rest : List ℕ) → number_at text ≡ Ok (token, rest) → (n : Number) × IsNumber token n × (text ≡ token ++ rest)
unfolding number_at number_end
number_is text token rest e =
    let a = bind_ok (whole_end (without_front 45 text) >>= λ fraction. fraction_end fraction >>= λ exponent. exponent_end exponent) (λ r. Ok (front_of text r, r)) (token, rest) e in
    let b = bind_ok (whole_end (without_front 45 text)) (λ fraction. fraction_end fraction >>= λ exponent. exponent_end exponent) a.0 a.1 in
    let c = bind_ok (fraction_end b.0) (λ exponent. exponent_end exponent) a.0 b.2 in
    let sign = sign_text (begins_with 45 text) in
    let w = whole_sound (without_front 45 text) b.0 b.1 in
    let p = fraction_sound b.0 c.0 c.1 in
    let x = exponent_sound c.0 a.0 c.2 in
    let piece = sign ++ (w.0 ++ (p.0 ++ x.0)) in
    let inner : without_front 45 text ≡ w.0 ++ (p.0 ++ (x.0 ++ a.0)) = w.2 ∙ ap (λ r. w.0 ++ r) (p.3 ∙ ap (λ r. p.0 ++ r) x.4) in
    let whole : text ≡ piece ++ a.0 = minus_join text ∙ ap (λ r. sign ++ r) inner ∙ joined sign w.0 p.0 x.0 a.0 in
    let same = ok_is (front_of text a.0, a.0) (token, rest) a.2 in
    let left : a.0 ≡ rest = ap (λ (q : List ℕ × List ℕ). q.1) same in
    let token-is : piece ≡ token = sym (front_is piece a.0) ∙ ap (λ t. front_of t a.0) (sym whole) ∙ ap (λ (q : List ℕ × List ℕ). q.0) same in
    let n : Number = record { negative = begins_with 45 text; whole = w.0; fraction = p.1; lowers = x.1; exponent = x.2 } in (
      n,
      record { fraction_text = p.0; exponent_text = x.0; whole = w.1; fraction = p.2; exponent = x.3; spelled = sym token-is },
      whole ∙ ap (λ t. t ++ a.0) token-is ∙ ap (λ r. token ++ r) left,
    )

-- ---- what is in the grammar is read

-- a text that goes on with no digit, point or exponent
pub record Ends (text : List ℕ) : Type 0 where
  pub stops : Stops text
  pub point : begins_with 46 text ≡ false
  pub exponent : exponent_end text ≡ Ok text

-- a byte that doesn't go on with a number
pub record EndsAt (c : ℕ) : Type 0 where
  pub at : (text : List ℕ) → Ends (c ∷ text)

ends_space : EndsAt 32
unfolding exponent_end
ends_space = record { at = λ text. record { stops = stops_at 32 text refl; point = refl; exponent = refl } }

ends_tab : EndsAt 9
unfolding exponent_end
ends_tab = record { at = λ text. record { stops = stops_at 9 text refl; point = refl; exponent = refl } }

ends_feed : EndsAt 10
unfolding exponent_end
ends_feed = record { at = λ text. record { stops = stops_at 10 text refl; point = refl; exponent = refl } }

ends_return : EndsAt 13
unfolding exponent_end
ends_return = record { at = λ text. record { stops = stops_at 13 text refl; point = refl; exponent = refl } }

pub ends_comma : (text : List ℕ) → Ends (44 ∷ text)
unfolding exponent_end
ends_comma text = record { stops = stops_at 44 text refl; point = refl; exponent = refl }

pub ends_brace : (text : List ℕ) → Ends (125 ∷ text)
unfolding exponent_end
ends_brace text = record { stops = stops_at 125 text refl; point = refl; exponent = refl }

pub blank_ends : (c : ℕ) → is_blank c ≡ true → EndsAt c
blank_ends c h =
    elim (or_cases (((c == 32) || (c == 9)) || (c == 10)) (c == 13) h) [
      | inl three ↦
          elim (or_cases ((c == 32) || (c == 9)) (c == 10) three) [
            | inl two ↦
                elim (or_cases (c == 32) (c == 9) two) [
                  | inl one ↦ subst EndsAt (sym (eqb-true c 32 one)) ends_space
                  | inr one ↦ subst EndsAt (sym (eqb-true c 9 one)) ends_tab
                ]
            | inr one ↦ subst EndsAt (sym (eqb-true c 10 one)) ends_feed
          ]
      | inr one ↦ subst EndsAt (sym (eqb-true c 13 one)) ends_return
    ]

ends_blank : (blanks rest : List ℕ) → AllByRecursion (λ c. is_blank c ≡ true) blanks → Ends rest → Ends (blanks ++ rest)
ends_blank [] rest h ends = ends
ends_blank (c ∷ cs) rest h ends = (blank_ends c h.0).at (cs ++ rest)

pub ends_before : (text rest : List ℕ) → Blanks text rest → Ends rest → Ends text
ends_before text rest h ends = rw h.2 (ends_blank h.0 rest h.1 ends)

digits_complete : (ds rest : List ℕ) → AreDigits ds → Stops rest → digits_end (ds ++ rest) ≡ Ok rest
unfolding digits_end
digits_complete [] rest are stops = absurd (omega (arith, are.some))
digits_complete (d ∷ ds) rest are stops =
    let parts = and_parts (is_ascii_digit d) (all_ascii_digits ds) are.all in
    rw (parts.0, digits_back-append ds rest parts.1 stops) refl

signed_complete : (sign : List ℕ) (l : Bool) (ds rest : List ℕ) → IsExponentSign sign l → AreDigits ds → without_sign ((sign ++ ds) ++ rest) ≡ ds ++ rest
unfolding without_sign
signed_complete sign l ds rest (inl h) are = rw h.0 refl
signed_complete sign l ds rest (inr (inl plus, h)) are = rw plus refl
signed_complete sign l ds rest (inr (inr none, h)) are =
    let no_minus = not_first 45 ds rest are (λ low high. absurd (omega arith)) in
    let no_plus = not_first 43 ds rest are (λ low high. absurd (omega arith)) in
    rw (none, no_minus) (front_without 43 (ds ++ rest) no_plus)

exponent_complete : (piece : List ℕ) (l : Bool) (ds rest : List ℕ) → IsExponentText piece l ds → Ends rest → exponent_end (piece ++ rest) ≡ Ok rest
unfolding exponent_end
exponent_complete piece l ds rest (inl h) ends = rw h.0 ends.exponent
exponent_complete piece l ds rest (inr (mark, sign, inl small, s, a, e)) ends =
    rw (e, small, signed_complete sign l ds rest s a) (digits_complete ds rest a ends.stops)
exponent_complete piece l ds rest (inr (mark, sign, inr large, s, a, e)) ends =
    rw (e, large, signed_complete sign l ds rest s a) (digits_complete ds rest a ends.stops)

-- what may follow a fraction
record Behind (text : List ℕ) : Type 0 where
  stops : Stops text
  point : begins_with 46 text ≡ false

mark_behind : (mark : ℕ) (text : List ℕ) → (mark ≡ 101) ⊎ (mark ≡ 69) → Behind (mark ∷ text)
mark_behind mark text (inl small) = rw small (record { stops = stops_at 101 text refl; point = refl })
mark_behind mark text (inr large) = rw large (record { stops = stops_at 69 text refl; point = refl })

exponent_behind : (piece : List ℕ) (l : Bool) (ds rest : List ℕ) → IsExponentText piece l ds → Ends rest → Behind (piece ++ rest)
exponent_behind piece l ds rest (inl h) ends = rw h.0 (record { stops = ends.stops; point = ends.point })
exponent_behind piece l ds rest (inr (mark, sign, is, s, a, e)) ends = rw e (mark_behind mark ((sign ++ ds) ++ rest) is)

fraction_complete : (piece ds rest : List ℕ) → IsFractionText piece ds → Behind rest → fraction_end (piece ++ rest) ≡ Ok rest
unfolding fraction_end
fraction_complete piece ds rest (inl h) behind = rw (h.0, behind.point) refl
fraction_complete piece ds rest (inr (point, are)) behind = rw point (digits_complete ds rest are behind.stops)

fraction_stops : (piece ds rest : List ℕ) → IsFractionText piece ds → Behind rest → Stops (piece ++ rest)
fraction_stops piece ds rest (inl h) behind = rw h.0 behind.stops
fraction_stops piece ds rest (inr (point, are)) behind = rw point (stops_at 46 (ds ++ rest) refl)

whole_complete : (w rest : List ℕ) → IsWhole w → Stops rest → whole_end (w ++ rest) ≡ Ok rest
unfolding whole_end
whole_complete [] rest h stops = absurd (omega (arith, h.are_digits.some))
whole_complete (d ∷ ds) rest h stops =
    elim (cases_Bool (d == 48)) [
      | inl is ↦
          let one : length (d ∷ ds) ≡ 1 = h.no_zero_in_front (eqb-true d 48 is) in
          let none : ds ≡ [] = no_digits ds (omega (arith, one)) in
          rw (is, none) refl
      | inr isnt ↦ rw isnt (digits_complete (d ∷ ds) rest h.are_digits stops)
    ]

digit_in_front : (w more token rest : List ℕ) → AreDigits w → token ≡ w ++ more → (c : ℕ) × (cs : List ℕ) × (token ++ rest ≡ c ∷ cs) × (begins_number c ≡ true)
digit_in_front [] more token rest are e = absurd (omega (arith, are.some))
digit_in_front (d ∷ ds) more token rest are e =
    let parts = and_parts (is_ascii_digit d) (all_ascii_digits ds) are.all in
    (d, (ds ++ more) ++ rest, ap (λ t. t ++ rest) e, or_right (d == 45) (is_ascii_digit d) parts.0)

sign_off : (negative : Bool) (w more : List ℕ) → AreDigits w → without_front 45 (sign_text negative ++ (w ++ more)) ≡ w ++ more
sign_off true w more are = refl
sign_off false w more are = front_without 45 (w ++ more) (not_first 45 w more are (λ low high. absurd (omega arith)))

pub number_starts_so : (token : List ℕ) (n : Number) (rest : List ℕ) → IsNumber token n → (c : ℕ) × (cs : List ℕ) × (token ++ rest ≡ c ∷ cs) × (begins_number c ≡ true)
number_starts_so token n rest h =
    elim (cases_Bool n.negative) [
      | inl is ↦ (45, (n.whole ++ (h.fraction_text ++ h.exponent_text)) ++ rest, ap (λ t. t ++ rest) (h.spelled ∙ ap (λ b. sign_text b ++ (n.whole ++ (h.fraction_text ++ h.exponent_text))) is), refl)
      | inr not ↦ digit_in_front n.whole (h.fraction_text ++ h.exponent_text) token rest h.whole.are_digits (h.spelled ∙ ap (λ b. sign_text b ++ (n.whole ++ (h.fraction_text ++ h.exponent_text))) not)
    ]

pub number_reads : (token : List ℕ) (n : Number) (rest : List ℕ) → IsNumber token n → Ends rest → number_at (token ++ rest) ≡ Ok (token, rest)
unfolding number_at number_end
number_reads token n rest h ends =
    let p = h.fraction_text in
    let x = h.exponent_text in
    let behind = exponent_behind x n.lowers n.exponent rest h.exponent ends in
    let stops = fraction_stops p n.fraction (x ++ rest) h.fraction behind in
    let body = n.whole ++ (p ++ (x ++ rest)) in
    let spelled : token ++ rest ≡ sign_text n.negative ++ body = ap (λ t. t ++ rest) h.spelled ∙ sym (joined (sign_text n.negative) n.whole p x rest) in
    let unsigned : without_front 45 (token ++ rest) ≡ body = ap (without_front 45) spelled ∙ sign_off n.negative n.whole (p ++ (x ++ rest)) h.whole.are_digits in
    rw (unsigned, whole_complete n.whole (p ++ (x ++ rest)) h.whole stops, fraction_complete p n.fraction (x ++ rest) h.fraction behind, exponent_complete x n.lowers n.exponent rest h.exponent ends)
    (ap (λ t. Ok (t, rest)) (front_is token rest))
