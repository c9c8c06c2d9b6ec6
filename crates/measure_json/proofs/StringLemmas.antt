-- A string that is read is one of the grammar's.
use Rattle.std.proofs.Common.{◌≡◌, ℕ, zero, suc, ◌+◌, ◌*◌, ◌≤◌, ◌<◌, ◌==◌, ◌&&◌, Bool, true, false, cond, nat_lt, nat_le, List, [], ◌∷◌, ◌++◌, length, Option, None, Some, Result, Ok, ◌⊎◌, inl, inr, refl, sym, ap, subst, ◌∙◌, append_assoc, arith}
use Rattle.std.specs.List.{flat_map}
use Rattle.std.specs.Char.{digit_value, is_digit, encode_utf8}
use Rattle.std.proofs.lemmas.Bool.{cases_Bool, and_parts, and_from, eqb-true, eq-eqb, ltb-true, ltb-false, leb-true, le-leb, le-ltb, lt-ltb, lt-leb, ne_eqb}
use Rattle.std.proofs.lemmas.List.{length-append}
use Rattle.gno_num.specs.Digits.{begins_with}
use Rattle.measure_json.specs.declared.fault.Fault.{Fault}
use Rattle.measure_json.specs.Fault.{◌>>=◌, syntax, with_front, front_of}
use Rattle.measure_json.specs.Text.{byte_in, two_more, three_more, wide_end, hex_onto, unit_at, is_high, is_low, pair_of, paired_with, high_at, paired, short_escape, short_at, escape_at, escaped, character_at, string_within, string_at, is_plain}
use Rattle.measure_json.specs.Characters.{Character, plain, wide, short, unit, pair, IsTail, IsWide, with_digit, unit_of, AreHex, IsCharacter, Unsplit, AreCharacters, written, meant, IsString}
use Rattle.measure_json.proofs.NumberLemmas.{front_is}
use Rattle.measure_json.proofs.TextLemmas.{step, plain_parts, plain_character}
use Rattle.measure_json.proofs.StepLemmas.{bind_ok, chosen, held, ok_is}

-- ---- UTF-8

pub record InRange (low high : ℕ) (text rest : List ℕ) : Type 0 where
  pub byte : ℕ
  pub least : low ≤ byte
  pub most : byte ≤ high
  pub begins : text ≡ byte ∷ rest

byte_is : (low high : ℕ) (text rest : List ℕ) → byte_in low high text ≡ Ok rest → InRange low high text rest
unfolding byte_in
byte_is low high [] rest e = absurd cc
byte_is low high (c ∷ cs) rest e =
    let h = held (nat_le low c && nat_le c high) (Ok cs) _ rest e in
    let parts = and_parts (nat_le low c) (nat_le c high) h.0 in
    record { byte = c; least = leb-true _ _ parts.0; most = leb-true _ _ parts.1; begins = ap (λ r. c ∷ r) (ok_is cs rest h.1) }

pub record TwoMore (low high : ℕ) (text rest : List ℕ) : Type 0 where
  pub second : ℕ
  pub third : ℕ
  pub least : low ≤ second
  pub most : second ≤ high
  pub tail : IsTail third
  pub begins : text ≡ second ∷ third ∷ rest

two_are : (low high : ℕ) (text rest : List ℕ) → two_more low high text ≡ Ok rest → TwoMore low high text rest
unfolding two_more
two_are low high text rest e =
    let a = bind_ok (byte_in low high text) (λ r. byte_in 128 191 r) rest e in
    let b = byte_is low high text a.0 a.1 in
    let c = byte_is 128 191 a.0 rest a.2 in
    record { second = b.byte; third = c.byte; least = b.least; most = b.most; tail = (c.least, c.most); begins = b.begins ∙ ap (λ r. b.byte ∷ r) c.begins }

pub record ThreeMore (low high : ℕ) (text rest : List ℕ) : Type 0 where
  pub second : ℕ
  pub third : ℕ
  pub fourth : ℕ
  pub least : low ≤ second
  pub most : second ≤ high
  pub tail : IsTail third
  pub last : IsTail fourth
  pub begins : text ≡ second ∷ third ∷ fourth ∷ rest

three_are : (low high : ℕ) (text rest : List ℕ) → three_more low high text ≡ Ok rest → ThreeMore low high text rest
unfolding three_more
three_are low high text rest e =
    let a = bind_ok (two_more low high text) (λ r. byte_in 128 191 r) rest e in
    let b = two_are low high text a.0 a.1 in
    let c = byte_is 128 191 a.0 rest a.2 in
    record { second = b.second; third = b.third; fourth = c.byte; least = b.least; most = b.most; tail = b.tail; last = (c.least, c.most); begins = b.begins ∙ ap (λ r. b.second ∷ b.third ∷ r) c.begins }

Wide : ℕ → List ℕ → List ℕ → Type 0
Wide c cs rest = (bytes : List ℕ) × IsWide bytes × (c ∷ cs ≡ bytes ++ rest)

of_two : (c : ℕ) (cs rest : List ℕ) → 194 ≤ c → c ≤ 223 → InRange 128 191 cs rest → Wide c cs rest
unfolding Wide
of_two c cs rest low high b = (c ∷ b.byte ∷ [], (low, high, (b.least, b.most)), ap (λ r. c ∷ r) b.begins)

of_three : (c from to : ℕ) (cs rest : List ℕ) → 224 ≤ c → c ≤ 239 → 128 ≤ from → to ≤ 191 → (c ≡ 224 → 160 ≤ from) → (c ≡ 237 → to ≤ 159) → TwoMore from to cs rest → Wide c cs rest
unfolding Wide
of_three c from to cs rest low high least most over surrogate b =
    (c ∷ b.second ∷ b.third ∷ [], (low, high, (λ e. omega (arith, over e, b.least)), (λ e. omega (arith, surrogate e, b.most)), (omega (arith, b.least), omega (arith, b.most)), b.tail), ap (λ r. c ∷ r) b.begins)

of_four : (c from to : ℕ) (cs rest : List ℕ) → 240 ≤ c → c ≤ 244 → 128 ≤ from → to ≤ 191 → (c ≡ 240 → 144 ≤ from) → (c ≡ 244 → to ≤ 143) → ThreeMore from to cs rest → Wide c cs rest
unfolding Wide
of_four c from to cs rest low high least most over past b =
    (c ∷ b.second ∷ b.third ∷ b.fourth ∷ [], (low, high, (λ e. omega (arith, over e, b.least)), (λ e. omega (arith, past e, b.most)), (omega (arith, b.least), omega (arith, b.most)), b.tail, b.last), ap (λ r. c ∷ r) b.begins)

-- what a failed test of equality says
differs : (c k : ℕ) → (c == k) ≡ false → c ≡ k → ⊥
differs c k h e = let never : false ≡ true = sym h ∙ eq-eqb c k e in cc

wide_is : (c : ℕ) (cs rest : List ℕ) → wide_end (c ∷ cs) ≡ Ok rest → Wide c cs rest
unfolding wide_end
wide_is c cs rest e =
    let t = syntax {A = List ℕ} (c ∷ cs) in
    let r8 = cond (c == 244) (three_more 128 143 cs) t in
    let r7 = cond (nat_lt c 244) (three_more 128 191 cs) r8 in
    let r6 = cond (c == 240) (three_more 144 191 cs) r7 in
    let r5 = cond (nat_lt c 240) (two_more 128 191 cs) r6 in
    let r4 = cond (c == 237) (two_more 128 159 cs) r5 in
    let r3 = cond (c == 224) (two_more 160 191 cs) r4 in
    let r2 = cond (nat_lt c 224) (byte_in 128 191 cs) r3 in
    elim (chosen (nat_lt c 194) t r2 (Ok rest) e) [
      | inl h ↦ let never = h.1 in absurd cc
      | inr h1 ↦
          let least = ltb-false c 194 h1.0 in
          elim (chosen (nat_lt c 224) (byte_in 128 191 cs) r3 (Ok rest) h1.1) [
            | inl h ↦ of_two c cs rest least (omega (arith, ltb-true c 224 h.0)) (byte_is 128 191 cs rest h.1)
            | inr h2 ↦
                let from224 = ltb-false c 224 h2.0 in
                elim (chosen (c == 224) (two_more 160 191 cs) r4 (Ok rest) h2.1) [
                  | inl h ↦ let is = eqb-true c 224 h.0 in of_three c 160 191 cs rest from224 (omega (arith, is)) (omega arith) (omega arith) (λ e. omega arith) (λ e. absurd (omega (arith, e, is))) (two_are 160 191 cs rest h.1)
                  | inr h3 ↦
                      elim (chosen (c == 237) (two_more 128 159 cs) r5 (Ok rest) h3.1) [
                        | inl h ↦ let is = eqb-true c 237 h.0 in of_three c 128 159 cs rest from224 (omega (arith, is)) (omega arith) (omega arith) (λ e. absurd (omega (arith, e, is))) (λ e. omega arith) (two_are 128 159 cs rest h.1)
                        | inr h4 ↦
                            elim (chosen (nat_lt c 240) (two_more 128 191 cs) r6 (Ok rest) h4.1) [
                              | inl h ↦ of_three c 128 191 cs rest from224 (omega (arith, ltb-true c 240 h.0)) (omega arith) (omega arith) (λ e. absurd (differs c 224 h3.0 e)) (λ e. absurd (differs c 237 h4.0 e)) (two_are 128 191 cs rest h.1)
                              | inr h5 ↦
                                  let from240 = ltb-false c 240 h5.0 in
                                  elim (chosen (c == 240) (three_more 144 191 cs) r7 (Ok rest) h5.1) [
                                    | inl h ↦ let is = eqb-true c 240 h.0 in of_four c 144 191 cs rest from240 (omega (arith, is)) (omega arith) (omega arith) (λ e. omega arith) (λ e. absurd (omega (arith, e, is))) (three_are 144 191 cs rest h.1)
                                    | inr h6 ↦
                                        elim (chosen (nat_lt c 244) (three_more 128 191 cs) r8 (Ok rest) h6.1) [
                                          | inl h ↦ let lt = ltb-true c 244 h.0 in of_four c 128 191 cs rest from240 (omega (arith, lt)) (omega arith) (omega arith) (λ e. absurd (differs c 240 h6.0 e)) (λ e. absurd (omega (arith, e, lt))) (three_are 128 191 cs rest h.1)
                                          | inr h7 ↦
                                              elim (chosen (c == 244) (three_more 128 143 cs) t (Ok rest) h7.1) [
                                                | inl h ↦ let is = eqb-true c 244 h.0 in of_four c 128 143 cs rest from240 (omega (arith, is)) (omega arith) (omega arith) (λ e. absurd (omega (arith, e, is))) (λ e. omega arith) (three_are 128 143 cs rest h.1)
                                                | inr h ↦ let never = h.1 in absurd cc
                                              ]
                                        ]
                                  ]
                            ]
                      ]
                ]
          ]
    ]

-- ---- escapes

pub record Digit (n : ℕ) (text : List ℕ) (m : ℕ) (rest : List ℕ) : Type 0 where
  pub digit : ℕ
  pub is : is_digit digit 16 ≡ true
  pub number : with_digit n digit ≡ m
  pub begins : text ≡ digit ∷ rest

digit_is : (n : ℕ) (text : List ℕ) (m : ℕ) (rest : List ℕ) → hex_onto n text ≡ Ok (m, rest) → Digit n text m rest
unfolding hex_onto
digit_is n [] m rest e = absurd cc
digit_is n (c ∷ cs) m rest e =
    let h = held (is_digit c 16) (Ok (16 * n + digit_value c, cs)) _ (m, rest) e in
    let same = ok_is (16 * n + digit_value c, cs) (m, rest) h.1 in
    record { digit = c; is = h.0; number = ap (λ (p : ℕ × List ℕ). p.0) same; begins = ap (λ (p : ℕ × List ℕ). c ∷ p.1) same }

pub record Four (text : List ℕ) (u : ℕ) (rest : List ℕ) : Type 0 where
  pub a : ℕ
  pub b : ℕ
  pub c : ℕ
  pub d : ℕ
  pub hex : AreHex a b c d
  pub number : unit_of a b c d ≡ u
  pub begins : text ≡ a ∷ b ∷ c ∷ d ∷ rest

unit_is : (text : List ℕ) (u : ℕ) (rest : List ℕ) → unit_at text ≡ Ok (u, rest) → Four text u rest
unfolding unit_at
unit_is text u rest e =
    let a = bind_ok (hex_onto 0 text) (λ a. hex_onto a.0 a.1 >>= λ b. hex_onto b.0 b.1 >>= λ c. hex_onto c.0 c.1) (u, rest) e in
    let b = bind_ok (hex_onto a.0.0 a.0.1) (λ b. hex_onto b.0 b.1 >>= λ c. hex_onto c.0 c.1) (u, rest) a.2 in
    let c = bind_ok (hex_onto b.0.0 b.0.1) (λ c. hex_onto c.0 c.1) (u, rest) b.2 in
    let w = digit_is 0 text a.0.0 a.0.1 a.1 in
    let x = digit_is a.0.0 a.0.1 b.0.0 b.0.1 b.1 in
    let y = digit_is b.0.0 b.0.1 c.0.0 c.0.1 c.1 in
    let z = digit_is c.0.0 c.0.1 u rest c.2 in
    record {
      a = w.digit;
      b = x.digit;
      c = y.digit;
      d = z.digit;
      hex = (w.is, x.is, y.is, z.is);
      number = ap (λ n. with_digit (with_digit (with_digit n x.digit) y.digit) z.digit) w.number ∙ ap (λ n. with_digit (with_digit n y.digit) z.digit) x.number ∙ ap (λ n. with_digit n z.digit) y.number ∙ z.number;
      begins = w.begins ∙ ap (λ r. w.digit ∷ r) (x.begins ∙ ap (λ r. x.digit ∷ r) (y.begins ∙ ap (λ r. y.digit ∷ r) z.begins));
    }

digit_reads : (n c : ℕ) (rest : List ℕ) → is_digit c 16 ≡ true → hex_onto n (c ∷ rest) ≡ Ok (with_digit n c, rest)
unfolding hex_onto
digit_reads n c rest h = rw h refl

pub unit_reads : (a b c d : ℕ) (rest : List ℕ) → AreHex a b c d → unit_at (a ∷ b ∷ c ∷ d ∷ rest) ≡ Ok (unit_of a b c d, rest)
unfolding unit_at
unit_reads a b c d rest h =
    rw (digit_reads 0 a (b ∷ c ∷ d ∷ rest) h.0, digit_reads (with_digit 0 a) b (c ∷ d ∷ rest) h.1, digit_reads (with_digit (with_digit 0 a) b) c (d ∷ rest) h.2, digit_reads (with_digit (with_digit (with_digit 0 a) b) c) d rest h.3) refl

-- the second of a pair doesn't follow
pub NoLow : List ℕ → Type 0
NoLow rest = (e f g h : ℕ) (more : List ℕ) → rest ≡ 92 ∷ 117 ∷ e ∷ f ∷ g ∷ h ∷ more → AreHex e f g h → is_low (unit_of e f g h) ≡ true → ⊥

abbrev NoLowAfter : Character → List ℕ → Type 0
NoLowAfter (unit a b c d) rest = is_high (unit_of a b c d) ≡ true → NoLow rest
NoLowAfter c rest = Unit {0}

-- a character in front of what is left
pub record Taken (text meaning rest : List ℕ) : Type 0 where
  pub char : Character
  pub is : IsCharacter char
  pub begins : text ≡ written char ++ rest
  pub means : meant char ≡ meaning
  pub apart : NoLowAfter char rest

pub record Alone (u : ℕ) (r : List ℕ) (code : ℕ) (rest : List ℕ) : Type 0 where
  pub same : u ≡ code
  pub left : r ≡ rest
  pub apart : NoLow r

pub record Paired (u : ℕ) (r : List ℕ) (code : ℕ) (rest : List ℕ) : Type 0 where
  pub e : ℕ
  pub f : ℕ
  pub g : ℕ
  pub h : ℕ
  pub hex : AreHex e f g h
  pub low : is_low (unit_of e f g h) ≡ true
  pub begins : r ≡ 92 ∷ 117 ∷ e ∷ f ∷ g ∷ h ∷ rest
  pub code_is : pair_of u (unit_of e f g h) ≡ code

abbrev code_read : ℕ → List ℕ → Result (ℕ × List ℕ) Fault
code_read code rest = Ok (code, rest)

alone : (u : ℕ) (r : List ℕ) (code : ℕ) (rest : List ℕ) → NoLow r → code_read u r ≡ code_read code rest → Alone u r code rest
alone u r code rest apart e =
    let same = ok_is (u, r) (code, rest) e in
    record { same = ap (λ (p : ℕ × List ℕ). p.0) same; left = ap (λ (p : ℕ × List ℕ). p.1) same; apart = apart }

not_escape : (a b : ℕ) (cs : List ℕ) → ((a == 92) && (b == 117)) ≡ false → NoLow (a ∷ b ∷ cs)
unfolding NoLow
not_escape a b cs test e f g h more same hex low =
    let first : a ≡ 92 = cc in
    let second : b ≡ 117 = cc in
    let is : ((a == 92) && (b == 117)) ≡ true = and_from (a == 92) (b == 117) (eq-eqb a 92 first) (eq-eqb b 117 second) in
    let never : false ≡ true = sym test ∙ is in
    cc

not_low : (a b : ℕ) (cs : List ℕ) (u : ℕ) (rest : List ℕ) → unit_at cs ≡ Ok (u, rest) → is_low u ≡ false → NoLow (a ∷ b ∷ cs)
unfolding NoLow
not_low a b cs u rest read test e f g h more same hex low =
    let tail : cs ≡ e ∷ f ∷ g ∷ h ∷ more = cc in
    let again : unit_at cs ≡ Ok (unit_of e f g h, more) = ap unit_at tail ∙ unit_reads e f g h more hex in
    let one = ok_is (u, rest) (unit_of e f g h, more) (sym read ∙ again) in
    let number : u ≡ unit_of e f g h = ap (λ (p : ℕ × List ℕ). p.0) one in
    let never : false ≡ true = sym test ∙ ap is_low number ∙ low in
    cc

high_is : (u : ℕ) (r : List ℕ) (code : ℕ) (rest : List ℕ) → high_at u r ≡ Ok (code, rest) → Alone u r code rest ⊎ Paired u r code rest
unfolding high_at NoLow
high_is u [] code rest e = inl (alone u [] code rest (λ a b c d more same hex low. cc) e)
high_is u (a ∷ []) code rest e = inl (alone u (a ∷ []) code rest (λ x b c d more same hex low. cc) e)
high_is u (a ∷ b ∷ cs) code rest e =
    let whole = a ∷ b ∷ cs in
    elim (chosen ((a == 92) && (b == 117)) (unit_at cs >>= paired_with u whole) (Ok (u, whole)) (Ok (code, rest)) e) [
      | inr h ↦ inl (alone u whole code rest (not_escape a b cs h.0) h.1)
      | inl h ↦
          let marks = and_parts (a == 92) (b == 117) h.0 in
          let low = bind_ok (unit_at cs) (paired_with u whole) (code, rest) h.1 in
          elim (chosen (is_low low.0.0) (Ok (pair_of u low.0.0, low.0.1)) (Ok (u, whole)) (Ok (code, rest)) low.2) [
            | inr k ↦ inl (alone u whole code rest (not_low a b cs low.0.0 low.0.1 low.1 k.0) k.1)
            | inl k ↦
                let four = unit_is cs low.0.0 low.0.1 low.1 in
                let same = ok_is (pair_of u low.0.0, low.0.1) (code, rest) k.1 in
                let left : low.0.1 ≡ rest = ap (λ (p : ℕ × List ℕ). p.1) same in
                inr (record {
                  e = four.a;
                  f = four.b;
                  g = four.c;
                  h = four.d;
                  hex = four.hex;
                  low = ap is_low four.number ∙ k.0;
                  begins = ap (λ x. x ∷ b ∷ cs) (eqb-true a 92 marks.0) ∙ ap (λ x. 92 ∷ x ∷ cs) (eqb-true b 117 marks.1) ∙ ap (λ r. 92 ∷ 117 ∷ r) four.begins ∙ ap (λ r. 92 ∷ 117 ∷ four.a ∷ four.b ∷ four.c ∷ four.d ∷ r) left;
                  code_is = ap (pair_of u) four.number ∙ ap (λ (p : ℕ × List ℕ). p.0) same;
                })
          ]
    ]

short_is : (o : Option ℕ) (text r : List ℕ) (code : ℕ) (rest : List ℕ) → short_at o text r ≡ Ok (code, rest) → (o ≡ Some code) × (r ≡ rest)
short_is None text r code rest e = absurd cc
short_is (Some x) text r code rest e =
    let same = ok_is (x, r) (code, rest) e in
    (ap (λ (p : ℕ × List ℕ). Some p.0) same, ap (λ (p : ℕ × List ℕ). p.1) same)

-- `\u` and its digits
escape_begins : (c : ℕ) (cs : List ℕ) (a b d e : ℕ) (r : List ℕ) → (c == 117) ≡ true → cs ≡ a ∷ b ∷ d ∷ e ∷ r → 92 ∷ c ∷ cs ≡ 92 ∷ 117 ∷ a ∷ b ∷ d ∷ e ∷ r
escape_begins c cs a b d e r is tail = ap (λ x. 92 ∷ x ∷ cs) (eqb-true c 117 is) ∙ ap (λ x. 92 ∷ 117 ∷ x) tail

unit_taken : (text : List ℕ) (u : ℕ) (r : List ℕ) (code : ℕ) (rest : List ℕ) (four : Four text u r) (whole : List ℕ) → whole ≡ 92 ∷ 117 ∷ four.a ∷ four.b ∷ four.c ∷ four.d ∷ r → u ≡ code → r ≡ rest → (is_high u ≡ true → NoLow r) → Taken whole (encode_utf8 code) rest
unit_taken text u r code rest four whole begins same left apart = record {
  char = unit four.a four.b four.c four.d;
  is = four.hex;
  begins = begins ∙ ap (λ x. 92 ∷ 117 ∷ four.a ∷ four.b ∷ four.c ∷ four.d ∷ x) left;
  means = ap encode_utf8 (four.number ∙ same);
  apart = λ high. subst NoLow left (apart (sym (ap is_high four.number) ∙ high));
}

escape_is : (text : List ℕ) (code : ℕ) (rest : List ℕ) → escape_at text ≡ Ok (code, rest) → Taken (92 ∷ text) (encode_utf8 code) rest
unfolding escape_at
escape_is [] code rest e = absurd cc
escape_is (c ∷ cs) code rest e =
    elim (chosen (c == 117) (unit_at cs >>= paired) (short_at (short_escape c) (c ∷ cs) cs) (Ok (code, rest)) e) [
      | inr h ↦
          let s = short_is (short_escape c) (c ∷ cs) cs code rest h.1 in
          record { char = short c code; is = s.0; begins = ap (λ r. 92 ∷ c ∷ r) s.1; means = refl; apart = tt }
      | inl h ↦
          let u = bind_ok (unit_at cs) paired (code, rest) h.1 in
          let four = unit_is cs u.0.0 u.0.1 u.1 in
          let begins = escape_begins c cs four.a four.b four.c four.d u.0.1 h.0 four.begins in
          elim (chosen (is_high u.0.0) (high_at u.0.0 u.0.1) (Ok u.0) (Ok (code, rest)) u.2) [
            | inr k ↦
                let same = ok_is u.0 (code, rest) k.1 in
                unit_taken cs u.0.0 u.0.1 code rest four (92 ∷ c ∷ cs) begins (ap (λ (p : ℕ × List ℕ). p.0) same) (ap (λ (p : ℕ × List ℕ). p.1) same) (λ high. let never : false ≡ true = sym k.0 ∙ high in absurd cc)
            | inl k ↦
                elim (high_is u.0.0 u.0.1 code rest k.1) [
                  | inl one ↦ unit_taken cs u.0.0 u.0.1 code rest four (92 ∷ c ∷ cs) begins one.same one.left (λ high. one.apart)
                  | inr two ↦ record {
                    char = pair four.a four.b four.c four.d two.e two.f two.g two.h;
                    is = (four.hex, two.hex, ap is_high four.number ∙ k.0, two.low);
                    begins = begins ∙ ap (λ r. 92 ∷ 117 ∷ four.a ∷ four.b ∷ four.c ∷ four.d ∷ r) two.begins;
                    means = ap encode_utf8 (ap (λ n. pair_of n (unit_of two.e two.f two.g two.h)) four.number ∙ two.code_is);
                    apart = tt;
                  }
                ]
          ]
    ]

plain_is : (c : ℕ) → (c == 34) ≡ false → (c == 92) ≡ false → nat_lt c 32 ≡ false → nat_lt c 128 ≡ true → is_plain c ≡ true
plain_is c quote backslash control ascii =
    rw (le-leb _ _ (ltb-false c 32 control), ascii, quote, backslash) refl

character_is : (c : ℕ) (cs t rest : List ℕ) → character_at (c ∷ cs) ≡ Ok (t, rest) → (c == 34) ≡ false → Taken (c ∷ cs) t rest
unfolding character_at Wide
character_is c cs t rest e quote =
    let wide_part : Result (List ℕ × List ℕ) Fault = wide_end (c ∷ cs) >>= λ r. Ok (front_of (c ∷ cs) r, r) in
    elim (chosen (c == 92) (escape_at cs >>= escaped) (cond (nat_lt c 32) (syntax (c ∷ cs)) (cond (nat_lt c 128) (Ok (c ∷ [], cs)) wide_part)) (Ok (t, rest)) e) [
      | inl h ↦
          let x = bind_ok (escape_at cs) escaped (t, rest) h.1 in
          let same = ok_is (encode_utf8 x.0.0, x.0.1) (t, rest) x.2 in
          let taken = escape_is cs x.0.0 x.0.1 x.1 in
          let slash : c ∷ cs ≡ 92 ∷ cs = ap (λ y. y ∷ cs) (eqb-true c 92 h.0) in
          let here : Taken (c ∷ cs) (encode_utf8 x.0.0) x.0.1 = subst (λ y. Taken y (encode_utf8 x.0.0) x.0.1) (sym slash) taken in
          subst (λ (p : List ℕ × List ℕ). Taken (c ∷ cs) p.0 p.1) same here
      | inr h ↦
          elim (chosen (nat_lt c 32) (syntax (c ∷ cs)) (cond (nat_lt c 128) (Ok (c ∷ [], cs)) wide_part) (Ok (t, rest)) h.1) [
            | inl k ↦ let never = k.1 in absurd cc
            | inr k ↦
                elim (chosen (nat_lt c 128) (Ok (c ∷ [], cs)) wide_part (Ok (t, rest)) k.1) [
                  | inl l ↦
                      let same = ok_is (c ∷ [], cs) (t, rest) l.1 in
                      record { char = plain c; is = plain_is c quote h.0 k.0 l.0; begins = ap (λ (p : List ℕ × List ℕ). c ∷ p.1) same; means = ap (λ (p : List ℕ × List ℕ). p.0) same; apart = tt }
                  | inr l ↦
                      let x = bind_ok (wide_end (c ∷ cs)) (λ r. Ok (front_of (c ∷ cs) r, r)) (t, rest) l.1 in
                      let w = wide_is c cs x.0 x.1 in
                      let same = ok_is (front_of (c ∷ cs) x.0, x.0) (t, rest) x.2 in
                      let front : w.0 ≡ t = sym (front_is w.0 x.0) ∙ ap (λ y. front_of y x.0) (sym w.2) ∙ ap (λ (p : List ℕ × List ℕ). p.0) same in
                      record { char = wide w.0; is = w.1; begins = w.2 ∙ ap (λ r. w.0 ++ r) (ap (λ (p : List ℕ × List ℕ). p.1) same); means = front; apart = tt }
                ]
          ]
    ]

unsplit : (c : Character) (cs : List Character) (r more : List ℕ) → NoLowAfter c r → r ≡ flat_map written cs ++ more → AreCharacters cs → Unsplit c cs
unfolding NoLow
unsplit (unit a b c d) (unit e f g h ∷ cs) r more apart begins are = λ high low. apart high e f g h (flat_map written cs ++ more) begins are.0 low
unsplit c cs r more apart begins are = tt

pub record Row (text t rest : List ℕ) : Type 0 where
  pub chars : List Character
  pub are : AreCharacters chars
  pub begins : text ≡ flat_map written chars ++ 34 ∷ rest
  pub means : flat_map meant chars ≡ t

pub row_is : (n : ℕ) (text t rest : List ℕ) → string_within n text ≡ Ok (t, rest) → Row text t rest
unfolding string_within
row_is zero text t rest e = absurd cc
row_is (suc n) [] t rest e = absurd cc
row_is (suc n) (c ∷ cs) t rest e =
    elim (chosen (c == 34) (Ok ([], cs)) (character_at (c ∷ cs) >>= λ char. with_front char.0 (string_within n char.1)) (Ok (t, rest)) e) [
      | inl h ↦
          let same = ok_is ([], cs) (t, rest) h.1 in
          record { chars = []; are = tt; begins = ap (λ x. x ∷ cs) (eqb-true c 34 h.0) ∙ ap (λ (p : List ℕ × List ℕ). 34 ∷ p.1) same; means = ap (λ (p : List ℕ × List ℕ). p.0) same }
      | inr h ↦
          let a = bind_ok (character_at (c ∷ cs)) (λ char. with_front char.0 (string_within n char.1)) (t, rest) h.1 in
          let b = bind_ok (string_within n a.0.1) (λ found. Ok (a.0.0 ++ found.0, found.1)) (t, rest) a.2 in
          let taken = character_is c cs a.0.0 a.0.1 a.1 h.0 in
          let others = row_is n a.0.1 b.0.0 b.0.1 b.1 in
          let same = ok_is (a.0.0 ++ b.0.0, b.0.1) (t, rest) b.2 in
          record {
            chars = taken.char ∷ others.chars;
            are = (taken.is, unsplit taken.char others.chars a.0.1 (34 ∷ b.0.1) taken.apart others.begins others.are, others.are);
            begins = taken.begins ∙ ap (λ r. written taken.char ++ r) others.begins ∙ sym (append_assoc (written taken.char) (flat_map written others.chars) (34 ∷ b.0.1)) ∙ ap (λ (p : List ℕ × List ℕ). (written taken.char ++ flat_map written others.chars) ++ 34 ∷ p.1) same;
            means = ap (λ x. x ++ flat_map meant others.chars) taken.means ∙ ap (λ x. a.0.0 ++ x) others.means ∙ ap (λ (p : List ℕ × List ℕ). p.0) same;
          }
    ]

-- ---- what is in the grammar is read

byte_reads : (low high b : ℕ) (rest : List ℕ) → low ≤ b → b ≤ high → byte_in low high (b ∷ rest) ≡ Ok rest
unfolding byte_in
byte_reads low high b rest least most = rw (le-leb low b least, le-leb b high most) refl

two_read : (low high b c : ℕ) (rest : List ℕ) → low ≤ b → b ≤ high → IsTail c → two_more low high (b ∷ c ∷ rest) ≡ Ok rest
unfolding two_more
two_read low high b c rest least most tail =
    rw (byte_reads low high b (c ∷ rest) least most, byte_reads 128 191 c rest tail.0 tail.1) refl

three_read : (low high b c d : ℕ) (rest : List ℕ) → low ≤ b → b ≤ high → IsTail c → IsTail d → three_more low high (b ∷ c ∷ d ∷ rest) ≡ Ok rest
unfolding three_more
three_read low high b c d rest least most tail last =
    rw (two_read low high b c (d ∷ rest) least most tail, byte_reads 128 191 d rest last.0 last.1) refl

wide_two_reads : (a b : ℕ) (rest : List ℕ) → IsWide (a ∷ b ∷ []) → wide_end (a ∷ b ∷ rest) ≡ Ok rest
unfolding wide_end
wide_two_reads a b rest h =
    rw (le-ltb a 194 h.0, lt-ltb a 224 (omega (arith, h.1)), byte_reads 128 191 b rest h.2.0 h.2.1) refl

wide_three_reads : (a b c : ℕ) (rest : List ℕ) → IsWide (a ∷ b ∷ c ∷ []) → wide_end (a ∷ b ∷ c ∷ rest) ≡ Ok rest
unfolding wide_end
wide_three_reads a b c rest h =
    let t1 = le-ltb a 194 (omega (arith, h.0)) in
    let t2 = le-ltb a 224 h.0 in
    let t3 = lt-ltb a 240 (omega (arith, h.1)) in
    elim (cases_Bool (a == 224)) [
      | inl first ↦ rw (t1, t2, first, two_read 160 191 b c rest (h.2 (eqb-true a 224 first)) h.4.1 h.5) refl
      | inr later ↦
          elim (cases_Bool (a == 237)) [
            | inl surrogates ↦ rw (t1, t2, later, surrogates, two_read 128 159 b c rest h.4.0 (h.3 (eqb-true a 237 surrogates)) h.5) refl
            | inr other ↦ rw (t1, t2, later, other, t3, two_read 128 191 b c rest h.4.0 h.4.1 h.5) refl
          ]
    ]

below : (a n : ℕ) → a ≤ n → (a ≡ n → ⊥) → a < n
below a n le ne = omega arith

wide_four_reads : (a b c d : ℕ) (rest : List ℕ) → IsWide (a ∷ b ∷ c ∷ d ∷ []) → wide_end (a ∷ b ∷ c ∷ d ∷ rest) ≡ Ok rest
unfolding wide_end
wide_four_reads a b c d rest h =
    let t1 = le-ltb a 194 (omega (arith, h.0)) in
    let t2 = le-ltb a 224 (omega (arith, h.0)) in
    let t3 = ne_eqb a 224 (λ e. omega (arith, e, h.0)) in
    let t4 = ne_eqb a 237 (λ e. omega (arith, e, h.0)) in
    let t5 = le-ltb a 240 h.0 in
    elim (cases_Bool (a == 240)) [
      | inl first ↦ rw (t1, t2, t3, t4, t5, first, three_read 144 191 b c d rest (h.2 (eqb-true a 240 first)) h.4.1 h.5 h.6) refl
      | inr later ↦
          elim (cases_Bool (a == 244)) [
            | inl last ↦
                let t6 = le-ltb a 244 (omega (arith, eqb-true a 244 last)) in
                rw (t1, t2, t3, t4, t5, later, t6, last, three_read 128 143 b c d rest h.4.0 (h.3 (eqb-true a 244 last)) h.5 h.6) refl
            | inr other ↦
                let t6 = lt-ltb a 244 (below a 244 h.1 (λ e. differs a 244 other e)) in
                rw (t1, t2, t3, t4, t5, later, t6, three_read 128 191 b c d rest h.4.0 h.4.1 h.5 h.6) refl
          ]
    ]

-- a byte that begins a character of two bytes or more
record Leads (a : ℕ) : Type 0 where
  backslash : (a == 92) ≡ false
  control : nat_lt a 32 ≡ false
  ascii : nat_lt a 128 ≡ false
  quote : (a == 34) ≡ false

leads : (a : ℕ) → 194 ≤ a → Leads a
leads a h = record {
  backslash = ne_eqb a 92 (λ e. omega (arith, e, h));
  control = le-ltb a 32 (omega (arith, h));
  ascii = le-ltb a 128 (omega (arith, h));
  quote = ne_eqb a 34 (λ e. omega (arith, e, h));
}

wide_character : (a : ℕ) (tail rest : List ℕ) → Leads a → wide_end ((a ∷ tail) ++ rest) ≡ Ok rest → character_at ((a ∷ tail) ++ rest) ≡ Ok (a ∷ tail, rest)
unfolding character_at
wide_character a tail rest l read =
    rw (l.backslash, l.control, l.ascii, read) (ap (λ t. Ok (t, rest)) (front_is (a ∷ tail) rest))

-- a high surrogate stays alone before what follows
abbrev StaysAlone : Character → List ℕ → Type 0
StaysAlone (unit a b c d) rest = is_high (unit_of a b c d) ≡ true → high_at (unit_of a b c d) rest ≡ Ok (unit_of a b c d, rest)
StaysAlone c rest = Unit {0}

no_u : (c code : ℕ) → short_escape c ≡ Some code → (c == 117) ≡ false
no_u c code h = ne_eqb c 117 (λ e. let never : None ≡ Some code = rw e at h in absurd cc)

unit_reads_alone : (a b c d : ℕ) (rest : List ℕ) → AreHex a b c d → StaysAlone (unit a b c d) rest → escape_at (117 ∷ a ∷ b ∷ c ∷ d ∷ rest) ≡ Ok (unit_of a b c d, rest)
unfolding escape_at
unit_reads_alone a b c d rest hex stays =
    elim (cases_Bool (is_high (unit_of a b c d))) [
      | inl high ↦ rw (unit_reads a b c d rest hex, high) (stays high)
      | inr other ↦ rw (unit_reads a b c d rest hex, other) refl
    ]

pair_reads : (a b c d e f g h : ℕ) (rest : List ℕ) → IsCharacter (pair a b c d e f g h) → escape_at (117 ∷ a ∷ b ∷ c ∷ d ∷ 92 ∷ 117 ∷ e ∷ f ∷ g ∷ h ∷ rest) ≡ Ok (pair_of (unit_of a b c d) (unit_of e f g h), rest)
unfolding escape_at high_at
pair_reads a b c d e f g h rest is =
    rw (unit_reads a b c d (92 ∷ 117 ∷ e ∷ f ∷ g ∷ h ∷ rest) is.0, is.2, unit_reads e f g h rest is.1, is.3) refl

character_reads : (char : Character) (rest : List ℕ) → IsCharacter char → StaysAlone char rest → character_at (written char ++ rest) ≡ Ok (meant char, rest)
unfolding character_at escape_at
character_reads (plain c) rest is stays = plain_character c rest (plain_parts c is)
character_reads (wide []) rest is stays = absurd is
character_reads (wide (a ∷ [])) rest is stays = absurd is
character_reads (wide (a ∷ b ∷ [])) rest is stays = wide_character a (b ∷ []) rest (leads a is.0) (wide_two_reads a b rest is)
character_reads (wide (a ∷ b ∷ c ∷ [])) rest is stays = wide_character a (b ∷ c ∷ []) rest (leads a (omega (arith, is.0))) (wide_three_reads a b c rest is)
character_reads (wide (a ∷ b ∷ c ∷ d ∷ [])) rest is stays = wide_character a (b ∷ c ∷ d ∷ []) rest (leads a (omega (arith, is.0))) (wide_four_reads a b c d rest is)
character_reads (wide (a ∷ b ∷ c ∷ d ∷ e ∷ es)) rest is stays = absurd is
character_reads (short c code) rest is stays = rw (no_u c code is, is) refl
character_reads (unit a b c d) rest is stays = rw (unit_reads_alone a b c d rest is stays) refl
character_reads (pair a b c d e f g h) rest is stays = rw (pair_reads a b c d e f g h rest is) refl

no_quote : (char : Character) (rest : List ℕ) → IsCharacter char → begins_with 34 (written char ++ rest) ≡ false
no_quote (plain c) rest is = (plain_parts c is).quote
no_quote (wide []) rest is = absurd is
no_quote (wide (a ∷ [])) rest is = absurd is
no_quote (wide (a ∷ b ∷ [])) rest is = (leads a is.0).quote
no_quote (wide (a ∷ b ∷ c ∷ [])) rest is = (leads a (omega (arith, is.0))).quote
no_quote (wide (a ∷ b ∷ c ∷ d ∷ [])) rest is = (leads a (omega (arith, is.0))).quote
no_quote (wide (a ∷ b ∷ c ∷ d ∷ e ∷ es)) rest is = absurd is
no_quote (short c code) rest is = refl
no_quote (unit a b c d) rest is = refl
no_quote (pair a b c d e f g h) rest is = refl

-- ---- a high surrogate alone

high_other : (u a : ℕ) (rest : List ℕ) → (a == 92) ≡ false → high_at u (a ∷ rest) ≡ Ok (u, a ∷ rest)
unfolding high_at
high_other u a [] h = refl
high_other u a (b ∷ rest) h = rw h refl

high_short : (u c : ℕ) (rest : List ℕ) → (c == 117) ≡ false → high_at u (92 ∷ c ∷ rest) ≡ Ok (u, 92 ∷ c ∷ rest)
unfolding high_at
high_short u c rest h = rw h refl

high_unit : (u e f g h : ℕ) (rest : List ℕ) → AreHex e f g h → is_low (unit_of e f g h) ≡ false → high_at u (92 ∷ 117 ∷ e ∷ f ∷ g ∷ h ∷ rest) ≡ Ok (u, 92 ∷ 117 ∷ e ∷ f ∷ g ∷ h ∷ rest)
unfolding high_at
high_unit u e f g h rest hex other = rw (unit_reads e f g h rest hex, other) refl

not_both : (u : ℕ) → is_high u ≡ true → is_low u ≡ false
not_both u high =
    let range = and_parts (nat_le 0xd800 u) (nat_lt u 0xdc00) high in
    let below_low : nat_le 0xdc00 u ≡ false = lt-leb 0xdc00 u (ltb-true u 0xdc00 range.1) in
    rw below_low refl

false_from : (b : Bool) → (b ≡ true → ⊥) → b ≡ false
false_from true h = absurd (h refl)
false_from false h = refl

high_before : (u : ℕ) (more : List ℕ) (next : Character) (rest : List ℕ) → IsCharacter next → (more ≡ written next ++ rest) → ((e f g h : ℕ) → next ≡ unit e f g h → is_low (unit_of e f g h) ≡ false) → high_at u more ≡ Ok (u, more)
high_before u more (plain c) rest is begins apart = rw begins (high_other u c rest (plain_parts c is).backslash)
high_before u more (wide []) rest is begins apart = absurd is
high_before u more (wide (a ∷ [])) rest is begins apart = absurd is
high_before u more (wide (a ∷ b ∷ [])) rest is begins apart = rw begins (high_other u a (b ∷ rest) (leads a is.0).backslash)
high_before u more (wide (a ∷ b ∷ c ∷ [])) rest is begins apart = rw begins (high_other u a (b ∷ c ∷ rest) (leads a (omega (arith, is.0))).backslash)
high_before u more (wide (a ∷ b ∷ c ∷ d ∷ [])) rest is begins apart = rw begins (high_other u a (b ∷ c ∷ d ∷ rest) (leads a (omega (arith, is.0))).backslash)
high_before u more (wide (a ∷ b ∷ c ∷ d ∷ e ∷ es)) rest is begins apart = absurd is
high_before u more (short c code) rest is begins apart = rw begins (high_short u c rest (no_u c code is))
high_before u more (unit e f g h) rest is begins apart = rw begins (high_unit u e f g h rest is (apart e f g h refl))
high_before u more (pair e f g h i j k l) rest is begins apart = rw begins (high_unit u e f g h (92 ∷ 117 ∷ i ∷ j ∷ k ∷ l ∷ rest) is.0 (not_both (unit_of e f g h) is.2))

follows : (cs : List Character) (rest : List ℕ) → List ℕ
follows cs rest = flat_map written cs ++ 34 ∷ rest

high_stays : (u : ℕ) (cs : List Character) (rest : List ℕ) → AreCharacters cs → ((e f g h : ℕ) (others : List Character) → cs ≡ unit e f g h ∷ others → is_low (unit_of e f g h) ≡ false) → high_at u (follows cs rest) ≡ Ok (u, follows cs rest)
unfolding follows
high_stays u [] rest are apart = high_other u 34 rest refl
high_stays u (c ∷ cs) rest are apart =
    high_before u (flat_map written (c ∷ cs) ++ 34 ∷ rest) c (flat_map written cs ++ 34 ∷ rest) are.0 (append_assoc (written c) (flat_map written cs) (34 ∷ rest)) (λ e f g h same. apart e f g h cs (ap (λ x. x ∷ cs) same))

-- the rest of a row keeps a high surrogate alone
kept_apart : (a b c d : ℕ) (cs : List Character) (e f g h : ℕ) (others : List Character) → is_high (unit_of a b c d) ≡ true → Unsplit (unit a b c d) cs → cs ≡ unit e f g h ∷ others → is_low (unit_of e f g h) ≡ false
kept_apart a b c d cs e f g h others high unsplit same =
    let apart : Unsplit (unit a b c d) (unit e f g h ∷ others) = subst (λ xs. Unsplit (unit a b c d) xs) same unsplit in
    false_from (is_low (unit_of e f g h)) (λ low. apart high low)

stays_alone : (c : Character) (cs : List Character) (rest : List ℕ) → Unsplit c cs → AreCharacters cs → StaysAlone c (follows cs rest)
stays_alone (plain c) cs rest unsplit are = tt
stays_alone (wide bytes) cs rest unsplit are = tt
stays_alone (short c code) cs rest unsplit are = tt
stays_alone (unit a b c d) cs rest unsplit are = λ high. high_stays (unit_of a b c d) cs rest are (λ e f g h others same. kept_apart a b c d cs e f g h others high unsplit same)
stays_alone (pair a b c d e f g h) cs rest unsplit are = tt

-- ---- rows of characters

row_reads : (cs : List Character) (n : ℕ) (rest : List ℕ) → AreCharacters cs → length cs < n → string_within n (follows cs rest) ≡ Ok (flat_map meant cs, rest)
unfolding string_within follows
row_reads cs zero rest are few = absurd (omega (arith, few))
row_reads [] (suc n) rest are few = refl
row_reads (c ∷ cs) (suc n) rest are few =
    let more = flat_map written cs ++ 34 ∷ rest in
    let regroup : flat_map written (c ∷ cs) ++ 34 ∷ rest ≡ written c ++ more = append_assoc (written c) (flat_map written cs) (34 ∷ rest) in
    ap (string_within (suc n)) regroup
    ∙ (rw (step n (written c ++ more) (no_quote c more are.0), character_reads c more are.0 (stays_alone c cs rest are.1 are.2), row_reads cs n rest are.2 (omega (arith, few))) refl)

some_bytes : (c : Character) → IsCharacter c → 0 < length (written c)
some_bytes (plain c) is = omega arith
some_bytes (wide []) is = absurd is
some_bytes (wide (a ∷ tail)) is = omega arith
some_bytes (short c code) is = omega arith
some_bytes (unit a b c d) is = omega arith
some_bytes (pair a b c d e f g h) is = omega arith

fewer : (cs : List Character) → AreCharacters cs → length cs ≤ length (flat_map written cs)
fewer [] are = omega arith
fewer (c ∷ cs) are =
    omega (arith, fewer cs are.2, some_bytes c are.0, length-append (written c) (flat_map written cs))

pub string_is : (text t rest : List ℕ) → string_at text ≡ Ok (t, rest) → (inside : List ℕ) × IsString inside t × (text ≡ inside ++ 34 ∷ rest)
unfolding string_at
string_is text t rest e =
    let row = row_is (length text) text t rest e in
    (flat_map written row.chars, (row.chars, row.are, refl, sym row.means), row.begins)

pub string_reads : (inside t rest : List ℕ) → IsString inside t → string_at (inside ++ 34 ∷ rest) ≡ Ok (t, rest)
unfolding string_at follows
string_reads inside t rest (cs, are, spelled, means) =
    let few = fewer cs are in
    rw (spelled, means) (row_reads cs (length (flat_map written cs ++ 34 ∷ rest)) rest are (omega (arith, few, length-append (flat_map written cs) (34 ∷ rest))))
