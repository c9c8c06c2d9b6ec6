-- Reading a string character by character.
use Rattle.std.proofs.Common.{◌≡◌, ℕ, suc, ◌-◌, ◌+◌, ◌≤◌, ◌<◌, ◌==◌, nat_le, nat_lt, not, ◌&&◌, inl, inr, Bool, true, false, List, [], ◌∷◌, ◌++◌, length, Result, Ok, Err, refl, sym, ap, ◌∙◌, append_assoc, arith}
use Rattle.std.proofs.lemmas.List.{append-nil}
use Rattle.std.proofs.lemmas.Bool.{cases_Bool, and_parts, leb-true, le-ltb}
use Rattle.gno_num.specs.Digits.{begins_with, without_front}
use Rattle.measure_json.specs.declared.fault.Fault.{Fault}
use Rattle.measure_json.specs.declared.fault.ReadError.{ReadError}
use Rattle.measure_json.specs.declared.fault.ReadError.TheVariants as errors
use Rattle.measure_json.specs.declared.fault.JsonKind.TheVariants.{Syntax}
use Rattle.measure_json.specs.Fault.{◌>>=◌, Fails, fault_at, with_front}
use Rattle.measure_json.specs.Text.{character_at, string_within, string_at, is_plain, plain_front, plain_back}

pub step : (n : ℕ) (text : List ℕ) → begins_with 34 text ≡ false → string_within (suc n) text ≡ (character_at text >>= λ char. with_front char.0 (string_within n char.1))
unfolding string_within character_at
step n [] h = refl
step n (c ∷ cs) h = rw h refl

quote : (n : ℕ) (text : List ℕ) → begins_with 34 text ≡ true → string_within (suc n) text ≡ Ok ([], without_front 34 text)
unfolding string_within
quote n [] h = absurd cc
quote n (c ∷ cs) h = rw h refl

pub regroup : {A : Type 0} (front more : List A) (read : Result (List A × List ℕ) Fault) → with_front front (with_front more read) ≡ with_front (front ++ more) read
regroup front more (Ok x) = ap (λ ts. Ok (ts, x.1)) (simp append_assoc)
regroup front more (Err e) = refl

nothing_before : (r : Result (List ℕ × List ℕ) Fault) → with_front [] r ≡ r
nothing_before (Ok x) = refl
nothing_before (Err e) = refl

abbrev done : {A : Type 0} → A → Result A Fault
done x = Ok x

-- two values that were read are one
pub ok_is : {A : Type 0} (x y : A) → done x ≡ done y → x ≡ y
ok_is x y h = cc

through : (r : Result (List ℕ × List ℕ) Fault) (then : List ℕ → Result (List ℕ × List ℕ) Fault) (front new after : List ℕ) → with_front front r ≡ Ok (new, after)
    → with_front front (r >>= λ char. with_front char.0 (then char.1)) ≡ with_front new (then after)
through (Ok char) then front new after h =
    let same = ok_is (front ++ char.0, char.1) (new, after) h in
    let new-is : front ++ char.0 ≡ new = ap (λ (p : List ℕ × List ℕ). p.0) same in
    let after-is : char.1 ≡ after = ap (λ (p : List ℕ × List ℕ). p.1) same in
    rw (← new-is, ← after-is) (regroup front char.0 (then char.1))
through (Err e) then front new after h = absurd cc

pub goes_on : (front new : List ℕ) (len i : ℕ) (rest after : List ℕ) (total : Result (List ℕ × List ℕ) Fault) → i < len → begins_with 34 rest ≡ false → with_front front (character_at rest) ≡ Ok (new, after)
    → with_front front (string_within (len - i) rest) ≡ total → with_front new (string_within (len - (i + 1)) after) ≡ total
goes_on front new len i rest after total lt more h so_far =
    let k : len - i ≡ suc (len - (i + 1)) = omega arith in
    let one : with_front front (string_within (len - i) rest) ≡ with_front new (string_within (len - (i + 1)) after) = rw (k, step (len - (i + 1)) rest more) (through (character_at rest) (string_within (len - (i + 1))) front new after h) in
    sym one ∙ so_far

broken : (r : Result (List ℕ × List ℕ) Fault) (then : List ℕ → Result (List ℕ × List ℕ) Fault) (front : List ℕ) (fault : Fault) → with_front front r ≡ Err fault
    → with_front front (r >>= λ char. with_front char.0 (then char.1)) ≡ Err fault
broken (Ok char) then front fault h = absurd cc
broken (Err e) then front fault h = h

pub fails : (e : ReadError) (front : List ℕ) (len i : ℕ) (rest : List ℕ) (total : Result (List ℕ × List ℕ) Fault) → i < len → begins_with 34 rest ≡ false → Fails e (with_front front (character_at rest))
    → with_front front (string_within (len - i) rest) ≡ total → Fails e total
fails errors.Memory front len i rest total lt more h so_far = tt
fails (errors.Fault fault) front len i rest total lt more h so_far =
    let k : len - i ≡ suc (len - (i + 1)) = omega arith in
    let one : with_front front (string_within (len - i) rest) ≡ Err fault = rw (k, step (len - (i + 1)) rest more) (broken (character_at rest) (string_within (len - (i + 1))) front fault h) in
    sym so_far ∙ one

pub closes : (front : List ℕ) (len i : ℕ) (rest : List ℕ) (total : Result (List ℕ × List ℕ) Fault) → i < len → begins_with 34 rest ≡ true → with_front front (string_within (len - i) rest) ≡ total
    → total ≡ Ok (front, without_front 34 rest)
closes front len i rest total lt shut so_far =
    let k : len - i ≡ suc (len - (i + 1)) = omega arith in
    let one : with_front front (string_within (len - i) rest) ≡ Ok (front, without_front 34 rest) = rw (k, quote (len - (i + 1)) rest shut) (ap (λ ts. Ok (ts, without_front 34 rest)) (append-nil front)) in
    sym so_far ∙ one

pub runs_out : (front : List ℕ) (len i : ℕ) (rest : List ℕ) (total : Result (List ℕ × List ℕ) Fault) → len ≤ i → with_front front (string_within (len - i) rest) ≡ total → total ≡ Err (fault_at Syntax [])
unfolding string_within
runs_out front len i rest total le so_far =
    let k : len - i ≡ 0 = omega arith in
    let one : with_front front (string_within (len - i) rest) ≡ Err (fault_at Syntax []) = rw k refl in
    sym so_far ∙ one

-- ---- a string of plain bytes

not_true : {b : Bool} → not b ≡ true → b ≡ false
not_true {b = true} h = absurd cc
not_true {b = false} h = refl

pub record Plain (c : ℕ) : Type 0 where
  pub quote : (c == 34) ≡ false
  pub backslash : (c == 92) ≡ false
  pub control : nat_lt c 32 ≡ false
  pub ascii : nat_lt c 128 ≡ true

pub plain_parts : (c : ℕ) → is_plain c ≡ true → Plain c
plain_parts c h =
    let both = and_parts (nat_le 32 c && nat_lt c 128) (not (c == 34) && not (c == 92)) h in
    let range = and_parts (nat_le 32 c) (nat_lt c 128) both.0 in
    let marks = and_parts (not (c == 34)) (not (c == 92)) both.1 in
    record {
      quote = not_true marks.0;
      backslash = not_true marks.1;
      control = le-ltb _ _ (leb-true _ _ range.0);
      ascii = range.1;
    }

pub plain_character : (c : ℕ) (cs : List ℕ) → Plain c → character_at (c ∷ cs) ≡ Ok (c ∷ [], cs)
unfolding character_at
plain_character c cs p = rw (p.backslash, p.control, p.ascii) refl

plain_in : (text : List ℕ) → begins_with 34 (plain_back text) ≡ true → string_within (length text) text ≡ Ok (plain_front text, without_front 34 (plain_back text))
plain_in [] h = absurd cc
plain_in (c ∷ cs) h =
    elim (cases_Bool (is_plain c)) [
      | inl is ↦
          let p = plain_parts c is in
          let one = step (length cs) (c ∷ cs) p.quote in
          let rest = plain_in cs (rw is at h) in
          rw (is, one, plain_character c cs p, rest) refl
      | inr other ↦ rw other (quote (length cs) (c ∷ cs) (rw other at h))
    ]

pub plain_then : (text : List ℕ) → begins_with 34 (plain_back text) ≡ true → string_at text ≡ Ok (plain_front text, without_front 34 (plain_back text))
unfolding string_at
plain_then text h = plain_in text h

pub begins : (text : List ℕ) → with_front [] (string_within (length text - 0) text) ≡ string_at text
unfolding string_at
begins text =
    let k : length text - 0 ≡ length text = omega arith in
    rw k (nothing_before (string_within (length text) text))
