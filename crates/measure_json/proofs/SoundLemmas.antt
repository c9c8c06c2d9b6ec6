-- What is read is in the grammar.
use Rattle.std.proofs.Common.{◌≡◌, ℕ, ℤ, zero, suc, ◌≤◌, ◌==◌, Bool, true, false, cond, List, [], ◌∷◌, length, Option, None, Some, Result, Ok, Err, ◌⊎◌, inl, inr, refl, sym, ap, subst, ◌∙◌, arith}
use Rattle.std.specs.Prelude.{codes}
use Rattle.std.specs.Str.{bytes_eq}
use Rattle.std.proofs.lemmas.Bool.{cases_Bool, eqb-true}
use Rattle.std.proofs.lemmas.Slice.Eq.{bytes_eq-Decides}
use Rattle.gno_num.specs.Digits.{begins_with, without_front}
use Rattle.gno_num.specs.Value.{value_read}
use Rattle.gno_num.specs.declared.read.NumFault.{NumFault}
use Rattle.gno_time.specs.StampReading.{stamp_read}
use Rattle.gno_time.specs.declared.stamp.TimeFault.{TimeFault}
use Rattle.series_model.specs.declared.measure.Measure.{Measure}
use Rattle.series_model.specs.declared.metric.MetricId.{MetricId}
use Rattle.measure_json.specs.declared.fault.Fault.{Fault}
use Rattle.measure_json.specs.declared.fault.JsonKind.TheVariants.{NotMeasure, TooMany}
use Rattle.measure_json.specs.declared.measures.Key.{Key}
use Rattle.measure_json.specs.declared.measures.Key.TheVariants as keys
use Rattle.measure_json.specs.Fault.{◌>>=◌, fault_at, syntax, with_front}
use Rattle.measure_json.specs.Marks.{is_blank, skip_blank, mark_at, begins_number, begins_value, other_value, opened, colon_at, comma_or, next_at, ended}
use Rattle.measure_json.specs.Items.{items_within}
use Rattle.measure_json.specs.Number.{number_at}
use Rattle.measure_json.specs.Text.{string_at}
use Rattle.measure_json.specs.Measures.{scalar_at, judged_time, time_at, judged_value, value_at, key_of, named, key_at, first_key, first_key_at, same_key, wanted_key_at, second_key_at, third_key_at, close_at, time_member_at, value_member_at, time_first, value_first, members_at, measure_at, one_too_many, items_at, measures_at, measures_of}
use Rattle.measure_json.specs.Batch.{id_of, identified, id_at, entry_at, runs_out, entries_from, entries_at, entries_of}
use Rattle.measure_json.proofs.NumberLemmas.{number_is}
use Rattle.measure_json.proofs.StringLemmas.{string_is}
use Rattle.measure_json.proofs.StepLemmas.{bind_ok, chosen, held, ok_is}
use Rattle.measure_json.specs.Grammar.{Blanks, Mark, StringText, ScalarText, TimeText, ValueText, MembersText, MeasureText, ItemsText, BracketsText, ListText, EntryText, IsMeasures, IsBatch}

-- ---- white space and marks

pub skips : (text : List ℕ) → Blanks text (skip_blank text)
skips [] = ([], tt, refl)
skips (c ∷ cs) =
    elim (cases_Bool (is_blank c)) [
      | inl is ↦ let more = skips cs in rw is (c ∷ more.0, (is, more.1), ap (λ t. c ∷ t) more.2)
      | inr other ↦ rw other ([], tt, refl)
    ]

pub mark_is : (mark : ℕ) (text rest : List ℕ) → mark_at mark text ≡ Ok rest → text ≡ mark ∷ rest
unfolding mark_at
mark_is mark [] rest e = absurd cc
mark_is mark (c ∷ cs) rest e =
    let h = held (c == mark) (Ok cs) _ rest e in
    let same : cs ≡ rest = ok_is cs rest h.1 in
    rw (eqb-true c mark h.0, same) refl

pub other_never : {A : Type 0} (text : List ℕ) (x : A) → other_value {A = A} text ≡ Ok x → ⊥
other_never [] x e = absurd cc
other_never (c ∷ cs) x e =
    elim (chosen (begins_value c) (Err (fault_at NotMeasure (c ∷ cs))) (syntax (c ∷ cs)) (Ok x) e) [
      | inl h ↦ let no = h.1 in absurd cc
      | inr h ↦ let no = h.1 in absurd cc
    ]

pub opened_is : (bracket : ℕ) (text rest : List ℕ) → opened bracket text ≡ Ok rest → text ≡ bracket ∷ rest
unfolding opened
opened_is bracket [] rest e = absurd cc
opened_is bracket (c ∷ cs) rest e =
    elim (chosen (c == bracket) (Ok cs) (other_value (c ∷ cs)) (Ok rest) e) [
      | inl h ↦ let same : cs ≡ rest = ok_is cs rest h.1 in rw (eqb-true c bracket h.0, same) refl
      | inr h ↦ absurd (other_never (c ∷ cs) rest h.1)
    ]

-- white space in front of what begins so
pub skips_to : (text begun : List ℕ) → skip_blank text ≡ begun → Blanks text begun
skips_to text begun e = subst (λ t. Blanks text t) e (skips text)

pub colon_is : (text rest : List ℕ) → colon_at text ≡ Ok rest → Mark 58 text rest
unfolding colon_at
colon_is text rest e =
    let m = bind_ok (mark_at 58 (skip_blank text)) (λ r. Ok (skip_blank r)) rest e in
    (m.0, skips_to text (58 ∷ m.0) (mark_is 58 (skip_blank text) m.0 m.1), skips_to m.0 rest (ok_is (skip_blank m.0) rest m.2))

comma_is : (closing : ℕ) (text begun : List ℕ) (another : Bool) (next : List ℕ) → skip_blank text ≡ begun → comma_or closing begun ≡ Ok (another, next)
    → ((another ≡ true) × Mark 44 text next) ⊎ ((another ≡ false) × Blanks text (closing ∷ next))
comma_is closing text [] another next is e = absurd cc
comma_is closing text (c ∷ cs) another next is e =
    elim (chosen (c == 44) (Ok (true, skip_blank cs)) (cond (c == closing) (Ok (false, cs)) (syntax (c ∷ cs))) (Ok (another, next)) e) [
      | inl h ↦
          let same = ok_is (true, skip_blank cs) (another, next) h.1 in
          let comma : c ∷ cs ≡ 44 ∷ cs = ap (λ x. x ∷ cs) (eqb-true c 44 h.0) in
          inl (sym (ap (λ (p : Bool × List ℕ). p.0) same), (cs, skips_to text (44 ∷ cs) (is ∙ comma), skips_to cs next (ap (λ (p : Bool × List ℕ). p.1) same)))
      | inr h ↦
          let k = held (c == closing) (Ok (false, cs)) _ (another, next) h.1 in
          let same = ok_is (false, cs) (another, next) k.1 in
          let left : cs ≡ next = ap (λ (p : Bool × List ℕ). p.1) same in
          let shut : c ∷ cs ≡ closing ∷ next = rw (eqb-true c closing k.0, left) refl in
          inr (sym (ap (λ (p : Bool × List ℕ). p.0) same), skips_to text (closing ∷ next) (is ∙ shut))
    ]

pub next_is : (closing : ℕ) (text : List ℕ) (another : Bool) (next : List ℕ) → next_at closing text ≡ Ok (another, next)
    → ((another ≡ true) × Mark 44 text next) ⊎ ((another ≡ false) × Blanks text (closing ∷ next))
unfolding next_at
next_is closing text another next e = comma_is closing text (skip_blank text) another next refl e

-- ---- times, values and keys

-- a string, behind its opening quote
pub string_text : (text behind spelled rest : List ℕ) → text ≡ 34 ∷ behind → string_at behind ≡ Ok (spelled, rest) → StringText text spelled rest
string_text text behind spelled rest e h =
    let s = string_is behind spelled rest h in
    (s.0, s.1, e ∙ ap (λ r. 34 ∷ r) s.2)

pub scalar_is : (text spelled rest : List ℕ) → scalar_at text ≡ Ok (spelled, rest) → ScalarText text spelled rest
unfolding scalar_at
scalar_is [] spelled rest e = absurd cc
scalar_is (c ∷ cs) spelled rest e =
    elim (chosen (c == 34) (string_at cs) (cond (begins_number c) (number_at (c ∷ cs)) (other_value (c ∷ cs))) (Ok (spelled, rest)) e) [
      | inl h ↦ inl (string_text (c ∷ cs) cs spelled rest (ap (λ x. x ∷ cs) (eqb-true c 34 h.0)) h.1)
      | inr h ↦
          elim (chosen (begins_number c) (number_at (c ∷ cs)) (other_value (c ∷ cs)) (Ok (spelled, rest)) h.1) [
            | inl k ↦ inr (number_is (c ∷ cs) spelled rest k.1)
            | inr k ↦ absurd (other_never (c ∷ cs) (spelled, rest) k.1)
          ]
    ]

time_judged : (place : List ℕ) (r : Result ℕ TimeFault) (after : List ℕ) (s : ℕ) (rest : List ℕ) → judged_time place r after ≡ Ok (s, rest) → (r ≡ Ok s) × (after ≡ rest)
time_judged place (Ok stamp) after s rest e =
    let same = ok_is (stamp, after) (s, rest) e in
    (ap (λ (p : ℕ × List ℕ). Ok p.0) same, ap (λ (p : ℕ × List ℕ). p.1) same)
time_judged place (Err f) after s rest e = absurd cc

pub time_is : (text : List ℕ) (s : ℕ) (rest : List ℕ) → time_at text ≡ Ok (s, rest) → TimeText text s rest
unfolding time_at
time_is text s rest e =
    let a = bind_ok (scalar_at text) (λ found. judged_time text (stamp_read found.0) found.1) (s, rest) e in
    let b = time_judged text (stamp_read a.0.0) a.0.1 s rest a.2 in
    (a.0.0, subst (λ r. ScalarText text a.0.0 r) b.1 (scalar_is text a.0.0 a.0.1 a.1), b.0)

value_judged : (place : List ℕ) (r : Result ℤ NumFault) (after : List ℕ) (v : ℤ) (rest : List ℕ) → judged_value place r after ≡ Ok (v, rest) → (r ≡ Ok v) × (after ≡ rest)
value_judged place (Ok value) after v rest e =
    let same = ok_is (value, after) (v, rest) e in
    (ap (λ (p : ℤ × List ℕ). Ok p.0) same, ap (λ (p : ℤ × List ℕ). p.1) same)
value_judged place (Err f) after v rest e = absurd cc

pub value_is : (text : List ℕ) (v : ℤ) (rest : List ℕ) → value_at text ≡ Ok (v, rest) → ValueText text v rest
unfolding value_at
value_is text v rest e =
    let a = bind_ok (scalar_at text) (λ found. judged_value text (value_read found.0) found.1) (v, rest) e in
    let b = value_judged text (value_read a.0.0) a.0.1 v rest a.2 in
    (a.0.0, subst (λ r. ScalarText text a.0.0 r) b.1 (scalar_is text a.0.0 a.0.1 a.1), b.0)

-- how a key is written
abbrev pub name_of : Key → List ℕ
name_of keys.Timestamp = codes "timestamp"
name_of keys.Value = codes "value"

key_valued : (name : List ℕ) (key : Key) → cond (bytes_eq name (codes "value")) (Some keys.Value) None ≡ Some key → name ≡ name_of key
key_valued name key e =
    elim (cases_Bool (bytes_eq name (codes "value"))) [
      | inl is ↦
          let found : Some keys.Value ≡ Some key = rw is at e in
          let same : keys.Value ≡ key = cc in
          rw (← same) ((bytes_eq-Decides name (codes "value")).0 is)
      | inr other ↦ let never : None ≡ Some key = rw other at e in absurd cc
    ]

key_named : (name : List ℕ) (key : Key) → key_of name ≡ Some key → name ≡ name_of key
key_named name key e =
    elim (cases_Bool (bytes_eq name (codes "timestamp"))) [
      | inl is ↦
          let found : Some keys.Timestamp ≡ Some key = rw is at e in
          let same : keys.Timestamp ≡ key = cc in
          rw (← same) ((bytes_eq-Decides name (codes "timestamp")).0 is)
      | inr other ↦ key_valued name key (rw other at e)
    ]

named_is : (place : List ℕ) (o : Option Key) (after : List ℕ) (key : Key) (rest : List ℕ) → named place o after ≡ Ok (key, rest) → (o ≡ Some key) × (after ≡ rest)
named_is place (Some found) after key rest e =
    let same = ok_is (found, after) (key, rest) e in
    (ap (λ (p : Key × List ℕ). Some p.0) same, ap (λ (p : Key × List ℕ). p.1) same)
named_is place None after key rest e = absurd cc

pub key_is : (text : List ℕ) (key : Key) (rest : List ℕ) → key_at text ≡ Ok (key, rest) → StringText text (name_of key) rest
unfolding key_at
key_is text key rest e =
    let a = bind_ok (mark_at 34 text) (λ inside. string_at inside >>= λ found. named text (key_of found.0) found.1) (key, rest) e in
    let b = bind_ok (string_at a.0) (λ found. named text (key_of found.0) found.1) (key, rest) a.2 in
    let n = named_is text (key_of b.0.0) b.0.1 key rest b.2 in
    let name = key_named b.0.0 key n.0 in
    string_text text a.0 (name_of key) rest (mark_is 34 text a.0 a.1) (b.1 ∙ ap (λ nm. Ok (nm, b.0.1)) name ∙ ap (λ r. Ok (name_of key, r)) n.1)

first_key_is : (text : List ℕ) (key : Key) (rest : List ℕ) → first_key text ≡ Ok (key, rest) → StringText text (name_of key) rest
first_key_is [] key rest e = absurd cc
first_key_is (c ∷ cs) key rest e =
    elim (chosen (c == 125) (Err (fault_at NotMeasure (c ∷ cs))) (key_at (c ∷ cs)) (Ok (key, rest)) e) [
      | inl h ↦ let never = h.1 in absurd cc
      | inr h ↦ key_is (c ∷ cs) key rest h.1
    ]

same_is : (wanted found : Key) → same_key wanted found ≡ true → wanted ≡ found
same_is keys.Timestamp keys.Timestamp e = refl
same_is keys.Timestamp keys.Value e = absurd cc
same_is keys.Value keys.Timestamp e = absurd cc
same_is keys.Value keys.Value e = refl

wanted_is : (wanted : Key) (text rest : List ℕ) → wanted_key_at wanted text ≡ Ok rest → StringText text (name_of wanted) rest
unfolding wanted_key_at
wanted_is wanted text rest e =
    let a = bind_ok (key_at text) (λ found. cond (same_key wanted found.0) (Ok found.1) (Err (fault_at NotMeasure text))) rest e in
    let h = held (same_key wanted a.0.0) (Ok a.0.1) _ rest a.2 in
    let left : a.0.1 ≡ rest = ok_is a.0.1 rest h.1 in
    subst (λ r. StringText text (name_of wanted) r) left (subst (λ k. StringText text (name_of k) a.0.1) (sym (same_is wanted a.0.0 h.0)) (key_is text a.0.0 a.0.1 a.1))

-- a comma and the key behind it
pub second_is : (wanted : Key) (text rest : List ℕ) → second_key_at wanted text ≡ Ok rest → (a : List ℕ) × Mark 44 text a × StringText a (name_of wanted) rest
unfolding second_key_at
second_is wanted text rest e =
    let a = bind_ok (next_at 125 text) (λ next. cond next.0 (wanted_key_at wanted next.1) (Err (fault_at NotMeasure (skip_blank text)))) rest e in
    let h = held a.0.0 (wanted_key_at wanted a.0.1) _ rest a.2 in
    elim (next_is 125 text a.0.0 a.0.1 a.1) [
      | inl comma ↦ (a.0.1, comma.1, wanted_is wanted a.0.1 rest h.1)
      | inr shut ↦ let never : false ≡ true = sym shut.0 ∙ h.0 in absurd cc
    ]

third_never : (text rest : List ℕ) → third_key_at text ≡ Ok rest → ⊥
unfolding third_key_at
third_never text rest e =
    let a = bind_ok (mark_at 34 text) (λ inside. string_at inside >>= λ found. Err (fault_at NotMeasure text)) rest e in
    let b = bind_ok (string_at a.0) (λ found. Err (fault_at NotMeasure text)) rest a.2 in
    let never = b.2 in
    absurd cc

pub close_is : (text rest : List ℕ) → close_at text ≡ Ok rest → Blanks text (125 ∷ rest)
unfolding close_at
close_is text rest e =
    let a = bind_ok (next_at 125 text) (λ next. cond next.0 (third_key_at next.1) (Ok next.1)) rest e in
    elim (chosen a.0.0 (third_key_at a.0.1) (Ok a.0.1) (Ok rest) a.2) [
      | inl h ↦ absurd (third_never a.0.1 rest h.1)
      | inr h ↦
          elim (next_is 125 text a.0.0 a.0.1 a.1) [
            | inl comma ↦ let never : true ≡ false = sym comma.0 ∙ h.0 in absurd cc
            | inr shut ↦ subst (λ r. Blanks text (125 ∷ r)) (ok_is a.0.1 rest h.1) shut.1
          ]
    ]

-- ---- measures

pub time_behind : (text : List ℕ) (s : ℕ) (rest : List ℕ) → time_member_at text ≡ Ok (s, rest) → (b : List ℕ) × Mark 58 text b × TimeText b s rest
unfolding time_member_at
time_behind text s rest e =
    let a = bind_ok (colon_at text) (λ r. time_at r) (s, rest) e in
    (a.0, colon_is text a.0 a.1, time_is a.0 s rest a.2)

pub value_behind : (text : List ℕ) (v : ℤ) (rest : List ℕ) → value_member_at text ≡ Ok (v, rest) → (b : List ℕ) × Mark 58 text b × ValueText b v rest
unfolding value_member_at
value_behind text v rest e =
    let a = bind_ok (colon_at text) (λ r. value_at r) (v, rest) e in
    (a.0, colon_is text a.0 a.1, value_is a.0 v rest a.2)

-- members behind the first key, and the closing brace
pub record Members (key : Key) (text : List ℕ) (m : Measure) (rest : List ℕ) : Type 0 where
  pub all : (whole : List ℕ) → StringText whole (name_of key) text → (b : List ℕ) × MembersText whole m b × Blanks b (125 ∷ rest)

time_first_is : (text : List ℕ) (m : Measure) (rest : List ℕ) → time_first text ≡ Ok (m, rest) → Members keys.Timestamp text m rest
unfolding time_first
time_first_is text m rest e =
    let a = bind_ok (time_member_at text) (λ time. second_key_at keys.Value time.1 >>= λ second. value_member_at second >>= λ value. close_at value.1 >>= λ r. Ok (record { at = time.0; value = value.0 }, r)) (m, rest) e in
    let b = bind_ok (second_key_at keys.Value a.0.1) (λ second. value_member_at second >>= λ value. close_at value.1 >>= λ r. Ok (record { at = a.0.0; value = value.0 }, r)) (m, rest) a.2 in
    let c = bind_ok (value_member_at b.0) (λ value. close_at value.1 >>= λ r. Ok (record { at = a.0.0; value = value.0 }, r)) (m, rest) b.2 in
    let d = bind_ok (close_at c.0.1) (λ r. Ok (record { at = a.0.0; value = c.0.0 }, r)) (m, rest) c.2 in
    let time = time_behind text a.0.0 a.0.1 a.1 in
    let key = second_is keys.Value a.0.1 b.0 b.1 in
    let value = value_behind b.0 c.0.0 c.0.1 c.1 in
    let shut = close_is c.0.1 d.0 d.1 in
    let found : Measure × List ℕ = (record { at = a.0.0; value = c.0.0 }, d.0) in
    subst (λ (x : Measure × List ℕ). Members keys.Timestamp text x.0 x.1) (ok_is found (m, rest) d.2)
    (record { all = λ whole k. (c.0.1, inl (a.0.1, key.0, (text, time.0, k, time.1, time.2), key.1, (b.0, value.0, key.2, value.1, value.2)), shut) })

value_first_is : (text : List ℕ) (m : Measure) (rest : List ℕ) → value_first text ≡ Ok (m, rest) → Members keys.Value text m rest
unfolding value_first
value_first_is text m rest e =
    let a = bind_ok (value_member_at text) (λ value. second_key_at keys.Timestamp value.1 >>= λ second. time_member_at second >>= λ time. close_at time.1 >>= λ r. Ok (record { at = time.0; value = value.0 }, r)) (m, rest) e in
    let b = bind_ok (second_key_at keys.Timestamp a.0.1) (λ second. time_member_at second >>= λ time. close_at time.1 >>= λ r. Ok (record { at = time.0; value = a.0.0 }, r)) (m, rest) a.2 in
    let c = bind_ok (time_member_at b.0) (λ time. close_at time.1 >>= λ r. Ok (record { at = time.0; value = a.0.0 }, r)) (m, rest) b.2 in
    let d = bind_ok (close_at c.0.1) (λ r. Ok (record { at = c.0.0; value = a.0.0 }, r)) (m, rest) c.2 in
    let value = value_behind text a.0.0 a.0.1 a.1 in
    let key = second_is keys.Timestamp a.0.1 b.0 b.1 in
    let time = time_behind b.0 c.0.0 c.0.1 c.1 in
    let shut = close_is c.0.1 d.0 d.1 in
    let found : Measure × List ℕ = (record { at = c.0.0; value = a.0.0 }, d.0) in
    subst (λ (x : Measure × List ℕ). Members keys.Value text x.0 x.1) (ok_is found (m, rest) d.2)
    (record { all = λ whole k. (c.0.1, inr (a.0.1, key.0, (text, value.0, k, value.1, value.2), key.1, (b.0, time.0, key.2, time.1, time.2)), shut) })

members_are : (key : Key) (text : List ℕ) (m : Measure) (rest : List ℕ) → members_at key text ≡ Ok (m, rest) → Members key text m rest
members_are keys.Timestamp text m rest e = time_first_is text m rest e
members_are keys.Value text m rest e = value_first_is text m rest e

pub measure_is : (text : List ℕ) (m : Measure) (rest : List ℕ) → measure_at text ≡ Ok (m, rest) → MeasureText text m rest
unfolding measure_at first_key_at
measure_is text m rest e =
    let a = bind_ok (opened 123 text) (λ inside. first_key_at inside >>= λ first. members_at first.0 first.1) (m, rest) e in
    let b = bind_ok (first_key (skip_blank a.0)) (λ first. members_at first.0 first.1) (m, rest) a.2 in
    let key = first_key_is (skip_blank a.0) b.0.0 b.0.1 b.1 in
    let both = (members_are b.0.0 b.0.1 m rest b.2).all (skip_blank a.0) key in
    (a.0, skip_blank a.0, both.0, opened_is 123 text a.0 a.1, skips a.0, both.1, both.2)

-- ---- lists

-- each item that is read is one
pub record Sound {A : Type 0} (item : List ℕ → Result (A × List ℕ) Fault) (ItemText : List ℕ → A → List ℕ → Type 0) : Type 0 where
  pub is : (text : List ℕ) (x : A) (rest : List ℕ) → item text ≡ Ok (x, rest) → ItemText text x rest

one_more : {A : Type 0} (ItemText : List ℕ → A → List ℕ → Type 0) (closing : ℕ) (text : List ℕ) (x : A) (xs : List A) (rest a b : List ℕ) (n : ℕ) → ItemText text x a → Mark 44 a b → ItemsText ItemText closing b xs rest × (length xs ≤ n)
    → ItemsText ItemText closing text (x ∷ xs) rest × (suc (length xs) ≤ suc n)
one_more ItemText closing text x [] rest a b n first comma others = absurd others.0
one_more ItemText closing text x (y ∷ ys) rest a b n first comma others = ((a, b, first, comma, others.0), omega (arith, others.1))

pub items_are : {A : Type 0} {item : List ℕ → Result (A × List ℕ) Fault} {ItemText : List ℕ → A → List ℕ → Type 0} (sound : Sound item ItemText) (closing : ℕ) (over : List ℕ → Result (List A × List ℕ) Fault)
    → ((text : List ℕ) (found : List A × List ℕ) → over text ≡ Ok found → ⊥)
    → (n : ℕ) (text : List ℕ) (xs : List A) (rest : List ℕ) → items_within item closing over n text ≡ Ok (xs, rest) → ItemsText ItemText closing text xs rest × (length xs ≤ n)
unfolding items_within
items_are sound closing over never zero text xs rest e = absurd (never text (xs, rest) e)
items_are {A = A} {item = item} {ItemText = ItemText} sound closing over never (suc n) text xs rest e =
    let a = bind_ok (item text) (λ first. next_at closing first.1 >>= λ next. with_front (first.0 ∷ []) (cond next.0 (items_within item closing over n next.1) (Ok ([], next.1)))) (xs, rest) e in
    let b = bind_ok (next_at closing a.0.1) (λ next. with_front (a.0.0 ∷ []) (cond next.0 (items_within item closing over n next.1) (Ok ([], next.1)))) (xs, rest) a.2 in
    let c = bind_ok (cond b.0.0 (items_within item closing over n b.0.1) (Ok ([], b.0.1))) (λ found. Ok (a.0.0 ∷ found.0, found.1)) (xs, rest) b.2 in
    let first = sound.is text a.0.0 a.0.1 a.1 in
    let found : List A × List ℕ = (a.0.0 ∷ c.0.0, c.0.1) in
    subst (λ (x : List A × List ℕ). ItemsText ItemText closing text x.0 x.1 × (length x.0 ≤ suc n)) (ok_is found (xs, rest) c.2)
    (elim (chosen b.0.0 (items_within item closing over n b.0.1) (Ok ([], b.0.1)) (Ok c.0) c.1) [
      | inl h ↦
          elim (next_is closing a.0.1 b.0.0 b.0.1 b.1) [
            | inl comma ↦ let others = items_are sound closing over never n b.0.1 c.0.0 c.0.1 h.1 in one_more ItemText closing text a.0.0 c.0.0 c.0.1 a.0.1 b.0.1 n first comma.1 others
            | inr shut ↦ let no : false ≡ true = sym shut.0 ∙ h.0 in absurd cc
          ]
      | inr h ↦
          elim (next_is closing a.0.1 b.0.0 b.0.1 b.1) [
            | inl comma ↦ let no : true ≡ false = sym comma.0 ∙ h.0 in absurd cc
            | inr shut ↦
                let none : List A × List ℕ = ([], b.0.1) in
                subst (λ (x : List A × List ℕ). ItemsText ItemText closing text (a.0.0 ∷ x.0) x.1 × (suc (length x.0) ≤ suc n)) (ok_is none c.0 h.1) ((a.0.1, first, shut.1), omega arith)
          ]
    ])

begins_is : (mark : ℕ) (text : List ℕ) → begins_with mark text ≡ true → text ≡ mark ∷ without_front mark text
begins_is mark [] e = absurd cc
begins_is mark (c ∷ cs) e = rw e (ap (λ x. x ∷ cs) (eqb-true c mark e))

-- brackets with items in them, or with none
pub brackets_are : {A : Type 0} (ItemText : List ℕ → A → List ℕ → Type 0) (opening closing most : ℕ) (within : List ℕ → Result (List A × List ℕ) Fault) (text inside : List ℕ) (xs : List A) (rest : List ℕ)
    → ((xs : List A) (rest : List ℕ) → within (skip_blank inside) ≡ Ok (xs, rest) → ItemsText ItemText closing (skip_blank inside) xs rest × (length xs ≤ most))
    → opened opening text ≡ Ok inside → cond (begins_with closing (skip_blank inside)) (Ok ([], without_front closing (skip_blank inside))) (within (skip_blank inside)) ≡ Ok (xs, rest)
    → BracketsText ItemText opening closing text xs rest × (length xs ≤ most)
brackets_are {A = A} ItemText opening closing most within text inside xs rest sound e h =
    elim (chosen (begins_with closing (skip_blank inside)) (Ok ([], without_front closing (skip_blank inside))) (within (skip_blank inside)) (Ok (xs, rest)) h) [
      | inl k ↦
          let none : List A × List ℕ = ([], without_front closing (skip_blank inside)) in
          let same = ok_is none (xs, rest) k.1 in
          let empty : [] ≡ xs = ap (λ (p : List A × List ℕ). p.0) same in
          let left : without_front closing (skip_blank inside) ≡ rest = ap (λ (p : List A × List ℕ). p.1) same in
          ((inside, skip_blank inside, opened_is opening text inside e, skips inside, inl (sym empty, begins_is closing (skip_blank inside) k.0 ∙ ap (λ r. closing ∷ r) left)), rw (← empty) (omega arith))
      | inr k ↦
          let items = sound xs rest k.1 in
          ((inside, skip_blank inside, opened_is opening text inside e, skips inside, inr items.0), items.1)
    ]

too_many_never : (text : List ℕ) (found : List Measure × List ℕ) → one_too_many text ≡ Ok found → ⊥
too_many_never text found e =
    let a = bind_ok (opened 123 text) (λ inside. Err (fault_at TooMany text)) found e in
    let never = a.2 in
    absurd cc

measures_sound : Sound measure_at MeasureText
measures_sound = record { is = measure_is }

pub list_is : (text : List ℕ) (ms : List Measure) (rest : List ℕ) → measures_at text ≡ Ok (ms, rest) → ListText text ms rest
unfolding measures_at
list_is text ms rest e =
    let a = bind_ok (opened 91 text) (λ inside. items_at (skip_blank inside)) (ms, rest) e in
    brackets_are MeasureText 91 93 50000 (items_within measure_at 93 one_too_many 50000) text a.0 ms rest
    (λ xs r. items_are measures_sound 93 one_too_many too_many_never 50000 (skip_blank a.0) xs r) a.1 a.2

ended_is : {A : Type 0} (x y : A) (rest : List ℕ) → ended x rest ≡ Ok y → (rest ≡ []) × (x ≡ y)
ended_is x y [] e = (refl, ok_is x y e)
ended_is x y (c ∷ cs) e = absurd cc

pub measures_are : (body : List ℕ) (ms : List Measure) → measures_of body ≡ Ok ms → IsMeasures body ms
unfolding measures_of
measures_are body ms e =
    let a = bind_ok (measures_at (skip_blank body)) (λ found. ended found.0 (skip_blank found.1)) ms e in
    let z = ended_is a.0.0 ms (skip_blank a.0.1) a.2 in
    (skip_blank body, a.0.1, skips body, subst (λ xs. ListText (skip_blank body) xs a.0.1) z.1 (list_is (skip_blank body) a.0.0 a.0.1 a.1), skips_to a.0.1 [] z.0)

-- ---- several metrics

id_judged : (place : List ℕ) (o : Option MetricId) (after : List ℕ) (id : MetricId) (rest : List ℕ) → identified place o after ≡ Ok (id, rest) → (o ≡ Some id) × (after ≡ rest)
id_judged place (Some found) after id rest e =
    let same = ok_is (found, after) (id, rest) e in
    (ap (λ (p : MetricId × List ℕ). Some p.0) same, ap (λ (p : MetricId × List ℕ). p.1) same)
id_judged place None after id rest e = absurd cc

pub id_is : (text : List ℕ) (id : MetricId) (rest : List ℕ) → id_at text ≡ Ok (id, rest) → (spelled : List ℕ) × StringText text spelled rest × (id_of spelled ≡ Some id)
unfolding id_at
id_is text id rest e =
    let a = bind_ok (mark_at 34 text) (λ inside. string_at inside >>= λ found. identified text (id_of found.0) found.1) (id, rest) e in
    let b = bind_ok (string_at a.0) (λ found. identified text (id_of found.0) found.1) (id, rest) a.2 in
    let n = id_judged text (id_of b.0.0) b.0.1 id rest b.2 in
    (b.0.0, string_text text a.0 b.0.0 rest (mark_is 34 text a.0 a.1) (b.1 ∙ ap (λ r. Ok (b.0.0, r)) n.1), n.0)

pub entry_is : (text : List ℕ) (entry : MetricId × List Measure) (rest : List ℕ) → entry_at text ≡ Ok (entry, rest) → EntryText text entry rest
unfolding entry_at
entry_is text entry rest e =
    let a = bind_ok (id_at text) (λ id. colon_at id.1 >>= λ r. measures_at r >>= λ found. Ok ((id.0, found.0), found.1)) (entry, rest) e in
    let b = bind_ok (colon_at a.0.1) (λ r. measures_at r >>= λ found. Ok ((a.0.0, found.0), found.1)) (entry, rest) a.2 in
    let c = bind_ok (measures_at b.0) (λ found. Ok ((a.0.0, found.0), found.1)) (entry, rest) b.2 in
    let id = id_is text a.0.0 a.0.1 a.1 in
    let found : (MetricId × List Measure) × List ℕ = ((a.0.0, c.0.0), c.0.1) in
    subst (λ (x : (MetricId × List Measure) × List ℕ). EntryText text x.0 x.1) (ok_is found (entry, rest) c.2)
    (id.0, a.0.1, b.0, id.1, id.2, colon_is a.0.1 b.0 b.1, list_is b.0 c.0.0 c.0.1 c.1)

entries_sound : Sound entry_at EntryText
entries_sound = record { is = entry_is }

runs_out_never : (text : List ℕ) (found : List (MetricId × List Measure) × List ℕ) → runs_out text ≡ Ok found → ⊥
runs_out_never text found e = absurd cc

pub batch_is : (body : List ℕ) (entries : List (MetricId × List Measure)) → entries_of body ≡ Ok entries → IsBatch body entries
unfolding entries_of entries_at
batch_is body entries e =
    let a = bind_ok (opened 123 (skip_blank body) >>= λ inside. entries_from (skip_blank inside)) (λ found. ended found.0 (skip_blank found.1)) entries e in
    let b = bind_ok (opened 123 (skip_blank body)) (λ inside. entries_from (skip_blank inside)) a.0 a.1 in
    let z = ended_is a.0.0 entries (skip_blank a.0.1) a.2 in
    let n = length (skip_blank b.0) in
    let inside = brackets_are EntryText 123 125 n (items_within entry_at 125 runs_out n) (skip_blank body) b.0 a.0.0 a.0.1
    (λ xs r. items_are entries_sound 125 runs_out runs_out_never n (skip_blank b.0) xs r) b.1 b.2 in
    (skip_blank body, a.0.1, skips body, subst (λ xs. BracketsText EntryText 123 125 (skip_blank body) xs a.0.1) z.1 inside.0, skips_to a.0.1 [] z.0)
