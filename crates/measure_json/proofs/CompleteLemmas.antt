-- What is in the grammar is read.
use Rattle.std.proofs.Common.{◌≡◌, ℕ, ℤ, zero, suc, ◌≤◌, ◌==◌, true, false, cond, List, [], ◌∷◌, ◌++◌, length, Some, Result, Ok, ◌⊎◌, inl, inr, refl, sym, ap, subst, ◌∙◌, arith}
use Rattle.std.specs.Char.{is_ascii_digit}
use Rattle.std.specs.List.{AllByRecursion}
use Rattle.std.proofs.lemmas.Bool.{eqb-true, eq-eqb, ne_eqb, or_cases}
use Rattle.gno_num.specs.Digits.{begins_with, without_front}
use Rattle.gno_num.proofs.ScaleLemmas.{digit_range}
use Rattle.series_model.specs.declared.measure.Measure.{Measure}
use Rattle.measure_json.specs.declared.fault.Fault.{Fault}
use Rattle.measure_json.specs.declared.measures.Key.{Key}
use Rattle.measure_json.specs.declared.measures.Key.TheVariants as keys
use Rattle.measure_json.specs.Marks.{is_blank, skip_blank, mark_at, begins_number, opened, colon_at, next_at}
use Rattle.measure_json.specs.Items.{items_within}
use Rattle.measure_json.specs.Number.{number_at}
use Rattle.measure_json.specs.Measures.{scalar_at, time_at, value_at, key_of, key_at, first_key, first_key_at, same_key, wanted_key_at, second_key_at, close_at, time_member_at, value_member_at, time_first, value_first, members_at, measure_at, one_too_many, measures_at, measures_of}
use Rattle.measure_json.specs.Grammar.{Blanks, Mark, StringText, ScalarText, TimeText, ValueText, MembersText, MeasureText, ItemsText, ListText, IsMeasures}
use Rattle.measure_json.proofs.NumberLemmas.{Ends, ends_before, ends_comma, ends_brace, number_starts_so, number_reads}
use Rattle.measure_json.proofs.StringLemmas.{string_reads}
use Rattle.measure_json.proofs.SoundLemmas.{name_of}

-- ---- white space and marks

-- a text that begins with no white space
pub record Solid (text : List ℕ) : Type 0 where
  pub stays : skip_blank text ≡ text

skips_all : (blanks rest : List ℕ) → AllByRecursion (λ c. is_blank c ≡ true) blanks → skip_blank (blanks ++ rest) ≡ skip_blank rest
skips_all [] rest h = refl
skips_all (c ∷ cs) rest h = rw h.0 (skips_all cs rest h.1)

pub skipped : (text rest : List ℕ) → Blanks text rest → Solid rest → skip_blank text ≡ rest
skipped text rest h solid = ap skip_blank h.2 ∙ skips_all h.0 rest h.1 ∙ solid.stays

same_byte : (c : ℕ) → (c == c) ≡ true
same_byte c = eq-eqb c c refl

pub mark_reads : (mark : ℕ) (rest : List ℕ) → mark_at mark (mark ∷ rest) ≡ Ok rest
unfolding mark_at
mark_reads mark rest = rw same_byte refl

pub opened_reads : (bracket : ℕ) (text rest : List ℕ) → text ≡ bracket ∷ rest → opened bracket text ≡ Ok rest
unfolding opened
opened_reads bracket text rest e = rw (e, same_byte bracket) refl

pub colon_reads : (text rest : List ℕ) → Mark 58 text rest → Solid rest → colon_at text ≡ Ok rest
unfolding colon_at
colon_reads text rest m solid =
    let begun : skip_blank text ≡ 58 ∷ m.0 = skipped text (58 ∷ m.0) m.1 (record { stays = refl }) in
    rw (begun, mark_reads 58 m.0, skipped m.0 rest m.2 solid) refl

pub comma_reads : (closing : ℕ) (text next : List ℕ) → Mark 44 text next → Solid next → next_at closing text ≡ Ok (true, next)
unfolding next_at
comma_reads closing text next m solid =
    let begun : skip_blank text ≡ 44 ∷ m.0 = skipped text (44 ∷ m.0) m.1 (record { stays = refl }) in
    rw (begun, skipped m.0 next m.2 solid) refl

-- a bracket that closes is no white space and no comma
pub record Closes (closing : ℕ) : Type 0 where
  pub solid : (rest : List ℕ) → Solid (closing ∷ rest)
  pub other : (closing == 44) ≡ false

pub brace : Closes 125
brace = record { solid = λ rest. record { stays = refl }; other = refl }

pub bracket : Closes 93
bracket = record { solid = λ rest. record { stays = refl }; other = refl }

pub shut_reads : (closing : ℕ) (text next : List ℕ) → Closes closing → Blanks text (closing ∷ next) → next_at closing text ≡ Ok (false, next)
unfolding next_at
shut_reads closing text next is b =
    rw (skipped text (closing ∷ next) b (is.solid next), is.other, same_byte closing) refl

-- ---- times, values and keys

pub record StartsNumber (c : ℕ) : Type 0 where
  pub blank : is_blank c ≡ false
  pub quote : (c == 34) ≡ false

pub digit_starts : (c : ℕ) → is_ascii_digit c ≡ true → StartsNumber c
digit_starts c h =
    let range = digit_range c h in
    let a : (c == 32) ≡ false = ne_eqb c 32 (λ e. omega (arith, range)) in
    let b : (c == 9) ≡ false = ne_eqb c 9 (λ e. omega (arith, range)) in
    let d : (c == 10) ≡ false = ne_eqb c 10 (λ e. omega (arith, range)) in
    let f : (c == 13) ≡ false = ne_eqb c 13 (λ e. omega (arith, range)) in
    record { blank = rw (a, b, d, f) refl; quote = ne_eqb c 34 (λ e. omega (arith, range)) }

pub number_starts : (c : ℕ) → begins_number c ≡ true → StartsNumber c
number_starts c h =
    elim (or_cases (c == 45) (is_ascii_digit c) h) [
      | inl minus ↦ subst StartsNumber (sym (eqb-true c 45 minus)) (record { blank = refl; quote = refl })
      | inr digit ↦ digit_starts c digit
    ]

pub string_solid : (text spelled rest : List ℕ) → StringText text spelled rest → Solid text
string_solid text spelled rest s = record { stays = rw s.2 refl }

pub scalar_solid : (text spelled rest : List ℕ) → ScalarText text spelled rest → Solid text
scalar_solid text spelled rest (inl s) = string_solid text spelled rest s
scalar_solid text spelled rest (inr n) =
    let starts = number_starts_so spelled n.0 rest n.1 in
    record { stays = rw (n.2, starts.2, (number_starts starts.0 starts.3).blank) refl }

pub scalar_reads : (text spelled rest : List ℕ) → Ends rest → ScalarText text spelled rest → scalar_at text ≡ Ok (spelled, rest)
unfolding scalar_at
scalar_reads text spelled rest ends (inl s) = rw s.2 (string_reads s.0 spelled rest s.1)
scalar_reads text spelled rest ends (inr n) =
    let starts = number_starts_so spelled n.0 rest n.1 in
    ap scalar_at (n.2 ∙ starts.2) ∙ rw ((number_starts starts.0 starts.3).quote, starts.3) (ap number_at (sym starts.2) ∙ number_reads spelled n.0 rest n.1 ends)

pub time_reads : (text : List ℕ) (s : ℕ) (rest : List ℕ) → Ends rest → TimeText text s rest → time_at text ≡ Ok (s, rest)
unfolding time_at
time_reads text s rest ends t = rw (scalar_reads text t.0 rest ends t.1, t.2) refl

pub value_reads : (text : List ℕ) (v : ℤ) (rest : List ℕ) → Ends rest → ValueText text v rest → value_at text ≡ Ok (v, rest)
unfolding value_at
value_reads text v rest ends t = rw (scalar_reads text t.0 rest ends t.1, t.2) refl

named_key : (key : Key) → key_of (name_of key) ≡ Some key
named_key keys.Timestamp = refl
named_key keys.Value = refl

pub key_reads : (text : List ℕ) (key : Key) (rest : List ℕ) → StringText text (name_of key) rest → key_at text ≡ Ok (key, rest)
unfolding key_at
key_reads text key rest s =
    ap key_at s.2 ∙ rw (mark_reads 34 (s.0 ++ 34 ∷ rest), string_reads s.0 (name_of key) rest s.1, named_key key) refl

first_key_reads : (text : List ℕ) (key : Key) (rest : List ℕ) → StringText text (name_of key) rest → first_key text ≡ Ok (key, rest)
first_key_reads text key rest s = ap first_key s.2 ∙ ap key_at (sym s.2) ∙ key_reads text key rest s

same_again : (key : Key) → same_key key key ≡ true
same_again keys.Timestamp = refl
same_again keys.Value = refl

pub second_reads : (key : Key) (text a rest : List ℕ) → Mark 44 text a → StringText a (name_of key) rest → second_key_at key text ≡ Ok rest
unfolding second_key_at wanted_key_at
second_reads key text a rest m s =
    rw (comma_reads 125 text a m (string_solid a (name_of key) rest s), key_reads a key rest s, same_again key) refl

pub close_reads : (text rest : List ℕ) → Blanks text (125 ∷ rest) → close_at text ≡ Ok rest
unfolding close_at
close_reads text rest b = rw (shut_reads 125 text rest brace b) refl

-- ---- measures

pub time_read : (text b : List ℕ) (s : ℕ) (rest : List ℕ) → Ends rest → Mark 58 text b → TimeText b s rest → time_member_at text ≡ Ok (s, rest)
unfolding time_member_at
time_read text b s rest ends m t =
    rw (colon_reads text b m (scalar_solid b t.0 rest t.1), time_reads b s rest ends t) refl

pub value_read_behind : (text b : List ℕ) (v : ℤ) (rest : List ℕ) → Ends rest → Mark 58 text b → ValueText b v rest → value_member_at text ≡ Ok (v, rest)
unfolding value_member_at
value_read_behind text b v rest ends m t =
    rw (colon_reads text b m (scalar_solid b t.0 rest t.1), value_reads b v rest ends t) refl

-- the members, from the first key on
pub record MembersRead (text : List ℕ) (m : Measure) (rest : List ℕ) : Type 0 where
  pub key : Key
  pub behind : List ℕ
  pub first : StringText text (name_of key) behind
  pub read : members_at key behind ≡ Ok (m, rest)

pub members_read : (text : List ℕ) (m : Measure) (b rest : List ℕ) → MembersText text m b → Blanks b (125 ∷ rest) → MembersRead text m rest
unfolding time_first value_first
members_read text m b rest (inl (a, c, time, comma, value)) shut = record {
  key = keys.Timestamp;
  behind = time.0;
  first = time.2;
  read = rw (time_read time.0 time.1 m.at a (ends_before a (44 ∷ comma.0) comma.1 (ends_comma comma.0)) time.3 time.4, second_reads keys.Value a c value.0 comma value.2, value_read_behind value.0 value.1 m.value b (ends_before b (125 ∷ rest) shut (ends_brace rest)) value.3 value.4, close_reads b rest shut) refl;
}
members_read text m b rest (inr (a, c, value, comma, time)) shut = record {
  key = keys.Value;
  behind = value.0;
  first = value.2;
  read = rw (value_read_behind value.0 value.1 m.value a (ends_before a (44 ∷ comma.0) comma.1 (ends_comma comma.0)) value.3 value.4, second_reads keys.Timestamp a c time.0 comma time.2, time_read time.0 time.1 m.at b (ends_before b (125 ∷ rest) shut (ends_brace rest)) time.3 time.4, close_reads b rest shut) refl;
}

pub measure_reads : (text : List ℕ) (m : Measure) (rest : List ℕ) → MeasureText text m rest → measure_at text ≡ Ok (m, rest)
unfolding measure_at first_key_at
measure_reads text m rest t =
    let read = members_read t.1 m t.2 rest t.5 t.6 in
    let begun : skip_blank t.0 ≡ t.1 = skipped t.0 t.1 t.4 (string_solid t.1 (name_of read.key) read.behind read.first) in
    rw (opened_reads 123 text t.0 t.3, begun, first_key_reads t.1 read.key read.behind read.first, read.read) refl

-- ---- lists

-- each item is read, and is neither white space nor the closing bracket
pub record Complete {A : Type 0} (item : List ℕ → Result (A × List ℕ) Fault) (ItemText : List ℕ → A → List ℕ → Type 0) (closing : ℕ) : Type 0 where
  pub closes : Closes closing
  pub reads : (text : List ℕ) (x : A) (rest : List ℕ) → ItemText text x rest → item text ≡ Ok (x, rest)
  pub solid : (text : List ℕ) (x : A) (rest : List ℕ) → ItemText text x rest → Solid text
  pub apart : (text : List ℕ) (x : A) (rest : List ℕ) → ItemText text x rest → begins_with closing text ≡ false

pub measures_complete : Complete measure_at MeasureText 93
measures_complete = record {
  closes = bracket;
  reads = measure_reads;
  solid = λ text m rest t. record { stays = rw t.3 refl };
  apart = λ text m rest t. rw t.3 refl;
}

pub items_solid : {A : Type 0} {item : List ℕ → Result (A × List ℕ) Fault} {ItemText : List ℕ → A → List ℕ → Type 0} {closing : ℕ} (complete : Complete item ItemText closing) (text : List ℕ) (x : A) (xs : List A) (rest : List ℕ) → ItemsText ItemText closing text (x ∷ xs) rest → Solid text × (begins_with closing text ≡ false)
items_solid complete text x [] rest t = (complete.solid text x t.0 t.1, complete.apart text x t.0 t.1)
items_solid complete text x (y ∷ ys) rest t = (complete.solid text x t.0 t.2, complete.apart text x t.0 t.2)

pub items_read : {A : Type 0} {item : List ℕ → Result (A × List ℕ) Fault} {ItemText : List ℕ → A → List ℕ → Type 0} {closing : ℕ} (complete : Complete item ItemText closing) (over : List ℕ → Result (List A × List ℕ) Fault) (n : ℕ) (text : List ℕ) (xs : List A) (rest : List ℕ)
    → length xs ≤ n → ItemsText ItemText closing text xs rest → items_within item closing over n text ≡ Ok (xs, rest)
unfolding items_within
items_read complete over n text [] rest few t = absurd t
items_read complete over zero text (x ∷ xs) rest few t = absurd (omega (arith, few))
items_read {closing = closing} complete over (suc n) text (x ∷ []) rest few t =
    rw (complete.reads text x t.0 t.1, shut_reads closing t.0 rest complete.closes t.2) refl
items_read {closing = closing} complete over (suc n) text (x ∷ y ∷ ys) rest few t =
    rw (complete.reads text x t.0 t.2, comma_reads closing t.0 t.1 t.3 (items_solid complete t.1 y ys rest t.4).0, items_read complete over n t.1 (y ∷ ys) rest (omega (arith, few)) t.4) refl

items_apart : {A : Type 0} {item : List ℕ → Result (A × List ℕ) Fault} {ItemText : List ℕ → A → List ℕ → Type 0} {closing : ℕ} (complete : Complete item ItemText closing) (text : List ℕ) (xs : List A) (rest : List ℕ) → ItemsText ItemText closing text xs rest → Solid text × (begins_with closing text ≡ false)
items_apart complete text [] rest t = absurd t
items_apart complete text (x ∷ xs) rest t = items_solid complete text x xs rest t

pub brackets_read : {A : Type 0} {item : List ℕ → Result (A × List ℕ) Fault} {ItemText : List ℕ → A → List ℕ → Type 0} {closing : ℕ} (complete : Complete item ItemText closing) (within : List ℕ → Result (List A × List ℕ) Fault) (inside a : List ℕ) (xs : List A) (rest : List ℕ)
    → Blanks inside a → ((xs ≡ []) × (a ≡ closing ∷ rest)) ⊎ ItemsText ItemText closing a xs rest → (ItemsText ItemText closing a xs rest → within a ≡ Ok (xs, rest))
    → cond (begins_with closing (skip_blank inside)) (Ok ([], without_front closing (skip_blank inside))) (within (skip_blank inside)) ≡ Ok (xs, rest)
brackets_read {closing = closing} complete within inside a xs rest b (inl (none, shut)) reads =
    let begun : skip_blank inside ≡ closing ∷ rest = skipped inside (closing ∷ rest) (subst (λ t. Blanks inside t) shut b) (complete.closes.solid rest) in
    rw (begun, none, same_byte closing) refl
brackets_read {closing = closing} complete within inside a xs rest b (inr items) reads =
    let starts = items_apart complete a xs rest items in
    rw (skipped inside a b starts.0, starts.1) (reads items)

pub list_reads : (text : List ℕ) (ms : List Measure) (rest : List ℕ) → ListText text ms rest → measures_at text ≡ Ok (ms, rest)
unfolding measures_at
list_reads text ms rest t =
    let inside = t.0.0 in
    let a = t.0.1 in
    rw (opened_reads 91 text inside t.0.2)
    (brackets_read measures_complete (items_within measure_at 93 one_too_many 50000) inside a ms rest t.0.3 t.0.4
    (λ items. items_read measures_complete one_too_many 50000 a ms rest t.1 items))

pub list_solid : (text : List ℕ) (ms : List Measure) (rest : List ℕ) → ListText text ms rest → Solid text
list_solid text ms rest t = record { stays = rw t.0.2 refl }

pub measures_reads : (body : List ℕ) (ms : List Measure) → IsMeasures body ms → measures_of body ≡ Ok ms
unfolding measures_of
measures_reads body ms t =
    let begun : skip_blank body ≡ t.0 = skipped body t.0 t.2 (list_solid t.0 ms t.1 t.3) in
    let nothing : skip_blank t.1 ≡ [] = skipped t.1 [] t.4 (record { stays = refl }) in
    rw (begun, list_reads t.0 ms t.1 t.3, nothing) refl
