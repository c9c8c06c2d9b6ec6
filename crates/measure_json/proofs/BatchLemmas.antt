-- Bodies of several metrics that are in the grammar are read.
use Rattle.std.proofs.Common.{◌≡◌, ℕ, ℤ, ◌+◌, ◌≤◌, ◌<◌, List, [], ◌∷◌, ◌++◌, length, Some, Result, Ok, Err, inl, inr, refl, ap, ◌∙◌, arith}
use Rattle.std.specs.Prelude.{IfOk}
use Rattle.std.specs.Global.{Vec}
use Rattle.std.proofs.lemmas.List.{length-append}
use Rattle.series_model.specs.declared.measure.Measure.{Measure}
use Rattle.series_model.specs.declared.metric.MetricId.{MetricId}
use Rattle.measure_json.specs.declared.fault.BodyFault.{BodyFault}
use Rattle.measure_json.specs.Fault.{Answers, placed}
use Rattle.measure_json.specs.Marks.{skip_blank}
use Rattle.measure_json.specs.Items.{items_within}
use Rattle.measure_json.specs.Batch.{id_of, id_at, entry_at, runs_out, entries_at, entries_of, batch_read}
use Rattle.measure_json.specs.Grammar.{Blanks, Mark, StringText, ScalarText, TimeMember, ValueMember, MembersText, MeasureText, ItemsText, ListText, EntryText, IsBatch}
use Rattle.measure_json.proofs.AnswerLemmas.{unplaced}
use Rattle.measure_json.proofs.SoundLemmas.{batch_is}
use Rattle.measure_json.proofs.StringLemmas.{string_reads}
use Rattle.measure_json.proofs.CompleteLemmas.{Complete, skipped, mark_reads, opened_reads, colon_reads, brace, brackets_read, items_read, list_reads, list_solid, string_solid}

-- ---- what follows is shorter

blanks_len : (text rest : List ℕ) → Blanks text rest → length rest ≤ length text
blanks_len text rest h = omega (arith, ap length h.2, length-append h.0 rest)

mark_len : (mark : ℕ) (text rest : List ℕ) → Mark mark text rest → length rest < length text
mark_len mark text rest h = omega (arith, blanks_len text (mark ∷ h.0) h.1, blanks_len h.0 rest h.2)

string_len : (text spelled rest : List ℕ) → StringText text spelled rest → length rest < length text
string_len text spelled rest h = omega (arith, ap length h.2, length-append h.0 (34 ∷ rest))

scalar_len : (text spelled rest : List ℕ) → ScalarText text spelled rest → length rest ≤ length text
scalar_len text spelled rest (inl h) = omega (arith, string_len text spelled rest h)
scalar_len text spelled rest (inr h) = omega (arith, ap length h.2, length-append spelled rest)

time_len : (text : List ℕ) (s : ℕ) (rest : List ℕ) → TimeMember text s rest → length rest ≤ length text
time_len text s rest h =
    omega (arith, string_len text _ h.0 h.2, mark_len 58 h.0 h.1 h.3, scalar_len h.1 h.4.0 rest h.4.1)

value_len : (text : List ℕ) (v : ℤ) (rest : List ℕ) → ValueMember text v rest → length rest ≤ length text
value_len text v rest h =
    omega (arith, string_len text _ h.0 h.2, mark_len 58 h.0 h.1 h.3, scalar_len h.1 h.4.0 rest h.4.1)

members_len : (text : List ℕ) (m : Measure) (rest : List ℕ) → MembersText text m rest → length rest ≤ length text
members_len text m rest (inl (a, b, time, comma, value)) =
    omega (arith, time_len text m.at a time, mark_len 44 a b comma, value_len b m.value rest value)
members_len text m rest (inr (a, b, value, comma, time)) =
    omega (arith, value_len text m.value a value, mark_len 44 a b comma, time_len b m.at rest time)

measure_len : (text : List ℕ) (m : Measure) (rest : List ℕ) → MeasureText text m rest → length rest < length text
measure_len text m rest h =
    omega (arith, ap length h.3, blanks_len h.0 h.1 h.4, members_len h.1 m h.2 h.5, blanks_len h.2 (125 ∷ rest) h.6)

-- an item takes a byte at least
record Takes {A : Type 0} (ItemText : List ℕ → A → List ℕ → Type 0) : Type 0 where
  some : (text : List ℕ) (x : A) (rest : List ℕ) → ItemText text x rest → length rest < length text

items_len : {A : Type 0} {ItemText : List ℕ → A → List ℕ → Type 0} (takes : Takes ItemText) (closing : ℕ) (text : List ℕ) (xs : List A) (rest : List ℕ) → ItemsText ItemText closing text xs rest → length xs + length rest < length text
items_len takes closing text [] rest h = absurd h
items_len takes closing text (x ∷ []) rest h =
    omega (arith, takes.some text x h.0 h.1, blanks_len h.0 (closing ∷ rest) h.2)
items_len takes closing text (x ∷ y ∷ ys) rest h =
    omega (arith, takes.some text x h.0 h.2, mark_len 44 h.0 h.1 h.3, items_len takes closing h.1 (y ∷ ys) rest h.4)

list_len : (text : List ℕ) (ms : List Measure) (rest : List ℕ) → ListText text ms rest → length rest < length text
list_len text ms rest ((inside, a, begins, blanks, inl (none, shut)), few) =
    omega (arith, ap length begins, blanks_len inside a blanks, ap length shut)
list_len text ms rest ((inside, a, begins, blanks, inr items), few) =
    omega (arith, ap length begins, blanks_len inside a blanks, items_len (record { some = measure_len }) 93 a ms rest items)

entry_len : (text : List ℕ) (entry : MetricId × List Measure) (rest : List ℕ) → EntryText text entry rest → length rest < length text
entry_len text entry rest h =
    omega (arith, string_len text h.0 h.1 h.3, mark_len 58 h.1 h.2 h.5, list_len h.2 entry.1 rest h.6)

-- ---- what is in the grammar is read

id_reads : (text spelled : List ℕ) (id : MetricId) (rest : List ℕ) → StringText text spelled rest → id_of spelled ≡ Some id → id_at text ≡ Ok (id, rest)
unfolding id_at
id_reads text spelled id rest s is =
    ap id_at s.2 ∙ rw (mark_reads 34 (s.0 ++ 34 ∷ rest), string_reads s.0 spelled rest s.1, is) refl

entry_reads : (text : List ℕ) (entry : MetricId × List Measure) (rest : List ℕ) → EntryText text entry rest → entry_at text ≡ Ok (entry, rest)
unfolding entry_at
entry_reads text entry rest h =
    rw (id_reads text h.0 entry.0 h.1 h.3 h.4, colon_reads h.1 h.2 h.5 (list_solid h.2 entry.1 rest h.6), list_reads h.2 entry.1 rest h.6) refl

entries_complete : Complete entry_at EntryText 125
entries_complete = record {
  closes = brace;
  reads = entry_reads;
  solid = λ text entry rest h. string_solid text h.0 h.1 h.3;
  apart = λ text entry rest h. rw h.3.2 refl;
}

pub batch_reads : (body : List ℕ) (entries : List (MetricId × List Measure)) → IsBatch body entries → entries_of body ≡ Ok entries
unfolding entries_of entries_at
batch_reads body entries (a, b, front, (inside, c, begins, blanks, either), behind) =
    let begun : skip_blank body ≡ a = skipped body a front (record { stays = rw begins refl }) in
    let nothing : skip_blank b ≡ [] = skipped b [] behind (record { stays = refl }) in
    let read = brackets_read entries_complete (λ text. items_within entry_at 125 runs_out (length text) text) inside c entries b blanks either
    (λ items. items_read entries_complete runs_out (length c) c entries b (omega (arith, items_len (record { some = entry_len }) 125 c entries b items)) items) in
    rw (begun, opened_reads 123 a inside begins, read, nothing) refl

pub batch_found : (body : List ℕ) (r : Result (Vec (MetricId × List Measure)) BodyFault) → Answers (λ entries. entries.items) r (batch_read body) → IfOk r (λ entries. IsBatch body entries.items)
unfolding batch_read
batch_found body (Ok entries) e = batch_is body entries.items (unplaced body (entries_of body) entries.items e)
batch_found body (Err f) e = tt

pub batch_only : (body : List ℕ) (entries : List (MetricId × List Measure)) → IsBatch body entries → batch_read body ≡ Ok entries
unfolding batch_read
batch_only body entries h = ap (placed body) (batch_reads body entries h)
