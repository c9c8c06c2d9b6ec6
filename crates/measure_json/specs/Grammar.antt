-- The grammar of measures. Each definition says that a text begins with something and goes on with rest.
use Rattle.std.specs.Prelude.{◌≡◌, ℕ, ℤ, ◌≤◌, true, List, [], ◌∷◌, ◌++◌, length, Some, Ok, codes, ◌⊎◌}
use Rattle.std.specs.List.{AllByRecursion}
use Rattle.gno_num.specs.Number.{Number, IsNumber}
use Rattle.gno_num.specs.Value.{value_read}
use Rattle.gno_time.specs.StampReading.{stamp_read}
use Rattle.series_model.specs.declared.measure.Measure.{Measure}
use Rattle.series_model.specs.declared.metric.MetricId.{MetricId}
use Rattle.measure_json.specs.Characters.{IsString}
use Rattle.measure_json.specs.Marks.{is_blank}
use Rattle.measure_json.specs.Batch.{id_of}

-- white space
abbrev pub Blanks : List ℕ → List ℕ → Type 0
Blanks text rest = (blanks : List ℕ) × AllByRecursion (λ c. is_blank c ≡ true) blanks × (text ≡ blanks ++ rest)

-- a mark, with white space on both sides
abbrev pub Mark : ℕ → List ℕ → List ℕ → Type 0
Mark mark text rest = (behind : List ℕ) × Blanks text (mark ∷ behind) × Blanks behind rest

-- a string that stands for these bytes, in quotes
abbrev pub StringText : List ℕ → List ℕ → List ℕ → Type 0
StringText text spelled rest = (inside : List ℕ) × IsString inside spelled × (text ≡ 34 ∷ (inside ++ 34 ∷ rest))

-- the token of a number
abbrev pub NumberText : List ℕ → List ℕ → List ℕ → Type 0
NumberText text token rest = (n : Number) × IsNumber token n × (text ≡ token ++ rest)

-- a number or a string
abbrev pub ScalarText : List ℕ → List ℕ → List ℕ → Type 0
ScalarText text spelled rest = StringText text spelled rest ⊎ NumberText text spelled rest

abbrev pub TimeText : List ℕ → ℕ → List ℕ → Type 0
TimeText text stamp rest = (spelled : List ℕ) × ScalarText text spelled rest × (stamp_read spelled ≡ Ok stamp)

abbrev pub ValueText : List ℕ → ℤ → List ℕ → Type 0
ValueText text value rest = (spelled : List ℕ) × ScalarText text spelled rest × (value_read spelled ≡ Ok value)

-- a key, a colon and what stands behind it
abbrev pub TimeMember : List ℕ → ℕ → List ℕ → Type 0
TimeMember text stamp rest =
    (a b : List ℕ) × StringText text (codes "timestamp") a × Mark 58 a b × TimeText b stamp rest

abbrev pub ValueMember : List ℕ → ℤ → List ℕ → Type 0
ValueMember text value rest =
    (a b : List ℕ) × StringText text (codes "value") a × Mark 58 a b × ValueText b value rest

-- the two members in either order
abbrev pub MembersText : List ℕ → Measure → List ℕ → Type 0
MembersText text m rest =
    ((a b : List ℕ) × TimeMember text m.at a × Mark 44 a b × ValueMember b m.value rest)
    ⊎ ((a b : List ℕ) × ValueMember text m.value a × Mark 44 a b × TimeMember b m.at rest)

-- an object with these two members
abbrev pub MeasureText : List ℕ → Measure → List ℕ → Type 0
MeasureText text m rest =
    (inside a b : List ℕ) × (text ≡ 123 ∷ inside) × Blanks inside a × MembersText a m b × Blanks b (125 ∷ rest)

-- one item or more with commas between them, and the closing bracket
abbrev pub ItemsText : {A : Type 0} → (List ℕ → A → List ℕ → Type 0) → ℕ → List ℕ → List A → List ℕ → Type 0
ItemsText ItemText closing text [] rest = ⊥
ItemsText ItemText closing text (x ∷ []) rest = (a : List ℕ) × ItemText text x a × Blanks a (closing ∷ rest)
ItemsText ItemText closing text (x ∷ y ∷ ys) rest =
    (a b : List ℕ) × ItemText text x a × Mark 44 a b × ItemsText ItemText closing b (y ∷ ys) rest

-- brackets, with items in them or with none
abbrev pub BracketsText : {A : Type 0} → (List ℕ → A → List ℕ → Type 0) → ℕ → ℕ → List ℕ → List A → List ℕ → Type 0
BracketsText ItemText opening closing text xs rest =
    (inside a : List ℕ) × (text ≡ opening ∷ inside) × Blanks inside a
    × (((xs ≡ []) × (a ≡ closing ∷ rest)) ⊎ ItemsText ItemText closing a xs rest)

-- a list of at most 50,000 measures
abbrev pub ListText : List ℕ → List Measure → List ℕ → Type 0
ListText text ms rest = BracketsText MeasureText 91 93 text ms rest × (length ms ≤ 50000)

-- an identifier, in any form of text that UUIDs have, a colon and a list of measures
abbrev pub EntryText : List ℕ → MetricId × List Measure → List ℕ → Type 0
EntryText text entry rest =
    (spelled a b : List ℕ) × StringText text spelled a × (id_of spelled ≡ Some entry.0) × Mark 58 a b × ListText b entry.1 rest

-- a body of measures, all of its bytes
abbrev pub IsMeasures : List ℕ → List Measure → Type 0
IsMeasures body ms = (a b : List ℕ) × Blanks body a × ListText a ms b × Blanks b []

-- a body of several metrics, all of its bytes
abbrev pub IsBatch : List ℕ → List (MetricId × List Measure) → Type 0
IsBatch body entries = (a b : List ℕ) × Blanks body a × BracketsText EntryText 123 125 a entries b × Blanks b []
