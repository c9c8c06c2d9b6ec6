-- The text of an answer.
use Rattle.std.specs.Prelude.{ℕ, Bool, if◌then◌else◌, List, [], ◌∷◌, ◌++◌}
use Rattle.std.specs.List.{flat_map}
use Rattle.std.specs.Fmt.{decimal, signed_decimal}
use Rattle.gno_num.specs.Fraction.{Fraction}
use Rattle.gno_num.specs.Text.{fraction_text}
use Rattle.gno_time.specs.Text.{stamp_text_of, seconds_text_of}
use Rattle.series_model.specs.declared.answer.Row.{Row}

-- a value: rounded to units, or exactly, as `[num,den]` in units
abbrev pub value_json : Bool → Fraction → List ℕ
value_json exact value =
    if exact then 91 ∷ signed_decimal value.num ++ 44 ∷ decimal value.den ++ 93 ∷ []
    else fraction_text value

-- `["1970-01-01T00:01:00+00:00",60.0,15.0]`
abbrev pub row_json : Bool → Row → List ℕ
row_json exact row =
    91 ∷ 34 ∷ stamp_text_of row.at ++ 34 ∷ 44 ∷ seconds_text_of row.granularity
    ++ 44 ∷ value_json exact row.value ++ 93 ∷ []

-- rows with a comma between any two
abbrev pub rows_json : Bool → List Row → List ℕ
rows_json exact [] = []
rows_json exact (row ∷ rows) = row_json exact row ++ flat_map (λ r. 44 ∷ row_json exact r) rows

-- the rows in brackets, without spaces
abbrev pub answer_json : Bool → List Row → List ℕ
answer_json exact rows = 91 ∷ rows_json exact rows ++ 93 ∷ []
