-- A plain way to write measures.
use Rattle.std.specs.Prelude.{ℕ, ◌≤◌, ◌<◌, ◌*◌, ◌^◌, List, [], ◌∷◌, ◌++◌, codes, unsigned_abs}
use Rattle.gno_num.specs.Text.{point_text, units_text}
use Rattle.series_model.specs.declared.measure.Measure.{Measure}

-- a stamp and a value in their ranges
abbrev pub InRange : Measure → Type 0
InRange m = (m.at < 9 * 10 ^ 18) × (unsigned_abs m.value ≤ 10 ^ 18)

-- `{"timestamp":100.0,"value":10.0}`, and what follows it
abbrev pub measure_before : Measure → List ℕ → List ℕ
measure_before m rest =
    123 ∷ 34 ∷ (codes "timestamp" ++ 34 ∷ 58 ∷ (point_text 9 m.at ++ 44 ∷ 34 ∷ (codes "value" ++ 34 ∷ 58 ∷ (units_text m.value ++ 125 ∷ rest))))

-- measures with commas between them, and the closing bracket
abbrev pub items_json : List Measure → List ℕ
items_json [] = 93 ∷ []
items_json (m ∷ []) = measure_before m (93 ∷ [])
items_json (m ∷ n ∷ ms) = measure_before m (44 ∷ items_json (n ∷ ms))

-- measures as a JSON list without white space
abbrev pub measures_json : List Measure → List ℕ
measures_json ms = 91 ∷ items_json ms
