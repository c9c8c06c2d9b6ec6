-- White space and marks of JSON (RFC 8259).
use Rattle.std.specs.Prelude.{ℕ, ◌==◌, Bool, true, false, ◌||◌, if◌then◌else◌, List, [], ◌∷◌, Result, Ok, Err}
use Rattle.std.specs.Char.{is_ascii_digit}
use Rattle.measure_json.specs.declared.fault.JsonKind.TheVariants.{NotMeasure}
use Rattle.measure_json.specs.declared.fault.Fault.{Fault}
use Rattle.measure_json.specs.Fault.{◌>>=◌, fault_at, syntax}

-- a space, a tab, a line feed or a carriage return
abbrev pub is_blank : ℕ → Bool
is_blank c = (((c == 32) || (c == 9)) || (c == 10)) || (c == 13)

-- the text without white space in front
abbrev pub skip_blank : List ℕ → List ℕ
skip_blank [] = []
skip_blank (c ∷ cs) = if is_blank c then skip_blank cs else c ∷ cs

-- what follows the mark that has to stand here
unfoldable pub mark_at : ℕ → List ℕ → Result (List ℕ) Fault
mark_at mark [] = syntax []
mark_at mark (c ∷ cs) = if c == mark then Ok cs else syntax (c ∷ cs)

-- the byte begins a number
abbrev pub begins_number : ℕ → Bool
begins_number c = (c == 45) || is_ascii_digit c

-- the byte begins a value of JSON: an object, a list, a string, a number, `true`, `false` or `null`
abbrev pub begins_value : ℕ → Bool
begins_value c =
    (((((c == 123) || (c == 91)) || (c == 34)) || begins_number c) || (c == 116)) || ((c == 102) || (c == 110))

-- a value of another type than the one asked for, or no value
abbrev pub other_value : {A : Type 0} → List ℕ → Result A Fault
other_value [] = syntax []
other_value (c ∷ cs) = if begins_value c then Err (fault_at NotMeasure (c ∷ cs)) else syntax (c ∷ cs)

-- what follows the bracket that opens a value
unfoldable pub opened : ℕ → List ℕ → Result (List ℕ) Fault
opened bracket [] = syntax []
opened bracket (c ∷ cs) = if c == bracket then Ok cs else other_value (c ∷ cs)

-- what follows the colon behind a key
unfoldable pub colon_at : List ℕ → Result (List ℕ) Fault
colon_at text = mark_at 58 (skip_blank text) >>= λ rest. Ok (skip_blank rest)

abbrev pub comma_or : ℕ → List ℕ → Result (Bool × List ℕ) Fault
comma_or closing [] = syntax []
comma_or closing (c ∷ cs) =
    if c == 44 then Ok (true, skip_blank cs) else (if c == closing then Ok (false, cs) else syntax (c ∷ cs))

-- behind an item: whether a comma stands there and another follows, or the closing bracket; and what follows it
unfoldable pub next_at : ℕ → List ℕ → Result (Bool × List ℕ) Fault
next_at closing text = comma_or closing (skip_blank text)

-- nothing but white space follows
abbrev pub ended : {A : Type 0} → A → List ℕ → Result A Fault
ended value [] = Ok value
ended value (c ∷ cs) = syntax (c ∷ cs)
