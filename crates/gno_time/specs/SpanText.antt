-- The grammars of lengths of time, apart from how they are read.
use Rattle.std.specs.Prelude.{◌≡◌, ℕ, ◌+◌, ◌*◌, ◌≤◌, List, [], ◌∷◌, ◌++◌, length, replicate, ◌⊎◌, codes}
use Rattle.gno_num.specs.Digits.{number_onto}
use Rattle.gno_num.specs.Number.{AreDigits, IsFractionText}
use Rattle.gno_num.specs.Text.{padded}
use Rattle.gno_time.specs.StampText.{IsNanosText}

-- digits with a point or none, of at most 64 bytes, spaces, and a word
pub record IsAmountText (text whole fraction word : List ℕ) : Type 0 where
  pub fraction_text : List ℕ
  pub spaces : ℕ
  pub is_whole : AreDigits whole
  pub is_fraction : IsFractionText fraction_text fraction
  pub short : length whole + length fraction_text ≤ 64
  pub spelled : text ≡ whole ++ (fraction_text ++ (replicate spaces 32 ++ word))

-- nothing for no days, or digits and ` day, ` or ` days, `
abbrev pub IsDaysText : List ℕ → ℕ → Type 0
IsDaysText text days =
    ((text ≡ []) × (days ≡ 0)) ⊎ ((digits : List ℕ) × (word : List ℕ) × AreDigits digits
    × ((word ≡ codes " day, ") ⊎ (word ≡ codes " days, ")) × (text ≡ digits ++ word) × (days ≡ number_onto 0 digits))

-- an hour to 23, of one digit or two
abbrev pub IsHourText : List ℕ → ℕ → Type 0
IsHourText text hour =
    ((text ≡ padded 1 hour) × (hour ≤ 9)) ⊎ ((text ≡ padded 2 hour) × (hour ≤ 23))

-- days, an hour, `:MM`, `:SS`, and a fraction
pub record IsClockText (text : List ℕ) (days seconds nanos : ℕ) : Type 0 where
  pub days_text : List ℕ
  pub hour_text : List ℕ
  pub fraction_text : List ℕ
  pub hour : ℕ
  pub minute : ℕ
  pub second : ℕ
  pub is_days : IsDaysText days_text days
  pub is_hour : IsHourText hour_text hour
  pub minute_fits : minute ≤ 59
  pub second_fits : second ≤ 59
  pub is_nanos : IsNanosText fraction_text nanos
  pub sum : seconds ≡ hour * 3600 + minute * 60 + second
  pub spelled : text ≡ days_text ++ (hour_text ++ (58 ∷ (padded 2 minute ++ (58 ∷ (padded 2 second ++ fraction_text)))))
