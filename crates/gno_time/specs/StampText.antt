-- The grammar of a date with a time, apart from how it is read.
use Rattle.std.specs.Prelude.{◌≡◌, ℕ, ◌+◌, ◌*◌, ◌≤◌, Bool, true, false, List, [], ◌∷◌, ◌++◌, length, pos, ◌⊎◌}
use Rattle.jiff_core.specs.Calendar.{days_in_month, days_from_civil}
use Rattle.gno_num.specs.Number.{AreDigits}
use Rattle.gno_num.specs.Text.{padded}
use Rattle.gno_time.specs.Fields.{nanos_of}
use Rattle.gno_time.specs.declared.moment.Moment.{Moment}

-- a date of the calendar, `YYYY-MM-DD`
pub record IsDateText (text : List ℕ) (year month day : ℕ) : Type 0 where
  pub year_fits : year ≤ 9999
  pub month_low : 1 ≤ month
  pub month_high : month ≤ 12
  pub day_low : 1 ≤ day
  pub day_high : day ≤ days_in_month (pos year) month
  pub spelled : text ≡ padded 4 year ++ 45 ∷ padded 2 month ++ 45 ∷ padded 2 day

-- nothing for no nanoseconds, or a point and 1 to 9 digits
abbrev pub IsNanosText : List ℕ → ℕ → Type 0
IsNanosText text nanos =
    ((text ≡ []) × (nanos ≡ 0)) ⊎ ((digits : List ℕ) × AreDigits digits × (length digits ≤ 9)
    × (text ≡ 46 ∷ digits) × (nanos ≡ nanos_of digits))

-- nothing for the full minute, or `:SS` and a fraction
abbrev pub IsSecondText : List ℕ → ℕ → ℕ → Type 0
IsSecondText text second nanos =
    ((text ≡ []) × (second ≡ 0) × (nanos ≡ 0)) ⊎ ((fraction : List ℕ) × IsNanosText fraction nanos
    × (second ≤ 59) × (text ≡ 58 ∷ (padded 2 second ++ fraction)))

-- `HH:MM`, in seconds
abbrev pub IsHoursText : List ℕ → ℕ → Type 0
IsHoursText text seconds =
    (hour : ℕ) × (minute : ℕ) × (hour ≤ 23) × (minute ≤ 59) × (text ≡ padded 2 hour ++ 58 ∷ padded 2 minute)
    × (seconds ≡ hour * 3600 + minute * 60)

-- nothing, `Z` or `z` for UTC, or `+` or `-` and hours
abbrev pub IsOffsetText : List ℕ → Bool → ℕ → Type 0
IsOffsetText text is_west offset =
    (((text ≡ []) ⊎ ((text ≡ 90 ∷ []) ⊎ (text ≡ 122 ∷ []))) × (is_west ≡ false) × (offset ≡ 0)) ⊎ ((hours : List ℕ)
    × IsHoursText hours offset × (((text ≡ 43 ∷ hours) × (is_west ≡ false)) ⊎ ((text ≡ 45 ∷ hours) × (is_west ≡ true))))

-- nothing for midnight in UTC, or `T` or a space, hours and minutes, seconds, and an offset
abbrev pub IsTimeText : List ℕ → ℕ → ℕ → Bool → ℕ → Type 0
IsTimeText text clock nanos is_west offset =
    ((text ≡ []) × (clock ≡ 0) × (nanos ≡ 0) × (is_west ≡ false) × (offset ≡ 0)) ⊎ ((mark : ℕ) × (hours : List ℕ)
    × (minutes : ℕ) × (behind : List ℕ) × (second : ℕ) × (zone : List ℕ) × ((mark ≡ 84) ⊎ (mark ≡ 32))
    × IsHoursText hours minutes × IsSecondText behind second nanos × IsOffsetText zone is_west offset
    × (text ≡ mark ∷ (hours ++ (behind ++ zone))) × (clock ≡ minutes + second))

-- the text is a date and a time that mean this moment
pub record IsMomentText (text : List ℕ) (m : Moment) : Type 0 where
  pub date_text : List ℕ
  pub time_text : List ℕ
  pub year : ℕ
  pub month : ℕ
  pub date : ℕ
  pub is_date : IsDateText date_text year month date
  pub is_time : IsTimeText time_text m.clock m.nanos m.is_west m.offset
  pub is_day : m.day ≡ days_from_civil (pos year) month date
  pub spelled : text ≡ date_text ++ time_text
