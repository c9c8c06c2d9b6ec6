-- The numbers that things tell.
use Rattle.std.specs.Prelude.{ℕ, ◌+◌, ◌/◌, ◌^◌, List, Option, Some, None, Ok, Err, Result, map, ℤ, unsigned_abs}
use Rattle.std.specs.Fmt.{decimal}
use Rattle.gno_num.specs.declared.read.NumFault.{NumFault}
use Rattle.gno_num.specs.Value.{value_read}
use Rattle.gno_time.specs.declared.stamp.TimeFault.{TimeFault}
use Rattle.gno_time.specs.StampReading.{stamp_read}
use Rattle.series_model.specs.declared.measure.Measure.{Measure}
use Rattle.gno_bench.specs.declared.line.Line.{Line}
use Rattle.gno_bench.specs.declared.outcome.Outcome.{Outcome}

-- what was computed, line by line
abbrev pub outcomes_of : List Line → List Outcome
outcomes_of lines = map (λ line. line.outcome) lines

-- the magnitude in units of a value that was read
abbrev pub magnitude_of : Result ℤ NumFault → Option ℕ
magnitude_of (Ok units) = Some (unsigned_abs units)
magnitude_of (Err fault) = None

-- the magnitude in units of the value that a token spells
abbrev pub magnitude_told : List ℕ → Option ℕ
magnitude_told token = magnitude_of (value_read token)

-- the nanoseconds of a time that was read
abbrev pub nanos_of : Result ℕ TimeFault → Option ℕ
nanos_of (Ok at) = Some at
nanos_of (Err fault) = None

-- the nanoseconds of the time that a token spells
abbrev pub nanos_told : List ℕ → Option ℕ
nanos_told token = nanos_of (stamp_read token)

-- the whole seconds of a time, in digits
abbrev pub seconds_token : ℕ → List ℕ
seconds_token at = decimal (at / 10 ^ 9)

-- the nanoseconds of a measure and the magnitude of its units together
abbrev pub measure_told : Measure → Option ℕ
measure_told m = Some (m.at + unsigned_abs m.value)
