-- What a result says of a reading.
use Rattle.std.specs.Prelude.{◌≡◌, Option, Some, None, Result, Ok, Err, ⊤}
use Rattle.command_line.specs.declared.fault.PlanFault.{PlanFault}
use Rattle.command_line.specs.declared.fault.PlanFault.TheVariants.{Usage, Memory}

-- the result is the value of a reading, or `Usage` where it has none; want of memory says nothing
abbrev pub IsReading : {A : Type 0} → Option A → Result A PlanFault → Type 0
IsReading reading (Ok value) = reading ≡ Some value
IsReading reading (Err Usage) = reading ≡ None
IsReading reading (Err Memory) = ⊤
