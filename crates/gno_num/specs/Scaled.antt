-- A number in units.
use Rattle.std.specs.Prelude.{ℕ, ◌-◌, ◌*◌, ◌/◌, ◌%◌, ◌^◌, ◌==◌, nat_le, min}
use Rattle.gno_num.specs.declared.number.Scaled.{Scaled}

-- how many whole units there are, or 2 ^ 64 - 1; whether half a unit or more is left; whether nothing is
unfoldable pub scaled_of : ℕ → ℕ → Scaled
scaled_of num den =
    record { units = min (num / den) (2 ^ 64 - 1); is_half = nat_le den (2 * (num % den)); is_exact = num % den == 0 }
