-- Counts of faults.
use Rattle.std.specs.Prelude.{ℕ, ◌+◌, ◌-◌, ◌^◌, ◌≤◌, min}
use Rattle.std.proofs.Common.{arith}

-- A count of faults rose, or stands at the last value of its type.
pub record Rose (before after : ℕ) : Type 0 where
  pub rose : min (before + 1) (2 ^ 64 - 1) ≤ after

-- what rose since a later count rose since an earlier one
pub Rose-from : {b c : ℕ} (a : ℕ) → a ≤ b → Rose b c → Rose a c
Rose-from a le h = record { rose = omega arith }

-- what rose stays so
pub Rose-until : {a b : ℕ} (c : ℕ) → Rose a b → b ≤ c → Rose a c
Rose-until c h le = record { rose = omega arith }
