-- The header of a log: its first record.
use Rattle.std.specs.Prelude.{ℕ, ◌<◌, ◌≤◌, ◌^◌, List, ◌∷◌, ◌++◌, codes}
use Rattle.byteorder.specs.Endian.{big_bytes}
use Rattle.gate_log.specs.Records.{BeginsWith}
use Rattle.log_pair.specs.declared.place.Place.{Place}

-- the header: the letters GNLG, the version 1, the role, the sack, how many sacks, and the epoch
abbrev pub log_header : Place → ℕ → List ℕ
log_header place epoch =
    codes "GNLG" ++ 1 ∷ place.role ∷ big_bytes 2 place.sack ++ big_bytes 2 place.sacks ++ big_bytes 8 epoch

-- the fields of a header fit into their bytes
pub record FitsHeader (place : Place) (number : ℕ) : Type 0 where
  pub role : place.role < 2 ^ 8
  pub sack : place.sack < 2 ^ 16
  pub sacks : place.sacks < 2 ^ 16
  pub epoch : number < 2 ^ 64

-- the bytes begin with a log that has this header
pub record HasHeader (place : Place) (number : ℕ) (bytes : List ℕ) : Type 0 where
  pub fits : FitsHeader place number
  pub first : BeginsWith (log_header place number) bytes

-- an epoch of a log
pub record IsEpoch (epoch : ℕ) : Type 0 where
  pub first : 1 ≤ epoch
  pub last : epoch ≤ 2 ^ 63
