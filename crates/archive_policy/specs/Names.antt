-- What a name is.
use Rattle.std.specs.Prelude.{◌≢◌, ℕ, ◌≤◌, List, length, All}

-- a printable byte of ASCII other than `/`
pub record IsNameByte (byte : ℕ) : Type 0 where
  pub from : 32 ≤ byte
  pub upto : byte ≤ 126
  pub no_slash : byte ≢ 47

-- 1 to 255 of them
pub record IsName (text : List ℕ) : Type 0 where
  pub some : 1 ≤ length text
  pub few : length text ≤ 255
  pub bytes : All IsNameByte text
