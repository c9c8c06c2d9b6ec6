-- The lines of a script, as bytes.
use Rattle.std.specs.Prelude.{◌≡◌, ◌≢◌, ◌<◌, ◌≤◌, ◌^◌, ℕ, List, [], ◌∷◌, ◌++◌, length, take, Option}
use Rattle.std.specs.List.{All, flat_map}
use Rattle.std.specs.Io.KnownBytes.{IsAtEnd}
use Rattle.rest_script.specs.declared.script_end.ScriptEnd.{ScriptEnd}
use Rattle.rest_script.specs.declared.script_end.ScriptEnd.TheVariants.{Ended, TooLong, Cut, TooMuch, ReadFault, WriteFault, Memory}

-- a line without its end: no line feed is in it, and it has at most 1,048,576 bytes
pub record IsLine (line : List ℕ) : Type 0 where
  pub no_feed : All (λ b. b ≢ 10) line
  pub short : length line ≤ 1048576

-- a line with the line feed that ends it
abbrev pub ended : List ℕ → List ℕ
ended line = line ++ 10 ∷ []

-- the bytes are these lines, each ended by a line feed
pub record AreLines (bytes : List ℕ) (lines : List (List ℕ)) : Type 0 where
  pub whole : bytes ≡ flat_map ended lines
  pub each : All IsLine lines

-- the bytes begin with a line and its end
pub record BeginsWithLine (bytes line : List ℕ) : Type 0 where
  pub is_line : IsLine line
  pub rest : List ℕ
  pub whole : bytes ≡ ended line ++ rest

-- the bytes begin with no line and its end: the first 1,048,577 of them have no line feed
pub record IsLong (bytes : List ℕ) : Type 0 where
  pub over : 1048576 < length bytes
  pub no_feed : All (λ b. b ≢ 10) (take 1048577 bytes)

-- the bytes are these lines, and others that begin with no line and its end
pub record AreUnfinished (bytes : List ℕ) (lines : List (List ℕ)) : Type 0 where
  pub rest : List ℕ
  pub whole : bytes ≡ flat_map ended lines ++ rest
  pub each : All IsLine lines
  pub more : 0 < length rest
  pub no_feed : All (λ b. b ≢ 10) (take 1048577 rest)

-- Why no more lines are answered, by how many bytes were taken in all, by those of them behind the lines that were answered,
-- and by what the source has left. But where the sink failed, all lines that ended in the bytes taken were answered.
abbrev pub EndsBehind : ScriptEnd → ℕ → List ℕ → Option (List ℕ) → Type 0
EndsBehind Ended count behind left = (behind ≡ []) × IsAtEnd left
EndsBehind TooLong count behind left = IsLong behind
EndsBehind Cut count behind left = IsLine behind × (0 < length behind) × IsAtEnd left
EndsBehind TooMuch count behind left = IsLine behind × (count ≡ 2 ^ 40)
EndsBehind ReadFault count behind left = IsLine behind
EndsBehind WriteFault count behind left = (line : List ℕ) × BeginsWithLine behind line
EndsBehind Memory count behind left = count ≡ 0
