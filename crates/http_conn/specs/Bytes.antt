-- The bytes of a connection: those that it was given, and those that it gave out.
use Rattle.std.specs.Prelude.{◌≡◌, ℕ, ◌+◌, List, ◌++◌, length, Option}
use Rattle.std.specs.Io.KnownBytes.{Consumes, prepend_known}

-- what a connection has: the bytes that it holds, and how many it has given out before them
pub record Held : Type 0 where
  pub bytes : List ℕ
  pub given : ℕ

-- the bytes to come: those held, then those that the source has left, where it tells them
abbrev pub to_come : Held → Option (List ℕ) → Option (List ℕ)
to_come held left = prepend_known held.bytes left

-- What a call does with the bytes: it takes some from the source, gives the first of those held and
-- taken out, and holds the rest.
pub record GivesOut (old new : Held) (before after : Option (List ℕ)) (out : List ℕ) : Type 0 where
  pub taken : List ℕ
  pub from_source : Consumes before after taken
  pub once : old.bytes ++ taken ≡ out ++ new.bytes
  pub counted : new.given ≡ old.given + length out
