-- Which head, or which end, is the answer to bytes.
use Rattle.std.specs.Prelude.{◌≡◌, ℕ, ◌+◌, ◌-◌, ◌^◌, ◌<◌, ◌≤◌, ◌⊎◌, ◌==◌, ◌&&◌, nat_le, if◌then◌else◌, min, List, [], ◌++◌, length, take, Option, Some, Result, Ok, Err, ⊤}
use Rattle.std.specs.Io.KnownBytes.{IsAtEnd, Keeps}
use Rattle.httparse.specs.Grammar.{RequestHead, IsRequestHead, print_request, ReadsRequest, HasNoRequest, NeverHasRequest, MayBecomeRequest, EndsInTarget}
use Rattle.http_conn.specs.declared.head.Head.{Head}
use Rattle.http_conn.specs.declared.head.HeadEnd.{HeadEnd}
use Rattle.http_conn.specs.declared.head.HeadEnd.TheVariants.{End, Cut, BadHead, HeadTooLarge, Coding, NoLength, BodyTooLarge, TooMuch, ReadFault, Memory}
use Rattle.http_conn.specs.Bytes.{Held, GivesOut}
use Rattle.http_conn.specs.Message.{refusal, IsHeadOf, SameHead}

-- a head doesn't stand at the front of the bytes, and may yet come
pub record IsOpen (bytes : List ℕ) : Type 0 where
  pub none_yet : HasNoRequest bytes
  pub may_come : MayBecomeRequest bytes

-- No more was read than was needed: nothing, or no head stood yet before the last piece came.
pub data IsSparing (held seen : List ℕ) : Type 0 where
  nothing_read : seen ≡ held → IsSparing held seen
  last_read : (before piece : List ℕ) → seen ≡ before ++ piece → IsOpen before → IsSparing held seen

-- the bytes of a head of at most 16,384 bytes are given out, and this is told of it
pub record GivesHead (old new : Held) (before after : Option (List ℕ)) (answer : Head) : Type 0 where
  pub head : RequestHead
  pub is_head : IsRequestHead head
  pub fits : length (print_request head) ≤ 16384
  pub told : IsHeadOf head answer
  pub sparing : IsSparing old.bytes (print_request head ++ new.bytes)
  pub out : GivesOut old new before after (print_request head)

-- a head of at most this many bytes stands at the front, and is refused for this
pub record IsRefused (most : ℕ) (bytes : List ℕ) (cause : HeadEnd) : Type 0 where
  pub head : RequestHead
  pub rest : List ℕ
  pub reads : ReadsRequest bytes head rest
  pub fits : length (print_request head) ≤ most
  pub refused : refusal head ≡ Some cause

-- a head of at most this many bytes stands at the front, and is given
pub record IsGiven (most : ℕ) (bytes : List ℕ) (answer : Head) (rest : List ℕ) : Type 0 where
  pub head : RequestHead
  pub reads : ReadsRequest bytes head rest
  pub fits : length (print_request head) ≤ most
  pub told : IsHeadOf head answer

-- more bytes may be taken: fewer than 16,384 are held, and fewer than 2 ^ 40 came
pub record HasRoom (held : Held) : Type 0 where
  pub few_held : length held.bytes < 16384
  pub few_came : held.given + length held.bytes < 2 ^ 40

-- why no head is given, by the bytes held, whose source has so many left, and the number of those
-- that were given out before them
abbrev pub Ends : HeadEnd → Held → Option (List ℕ) → Type 0
Ends End held left = (held.bytes ≡ []) × IsOpen held.bytes × HasRoom held × IsAtEnd left
Ends Cut held left = (0 < length held.bytes) × IsOpen held.bytes × HasRoom held × IsAtEnd left
Ends BadHead held left = NeverHasRequest held.bytes ⊎ IsRefused 16384 held.bytes BadHead
Ends HeadTooLarge held left = IsOpen held.bytes × (length held.bytes ≡ 16384)
Ends Coding held left = IsRefused 16384 held.bytes Coding
Ends NoLength held left = IsRefused 16384 held.bytes NoLength
Ends BodyTooLarge held left = IsRefused 16384 held.bytes BodyTooLarge
Ends TooMuch held left = IsOpen held.bytes × (length held.bytes < 16384) × (held.given + length held.bytes ≡ 2 ^ 40)
Ends ReadFault held left = IsOpen held.bytes
Ends Memory held left = ⊤

-- why the bytes held give no head, as far as they say
abbrev pub IsNoHead : HeadEnd → List ℕ → Type 0
IsNoHead End bytes = ⊥
IsNoHead Cut bytes = ⊥
IsNoHead BadHead bytes = NeverHasRequest bytes ⊎ IsRefused 16384 bytes BadHead
IsNoHead HeadTooLarge bytes = ⊥
IsNoHead Coding bytes = IsRefused 16384 bytes Coding
IsNoHead NoLength bytes = IsRefused 16384 bytes NoLength
IsNoHead BodyTooLarge bytes = IsRefused 16384 bytes BodyTooLarge
IsNoHead TooMuch bytes = ⊥
IsNoHead ReadFault bytes = ⊥
IsNoHead Memory bytes = ⊤

-- fewer bytes than the body has came, and none are held
pub record IsShort (size : ℕ) (old new : Held) : Type 0 where
  pub fewer : new.given < old.given + size
  pub none_held : new.bytes ≡ []

-- why a body of this size isn't given: fewer bytes came, and all of them are gone, or nothing was done
abbrev pub EndsBody : HeadEnd → ℕ → Held → Held → Option (List ℕ) → Option (List ℕ) → Type 0
EndsBody End size old new before after = ⊥
EndsBody Cut size old new before after = IsShort size old new × IsAtEnd after
EndsBody BadHead size old new before after = ⊥
EndsBody HeadTooLarge size old new before after = ⊥
EndsBody Coding size old new before after = ⊥
EndsBody NoLength size old new before after = ⊥
EndsBody BodyTooLarge size old new before after = ⊥
EndsBody TooMuch size old new before after = IsShort size old new × (new.given ≡ 2 ^ 40)
EndsBody ReadFault size old new before after = IsShort size old new
EndsBody Memory size old new before after = (new ≡ old) × Keeps before after

-- how far a head may reach: 16,384 bytes, and 2 ^ 40 of a connection
abbrev pub reach : ℕ → ℕ
reach given = min 16384 (2 ^ 40 - given)

-- the bytes of an input that a head may stand in
abbrev pub window : ℕ → List ℕ → List ℕ
window given input = take (reach given) input

-- what is told of an input in which a head may yet come: its first 16,384 bytes are there, 2 ^ 40
-- bytes of the connection came, or it ends
abbrev pub open_end : ℕ → List ℕ → HeadEnd
open_end given input =
    if nat_le 16384 (length input) && nat_le (given + 16384) (2 ^ 40) then HeadTooLarge
    else (if nat_le (2 ^ 40) (given + length input) then TooMuch
    else (if length input == 0 then End
    else Cut))

-- why no head is given of an input that goes on as these bytes, after so many that were given out
pub data EndsOf (given : ℕ) (input : List ℕ) (end : HeadEnd) : Type 0 where
  refused : IsRefused (reach given) input end → EndsOf given input end
  never : NeverHasRequest (window given input) → end ≡ BadHead → EndsOf given input end
  open_yet : IsOpen (window given input) → end ≡ open_end given input → EndsOf given input end
  no_memory : end ≡ Memory → EndsOf given input end
  source_failed : end ≡ ReadFault → EndsOf given input end

-- The answer to an input that goes on as these bytes, after so many that were given out, and what
-- is left of it.
abbrev pub Answers : ℕ → List ℕ → Result Head HeadEnd → List ℕ → Type 0
Answers given input (Ok head) rest = IsGiven (reach given) input head rest
Answers given input (Err end) rest = EndsOf given input end × (rest ≡ input)

-- what may come in place of any other answer
abbrev pub IsFree : HeadEnd → Type 0
IsFree end = (end ≡ Memory) ⊎ (end ≡ ReadFault)

-- one of the two says that no head can come, the other that one may, of bytes that end inside a
-- target that isn't UTF-8
pub record InTarget (given : ℕ) (input : List ℕ) (one other : HeadEnd) : Type 0 where
  pub bad : one ≡ BadHead
  pub may : other ≡ open_end given input
  pub target : EndsInTarget (window given input)

-- two ends of one input are one, where neither is free
pub data SameEnd (given : ℕ) (input : List ℕ) (one other : HeadEnd) : Type 0 where
  same : one ≡ other → SameEnd given input one other
  one_free : IsFree one → SameEnd given input one other
  other_free : IsFree other → SameEnd given input one other
  one_in_target : InTarget given input one other → SameEnd given input one other
  other_in_target : InTarget given input other one → SameEnd given input one other

-- two answers to one input are one, and leave the same, where neither is free
abbrev pub Agree : ℕ → List ℕ → Result Head HeadEnd → List ℕ → Result Head HeadEnd → List ℕ → Type 0
Agree given input (Ok one) rest (Ok other) more = SameHead one other × (rest ≡ more)
Agree given input (Ok one) rest (Err other) more = IsFree other
Agree given input (Err one) rest (Ok other) more = IsFree one
Agree given input (Err one) rest (Err other) more = SameEnd given input one other
