-- How a connection ends, and what it was.
use Rattle.std.specs.Prelude.{◌≡◌, ℕ, ◌<◌, ◌≤◌, ◌+◌, ◌^◌, true, false, List, [], ◌++◌, length, Option, None, Some, ⊤}
use Rattle.std.specs.List.{All, flat_map}
use Rattle.std.specs.Io.KnownBytes.{Appends, Consumes, IsAtEnd}
use Rattle.front_api.specs.Seen.{LeadsTo, SeenBooks}
use Rattle.http_conn.specs.Answer.{Ends}
use Rattle.http_conn.specs.Bytes.{GivesOut, Held}
use Rattle.http_conn.specs.declared.head.HeadEnd.{HeadEnd}
use Rattle.http_conn.specs.declared.head.HeadEnd.TheVariants as heads
use Rattle.httparse.specs.Grammar.{RequestHead, print_request}
use Rattle.rest_api.specs.Doing.{TellsError}
use Rattle.rest_api.specs.Message.{Converses, GoesOnBehind, IsMessage, IsResponse, IsTaken, Message, RespondsTo, body_size, continue_for, is_last, message_bytes}
use Rattle.rest_api.specs.declared.conn_end.ConnEnd.{ConnEnd}
use Rattle.rest_api.specs.declared.conn_end.ConnEnd.TheVariants.{Ended, Closed, Refused, Cut, TooMuch, ReadFault, WriteFault, Memory}
use Rattle.rest_replies.specs.Faults.{head_error}
use Rattle.rest_replies.specs.declared.error.RestError.{RestError}
use Rattle.rest_replies.specs.declared.handled.Handled.{Handled}

-- how the connection ends where no head, or no body, came
abbrev pub end_of : HeadEnd → ConnEnd
end_of heads.End = Ended
end_of heads.Cut = Cut
end_of heads.BadHead = Refused
end_of heads.HeadTooLarge = Refused
end_of heads.Coding = Refused
end_of heads.NoLength = Refused
end_of heads.BodyTooLarge = Refused
end_of heads.TooMuch = TooMuch
end_of heads.ReadFault = ReadFault
end_of heads.Memory = Memory

-- why a body of this size didn't come, of which this part did, behind so many bytes
abbrev pub EndsInBody : HeadEnd → ℕ → ℕ → List ℕ → Option (List ℕ) → Type 0
EndsInBody heads.End size given part left = ⊥
EndsInBody heads.Cut size given part left = (length part < size) × IsAtEnd left
EndsInBody heads.BadHead size given part left = ⊥
EndsInBody heads.HeadTooLarge size given part left = ⊥
EndsInBody heads.Coding size given part left = ⊥
EndsInBody heads.NoLength size given part left = ⊥
EndsInBody heads.BodyTooLarge size given part left = ⊥
EndsInBody heads.TooMuch size given part left = (length part < size) × (given + length part ≡ 2 ^ 40)
EndsInBody heads.ReadFault size given part left = length part < size
EndsInBody heads.Memory size given part left = ⊤

-- The bytes begin with the head of a message, whose body may not have come.
pub record BeginsMessage (bytes : List ℕ) (head : RequestHead) (behind : List ℕ) : Type 0 where
  pub taken : IsTaken head
  pub whole : bytes ≡ print_request head ++ behind

-- the bytes begin with a message
pub record HasMessage (bytes : List ℕ) (m : Message) : Type 0 where
  pub message : IsMessage m
  pub rest : List ℕ
  pub whole : bytes ≡ message_bytes m ++ rest

-- No head comes of the bytes, behind so many, and this is what is told of it.
pub record IsRefusal (given : ℕ) (bytes : List ℕ) (left : Option (List ℕ)) (text : List ℕ) : Type 0 where
  pub cause : HeadEnd
  pub error : RestError
  pub answer : Handled
  pub is_told : head_error cause ≡ Some error
  pub ends : Ends cause (record { bytes = bytes; given = given }) left
  pub tells : TellsError error None answer
  pub response : IsResponse false true answer text

-- What is to be written for bytes behind the messages that were answered: what a client waits for that sends a message, a
-- response behind that, or that a head is refused.
pub data IsDue (given : ℕ) (bytes : List ℕ) (left : Option (List ℕ)) : List ℕ → SeenBooks → SeenBooks → Type 0 where
  to_go_on : (head : RequestHead) (behind : List ℕ) (books : SeenBooks) → BeginsMessage bytes head behind
      → IsDue given bytes left (continue_for head) books books
  response : (m : Message) (text : List ℕ) (old new : SeenBooks) → HasMessage bytes m → RespondsTo m text old new
      → IsDue given bytes left (continue_for m.head ++ text) old new
  refusal : (text : List ℕ) (books : SeenBooks) → IsRefusal given bytes left text → IsDue given bytes left text books books

-- How a connection ends, by the bytes behind the messages that were answered, which came behind so many, by what the
-- source has left, and by what was written for them.
pub data EndsSo (given : ℕ) (bytes : List ℕ) (left : Option (List ℕ)) : ConnEnd → List ℕ → SeenBooks → SeenBooks → Type 0 where
  -- no head came
  no_head : (cause : HeadEnd) (books : SeenBooks) → head_error cause ≡ None → Ends cause (record { bytes = bytes; given = given }) left
      → EndsSo given bytes left (end_of cause) [] books books
  -- a head is refused
  refused : (text : List ℕ) (books : SeenBooks) → IsRefusal given bytes left text → EndsSo given bytes left Refused text books books
  -- a body didn't come
  no_body : (cause : HeadEnd) (head : RequestHead) (part : List ℕ) (books : SeenBooks) → BeginsMessage bytes head part
      → EndsInBody cause (body_size head) (given + length (print_request head)) part left
      → EndsSo given bytes left (end_of cause) (continue_for head) books books
  -- a message was answered behind which the connection closes
  closed : (m : Message) (text : List ℕ) (old new : SeenBooks) → HasMessage bytes m → is_last m.head ≡ true → RespondsTo m text old new
      → EndsSo given bytes left Closed (continue_for m.head ++ text) old new
  -- the sink failed, and only the first part was written
  unwritten : (text more : List ℕ) (old new : SeenBooks) → IsDue given bytes left (text ++ more) old new
      → EndsSo given bytes left WriteFault text old new
  -- as many messages came as there may be bytes, so 2 ^ 40 bytes were taken
  too_many : (books : SeenBooks) → 2 ^ 40 ≤ given + length bytes → EndsSo given bytes left TooMuch [] books books

-- the messages, which were answered, and how the connection ended behind them
pub record Conversed (messages : List Message) (behind : List ℕ) (left : Option (List ℕ)) (end : ConnEnd) (answered last : List ℕ) (old new : SeenBooks) : Type 0 where
  pub mid : SeenBooks
  pub messages_are : Converses messages answered old mid
  pub ends : EndsSo (length (flat_map message_bytes messages)) behind left end last mid new

-- A connection from its first byte to its end: the bytes taken are messages, behind each of which it goes on, and then
-- others; what was written is what is written for the messages, and then for the others.
pub record Serves {F : Type 0} (stands : F → SeenBooks → Type 0) (old new : F) (left_before left_after taken_before taken_after : Option (List ℕ)) (end : ConnEnd) : Type 0 where
  pub input : List ℕ
  pub messages : List Message
  pub behind : List ℕ
  pub answered : List ℕ
  pub last : List ℕ
  pub from_source : Consumes left_before left_after input
  pub whole : input ≡ flat_map message_bytes messages ++ behind
  pub each : All GoesOnBehind messages
  pub written : Appends taken_before taken_after (answered ++ last)
  pub leads : LeadsTo stands old new (Conversed messages behind left_after end answered last)

-- ---- one message more, or the end

-- A message was taken of a connection, which goes on behind it, and this was written for it.
pub record GoesOn {F : Type 0} (stands : F → SeenBooks → Type 0) (old new : F) (before after : Held) (left_before left_after taken_before taken_after : Option (List ℕ)) : Type 0 where
  pub message : Message
  pub response : List ℕ
  pub goes_on : GoesOnBehind message
  pub out : GivesOut before after left_before left_after (message_bytes message)
  pub written : Appends taken_before taken_after (continue_for message.head ++ response)
  pub leads : LeadsTo stands old new (RespondsTo message response)

-- Behind so many bytes, and with these held, a connection ended.
pub record Stops {F : Type 0} (stands : F → SeenBooks → Type 0) (old new : F) (given : ℕ) (held : List ℕ) (left_before left_after taken_before taken_after : Option (List ℕ)) (end : ConnEnd) : Type 0 where
  pub input : List ℕ
  pub last : List ℕ
  pub from_source : Consumes left_before left_after input
  pub written : Appends taken_before taken_after last
  pub leads : LeadsTo stands old new (EndsSo given (held ++ input) left_after end last)

-- The body of a message with this head was taken, and its response was written, and the connection goes on.
pub record GoesOnFrom {F : Type 0} (stands : F → SeenBooks → Type 0) (old new : F) (head : RequestHead) (before after : Held) (left_before left_after taken_before taken_after : Option (List ℕ)) : Type 0 where
  pub body : List ℕ
  pub response : List ℕ
  pub size : length body ≡ body_size head
  pub stays : is_last head ≡ false
  pub out : GivesOut before after left_before left_after body
  pub written : Appends taken_before taken_after (continue_for head ++ response)
  pub leads : LeadsTo stands old new (RespondsTo (record { head = head; body = body }) response)

-- a response was written, the whole of it
pub record Writes {F : Type 0} (stands : F → SeenBooks → Type 0) (old new : F) (Does : List ℕ → SeenBooks → SeenBooks → Type 0) (taken_before taken_after : Option (List ℕ)) : Type 0 where
  pub text : List ℕ
  pub written : Appends taken_before taken_after text
  pub leads : LeadsTo stands old new (Does text)

-- the sink failed, and only a first part was written
pub record WritesFront {F : Type 0} (stands : F → SeenBooks → Type 0) (old new : F) (Does : List ℕ → SeenBooks → SeenBooks → Type 0) (taken_before taken_after : Option (List ℕ)) : Type 0 where
  pub text : List ℕ
  pub more : List ℕ
  pub written : Appends taken_before taken_after text
  pub leads : LeadsTo stands old new (Does (text ++ more))
