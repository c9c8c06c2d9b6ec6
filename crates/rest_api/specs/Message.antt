-- The messages of a connection, and what is written for them.
use Rattle.std.specs.Prelude.{◌≡◌, ℕ, ◌≤◌, Bool, false, if◌then◌else◌, List, [], ◌∷◌, ◌++◌, length, None, codes}
use Rattle.std.specs.Str.{bytes_eq}
use Rattle.front_api.specs.Seen.{SeenBooks}
use Rattle.http_conn.specs.Message.{body_length, closes, lines_of, refusal, wants_continue}
use Rattle.httparse.specs.Grammar.{IsRequestHead, RequestHead, print_request}
use Rattle.rest_api.specs.Handling.{Handles}
use Rattle.rest_replies.specs.Response.{continue_text, response_text}
use Rattle.rest_replies.specs.declared.handled.Handled.{Handled}
use Rattle.rest_replies.specs.declared.status.HttpStatus.TheVariants.{InternalError}

-- a request as it comes: its head and its body
pub record Message : Type 0 where
  pub head : RequestHead
  pub body : List ℕ

-- the head is in the grammar, has at most 16,384 bytes, and isn't refused
pub record IsTaken (head : RequestHead) : Type 0 where
  pub grammar : IsRequestHead head
  pub fits : length (print_request head) ≤ 16384
  pub taken : refusal head ≡ None

-- how many bytes its body has, and whether the connection closes behind it
abbrev pub body_size : RequestHead → ℕ
body_size head = body_length (lines_of head)

abbrev pub is_last : RequestHead → Bool
is_last head = closes head.minor (lines_of head)

-- the head is taken, and the body has the length that it says
pub record IsMessage (m : Message) : Type 0 where
  pub head : IsTaken m.head
  pub size : length m.body ≡ body_size m.head

-- the connection goes on behind the message
pub record GoesOnBehind (m : Message) : Type 0 where
  pub message : IsMessage m
  pub stays : is_last m.head ≡ false

-- the bytes of a message
abbrev pub message_bytes : Message → List ℕ
message_bytes m = print_request m.head ++ m.body

-- the method is `HEAD`
abbrev pub asks_head : List ℕ → Bool
asks_head method = bytes_eq method (codes "HEAD")

-- what a client is sent that waits before it sends the body
abbrev pub continue_if : Bool → List ℕ
continue_if waits = if waits then continue_text else []

abbrev pub continue_for : RequestHead → List ℕ
continue_for head = continue_if (wants_continue head.minor (lines_of head))

-- the response with this answer, or the one that there was no memory
pub data IsResponse (is_head close : Bool) (answer : Handled) (text : List ℕ) : Type 0 where
  told : text ≡ response_text is_head close answer.status answer.allow.now answer.body.items → IsResponse is_head close answer text
  starved : text ≡ response_text is_head close InternalError [] [] → IsResponse is_head close answer text

-- a request is handled, and this is the response, behind which the connection may close
pub record Responds (method target body : List ℕ) (close : Bool) (text : List ℕ) (old new : SeenBooks) : Type 0 where
  pub answer : Handled
  pub handles : Handles method target body answer old new
  pub response : IsResponse (asks_head method) close answer text

-- the same of a message
abbrev pub RespondsTo : Message → List ℕ → SeenBooks → SeenBooks → Type 0
RespondsTo m text old new = Responds m.head.method m.head.target m.body (is_last m.head) text old new

-- Messages are handled one after another, and this is what is written for them: before the response to each, what its
-- client waits for.
pub data Converses : List Message → List ℕ → SeenBooks → SeenBooks → Type 0 where
  nothing : (books : SeenBooks) → Converses [] [] books books
  one_more : (messages : List Message) (m : Message) (text response : List ℕ) (old mid new : SeenBooks)
      → Converses messages text old mid → RespondsTo m response mid new
      → Converses (messages ++ m ∷ []) (text ++ (continue_for m.head ++ response)) old new
