-- Responses: their lines, and byte for byte (RFC 9112).
use Rattle.std.specs.Prelude.{◌≢◌, ℕ, Bool, true, false, not, ◌==◌, if◌then◌else◌, List, [], ◌∷◌, ◌++◌, All, length, codes, None}
use Rattle.std.specs.List.{flat_map}
use Rattle.std.specs.Fmt.{decimal}
use Rattle.rest_replies.specs.declared.status.HttpStatus.{HttpStatus}
use Rattle.rest_replies.specs.declared.status.HttpStatus.TheVariants.{NoContent, MethodNotAllowed, InternalError}
use Rattle.rest_replies.specs.declared.code.ErrorCode.TheVariants.{Memory}
use Rattle.rest_replies.specs.ErrorBody.{error_text}
use Rattle.rest_replies.specs.Status.{line_end, status_line}

-- the body that goes with a status: a 204 has none, a 500 always the same one
abbrev pub body_of : HttpStatus → List ℕ → List ℕ
body_of NoContent body = []
body_of InternalError body = error_text Memory None None
body_of _ body = body

-- the body that is sent: none to a `HEAD`
abbrev pub body_sent : Bool → HttpStatus → List ℕ → List ℕ
body_sent is_head status body = if is_head then [] else body_of status body

-- a 405 names the methods of the route
abbrev pub has_allow : HttpStatus → Bool
has_allow MethodNotAllowed = true
has_allow _ = false

-- every response but a 204 tells the length of its body
abbrev pub has_length : HttpStatus → Bool
has_length NoContent = false
has_length _ = true

-- a line that isn't always there
abbrev pub line_if : Bool → List ℕ → List (List ℕ)
line_if is_there line = if is_there then line ∷ [] else []

-- the lines of a response with this body
abbrev pub head_lines : Bool → HttpStatus → List ℕ → List ℕ → List (List ℕ)
head_lines close status allow body =
    status_line status
    ∷ (line_if close (codes "Connection: close")
    ++ line_if (has_allow status) (codes "Allow: " ++ allow)
    ++ line_if (not (length body == 0)) (codes "Content-Type: application/json")
    ++ line_if (has_length status) (codes "Content-Length: " ++ decimal (length body)))

-- lines with their ends, and an empty one
abbrev pub head_text : List (List ℕ) → List ℕ
head_text lines = flat_map (λ line. line ++ line_end) lines ++ line_end

-- a response: its lines, an empty one, its body
abbrev pub response_text : Bool → Bool → HttpStatus → List ℕ → List ℕ → List ℕ
response_text is_head close status allow body =
    let sent = body_sent is_head status body in
    head_text (head_lines close status allow sent) ++ sent

-- what a client is sent that waits before it sends its body
abbrev pub continue_text : List ℕ
continue_text = head_text (codes "HTTP/1.1 100 Continue" ∷ [])

-- a line of a head: some bytes, none of them CR or LF
pub record IsHeadLine (line : List ℕ) : Type 0 where
  pub some : line ≢ []
  pub inside : All (λ b. (b ≢ 13) × (b ≢ 10)) line
