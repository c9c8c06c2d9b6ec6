-- What the head of a request says of its body and of the connection, and why a head is refused.
use Rattle.std.specs.Prelude.{◌≡◌, ℕ, ◌==◌, ◌&&◌, ◌||◌, Bool, false, not, nat_lt, if◌then◌else◌, List, [], ◌∷◌, Option, None, Some, map, length, codes}
use Rattle.std.specs.Str.{bytes_eq}
use Rattle.gno_num.specs.Digits.{number_onto}
use Rattle.httparse.specs.Grammar.{RequestHead}
use Rattle.httparse.specs.Spans.{name_and_value}
use Rattle.http_conn.specs.declared.head.Head.{Head}
use Rattle.http_conn.specs.declared.head.HeadEnd.{HeadEnd}
use Rattle.http_conn.specs.declared.head.HeadEnd.TheVariants.{BadHead, Coding, NoLength, BodyTooLarge}
use Rattle.http_conn.specs.Fields.{Line, values_of, any_has_member, are_some_digits, are_all}

-- the header lines of a head
abbrev pub lines_of : RequestHead → List Line
lines_of h = map name_and_value h.fields

-- the values of `Content-Length`
abbrev pub lengths : List Line → List (List ℕ)
lengths lines = values_of (codes "content-length") lines

-- a version 1.1 without exactly one `Host`
abbrev pub lacks_host : ℕ → List Line → Bool
lacks_host minor lines = (minor == 1) && not (length (values_of (codes "host") lines) == 1)

-- the values aren't the same digits each
abbrev pub are_wrong : List (List ℕ) → Bool
are_wrong [] = false
are_wrong (value ∷ values) = not (are_some_digits value && are_all value values)

-- the number that the first value spells, 0 where there is none
abbrev pub number_of : List (List ℕ) → ℕ
number_of [] = 0
number_of (value ∷ values) = number_onto 0 value

-- the length of the body
abbrev pub body_length : List Line → ℕ
body_length lines = number_of (lengths lines)

-- a `Transfer-Encoding`
abbrev pub has_coding : List Line → Bool
has_coding lines = not (length (values_of (codes "transfer-encoding") lines) == 0)

-- a `POST` without a `Content-Length`
abbrev pub lacks_length : List ℕ → List Line → Bool
lacks_length method lines = bytes_eq method (codes "POST") && (length (lengths lines) == 0)

-- version 1.0, or a `Connection` with the member `close`
abbrev pub closes : ℕ → List Line → Bool
closes minor lines = (minor == 0) || any_has_member (codes "close") (values_of (codes "connection") lines)

-- version 1.1, a body, and an `Expect` with the member `100-continue`
abbrev pub wants_continue : ℕ → List Line → Bool
wants_continue minor lines =
    (minor == 1) && nat_lt 0 (body_length lines)
    && any_has_member (codes "100-continue") (values_of (codes "expect") lines)

-- why a head of this method, version and lines is refused, the first of the causes that hold
abbrev pub refusal_of : List ℕ → ℕ → List Line → Option HeadEnd
refusal_of method minor lines =
    if lacks_host minor lines || are_wrong (lengths lines) then Some BadHead
    else (if has_coding lines then Some Coding
    else (if lacks_length method lines then Some NoLength
    else (if nat_lt 4194304 (body_length lines) then Some BodyTooLarge
    else None)))

-- why the head is refused
abbrev pub refusal : RequestHead → Option HeadEnd
refusal h = refusal_of h.method h.minor (lines_of h)

-- the head isn't refused, and this is what is told of it
pub record IsHeadOf (h : RequestHead) (head : Head) : Type 0 where
  pub taken : refusal h ≡ None
  pub method : head.method.items ≡ h.method
  pub target : head.target.items ≡ h.target
  pub length : head.length ≡ body_length (lines_of h)
  pub close : head.close ≡ closes h.minor (lines_of h)
  pub wants_continue : head.wants_continue ≡ wants_continue h.minor (lines_of h)

-- the two tell the same of a head
pub record SameHead (one other : Head) : Type 0 where
  pub method : one.method.items ≡ other.method.items
  pub target : one.target.items ≡ other.target.items
  pub length : one.length ≡ other.length
  pub close : one.close ≡ other.close
  pub wants_continue : one.wants_continue ≡ other.wants_continue
