-- What `Content-Length` states, as it is read.
use Rattle.std.specs.Prelude.{◌≡◌, ℕ, ◌-◌, ◌^◌, ◌<◌, length, Bool, false, true, if◌then◌else◌, nat_lt, List, [], min, Result, Ok, Err}
use Rattle.http_conn.specs.declared.framing.Stated.{Stated}
use Rattle.http_conn.specs.declared.framing.Stated.TheVariants.{Nothing, Bytes, Wrong}
use Rattle.http_conn.specs.declared.head.HeadEnd.{HeadEnd}
use Rattle.http_conn.specs.declared.head.HeadEnd.TheVariants.{BadHead, Coding, NoLength, BodyTooLarge}
use Rattle.http_conn.specs.Fields.{Line}
use Rattle.http_conn.specs.Message.{lengths, are_wrong, number_of}

-- what the values of `Content-Length` come to
abbrev pub IsStated : List Line → Stated → Type 0
IsStated lines Nothing = lengths lines ≡ []
IsStated lines (Bytes n) = (0 < length (lengths lines)) × (are_wrong (lengths lines) ≡ false) × (n ≡ min (number_of (lengths lines)) (2 ^ 64 - 1))
IsStated lines Wrong = are_wrong (lengths lines) ≡ true

-- the length of a body by what is stated, whether a coding is, and whether the method is `POST`
abbrev pub LengthIs : Stated → Bool → Bool → Result ℕ HeadEnd → Type 0
LengthIs Wrong has_coding is_post r = r ≡ Err BadHead
LengthIs Nothing has_coding is_post r = r ≡ (if has_coding then Err Coding else (if is_post then Err NoLength else Ok 0))
LengthIs (Bytes n) has_coding is_post r = r ≡ (if has_coding then Err Coding else (if nat_lt 4194304 n then Err BodyTooLarge else Ok n))
