-- From the bytes of a body to its JSON value.
use Rattle.std.specs.Prelude.{ℕ, if◌then◌else◌, List, Option, None, Result, Ok, Err}
use Rattle.std.specs.Str.{is_utf8}
use Rattle.serde_json.specs.Data.{Data}
use Rattle.serde_json.specs.Read.{read}
use Rattle.control_docs.specs.declared.fault.ControlBodyFault.{ControlBodyFault}
use Rattle.control_docs.specs.declared.fault.ControlBodyFault.TheVariants.{BadBody}
use Rattle.control_docs.specs.declared.shape.Shape.{Shape}
use Rattle.control_docs.specs.Fault.{◌>>=◌, found_or}
use Rattle.control_docs.specs.Shape.{is_body}

-- the JSON value that a body is, as `serde_json` reads it
unfoldable pub body_value : List ℕ → Option Data
body_value body = if is_utf8 body then read body else None

-- the value, if it is one of a body of this shape
abbrev pub shaped : Shape → Data → Result Data ControlBodyFault
shaped shape d = if is_body shape d then Ok d else Err BadBody

-- the value of a body of this shape
abbrev pub body_read : Shape → List ℕ → Result Data ControlBodyFault
body_read shape body = found_or BadBody (body_value body) >>= shaped shape

-- what a body of this shape reads as by rules over its value
abbrev pub read_by : {A : Type 0} → Shape → (Data → Result A ControlBodyFault) → List ℕ → Result A ControlBodyFault
read_by shape rules body = body_read shape body >>= rules
