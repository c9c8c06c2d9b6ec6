-- The bodies of errors as JSON values.
use Rattle.std.specs.Prelude.{ℕ, Option, None, Some, codes}
use Rattle.serde_json.specs.Data.{Data, Members, member, no_members, number, object, string, unsigned}
use Rattle.rest_replies.specs.declared.code.ErrorCode.{ErrorCode}
use Rattle.rest_replies.specs.Code.{code_text}

-- how many members of a list stand
abbrev pub stored_member : Option ℕ → Members
stored_member None = no_members
stored_member (Some stored) = member (codes "stored") (number (unsigned stored)) no_members

-- the code, and what stands behind it
abbrev pub code_member : ErrorCode → Option ℕ → Members
code_member code stored = member (codes "error") (string (code_text code)) (stored_member stored)

-- the object with the place of the fault, the code, and how many members of a list stand
abbrev pub error_value : ErrorCode → Option ℕ → Option ℕ → Data
error_value code None stored = object (code_member code stored)
error_value code (Some at) stored = object (member (codes "at") (number (unsigned at)) (code_member code stored))
