-- Why a request is refused.
use Rattle.std.specs.Prelude.{ℕ, None, Some}
use Rattle.rest_replies.specs.declared.status.HttpStatus.TheVariants.{BadRequest}
use Rattle.rest_replies.specs.declared.code.ErrorCode.{ErrorCode}
use Rattle.rest_replies.specs.declared.error.RestError.{RestError}
use Rattle.rest_replies.specs.Code.{code_status}

-- a code with its status
abbrev pub plain_error : ErrorCode → RestError
plain_error code = record { status = code_status code; code = code; at = None }

-- a code with its status and a place in the body
abbrev pub placed_error : ErrorCode → ℕ → RestError
placed_error code at = record { status = code_status code; code = code; at = Some at }

-- the code of a name that stands in the body: the body is at fault
abbrev pub named_error : ErrorCode → RestError
named_error code = record { status = BadRequest; code = code; at = None }
