-- The bodies of errors, byte for byte.
use Rattle.std.specs.Prelude.{ℕ, List, [], ◌++◌, Option, None, Some, codes}
use Rattle.std.specs.Fmt.{decimal}
use Rattle.rest_replies.specs.declared.code.ErrorCode.{ErrorCode}
use Rattle.rest_replies.specs.Code.{code_text}

-- the place of the fault, and a comma
abbrev pub at_text : Option ℕ → List ℕ
at_text None = []
at_text (Some at) = codes "\"at\":" ++ decimal at ++ codes ","

-- a comma, and how many members of a list stand
abbrev pub stored_text : Option ℕ → List ℕ
stored_text None = []
stored_text (Some stored) = codes ",\"stored\":" ++ decimal stored

-- `{"at":24,"error":"too-large"}`, `{"error":"metric-unknown","stored":1}`
abbrev pub error_text : ErrorCode → Option ℕ → Option ℕ → List ℕ
error_text code at stored =
    codes "{" ++ at_text at ++ codes "\"error\":\"" ++ code_text code ++ codes "\"" ++ stored_text stored ++ codes "}"

-- `{"jobs":1}`
abbrev pub jobs_text : ℕ → List ℕ
jobs_text jobs = codes "{\"jobs\":" ++ decimal jobs ++ codes "}"
