-- The lines that a script's lines are answered with.
use Rattle.std.specs.Prelude.{ℕ, ◌==◌, not, if◌then◌else◌, List, [], ◌++◌, length, codes}
use Rattle.std.specs.Fmt.{decimal}
use Rattle.rest_replies.specs.declared.status.HttpStatus.{HttpStatus}
use Rattle.rest_replies.specs.Response.{body_of}
use Rattle.rest_replies.specs.Status.{status_code}

-- a space and the body, where there is one
abbrev pub behind_space : List ℕ → List ℕ
behind_space body = (if not (length body == 0) then codes " " else []) ++ body

-- the number of the status, the body, a line feed
abbrev pub reply_line_text : HttpStatus → List ℕ → List ℕ
reply_line_text status body = decimal (status_code status) ++ behind_space (body_of status body) ++ codes "\n"
