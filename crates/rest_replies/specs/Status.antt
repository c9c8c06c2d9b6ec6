-- The statuses of responses.
use Rattle.std.specs.Prelude.{ℕ, List, [], ◌∷◌, ◌++◌, codes}
use Rattle.std.specs.Fmt.{decimal}
use Rattle.rest_replies.specs.declared.status.HttpStatus.{HttpStatus}
use Rattle.rest_replies.specs.declared.status.HttpStatus.TheVariants.{Okay, Created, Accepted, NoContent, BadRequest, NotFound, MethodNotAllowed, Conflict, LengthRequired, ContentTooLarge, HeaderFieldsTooLarge, InternalError, NotImplemented, Unavailable, InsufficientStorage}

-- the number of a status
abbrev pub status_code : HttpStatus → ℕ
status_code Okay = 200
status_code Created = 201
status_code Accepted = 202
status_code NoContent = 204
status_code BadRequest = 400
status_code NotFound = 404
status_code MethodNotAllowed = 405
status_code Conflict = 409
status_code LengthRequired = 411
status_code ContentTooLarge = 413
status_code HeaderFieldsTooLarge = 431
status_code InternalError = 500
status_code NotImplemented = 501
status_code Unavailable = 503
status_code InsufficientStorage = 507

-- its phrase
abbrev pub status_phrase : HttpStatus → List ℕ
status_phrase Okay = codes "OK"
status_phrase Created = codes "Created"
status_phrase Accepted = codes "Accepted"
status_phrase NoContent = codes "No Content"
status_phrase BadRequest = codes "Bad Request"
status_phrase NotFound = codes "Not Found"
status_phrase MethodNotAllowed = codes "Method Not Allowed"
status_phrase Conflict = codes "Conflict"
status_phrase LengthRequired = codes "Length Required"
status_phrase ContentTooLarge = codes "Content Too Large"
status_phrase HeaderFieldsTooLarge = codes "Request Header Fields Too Large"
status_phrase InternalError = codes "Internal Server Error"
status_phrase NotImplemented = codes "Not Implemented"
status_phrase Unavailable = codes "Service Unavailable"
status_phrase InsufficientStorage = codes "Insufficient Storage"

-- what ends a line of a head: CR LF
abbrev pub line_end : List ℕ
line_end = 13 ∷ 10 ∷ []

-- the first line of a response: the version, the number, the phrase
abbrev pub status_line : HttpStatus → List ℕ
status_line status = codes "HTTP/1.1 " ++ decimal (status_code status) ++ codes " " ++ status_phrase status
