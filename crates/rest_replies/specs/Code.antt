-- The codes of refused requests.
use Rattle.std.specs.Prelude.{ℕ, List, codes}
use Rattle.rest_replies.specs.declared.status.HttpStatus.{HttpStatus}
use Rattle.rest_replies.specs.declared.status.HttpStatus.TheVariants.{BadRequest, NotFound, MethodNotAllowed, Conflict, LengthRequired, ContentTooLarge, HeaderFieldsTooLarge, NotImplemented, InternalError, Unavailable, InsufficientStorage}
use Rattle.rest_replies.specs.declared.code.ErrorCode.{ErrorCode}
use Rattle.rest_replies.specs.declared.code.ErrorCode.TheVariants.{Syntax, NotMeasure, BadId, BadTime, BeforeEpoch, TooLate, TooLong, NotANumber, TooLarge, TooMany, BadQuery, BadBody, BadName, BadSpan, SpanRange, BadAggregation, BackWindow, NoDefinition, TooManyDefinitions, TooFew, ZeroPoints, SpanMismatch, GranularityRange, PointsRange, SameGranularity, NotDividing, NoAggregationMethod, NoRule, BadLine, BadHead, NoRoute, MetricUnknown, PolicyUnknown, RuleUnknown, ResourceUnknown, NoAggregation, NoGranularity, NoMethod, PolicyExists, PolicyInUse, RuleExists, NameTaken, ResourceExists, ResourceInUse, IdTaken, NoLength, BodyTooLarge, HeadTooLarge, Coding, Memory, Disk, Damaged, Spent}

-- The table of codes: each one's status and text. `policy-unknown` and `resource-unknown` stand here
-- as codes of a name in the path.
abbrev pub code_row : ErrorCode → HttpStatus × List ℕ
code_row Syntax = (BadRequest, codes "syntax")
code_row NotMeasure = (BadRequest, codes "not-measure")
code_row BadId = (BadRequest, codes "bad-id")
code_row BadTime = (BadRequest, codes "bad-time")
code_row BeforeEpoch = (BadRequest, codes "before-epoch")
code_row TooLate = (BadRequest, codes "too-late")
code_row TooLong = (BadRequest, codes "too-long")
code_row NotANumber = (BadRequest, codes "not-a-number")
code_row TooLarge = (BadRequest, codes "too-large")
code_row TooMany = (BadRequest, codes "too-many")
code_row BadQuery = (BadRequest, codes "bad-query")
code_row BadBody = (BadRequest, codes "bad-body")
code_row BadName = (BadRequest, codes "bad-name")
code_row BadSpan = (BadRequest, codes "bad-span")
code_row SpanRange = (BadRequest, codes "span-range")
code_row BadAggregation = (BadRequest, codes "bad-aggregation")
code_row BackWindow = (BadRequest, codes "back-window")
code_row NoDefinition = (BadRequest, codes "no-definition")
code_row TooManyDefinitions = (BadRequest, codes "too-many-definitions")
code_row TooFew = (BadRequest, codes "too-few")
code_row ZeroPoints = (BadRequest, codes "zero-points")
code_row SpanMismatch = (BadRequest, codes "span-mismatch")
code_row GranularityRange = (BadRequest, codes "granularity-range")
code_row PointsRange = (BadRequest, codes "points-range")
code_row SameGranularity = (BadRequest, codes "same-granularity")
code_row NotDividing = (BadRequest, codes "not-dividing")
code_row NoAggregationMethod = (BadRequest, codes "no-aggregation-method")
code_row NoRule = (BadRequest, codes "no-rule")
code_row BadLine = (BadRequest, codes "bad-line")
code_row BadHead = (BadRequest, codes "bad-head")
code_row NoRoute = (NotFound, codes "no-route")
code_row MetricUnknown = (NotFound, codes "metric-unknown")
code_row PolicyUnknown = (NotFound, codes "policy-unknown")
code_row RuleUnknown = (NotFound, codes "rule-unknown")
code_row ResourceUnknown = (NotFound, codes "resource-unknown")
code_row NoAggregation = (NotFound, codes "no-aggregation")
code_row NoGranularity = (NotFound, codes "no-granularity")
code_row NoMethod = (MethodNotAllowed, codes "method")
code_row PolicyExists = (Conflict, codes "policy-exists")
code_row PolicyInUse = (Conflict, codes "policy-in-use")
code_row RuleExists = (Conflict, codes "rule-exists")
code_row NameTaken = (Conflict, codes "name-taken")
code_row ResourceExists = (Conflict, codes "resource-exists")
code_row ResourceInUse = (Conflict, codes "resource-in-use")
code_row IdTaken = (Conflict, codes "id-taken")
code_row NoLength = (LengthRequired, codes "no-length")
code_row BodyTooLarge = (ContentTooLarge, codes "body-too-large")
code_row HeadTooLarge = (HeaderFieldsTooLarge, codes "head-too-large")
code_row Coding = (NotImplemented, codes "coding")
code_row Memory = (InternalError, codes "memory")
code_row Disk = (Unavailable, codes "disk")
code_row Damaged = (Unavailable, codes "damaged")
code_row Spent = (InsufficientStorage, codes "spent")

-- the status of a code
abbrev pub code_status : ErrorCode → HttpStatus
code_status code = (code_row code).0

-- the text of a code
abbrev pub code_text : ErrorCode → List ℕ
code_text code = (code_row code).1
