-- Which error is told for which fault.
use Rattle.std.specs.Prelude.{Option, None, Some}
use Rattle.archive_policy.specs.declared.fault.PolicyFault.{PolicyFault}
use Rattle.archive_policy.specs.declared.fault.PolicyFault.TheVariants as policies
use Rattle.control_docs.specs.declared.fault.ControlBodyFault.{ControlBodyFault}
use Rattle.control_docs.specs.declared.fault.ControlBodyFault.TheVariants as documents
use Rattle.front_api.specs.declared.fault.ControlFault.{ControlFault}
use Rattle.front_api.specs.declared.fault.ControlFault.TheVariants as commands
use Rattle.gno_num.specs.declared.read.NumFault.{NumFault}
use Rattle.gno_num.specs.declared.read.NumFault.TheVariants as numbers
use Rattle.gno_time.specs.declared.stamp.TimeFault.{TimeFault}
use Rattle.gno_time.specs.declared.stamp.TimeFault.TheVariants as times
use Rattle.http_conn.specs.declared.head.HeadEnd.{HeadEnd}
use Rattle.http_conn.specs.declared.head.HeadEnd.TheVariants as heads
use Rattle.measure_json.specs.declared.fault.BodyFault.{BodyFault}
use Rattle.measure_json.specs.declared.fault.BodyFault.TheVariants as bodies
use Rattle.measure_json.specs.declared.fault.JsonKind.{JsonKind}
use Rattle.measure_json.specs.declared.fault.JsonKind.TheVariants as kinds
use Rattle.measure_query.specs.declared.query.QueryFault.{QueryFault}
use Rattle.measure_query.specs.declared.query.QueryFault.TheVariants as queries
use Rattle.sack_history.specs.declared.fault.SackFault.{SackFault}
use Rattle.sack_history.specs.declared.fault.SackFault.TheVariants as posts
use Rattle.sack_history.specs.declared.fault.AnswerFault.{AnswerFault}
use Rattle.sack_history.specs.declared.fault.AnswerFault.TheVariants as answers
use Rattle.rest_replies.specs.declared.code.ErrorCode.{ErrorCode}
use Rattle.rest_replies.specs.declared.code.ErrorCode.TheVariants as is
use Rattle.rest_replies.specs.declared.faults.NamedIn.{NamedIn}
use Rattle.rest_replies.specs.declared.faults.NamedIn.TheVariants.{Path, Body, Both}
use Rattle.rest_replies.specs.declared.error.RestError.{RestError}
use Rattle.rest_replies.specs.Error.{plain_error, placed_error, named_error}

-- what is told of a fault of a post, a refresh or a drain
abbrev pub sack_error : SackFault → RestError
sack_error posts.Unknown = plain_error is.MetricUnknown
sack_error (posts.Spent spent) = plain_error is.Spent
sack_error (posts.DiskFault fault) = plain_error is.Disk
sack_error (posts.Damaged damage) = plain_error is.Damaged
sack_error posts.Memory = plain_error is.Memory

-- what is told of a fault of a read
abbrev pub answer_error : AnswerFault → RestError
answer_error answers.Unknown = plain_error is.MetricUnknown
answer_error answers.NoAggregation = plain_error is.NoAggregation
answer_error answers.NoGranularity = plain_error is.NoGranularity
answer_error (answers.Spent spent) = plain_error is.Spent
answer_error (answers.DiskFault fault) = plain_error is.Disk
answer_error (answers.Damaged damage) = plain_error is.Damaged
answer_error answers.Memory = plain_error is.Memory

-- what is told of an unknown policy
abbrev pub unknown_policy : NamedIn → RestError
unknown_policy Path = plain_error is.PolicyUnknown
unknown_policy Body = named_error is.PolicyUnknown
unknown_policy Both = named_error is.PolicyUnknown

-- what is told of an unknown resource
abbrev pub unknown_resource : NamedIn → RestError
unknown_resource Path = plain_error is.ResourceUnknown
unknown_resource Body = named_error is.ResourceUnknown
unknown_resource Both = plain_error is.ResourceUnknown

-- what is told of a refused command, by where its names stand
abbrev pub control_error : NamedIn → ControlFault → RestError
control_error named commands.PolicyExists = plain_error is.PolicyExists
control_error named commands.PolicyUnknown = unknown_policy named
control_error named commands.PolicyInUse = plain_error is.PolicyInUse
control_error named commands.RuleExists = plain_error is.RuleExists
control_error named commands.RuleUnknown = plain_error is.RuleUnknown
control_error named commands.NoRule = plain_error is.NoRule
control_error named commands.NameTaken = plain_error is.NameTaken
control_error named commands.MetricUnknown = plain_error is.MetricUnknown
control_error named commands.ResourceExists = plain_error is.ResourceExists
control_error named commands.ResourceUnknown = unknown_resource named
control_error named commands.ResourceInUse = plain_error is.ResourceInUse
control_error named (commands.IdTaken id) = plain_error is.IdTaken
control_error named (commands.Spent spent) = plain_error is.Spent
control_error named (commands.DiskFault fault) = plain_error is.Disk
control_error named (commands.Damaged damage) = plain_error is.Damaged
control_error named commands.Memory = plain_error is.Memory

-- the code of a faulty time
abbrev pub time_code : TimeFault → ErrorCode
time_code times.BadTime = is.BadTime
time_code times.BeforeEpoch = is.BeforeEpoch
time_code times.TooLate = is.TooLate

-- the code of a faulty number
abbrev pub number_code : NumFault → ErrorCode
number_code numbers.TooLong = is.TooLong
number_code numbers.NotANumber = is.NotANumber
number_code numbers.TooLarge = is.TooLarge

-- the code of what is wrong with a body of measures
abbrev pub json_code : JsonKind → ErrorCode
json_code kinds.Syntax = is.Syntax
json_code kinds.NotMeasure = is.NotMeasure
json_code kinds.BadId = is.BadId
json_code (kinds.Time fault) = time_code fault
json_code (kinds.Number fault) = number_code fault
json_code kinds.TooMany = is.TooMany

-- what is told of a faulty body of measures
abbrev pub body_error : BodyFault → RestError
body_error (bodies.Json at kind) = placed_error (json_code kind) at
body_error bodies.Memory = plain_error is.Memory

-- what is told of a faulty query
abbrev pub query_error : QueryFault → RestError
query_error queries.BadQuery = plain_error is.BadQuery
query_error queries.Memory = plain_error is.Memory

-- the code of a policy that can't be
abbrev pub policy_code : PolicyFault → ErrorCode
policy_code policies.BackWindow = is.BackWindow
policy_code policies.NoDefinition = is.NoDefinition
policy_code policies.TooMany = is.TooManyDefinitions
policy_code policies.TooFew = is.TooFew
policy_code policies.ZeroPoints = is.ZeroPoints
policy_code policies.SpanMismatch = is.SpanMismatch
policy_code policies.GranularityRange = is.GranularityRange
policy_code policies.PointsRange = is.PointsRange
policy_code policies.SameGranularity = is.SameGranularity
policy_code (policies.NotDividing fine coarse) = is.NotDividing
policy_code policies.NoAggregation = is.NoAggregationMethod
policy_code policies.Memory = is.Memory

-- what is told of a faulty body of a policy, a rule, a metric or a resource
abbrev pub control_body_error : ControlBodyFault → RestError
control_body_error documents.BadBody = plain_error is.BadBody
control_body_error documents.BadName = plain_error is.BadName
control_body_error documents.BadSpan = plain_error is.BadSpan
control_body_error documents.SpanRange = plain_error is.SpanRange
control_body_error documents.BadAggregation = plain_error is.BadAggregation
control_body_error (documents.Policy fault) = plain_error (policy_code fault)
control_body_error documents.Memory = plain_error is.Memory

-- What is told of a head that is refused. Where the input ended or failed, or memory is wanting, there
-- is no message to answer.
abbrev pub head_error : HeadEnd → Option RestError
head_error heads.End = None
head_error heads.Cut = None
head_error heads.BadHead = Some (plain_error is.BadHead)
head_error heads.HeadTooLarge = Some (plain_error is.HeadTooLarge)
head_error heads.Coding = Some (plain_error is.Coding)
head_error heads.NoLength = Some (plain_error is.NoLength)
head_error heads.BodyTooLarge = Some (plain_error is.BodyTooLarge)
head_error heads.TooMuch = None
head_error heads.ReadFault = None
head_error heads.Memory = None
