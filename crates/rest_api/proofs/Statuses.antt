-- Which answers have another status than 503.
use Rattle.std.proofs.Common.{◌≡◌, ℕ, Bool, true, false, List, [], Option, Some, refl, sym, ap, ◌∙◌, inl, inr}
use Rattle.std.proofs.lemmas.Option.{same_Some}
use Rattle.archive_policy.specs.declared.fault.PolicyFault.{PolicyFault}
use Rattle.archive_policy.specs.declared.fault.PolicyFault.TheVariants as policies
use Rattle.control_docs.specs.declared.fault.ControlBodyFault.{ControlBodyFault}
use Rattle.control_docs.specs.declared.fault.ControlBodyFault.TheVariants as documents
use Rattle.front_api.specs.declared.fault.ControlFault.{ControlFault}
use Rattle.front_api.specs.declared.fault.ControlFault.TheVariants as commands
use Rattle.front_api.specs.FaultWords.{answer_words, control_words, sack_words}
use Rattle.front_api.specs.SeenLaws.{IsNoFault}
use Rattle.http_conn.specs.declared.head.HeadEnd.{HeadEnd}
use Rattle.http_conn.specs.declared.head.HeadEnd.TheVariants as heads
use Rattle.measure_json.specs.declared.fault.BodyFault.{BodyFault}
use Rattle.measure_json.specs.declared.fault.BodyFault.TheVariants as bodies
use Rattle.measure_json.specs.declared.fault.JsonKind.{JsonKind}
use Rattle.measure_json.specs.declared.fault.JsonKind.TheVariants as kinds
use Rattle.measure_query.specs.declared.query.QueryFault.{QueryFault}
use Rattle.measure_query.specs.declared.query.QueryFault.TheVariants as queries
use Rattle.gno_num.specs.declared.read.NumFault.TheVariants as numbers
use Rattle.gno_time.specs.declared.stamp.TimeFault.TheVariants as times
use Rattle.rest_api.specs.Doing.{TellsError}
use Rattle.rest_replies.specs.Code.{code_status}
use Rattle.rest_replies.specs.Error.{plain_error}
use Rattle.rest_replies.specs.Faults.{answer_error, body_error, control_body_error, control_error, head_error, json_code, policy_code, query_error, sack_error}
use Rattle.rest_replies.specs.Handled.{AnswersWith, IsNoMemory}
use Rattle.rest_replies.specs.declared.code.ErrorCode.TheVariants as is
use Rattle.rest_replies.specs.declared.error.RestError.{RestError}
use Rattle.rest_replies.specs.declared.faults.NamedIn.{NamedIn}
use Rattle.rest_replies.specs.declared.faults.NamedIn.TheVariants.{Path, Body, Both}
use Rattle.rest_replies.specs.declared.handled.Handled.{Handled}
use Rattle.rest_replies.specs.declared.status.HttpStatus.{HttpStatus}
use Rattle.rest_replies.specs.declared.status.HttpStatus.TheVariants.{Unavailable}
use Rattle.sack_history.specs.declared.fault.AnswerFault.{AnswerFault}
use Rattle.sack_history.specs.declared.fault.AnswerFault.TheVariants as answers
use Rattle.sack_history.specs.declared.fault.SackFault.{SackFault}
use Rattle.sack_history.specs.declared.fault.SackFault.TheVariants as posts

-- the status is 503
abbrev pub is_503 : HttpStatus → Bool
is_503 Unavailable = true
is_503 _ = false

pub other_than : (status : HttpStatus) → is_503 status ≡ false → status ≡ Unavailable → ⊥
other_than status other is = no (sym (ap is_503 is) ∙ other)
  where
    no : true ≡ false → ⊥
    no e = cc

-- ---- what is answered

pub starved_other : (answer : Handled) → IsNoMemory answer → is_503 answer.status ≡ false
starved_other answer h = ap is_503 h.status

pub answer_other : (answer : Handled) (status : HttpStatus) (allow body : List ℕ) → is_503 status ≡ false → AnswersWith answer status allow body → is_503 answer.status ≡ false
answer_other answer status allow body other (inl h) = ap is_503 h.status ∙ other
answer_other answer status allow body other (inr h) = starved_other answer h

pub error_other : (error : RestError) (stored : Option ℕ) (answer : Handled) → is_503 error.status ≡ false → TellsError error stored answer → is_503 answer.status ≡ false
error_other error stored answer other h = answer_other answer error.status [] _ other h

-- ---- errors of reading

json_other : (kind : JsonKind) → is_503 (code_status (json_code kind)) ≡ false
json_other kinds.Syntax = refl
json_other kinds.NotMeasure = refl
json_other kinds.BadId = refl
json_other (kinds.Time times.BadTime) = refl
json_other (kinds.Time times.BeforeEpoch) = refl
json_other (kinds.Time times.TooLate) = refl
json_other (kinds.Number numbers.TooLong) = refl
json_other (kinds.Number numbers.NotANumber) = refl
json_other (kinds.Number numbers.TooLarge) = refl
json_other kinds.TooMany = refl

pub body_other : (fault : BodyFault) → is_503 (body_error fault).status ≡ false
body_other (bodies.Json at kind) = json_other kind
body_other bodies.Memory = refl

pub query_other : (fault : QueryFault) → is_503 (query_error fault).status ≡ false
query_other queries.BadQuery = refl
query_other queries.Memory = refl

policy_other : (fault : PolicyFault) → is_503 (code_status (policy_code fault)) ≡ false
policy_other policies.BackWindow = refl
policy_other policies.NoDefinition = refl
policy_other policies.TooMany = refl
policy_other policies.TooFew = refl
policy_other policies.ZeroPoints = refl
policy_other policies.SpanMismatch = refl
policy_other policies.GranularityRange = refl
policy_other policies.PointsRange = refl
policy_other policies.SameGranularity = refl
policy_other (policies.NotDividing fine coarse) = refl
policy_other policies.NoAggregation = refl
policy_other policies.Memory = refl

pub document_other : (fault : ControlBodyFault) → is_503 (control_body_error fault).status ≡ false
document_other documents.BadBody = refl
document_other documents.BadName = refl
document_other documents.BadSpan = refl
document_other documents.SpanRange = refl
document_other documents.BadAggregation = refl
document_other (documents.Policy fault) = policy_other fault
document_other documents.Memory = refl

pub head_other : (cause : HeadEnd) (error : RestError) → head_error cause ≡ Some error → is_503 error.status ≡ false
head_other heads.End error is = cc
head_other heads.Cut error is = cc
head_other heads.BadHead error told = ap (λ (x : RestError). is_503 x.status) (sym (same_Some (plain_error is.BadHead) error told))
head_other heads.HeadTooLarge error told = ap (λ (x : RestError). is_503 x.status) (sym (same_Some (plain_error is.HeadTooLarge) error told))
head_other heads.Coding error told = ap (λ (x : RestError). is_503 x.status) (sym (same_Some (plain_error is.Coding) error told))
head_other heads.NoLength error told = ap (λ (x : RestError). is_503 x.status) (sym (same_Some (plain_error is.NoLength) error told))
head_other heads.BodyTooLarge error told = ap (λ (x : RestError). is_503 x.status) (sym (same_Some (plain_error is.BodyTooLarge) error told))
head_other heads.TooMuch error is = cc
head_other heads.ReadFault error is = cc
head_other heads.Memory error is = cc

-- ---- errors of calls that tell no fault

pub sack_other : (fault : SackFault) → IsNoFault sack_words fault → is_503 (sack_error fault).status ≡ false
sack_other posts.Unknown is = refl
sack_other (posts.Spent s) is = refl
sack_other (posts.DiskFault f) is = cc (is.no_disk)
sack_other (posts.Damaged d) is = cc (is.no_damage)
sack_other posts.Memory is = refl

pub rows_other : (fault : AnswerFault) → IsNoFault answer_words fault → is_503 (answer_error fault).status ≡ false
rows_other answers.Unknown is = refl
rows_other answers.NoAggregation is = refl
rows_other answers.NoGranularity is = refl
rows_other (answers.Spent s) is = refl
rows_other (answers.DiskFault f) is = cc (is.no_disk)
rows_other (answers.Damaged d) is = cc (is.no_damage)
rows_other answers.Memory is = refl

pub control_other : (named : NamedIn) (fault : ControlFault) → IsNoFault control_words fault → is_503 (control_error named fault).status ≡ false
control_other named commands.PolicyExists is = refl
control_other Path commands.PolicyUnknown is = refl
control_other Body commands.PolicyUnknown is = refl
control_other Both commands.PolicyUnknown is = refl
control_other named commands.PolicyInUse is = refl
control_other named commands.RuleExists is = refl
control_other named commands.RuleUnknown is = refl
control_other named commands.NoRule is = refl
control_other named commands.NameTaken is = refl
control_other named commands.MetricUnknown is = refl
control_other named commands.ResourceExists is = refl
control_other Path commands.ResourceUnknown is = refl
control_other Body commands.ResourceUnknown is = refl
control_other Both commands.ResourceUnknown is = refl
control_other named commands.ResourceInUse is = refl
control_other named (commands.IdTaken id) is = refl
control_other named (commands.Spent s) is = refl
control_other named (commands.DiskFault f) is = cc (is.no_disk)
control_other named (commands.Damaged d) is = cc (is.no_damage)
control_other named commands.Memory is = refl
