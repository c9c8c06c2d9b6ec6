-- The bodies of errors are JSON.
use Rattle.std.proofs.Common.{◌≡◌, ℕ, ◌^◌, ◌<◌, List, [], ◌∷◌, ◌++◌, Option, None, Some, IfSome, refl, ap, ◌∙◌, append_assoc, append-nil, arith, codes}
use Rattle.std.specs.Fmt.{decimal}
use Rattle.json.proofs.Printed.Decimals.{IsNumber-decimal}
use Rattle.json.specs.Print.{escape, escape_byte}
use Rattle.serde_json.specs.Read.{read}
use Rattle.serde_json.specs.Written.{compact_text}
use Rattle.serde_json.proofs.Numbers.{number_of-decimal}
use Rattle.control_docs.proofs.AgainLemmas.{text_read}
use Rattle.rest_replies.specs.declared.code.ErrorCode.{ErrorCode}
use Rattle.rest_replies.specs.declared.code.ErrorCode.TheVariants.{Syntax, NotMeasure, BadId, BadTime, BeforeEpoch, TooLate, TooLong, NotANumber, TooLarge, TooMany, BadQuery, BadBody, BadName, BadSpan, SpanRange, BadAggregation, BackWindow, NoDefinition, TooManyDefinitions, TooFew, ZeroPoints, SpanMismatch, GranularityRange, PointsRange, SameGranularity, NotDividing, NoAggregationMethod, NoRule, BadLine, BadHead, NoRoute, MetricUnknown, PolicyUnknown, RuleUnknown, ResourceUnknown, NoAggregation, NoGranularity, NoMethod, PolicyExists, PolicyInUse, RuleExists, NameTaken, ResourceExists, ResourceInUse, IdTaken, NoLength, BodyTooLarge, HeadTooLarge, Coding, Memory, Disk, Damaged, Spent}
use Rattle.rest_replies.specs.Code.{code_text}
use Rattle.rest_replies.specs.ErrorBody.{error_text}
use Rattle.rest_replies.specs.ErrorValue.{error_value}

-- no byte of a code wants an escape
escape-code : (code : ErrorCode) → escape (code_text code) ≡ code_text code
unfolding escape_byte
escape-code Syntax = refl
escape-code NotMeasure = refl
escape-code BadId = refl
escape-code BadTime = refl
escape-code BeforeEpoch = refl
escape-code TooLate = refl
escape-code TooLong = refl
escape-code NotANumber = refl
escape-code TooLarge = refl
escape-code TooMany = refl
escape-code BadQuery = refl
escape-code BadBody = refl
escape-code BadName = refl
escape-code BadSpan = refl
escape-code SpanRange = refl
escape-code BadAggregation = refl
escape-code BackWindow = refl
escape-code NoDefinition = refl
escape-code TooManyDefinitions = refl
escape-code TooFew = refl
escape-code ZeroPoints = refl
escape-code SpanMismatch = refl
escape-code GranularityRange = refl
escape-code PointsRange = refl
escape-code SameGranularity = refl
escape-code NotDividing = refl
escape-code NoAggregationMethod = refl
escape-code NoRule = refl
escape-code BadLine = refl
escape-code BadHead = refl
escape-code NoRoute = refl
escape-code MetricUnknown = refl
escape-code PolicyUnknown = refl
escape-code RuleUnknown = refl
escape-code ResourceUnknown = refl
escape-code NoAggregation = refl
escape-code NoGranularity = refl
escape-code NoMethod = refl
escape-code PolicyExists = refl
escape-code PolicyInUse = refl
escape-code RuleExists = refl
escape-code NameTaken = refl
escape-code ResourceExists = refl
escape-code ResourceInUse = refl
escape-code IdTaken = refl
escape-code NoLength = refl
escape-code BodyTooLarge = refl
escape-code HeadTooLarge = refl
escape-code Coding = refl
escape-code Memory = refl
escape-code Disk = refl
escape-code Damaged = refl
escape-code Spent = refl

-- pieces, however they are grouped
code_alone : (text q z : List ℕ) → ((text ++ q) ++ []) ++ z ≡ (text ++ q) ++ z
code_alone text q z = simp append-nil

place_in_front : (d c l text q z : List ℕ) → (((((d ++ c) ++ l) ++ text) ++ q) ++ []) ++ z ≡ d ++ (c ++ (l ++ ((text ++ q) ++ z)))
place_in_front d c l text q z = simp (append_assoc, append-nil)

count_behind : (text q s ds z : List ℕ) → ((text ++ q) ++ (s ++ ds)) ++ z ≡ (text ++ q) ++ (s ++ (ds ++ z))
count_behind text q s ds z = simp append_assoc

both_beside : (d c l text q s ds z : List ℕ) → (((((d ++ c) ++ l) ++ text) ++ q) ++ (s ++ ds)) ++ z ≡ d ++ (c ++ (l ++ ((text ++ q) ++ (s ++ (ds ++ z)))))
both_beside d c l text q s ds z = simp append_assoc

error-compact : (code : ErrorCode) (at stored : Option ℕ) → error_text code at stored ≡ compact_text (error_value code at stored)
unfolding escape_byte
error-compact code None None = rw (escape-code code) (ap (λ t. codes "{\"error\":\"" ++ t) (code_alone (code_text code) (34 ∷ []) (125 ∷ [])))
error-compact code (Some at) None =
    rw (escape-code code) (ap (λ t. codes "{\"at\":" ++ t) (place_in_front (decimal at) (44 ∷ []) (codes "\"error\":\"") (code_text code) (34 ∷ []) (125 ∷ [])))
error-compact code None (Some stored) =
    rw (escape-code code) (ap (λ t. codes "{\"error\":\"" ++ t) (count_behind (code_text code) (34 ∷ []) (codes ",\"stored\":") (decimal stored) (125 ∷ [])))
error-compact code (Some at) (Some stored) =
    rw (escape-code code) (ap (λ t. codes "{\"at\":" ++ t) (both_beside (decimal at) (44 ∷ []) (codes "\"error\":\"") (code_text code) (34 ∷ []) (codes ",\"stored\":") (decimal stored) (125 ∷ [])))

pub error-json : (code : ErrorCode) (at stored : Option ℕ) → IfSome at (λ n. n < 2 ^ 64) → IfSome stored (λ n. n < 2 ^ 64)
    → read (error_text code at stored) ≡ Some (error_value code at stored)
error-json code None None h k = ap read (error-compact code None None) ∙ text_read (error_value code None None) (tt, tt) (omega arith) refl
error-json code (Some at) None h k =
    ap read (error-compact code (Some at) None)
    ∙ text_read (error_value code (Some at) None) (IsNumber-decimal at h, (tt, tt)) (omega arith) (rw (number_of-decimal at h) refl)
error-json code None (Some stored) h k =
    ap read (error-compact code None (Some stored))
    ∙ text_read (error_value code None (Some stored)) (tt, (IsNumber-decimal stored k, tt)) (omega arith) (rw (number_of-decimal stored k) refl)
error-json code (Some at) (Some stored) h k =
    ap read (error-compact code (Some at) (Some stored))
    ∙ text_read (error_value code (Some at) (Some stored)) (IsNumber-decimal at h, (tt, (IsNumber-decimal stored k, tt))) (omega arith) (rw (number_of-decimal at h, number_of-decimal stored k) refl)
