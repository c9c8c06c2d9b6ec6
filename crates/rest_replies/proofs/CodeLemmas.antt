-- Each text is that of one code.
use Rattle.std.proofs.Common.{◌≡◌, ℕ, List, [], ◌∷◌, Option, Some, refl, sym, ap, ◌∙◌}
use Rattle.std.specs.List.{find}
use Rattle.std.specs.Str.{bytes_eq}
use Rattle.rest_replies.specs.declared.code.ErrorCode.{ErrorCode}
use Rattle.rest_replies.specs.declared.code.ErrorCode.TheVariants.{Syntax, NotMeasure, BadId, BadTime, BeforeEpoch, TooLate, TooLong, NotANumber, TooLarge, TooMany, BadQuery, BadBody, BadName, BadSpan, SpanRange, BadAggregation, BackWindow, NoDefinition, TooManyDefinitions, TooFew, ZeroPoints, SpanMismatch, GranularityRange, PointsRange, SameGranularity, NotDividing, NoAggregationMethod, NoRule, BadLine, BadHead, NoRoute, MetricUnknown, PolicyUnknown, RuleUnknown, ResourceUnknown, NoAggregation, NoGranularity, NoMethod, PolicyExists, PolicyInUse, RuleExists, NameTaken, ResourceExists, ResourceInUse, IdTaken, NoLength, BodyTooLarge, HeadTooLarge, Coding, Memory, Disk, Damaged, Spent}
use Rattle.rest_replies.specs.Code.{code_text}

-- all codes
abbrev all_codes : List ErrorCode
all_codes =
    Syntax ∷ NotMeasure ∷ BadId ∷ BadTime ∷ BeforeEpoch ∷ TooLate ∷ TooLong ∷ NotANumber ∷
    TooLarge ∷ TooMany ∷ BadQuery ∷ BadBody ∷ BadName ∷ BadSpan ∷ SpanRange ∷ BadAggregation ∷
    BackWindow ∷ NoDefinition ∷ TooManyDefinitions ∷ TooFew ∷ ZeroPoints ∷ SpanMismatch ∷ GranularityRange ∷ PointsRange ∷
    SameGranularity ∷ NotDividing ∷ NoAggregationMethod ∷ NoRule ∷ BadLine ∷ BadHead ∷ NoRoute ∷ MetricUnknown ∷
    PolicyUnknown ∷ RuleUnknown ∷ ResourceUnknown ∷ NoAggregation ∷ NoGranularity ∷ NoMethod ∷ PolicyExists ∷ PolicyInUse ∷
    RuleExists ∷ NameTaken ∷ ResourceExists ∷ ResourceInUse ∷ IdTaken ∷ NoLength ∷ BodyTooLarge ∷ HeadTooLarge ∷
    Coding ∷ Memory ∷ Disk ∷ Damaged ∷ Spent ∷ []

-- the first code with a text
code_named : List ℕ → Option ErrorCode
code_named text = find (λ code. bytes_eq (code_text code) text) all_codes

named-again : (code : ErrorCode) → code_named (code_text code) ≡ Some code
unfolding code_named
named-again Syntax = refl
named-again NotMeasure = refl
named-again BadId = refl
named-again BadTime = refl
named-again BeforeEpoch = refl
named-again TooLate = refl
named-again TooLong = refl
named-again NotANumber = refl
named-again TooLarge = refl
named-again TooMany = refl
named-again BadQuery = refl
named-again BadBody = refl
named-again BadName = refl
named-again BadSpan = refl
named-again SpanRange = refl
named-again BadAggregation = refl
named-again BackWindow = refl
named-again NoDefinition = refl
named-again TooManyDefinitions = refl
named-again TooFew = refl
named-again ZeroPoints = refl
named-again SpanMismatch = refl
named-again GranularityRange = refl
named-again PointsRange = refl
named-again SameGranularity = refl
named-again NotDividing = refl
named-again NoAggregationMethod = refl
named-again NoRule = refl
named-again BadLine = refl
named-again BadHead = refl
named-again NoRoute = refl
named-again MetricUnknown = refl
named-again PolicyUnknown = refl
named-again RuleUnknown = refl
named-again ResourceUnknown = refl
named-again NoAggregation = refl
named-again NoGranularity = refl
named-again NoMethod = refl
named-again PolicyExists = refl
named-again PolicyInUse = refl
named-again RuleExists = refl
named-again NameTaken = refl
named-again ResourceExists = refl
named-again ResourceInUse = refl
named-again IdTaken = refl
named-again NoLength = refl
named-again BodyTooLarge = refl
named-again HeadTooLarge = refl
named-again Coding = refl
named-again Memory = refl
named-again Disk = refl
named-again Damaged = refl
named-again Spent = refl

pub one-code : (a b : ErrorCode) → code_text a ≡ code_text b → a ≡ b
one-code a b same =
    let both : Some a ≡ Some b = sym (named-again a) ∙ ap code_named same ∙ named-again b in cc
