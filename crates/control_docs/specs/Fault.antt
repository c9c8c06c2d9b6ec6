-- What a body reads as, or its first fault.
use Rattle.std.specs.Prelude.{◌≡◌, ◌≢◌, Option, Some, None, Result, Ok, Err}
use Rattle.archive_policy.specs.declared.fault.PolicyFault.{PolicyFault}
use Rattle.archive_policy.specs.declared.fault.PolicyFault.TheVariants as policies
use Rattle.gno_time.specs.declared.span.SpanFault.{SpanFault}
use Rattle.gno_time.specs.declared.span.SpanFault.TheVariants as spans
use Rattle.control_docs.specs.declared.fault.ControlBodyFault.{ControlBodyFault}
use Rattle.control_docs.specs.declared.fault.ControlBodyFault.TheVariants.{BadSpan, SpanRange, Policy, Memory}

-- the second step goes on from what the first one gives; the first fault stands
infixl 10 ◌>>=◌
abbrev pub ◌>>=◌ : {A B : Type 0} → Result A ControlBodyFault → (A → Result B ControlBodyFault) → Result B ControlBodyFault
(Ok x) >>= f = f x
(Err fault) >>= f = Err fault

-- what is found, or the fault where nothing is
abbrev pub found_or : {A : Type 0} → ControlBodyFault → Option A → Result A ControlBodyFault
found_or fault None = Err fault
found_or fault (Some x) = Ok x

-- the fault of a span, and of a policy that is asked for
abbrev pub told_span : SpanFault → ControlBodyFault
told_span spans.BadSpan = BadSpan
told_span spans.SpanRange = SpanRange

abbrev pub told_policy : PolicyFault → ControlBodyFault
told_policy policies.Memory = Memory
told_policy fault = Policy fault

-- what was returned, seen by view, is what reading gives, unless memory ran out
abbrev pub Gives : {X Y : Type 0} → (X → Y) → Result X ControlBodyFault → Result Y ControlBodyFault → Type 0
Gives view (Ok x) reading = reading ≡ Ok (view x)
Gives view (Err fault) reading = fault ≢ Memory → reading ≡ Err fault
