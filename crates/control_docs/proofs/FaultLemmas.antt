-- The faults of a policy that a body is told of.
use Rattle.std.proofs.Common.{◌≡◌, ◌≢◌, ℕ, ◌*◌, ◌^◌, List, Option, Some, None, Result, Ok, Err, Bool, true, false, cond, IfErr, codes, option_and_then, refl, ap, ◌∙◌}
use Rattle.archive_policy.specs.declared.fault.PolicyFault.{PolicyFault}
use Rattle.archive_policy.specs.declared.fault.PolicyFault.TheVariants as policies
use Rattle.archive_policy.specs.declared.kind.Kind.{Kind}
use Rattle.archive_policy.specs.declared.wanted.Wanted.{Wanted}
use Rattle.archive_policy.specs.Faults.{IsFirst, first_fault}
use Rattle.archive_policy.specs.Policies.{ArchivePolicy}
use Rattle.archive_policy.proofs.FaultLaws.{fault_first}
use Rattle.gno_time.specs.declared.span.SpanFault.{SpanFault}
use Rattle.gno_time.specs.declared.span.SpanFault.TheVariants as spans
use Rattle.gno_time.specs.SpanReading.{span_in_range, span_read}
use Rattle.serde_json.specs.Data.{Data, null, boolean, number, string, array, object, Items, no_items, item}
use Rattle.serde_json.specs.Find.{as_str, as_u64, get}
use Rattle.control_docs.specs.declared.fault.ControlBodyFault.{ControlBodyFault}
use Rattle.control_docs.specs.declared.fault.ControlBodyFault.TheVariants.{BadBody, BadName, BadSpan, SpanRange, BadAggregation, Policy}
use Rattle.control_docs.specs.declared.shape.Shape.TheVariants as Shape
use Rattle.control_docs.specs.Body.{shaped, body_value}
use Rattle.control_docs.specs.Fault.{◌>>=◌, found_or}
use Rattle.control_docs.specs.Member.{all_of, listed_items, kind_named, value_kind, may_be_name, required_name, text_name, value_name, span_or_none, value_span, span_of_seconds, told, with_first}
use Rattle.control_docs.specs.Policy.{kinds_at, made, policy_asked, policy_read, wanted_of, window_at}
use Rattle.control_docs.specs.Shape.{is_body}

-- the fault is none of a policy
abbrev IsOwn : ControlBodyFault → Type 0
IsOwn fault = (of_policy : PolicyFault) → fault ≢ Policy of_policy

abbrev HasOwnFault : {A : Type 0} → Result A ControlBodyFault → Type 0
HasOwnFault r = IfErr r IsOwn

bad_body : IsOwn BadBody
bad_body f e = cc

bad_name : IsOwn BadName
bad_name f e = cc

bad_span : IsOwn BadSpan
bad_span f e = cc

span_range : IsOwn SpanRange
span_range f e = cc

bad_aggregation : IsOwn BadAggregation
bad_aggregation f e = cc

own_then : {A B : Type 0} (r : Result A ControlBodyFault) (f : A → Result B ControlBodyFault) → HasOwnFault r → ((x : A) → HasOwnFault (f x)) → HasOwnFault (r >>= f)
own_then (Ok x) f h next = next x
own_then (Err fault) f h next = h

own_or : {A : Type 0} (fault : ControlBodyFault) (o : Option A) → IsOwn fault → HasOwnFault (found_or fault o)
own_or fault None h = h
own_or fault (Some x) h = tt

own_name : (value : Option Data) → HasOwnFault (required_name value)
own_name value =
    own_then (found_or BadName value) value_name (own_or BadName value bad_name) (λ d. own_then (found_or BadName (as_str d)) text_name (own_or BadName (as_str d) bad_name) (λ text. either (may_be_name text) text))
  where
    either : (v : Bool) (text : List ℕ) → HasOwnFault (cond v (Ok text) (Err BadName))
    either true text = tt
    either false text = bad_name

own_told : (r : Result ℕ SpanFault) → HasOwnFault (told r)
own_told (Ok nanos) = tt
own_told (Err spans.BadSpan) = bad_span
own_told (Err spans.SpanRange) = span_range

own_seconds : (o : Option ℕ) → HasOwnFault (span_of_seconds o)
own_seconds None = bad_span
own_seconds (Some seconds) = own_told (span_in_range (seconds * 10 ^ 9))

own_span : (d : Data) → HasOwnFault (value_span d)
own_span null = bad_span
own_span (boolean b) = bad_span
own_span (number n) = own_seconds (as_u64 n)
own_span (string text) = own_told (span_read text)
own_span (array ds) = bad_span
own_span (object ms) = bad_span

own_span_at : (value : Option Data) → HasOwnFault (span_or_none value)
own_span_at None = tt
own_span_at (Some d) = own_then (value_span d) (λ span. Ok (Some span)) (own_span d) (λ span. tt)

own_wanted : (d : Data) → HasOwnFault (wanted_of d)
own_wanted d =
    own_then (span_or_none (get (codes "granularity") d)) _ (own_span_at (get (codes "granularity") d)) (λ fine. own_then (span_or_none (get (codes "timespan") d)) _ (own_span_at (get (codes "timespan") d)) (λ whole. tt))

own_items : {A : Type 0} (read : Data → Result A ControlBodyFault) → ((d : Data) → HasOwnFault (read d)) → (ds : Items) → HasOwnFault (all_of read ds)
own_items read each no_items = tt
own_items read each (item d ds) =
    own_then (read d) (λ x. all_of read ds >>= with_first x) (each d) (λ x. own_then (all_of read ds) (with_first x) (own_items read each ds) (λ xs. tt))

own_kind : (d : Data) → HasOwnFault (value_kind d)
own_kind d = own_or BadAggregation (option_and_then kind_named (as_str d)) bad_aggregation

own_kinds : (value : Option Data) → HasOwnFault (kinds_at value)
own_kinds None = tt
own_kinds (Some d) = own_items value_kind own_kind (listed_items (Some d))

-- a fault of a policy is the first one of what is asked for
abbrev pub TellsFirst : Result ArchivePolicy ControlBodyFault → Type 0
TellsFirst r =
    (fault : PolicyFault) → r ≡ Err (Policy fault) → (back_window : ℕ) × (wanted : List Wanted) × (kinds : List Kind) × IsFirst back_window wanted kinds fault

first_then : {A : Type 0} (r : Result A ControlBodyFault) (f : A → Result ArchivePolicy ControlBodyFault) → HasOwnFault r → ((x : A) → TellsFirst (f x)) → TellsFirst (r >>= f)
first_then (Ok x) f h next = next x
first_then (Err own) f h next = λ fault e. absurd (h fault cc)

first_made : (name : List ℕ) (back_window : ℕ) (wanted : List Wanted) (kinds : List Kind) (o : Option PolicyFault) → first_fault back_window wanted kinds ≡ o → TellsFirst (made name back_window wanted kinds o)
first_made name back_window wanted kinds None is fault e = absurd cc
first_made name back_window wanted kinds (Some first) is fault e =
    let same : first ≡ fault = cc in
    (back_window, wanted, kinds, fault_first back_window wanted kinds fault (is ∙ ap Some same))

first_in : (d : Data) → TellsFirst (policy_asked d)
first_in d =
    first_then (required_name (get (codes "name") d)) _ (own_name (get (codes "name") d)) (λ name.
    first_then (all_of wanted_of (listed_items (get (codes "definition") d))) _ (own_items wanted_of own_wanted (listed_items (get (codes "definition") d))) (λ wanted.
    first_then (kinds_at (get (codes "aggregation_methods") d)) _ (own_kinds (get (codes "aggregation_methods") d)) (λ kinds.
    first_made name (window_at (get (codes "back_window") d)) wanted kinds (first_fault (window_at (get (codes "back_window") d)) wanted kinds) refl)))

own_shaped : (d : Data) → HasOwnFault (shaped Shape.Policy d)
own_shaped d = either (is_body Shape.Policy d)
  where
    either : (v : Bool) → HasOwnFault (cond v (Ok d) (Err BadBody))
    either true = tt
    either false = bad_body

pub faults_first : (body : List ℕ) → TellsFirst (policy_read body)
unfolding policy_read
faults_first body =
    first_then (found_or BadBody (body_value body) >>= shaped Shape.Policy) policy_asked (own_then (found_or BadBody (body_value body)) (shaped Shape.Policy) (own_or BadBody (body_value body) bad_body) own_shaped) first_in

pub never_memory : (body : List ℕ) → policy_read body ≢ Err (Policy policies.Memory)
never_memory body e =
    let told = faults_first body policies.Memory e in told.3.holds
