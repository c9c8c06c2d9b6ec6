-- The body of a metric: with a resource it has a name.
use Rattle.std.proofs.Common.{◌≡◌, ℕ, Bool, true, false, not, ◌||◌, if◌then◌else◌, List, Option, Some, None, Result, Ok, Err, IsSome, is_some, refl, sym, ap, codes, option_and_then}
use Rattle.serde_json.specs.Data.{Data, null, boolean, number, string, array, object}
use Rattle.serde_json.specs.Find.{get}
use Rattle.control_docs.proofs.MemberLemmas.{both}
use Rattle.control_docs.specs.Body.{body_value}
use Rattle.control_docs.specs.Fault.{◌>>=◌, found_or}
use Rattle.control_docs.specs.Member.{is_given, name_or_none, unless_null, value_id, value_name}
use Rattle.control_docs.specs.Metric.{metric_asked, metric_read}
use Rattle.control_docs.specs.Shape.{fits, is_body, is_complete}
use Rattle.control_docs.specs.declared.fault.ControlBodyFault.{ControlBodyFault}
use Rattle.control_docs.specs.declared.fault.ControlBodyFault.TheVariants.{BadBody}
use Rattle.control_docs.specs.declared.metric.MetricBody.{MetricBody}
use Rattle.control_docs.specs.declared.shape.Shape.TheVariants.{Metric}

-- the name and the resource of what was read
name_part : Result MetricBody ControlBodyFault → Option (List ℕ) → Option (List ℕ)
name_part (Ok m) name = m.name
name_part (Err f) name = name

resource_part : Result MetricBody ControlBodyFault → Option ℕ → Option ℕ
resource_part (Ok m) resource = m.resource
resource_part (Err f) resource = resource

-- what was read of the name and of the resource is what is asked for
asked_parts : (p n u : Result (Option (List ℕ)) ControlBodyFault) (r : Option ℕ) (m : MetricBody)
    → (p >>= λ policy. n >>= λ name. u >>= λ unit. Ok (record { policy = policy; name = name; unit = unit; resource = r })) ≡ Ok m
    → (n ≡ Ok m.name) × (r ≡ m.resource)
unfolding name_part resource_part
asked_parts (Err f) n u r m e = absurd cc
asked_parts (Ok policy) (Err f) u r m e = absurd cc
asked_parts (Ok policy) (Ok name) (Err f) r m e = absurd cc
asked_parts (Ok policy) (Ok name) (Ok unit) r m e = (ap Ok (ap (λ (x : Result MetricBody ControlBodyFault). name_part x name) e), ap (λ (x : Result MetricBody ControlBodyFault). resource_part x r) e)

-- an identifier is something that is given
id_given : (o : Option Data) → IsSome (option_and_then value_id o) → is_given o ≡ true
id_given None h = absurd cc
id_given (Some null) h = absurd cc
id_given (Some (boolean b)) h = refl
id_given (Some (number n)) h = refl
id_given (Some (string text)) h = refl
id_given (Some (array ds)) h = refl
id_given (Some (object ms)) h = refl

-- a name that is read is there
read_part : Result (Option (List ℕ)) ControlBodyFault → Option (List ℕ)
read_part (Ok name) = name
read_part (Err f) = None

name_there : (v : Result (List ℕ) ControlBodyFault) (name : Option (List ℕ)) → (v >>= λ text. Ok (Some text)) ≡ Ok name → IsSome name
unfolding read_part
name_there (Err f) name e = absurd cc
name_there (Ok text) name e = sym (ap (λ (x : Result (Option (List ℕ)) ControlBodyFault). is_some (read_part x)) e)

-- a name that is given is read
name_given : (o : Option Data) (name : Option (List ℕ)) → is_given o ≡ true → name_or_none (unless_null o) ≡ Ok name → IsSome name
name_given None name h e = absurd cc
name_given (Some null) name h e = absurd cc
name_given (Some (boolean b)) name h e = name_there (value_name (boolean b)) name e
name_given (Some (number n)) name h e = name_there (value_name (number n)) name e
name_given (Some (string text)) name h e = name_there (value_name (string text)) name e
name_given (Some (array ds)) name h e = name_there (value_name (array ds)) name e
name_given (Some (object ms)) name h e = name_there (value_name (object ms)) name e

-- the second of two, where the first holds
second_of : (a b : Bool) → (not a || b) ≡ true → a ≡ true → b ≡ true
second_of true b h e = h
second_of false b h e = absurd cc

of_value : (d : Data) (m : MetricBody) (whole : Bool) → whole ≡ is_body Metric d
    → ((if whole then Ok d else Err BadBody) >>= metric_asked) ≡ Ok m → IsSome m.resource → IsSome m.name
of_value d m false is e some = absurd cc
of_value d m true is e some =
    let parts = asked_parts (name_or_none (unless_null (get (codes "archive_policy_name") d))) (name_or_none (unless_null (get (codes "name") d)))
    (name_or_none (unless_null (get (codes "unit") d))) (option_and_then value_id (get (codes "resource_id") d)) m e in
    let complete : is_complete Metric d ≡ true = (both (fits Metric d) (is_complete Metric d) (sym is)).1 in
    let given : is_given (get (codes "resource_id") d) ≡ true = id_given (get (codes "resource_id") d) (rw parts.1 some) in
    name_given (get (codes "name") d) m.name
    (second_of (is_given (get (codes "resource_id") d)) (is_given (get (codes "name") d)) complete given) parts.0

of_found : (o : Option Data) (m : MetricBody) → ((found_or BadBody o >>= λ d. if is_body Metric d then Ok d else Err BadBody) >>= metric_asked) ≡ Ok m
    → IsSome m.resource → IsSome m.name
of_found None m e some = absurd cc
of_found (Some d) m e some = of_value d m (is_body Metric d) refl e some

-- with a resource it has a name
pub metric_has_name : (body : List ℕ) (m : MetricBody) → metric_read body ≡ Ok m → IsSome m.resource → IsSome m.name
unfolding metric_read
metric_has_name body m e some = of_found (body_value body) m e some
