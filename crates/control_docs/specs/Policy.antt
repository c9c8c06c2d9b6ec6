-- What the body of a policy asks for.
use Rattle.std.specs.Prelude.{ℕ, List, [], ◌∷◌, Option, Some, None, option_and_then, unwrap_or, Result, Ok, Err, codes}
use Rattle.archive_policy.specs.declared.fault.PolicyFault.{PolicyFault}
use Rattle.archive_policy.specs.declared.kind.Kind.{Kind}
use Rattle.archive_policy.specs.declared.kind.Kind.TheVariants.{Mean, Min, Max, Sum, Count}
use Rattle.archive_policy.specs.declared.wanted.Wanted.{Wanted}
use Rattle.archive_policy.specs.Faults.{first_fault}
use Rattle.archive_policy.specs.Policies.{ArchivePolicy, policy_of}
use Rattle.serde_json.specs.Data.{Data}
use Rattle.serde_json.specs.Find.{get}
use Rattle.control_docs.specs.declared.fault.ControlBodyFault.{ControlBodyFault}
use Rattle.control_docs.specs.declared.fault.ControlBodyFault.TheVariants.{Policy as No_Policy}
use Rattle.control_docs.specs.declared.shape.Shape.TheVariants.{Policy}
use Rattle.control_docs.specs.Body.{read_by}
use Rattle.control_docs.specs.Fault.{◌>>=◌}
use Rattle.control_docs.specs.Member.{all_of, listed_items, value_kind, required_name, span_or_none, value_whole}

-- what is given of a definition: its granularity, its points and its timespan, each of which may be
-- absent
abbrev pub wanted_of : Data → Result Wanted ControlBodyFault
wanted_of d =
    span_or_none (get (codes "granularity") d) >>= λ granularity. span_or_none (get (codes "timespan") d) >>= λ timespan. Ok (record { granularity = granularity; points = option_and_then value_whole (get (codes "points") d); timespan = timespan })

-- the methods where none are given
abbrev pub usual_kinds : List Kind
usual_kinds = Mean ∷ Min ∷ Max ∷ Sum ∷ Count ∷ []

-- the methods: the usual ones, or those of a list
abbrev pub kinds_at : Option Data → Result (List Kind) ControlBodyFault
kinds_at None = Ok usual_kinds
kinds_at (Some d) = all_of value_kind (listed_items (Some d))

-- the back window, 0 where none is given
abbrev pub window_at : Option Data → ℕ
window_at value = unwrap_or (option_and_then value_whole value) 0

-- the policy, or why there is none
abbrev pub made : List ℕ → ℕ → List Wanted → List Kind → Option PolicyFault → Result ArchivePolicy ControlBodyFault
made name back_window wanted kinds (Some fault) = Err (No_Policy fault)
made name back_window wanted kinds None = Ok (policy_of name back_window wanted kinds)

-- the policy that is asked for, its members taken in their order
abbrev pub policy_asked : Data → Result ArchivePolicy ControlBodyFault
policy_asked d =
    required_name (get (codes "name") d) >>= λ name. all_of wanted_of (listed_items (get (codes "definition") d)) >>= λ wanted. kinds_at (get (codes "aggregation_methods") d) >>= λ kinds. made name (window_at (get (codes "back_window") d)) wanted kinds (first_fault (window_at (get (codes "back_window") d)) wanted kinds)

-- what the body of a policy reads as
unfoldable pub policy_read : List ℕ → Result ArchivePolicy ControlBodyFault
policy_read body = read_by Policy policy_asked body
