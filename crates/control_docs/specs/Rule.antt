-- What the body of a rule asks for.
use Rattle.std.specs.Prelude.{ℕ, List, Result, Ok, codes}
use Rattle.policy_rules.specs.declared.rule.Rule.{Rule as A_Rule}
use Rattle.serde_json.specs.Data.{Data}
use Rattle.serde_json.specs.Find.{get}
use Rattle.control_docs.specs.declared.fault.ControlBodyFault.{ControlBodyFault}
use Rattle.control_docs.specs.declared.shape.Shape.TheVariants.{Rule}
use Rattle.control_docs.specs.Body.{read_by}
use Rattle.control_docs.specs.Fault.{◌>>=◌}
use Rattle.control_docs.specs.Member.{required_name}

-- the rule that is asked for: three names
abbrev pub rule_asked : Data → Result A_Rule ControlBodyFault
rule_asked d =
    required_name (get (codes "name") d) >>= λ name. required_name (get (codes "metric_pattern") d) >>= λ pattern. required_name (get (codes "archive_policy_name") d) >>= λ policy. Ok (record { name = name; pattern = pattern; policy = policy })

-- what the body of a rule reads as
unfoldable pub rule_read : List ℕ → Result A_Rule ControlBodyFault
rule_read body = read_by Rule rule_asked body
