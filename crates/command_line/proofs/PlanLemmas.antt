-- Words and their plans.
use Rattle.std.proofs.Common.{◌≡◌, ℕ, List, Result, Err, sym, ap, ◌∙◌}
use Rattle.command_line.specs.declared.command.Command.{Command}
use Rattle.command_line.specs.declared.fault.PlanFault.{PlanFault}
use Rattle.command_line.specs.declared.fault.PlanFault.TheVariants.{Usage, Memory}
use Rattle.command_line.specs.declared.plan.Plan.{Plan}
use Rattle.command_line.specs.Command.{IsCommand}
use Rattle.command_line.specs.Plan.{HasPlan, plan_of}
use Rattle.command_line.proofs.CommandLemmas.{one}

-- words have one plan
pub one_plan : (words : List (List ℕ)) (command : Command) (found plan : Plan) → IsCommand words command → found ≡ plan_of command → HasPlan words plan → found ≡ plan
one_plan words command found plan is made has =
    made ∙ ap plan_of (one words command has.command is has.is_command) ∙ sym has.planned

-- where no command is read for want of memory alone, no plan is made for that alone
pub no_plan : (words : List (List ℕ)) (fault : PlanFault) → ((command : Command) → IsCommand words command → fault ≡ Memory) → (plan : Plan) → HasPlan words plan → fault ≡ Memory
no_plan words fault only plan has = only has.command has.is_command

-- a refusal, whatever was asked for
abbrev pub refusal : {A : Type 0} → PlanFault → Result A PlanFault
refusal fault = Err fault

-- where no command is read, no plan is made
pub unplanned : (words : List (List ℕ)) (fault : PlanFault) → (refusal {A = Command} fault ≡ refusal Usage → (command : Command) → IsCommand words command → ⊥) → refusal {A = Plan} fault ≡ refusal Usage → (command : Command) → IsCommand words command → ⊥
unplanned words fault usage same = let is : fault ≡ Usage = cc in usage (ap (λ f. refusal f) is)
