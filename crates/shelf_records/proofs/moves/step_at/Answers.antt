use Rattle.std.proofs.Common.{sym, subst, rules}
use Rattle.shelf_records.specs.declared.moves.Step.{Step}
use Rattle.shelf_records.specs.Moves.{Leads}
use Rattle.shelf_records.proofs.Merging.{leads_between, leads_gone, leads_put}
use Rattle.shelf_records.proofs.moves.step_at.Goals as goal

pub returns-in-Some-Some : goal.returns-in-Some-Some
returns-in-Some-Some c keys splits here there =
    leads_between c.step_between.result c.in-Some-Some.key c.in-Some-Some.split c.step_between.ensures.gone c.step_between.ensures.same c.step_between.ensures.put keys splits (search rules) (search rules)

pub returns-in-Some-None : goal.returns-in-Some-None
returns-in-Some-None c keys splits here there =
    subst (λ (s : Step). Leads s keys splits) (sym c.step_gone.ensures) (leads_gone c.in-Some-None.key keys splits (search rules) (search rules))

pub returns-in-None-Some : goal.returns-in-None-Some
returns-in-None-Some c keys splits here there =
    subst (λ (s : Step). Leads s keys splits) (sym c.step_put.ensures) (leads_put c.in-None-Some.split keys splits (search rules) (search rules))
