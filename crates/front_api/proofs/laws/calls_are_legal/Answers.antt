use Rattle.front_api.specs.Calls.{AddsTo, AppliesTo, BeginsOn}
use Rattle.front_api.proofs.CallLemmas.{added_follows, applied_follows, begun_follows, call_follows}
use Rattle.front_api.proofs.laws.calls_are_legal.Goals as goal

pub returns-clause-apply : goal.returns-clause-apply
returns-clause-apply c command first h own result legal does =
    call_follows (AppliesTo command) (applied_follows command) first h own result legal does

pub returns-clause-begin_metric : goal.returns-clause-begin_metric
returns-clause-begin_metric c policy name resource first h own result legal does =
    call_follows (BeginsOn policy name resource) (begun_follows policy name resource) first h own result legal does

pub returns-clause-add_metric : goal.returns-clause-add_metric
returns-clause-add_metric c doc first h own result legal does =
    call_follows (AddsTo doc) (added_follows doc) first h own result legal does
