use Rattle.std.proofs.Common.{subst, rules}
use Rattle.std.specs.List.{All}
use Rattle.std.proofs.lemmas.List.{take_all}
use Rattle.std.proofs.lemmas.List.Elements.{All-more}
use Rattle.shelf_records.specs.Shelved.{IsOfPolicy}
use Rattle.shelf_records.proofs.follow.are_of_policy.Goals as goal

pub loop-change-preserved : goal.loop-change-preserved
loop-change-preserved c =
    let own : IsOfPolicy c.args.policy.now c.change-item.result = search rules in
    All-more (IsOfPolicy c.args.policy.now) c.args.changes.now c.loop-change.change-index c.change-item.result c.loop-change-test.true c.loop-change.invariant (subst (IsOfPolicy c.args.policy.now) c.change-item.is own)

pub returns : goal.returns
returns c =
    let all : All (IsOfPolicy c.args.policy.now) c.args.changes.now = subst (All (IsOfPolicy c.args.policy.now)) (take_all c.loop-change.change-index c.args.changes.now c.loop-change-test.false) c.loop-change.invariant in
    (λ h. all, λ h. search rules)
