use Rattle.std.proofs.Common.{◌≡◌, ap, subst, arith}
use Rattle.front.specs.SoloView.{SoloView, disks_of_solo}
use Rattle.front.proofs.Backs.{all_back}
use Rattle.front.proofs.solo.Solo.into_disks.Goals as goal

pub returns-clause-all : goal.returns-clause-all
returns-clause-all g c =
    let i = c.self.inside in
    subst (λ (v : SoloView _). c.give_back.result.items ≡ disks_of_solo v) c.self.view_is
    (all_back c.give_back.result.items i.index.disks i.emptied.items c.into_disks-a.result.0 c.into_disks-a.result.1 i.sacks.items c.give_back.ensures.all c.into_disks-a.ensures
    (let e = c.self.invariant.emptied in let k = i.emptied.ok.0 in omega (arith, e, k)))

pub returns-clause-count : goal.returns-clause-count
returns-clause-count g c =
    let i = c.self.inside in
    let made : i.made.sacks ≡ c.args.self.made.sacks = ap (λ (v : SoloView _). v.made.sacks) c.self.view_is in
    let many = c.give_back.ensures.count in
    let none = c.self.invariant.emptied in
    let left = i.emptied.ok.0 in
    let sacks = c.self.invariant.as_many in
    omega (arith, made, many, none, left, sacks)
