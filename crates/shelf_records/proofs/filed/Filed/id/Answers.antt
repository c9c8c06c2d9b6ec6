use Rattle.std.proofs.Common.{subst, ◌∙◌}
use Rattle.shelf_records.specs.Filed.{IsFiled, layout_of}
use Rattle.shelf_records.proofs.Places.{emptied_none, emptied_with, rising_with}
use Rattle.shelf_records.proofs.filed.Filed.id.Goals as goal

pub returns-clause-filed : goal.returns-clause-filed
returns-clause-filed c =
    let f = c.self.inside in
    subst IsFiled c.self.view_is (record {
      definitions = c.self.invariant.definitions;
      kinds = c.self.invariant.kinds;
      layout = emptied_with (layout_of f.policy) f.kept.items c.self.invariant.paired ∙ emptied_none f.policy.kinds 0 f.policy.definitions;
      rising = rising_with (layout_of f.policy) f.kept.items c.self.invariant.rising;
    })
