use Rattle.std.proofs.Common.{◌≡◌, ◌+◌, ℕ, List, ◌∷◌, ◌++◌, take, drop, subst, ◌∙◌}
use Rattle.extent_map.proofs.RangeLemmas.{two_split}
use Rattle.extent_map.proofs.ranges.put_for_two.Goals as goal

pub returns-clause-items : goal.returns-clause-items
returns-clause-items c =
    subst (λ (ys : List (ℕ × ℕ)). c.put.new.free.items ≡ take c.args.i ys ++ c.args.range ∷ drop (c.args.i + 1) ys) c.remove.ensures.by_index.2 c.put.ensures.items
    ∙ two_split c.args.free.now.items c.args.i c.args.range c.requires
