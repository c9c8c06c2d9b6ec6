use Rattle.std.proofs.Common.{◌≡◌, ◌+◌, ℕ, List, ◌∷◌, ◌++◌, take, drop, subst, ◌∙◌}
use Rattle.extent_map.proofs.RangeLemmas.{inserted}
use Rattle.extent_map.proofs.ranges.put_two.Goals as goal

pub returns-clause-ok : goal.returns-clause-ok
returns-clause-ok c =
    let a = c.args in
    subst (λ (ys : List (ℕ × ℕ)). c.put.new.free.items ≡ take a.i ys ++ a.first ∷ drop (a.i + 1) ys) c.in_ok-insert.ensures.ok c.put.ensures.items
    ∙ inserted a.free.now.items a.i a.first a.second c.requires
