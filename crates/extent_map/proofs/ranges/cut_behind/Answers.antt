use Rattle.std.proofs.Common.{ℕ, List, sym, subst, arith}
use Rattle.std.proofs.lemmas.Result.{on_ok_weaker}
use Rattle.extent_map.specs.Edits.{Cuts}
use Rattle.extent_map.proofs.RangeLemmas.{got_within}
use Rattle.extent_map.proofs.CutLemmas.{cuts_back, cuts_middle}
use Rattle.extent_map.proofs.ranges.cut_behind.Goals as goal

pub put-requires : goal.put-requires
put-requires c = got_within c.args.free.now.items c.args.i c.args.range c.requires.there

pub put_two-requires : goal.put_two-requires
put_two-requires c = got_within c.args.free.now.items c.args.i c.args.range c.requires.there

pub returns-then-behind-eq0-clause-ok : goal.returns-then-behind-eq0-clause-ok
returns-then-behind-eq0-clause-ok c =
    let a = c.args in
    subst (λ (new : List (ℕ × ℕ)). Cuts (a.at, a.len) a.free.now.items new) (sym c.put.ensures.items)
    (cuts_back a.free.now.items a.i a.at a.len a.range c.requires.apart c.requires.there c.requires.low (omega arith))

pub returns-clause-ok : goal.returns-clause-ok
returns-clause-ok c =
    let a = c.args in
    on_ok_weaker c.put_two.result
    (λ is. subst (λ (new : List (ℕ × ℕ)). Cuts (a.at, a.len) a.free.now.items new) (sym is)
    (cuts_middle a.free.now.items a.i a.at a.len a.range c.requires.apart c.requires.there c.requires.filled c.requires.low (omega arith)))
    c.put_two.ensures.ok
