use Rattle.std.proofs.Common.{◌≡◌, ◌+◌, ◌++◌, take, drop, Some, slice_get, ap, sym, ◌∙◌}
use Rattle.extent_map.proofs.RangeLemmas.{got_read}
use Rattle.extent_map.proofs.EditLemmas.{left_over, left_none}
use Rattle.extent_map.proofs.ranges.cut_front.Goals as goal

pub returns-then-len-range-clause-items : goal.returns-then-len-range-clause-items
returns-then-len-range-clause-items c =
    let free = c.args.free.now.items in
    let i = c.args.i in
    let x = c.index-range.result.now in
    let got : slice_get free i ≡ Some x = got_read free i x _ c.requires c.index-range.ensures in
    rw got (c.put.ensures.items ∙ ap (λ w. take i free ++ (w ++ drop (i + 1) free)) (sym (left_over c.args.len x c.if-len-range.true)))

pub returns-else-len-range-clause-items : goal.returns-else-len-range-clause-items
returns-else-len-range-clause-items c =
    let free = c.args.free.now.items in
    let i = c.args.i in
    let x = c.index-range.result.now in
    let got : slice_get free i ≡ Some x = got_read free i x _ c.requires c.index-range.ensures in
    rw got (c.remove.ensures.by_index.2 ∙ ap (λ w. take i free ++ (w ++ drop (i + 1) free)) (sym (left_none c.args.len x c.if-len-range.false)))
