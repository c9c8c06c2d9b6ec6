use Rattle.std.proofs.Common.{◌≡◌, ◌+◌, ◌++◌, ℕ, List, take, drop, Some, slice_get, sym, subst, arith}
use Rattle.extent_map.specs.Edits.{Cuts}
use Rattle.extent_map.specs.Extents.{without_front}
use Rattle.extent_map.proofs.RangeLemmas.{got_read, held}
use Rattle.extent_map.proofs.CutLemmas.{cuts_front}
use Rattle.extent_map.proofs.ranges.cut.Goals as goal

pub returns-then-range-at-clause-ok : goal.returns-then-range-at-clause-ok
returns-then-range-at-clause-ok c =
    let free = c.args.free.now.items in
    let i = c.args.i in
    let len = c.args.len in
    let x = c.index-range.result.now in
    let got : slice_get free i ≡ Some x = got_read free i x _ c.requires.there c.index-range.ensures in
    let there = held free i x _ c.requires.there got in
    let is : c.cut_front.new.free.items ≡ take i free ++ (without_front len x ++ drop (i + 1) free) = held free i x _ c.cut_front.ensures.items got in
    subst (λ (at : ℕ). Cuts (at, len) free c.cut_front.new.free.items) c.if-range-at.true
    (subst (λ (new : List (ℕ × ℕ)). Cuts (x.0, len) free new) (sym is) (cuts_front free i len x c.requires.apart got (omega (arith, there.1))))

pub cut_behind-requires : goal.cut_behind-requires
cut_behind-requires c =
    let free = c.args.free.now.items in
    let x = c.index-range.result.now in
    let got : slice_get free c.args.i ≡ Some x = got_read free c.args.i x _ c.requires.there c.index-range.ensures in
    let there = held free c.args.i x _ c.requires.there got in
    record {
      there = got;
      low = omega (arith, there.0, c.if-range-at.false);
      high = there.1;
      fits = there.2;
      filled = c.requires.filled;
      apart = c.requires.apart;
    }
