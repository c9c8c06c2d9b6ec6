use Rattle.std.proofs.Common.{◌≡◌, ◌≢◌, ◌<◌, ◌≤◌, length, take, drop, get_or, Some, sym, ap, ◌∙◌, rules, arith}
use Rattle.std.specs.List.{All, slice_get}
use Rattle.std.proofs.lemmas.Option.{slice_get_within}
use Rattle.shelf_records.specs.Series.{block_of}
use Rattle.shelf_records.proofs.Keys.{absent_block, there_block}
use Rattle.shelf_records.proofs.series.Series.block_of.Goals as goal

pub returns-then-is_at : goal.returns-then-is_at
returns-then-is_at c =
    let s = c.self.inside in
    let keys = s.keys.items in
    let blocks = s.blocks.items in
    let k = c.args.key in
    let p = c.place_of-place.result in
    let before : All (λ x. x < k) (take p keys) = search rules in
    let behind : All (λ x. k ≤ x) (drop p keys) = search rules in
    let there : slice_get keys p ≡ Some k = search rules in
    let below : p < length blocks = omega (arith, slice_get_within keys p k there, c.self.invariant.paired) in
    let is : c.index.result.now ≡ get_or blocks p c.index.result.now = search rules in
    sym (there_block k p keys blocks c.self.invariant.paired c.self.invariant.rising before behind there c.index.result.now below is) ∙ ap (block_of k) c.self.view_is

pub returns-else-is_at : goal.returns-else-is_at
returns-else-is_at c =
    let s = c.self.inside in
    let keys = s.keys.items in
    let blocks = s.blocks.items in
    let k = c.args.key in
    let p = c.place_of-place.result in
    let before : All (λ x. x < k) (take p keys) = search rules in
    let behind : All (λ x. k ≤ x) (drop p keys) = search rules in
    let absent : slice_get keys p ≢ Some k = search rules in
    sym (absent_block k p keys blocks c.self.invariant.paired c.self.invariant.rising before behind absent) ∙ ap (block_of k) c.self.view_is
