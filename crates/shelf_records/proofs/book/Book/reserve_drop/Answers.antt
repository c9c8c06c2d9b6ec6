use Rattle.std.proofs.Common.{◌≡◌, ◌≤◌, ◌++◌, ◌∙◌, Some, length, take, sym, ap, arith, rules}
use Rattle.std.specs.List.{slice_get}
use Rattle.std.proofs.lemmas.Option.{get_or_from_slice_get, same_Some}
use Rattle.shelf_records.specs.Book.{BookView, IsPlaceOf, places_of}
use Rattle.shelf_records.specs.Shelved.{Shelved, blocks_in_use, blocks_of_metric}
use Rattle.shelf_records.proofs.Metrics.{held_again}
use Rattle.shelf_records.proofs.book.Book.reserve_drop.Goals as goal

pub invariant_of-self-2 : goal.invariant_of-self-2
invariant_of-self-2 c =
    let b = c.self.inside in
    let old = c.self.invariant in
    record {
      ids = old.ids;
      rising = old.rising;
      filed = old.filed;
      within = old.within;
      all = old.all;
      held = held_again (take b.held b.taken.items ++ places_of (blocks_in_use b.metrics.items)) b.used c.reserve.new.self c.reserve.ensures.end c.reserve.ensures.free old.held;
    }

pub returns-clause-ok : goal.returns-clause-ok
returns-clause-ok c m found =
    let b = c.self.inside in
    let place = c.in-Some.place in
    let is : IsPlaceOf c.args.id c.args.self.now.metrics place = c.in-Some.ensures {u = tt} in
    let there : slice_get b.metrics.items place ≡ Some is.metric = ap (λ (v : BookView). slice_get v.metrics place) c.self.view_is ∙ is.there in
    let own : c.index.result.now ≡ m = c.index.ensures ∙ get_or_from_slice_get b.metrics.items place is.metric c.index.result.now there ∙ same_Some is.metric m (sym is.found ∙ found) in
    let count : c.in-Some-block_count.count ≡ length (blocks_of_metric c.index.result.now) = search rules in
    let sure : c.in-Some-block_count.count ≤ c.reserve.new.self.spare = search rules in
    omega (arith, count, sure, ap (λ (x : Shelved). length (blocks_of_metric x)) own)
