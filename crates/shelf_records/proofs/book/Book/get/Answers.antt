use Rattle.std.proofs.Common.{◌≡◌, ◌∙◌, Some, length, vec_len, sym, ap, rules}
use Rattle.std.specs.List.{slice_get}
use Rattle.std.proofs.lemmas.Option.{get_or_from_slice_get, slice_get_within}
use Rattle.shelf_records.specs.Book.{BookView, IsPlaceOf}
use Rattle.shelf_records.proofs.book.Book.get.Goals as goal

pub index-requires : goal.index-requires
index-requires c =
    let is : IsPlaceOf c.args.id c.args.self.now.metrics c.in-Some.place = c.in-Some.ensures {u = tt} in
    let there : slice_get c.self.inside.metrics.items c.in-Some.place ≡ Some is.metric = ap (λ (v : BookView). slice_get v.metrics c.in-Some.place) c.self.view_is ∙ is.there in
    let long : vec_len c.self.inside.metrics ≡ length c.self.inside.metrics.items = search rules in
    rw long (slice_get_within c.self.inside.metrics.items c.in-Some.place is.metric there)

pub returns-in-Some : goal.returns-in-Some
returns-in-Some c =
    let is : IsPlaceOf c.args.id c.args.self.now.metrics c.in-Some.place = c.in-Some.ensures {u = tt} in
    let there : slice_get c.self.inside.metrics.items c.in-Some.place ≡ Some is.metric = ap (λ (v : BookView). slice_get v.metrics c.in-Some.place) c.self.view_is ∙ is.there in
    is.found ∙ ap Some (sym (c.index.ensures ∙ get_or_from_slice_get c.self.inside.metrics.items c.in-Some.place is.metric c.index.result.now there))
