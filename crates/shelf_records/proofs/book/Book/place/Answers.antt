use Rattle.std.proofs.Common.{◌≡◌, ◌∙◌, None, subst}
use Rattle.std.specs.Option.{MatchOption}
use Rattle.shelf_records.specs.Book.{BookView, IsPlaceOf}
use Rattle.shelf_records.specs.Shelved.{metric_of}
use Rattle.shelf_records.proofs.Metrics.{found_option, ids_rise}
use Rattle.shelf_records.proofs.book.Book.place.Goals as goal

pub place_of-requires : goal.place_of-requires
place_of-requires c =
    let b = c.self.inside in
    ids_rise c.as_slice.result.now b.metrics.items (c.as_slice.ensures.value ∙ c.self.invariant.ids) c.self.invariant.rising

pub returns : goal.returns
returns c =
    let b = c.self.inside in
    subst (λ (v : BookView). MatchOption c.place_of.result (metric_of c.args.id v.metrics ≡ None) (λ place. IsPlaceOf c.args.id v.metrics place)) c.self.view_is
    (found_option c.as_slice.result.now b.metrics.items c.args.id (c.as_slice.ensures.value ∙ c.self.invariant.ids) c.self.invariant.rising c.place_of.result c.place_of.ensures.some c.place_of.ensures.none)
