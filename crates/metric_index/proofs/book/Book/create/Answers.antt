use Rattle.std.proofs.Common.{◌≡◌, ◌≤◌, [], ◌∷◌, ℕ, List, ap, sym, subst, ◌∙◌, arith}
use Rattle.gate_log.specs.Records.{bodies_of}
use Rattle.gno_codec.specs.Index.{index_bytes}
use Rattle.gno_codec.specs.declared.item.IndexItem.TheVariants as items
use Rattle.log_pair.specs.declared.place.Place.{Place}
use Rattle.metric_index.specs.Catalog.{maps_in, new_catalog}
use Rattle.front_api.specs.Maps.{Maps}
use Rattle.metric_index.specs.IndexLog.{IsIndexLog, index_place}
use Rattle.metric_index.proofs.Logs.{log_store}
use Rattle.metric_index.proofs.Mounted.{held_told}
use Rattle.metric_index.proofs.WriteMoments.{none_made, store_are}
use Rattle.metric_index.proofs.book.Book.create.Goals as goal

pub returns-in_default-clause-any_moment_err : goal.returns-in_default-clause-any_moment_err
returns-in_default-clause-any_moment_err g c told_a told_b none_a none_b =
    none_made g.D.Disk g.met.D.Disk.only_now (index_place c.args.sacks) (index_bytes (items.Store c.args.number 0) ∷ []) c.args.a c.args.b none_a none_b

pub returns-in_default-clause-came_err : goal.returns-in_default-clause-came_err
returns-in_default-clause-came_err g c =
    let nine : 0 ≤ 9 = omega arith in
    let five : 0 ≤ 5 = omega arith in
    (g.met.D.Disk.came_more 0 9 _ _ nine (g.met.D.Disk.came_none _), g.met.D.Disk.came_more 0 5 _ _ five (g.met.D.Disk.came_none _))

pub returns-clause-durable : goal.returns-clause-durable
returns-clause-durable g c a b left left_too told =
    let p = c.in-Ok-made.pair in
    let e = c.in-Ok-made.ensures in
    let place : p.place ≡ index_place c.args.sacks = e.made.0 ∙ c.place_of.ensures in
    let bytes : bodies_of c.as_slice.result.now ≡ index_bytes (items.Store c.args.number 0) ∷ [] = ap bodies_of c.as_slice.ensures.value ∙ c.in-Ok.ensures.bytes in
    let log = subst (λ (m : Maps). IsIndexLog (bodies_of c.as_slice.result.now) m) (sym c.new.ensures.maps)
    (subst (λ (rs : List (List ℕ)). IsIndexLog rs (new_catalog c.args.number 0)) (sym bytes) (log_store c.args.number 0 c.in-Ok.ensures.fits)) in
    held_told p.records p.place p.place.sacks p.epoch (maps_in c.new.result) a b (place ∙ ap index_place (sym (ap (λ (q : Place). q.sacks) place)))
    (store_are p.records (bodies_of c.as_slice.result.now) (maps_in c.new.result) log e.records) (e.durable a b left left_too) told
