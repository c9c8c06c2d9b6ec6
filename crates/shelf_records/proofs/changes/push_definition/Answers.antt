use Rattle.std.proofs.Common.{◌≡◌, ◌<◌, ◌∙◌, Some, Vec, Global, get_or, length, refl, sym, ap, arith}
use Rattle.std.specs.List.{slice_get}
use Rattle.std.proofs.lemmas.Option.{slice_get-get_or, slice_get-map, slice_get_read}
use Rattle.std.specs.Option.{option_map}
use Rattle.archive_policy.specs.declared.kind.Kind.TheVariants.{Mean}
use Rattle.shelf_records.specs.declared.moves.Move.{Move}
use Rattle.shelf_records.proofs.Changing.{lists_of, one_list}
use Rattle.shelf_records.proofs.changes.push_definition.Goals as goal

pub loop-place-preserved : goal.loop-place-preserved
loop-place-preserved c =
    let kinds = c.args.kinds.now in
    let moves = c.args.moves.now in
    let place = c.loop-place.place in
    let below : place < length kinds = c.loop-place-test.true in
    let there : slice_get (lists_of moves) place ≡ Some c.deref.result.now =
    slice_get-map (λ (own : Vec Move Global). own.items) moves place
    ∙ ap (option_map (λ (own : Vec Move Global). own.items)) (slice_get_read moves (length moves) place c.index-moves-place.result refl (omega (arith, below, c.requires)) c.index-moves-place.is)
    ∙ ap Some (sym c.deref.ensures.value) in
    one_list c.args.definition kinds (lists_of moves) c.loop-place.changes.items c.push_moves.new.changes.items _ place (get_or kinds place Mean) c.deref.result.now (slice_get-get_or kinds place Mean below) there (c.in_ok-push_moves.ensures {u = tt}) c.loop-place.invariant
