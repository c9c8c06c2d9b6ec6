use Rattle.std.proofs.Common.{◌≡◌, ◌≤◌, ◌/◌, ◌++◌, [], List, length, map, take, drop, slice_get, slice_index_or, sym, ap, subst, ◌∙◌, arith}
use Rattle.std.specs.List.Sorted.{IsStrictlyIncreasing}
use Rattle.std.proofs.lemmas.List.{map-append}
use Rattle.std.proofs.lemmas.Option.{slice_get-get_or}
use Rattle.archive_policy.specs.declared.kind.Kind.TheVariants.{Mean}
use Rattle.shelf_records.specs.Shelved.{Kept}
use Rattle.series_model.specs.declared.point.Split.{Split}
use Rattle.shelf_records.specs.declared.series.Stored.{Stored}
use Rattle.split_update.specs.Update.{AreSplits}
use Rattle.shelf_blocks.specs.Pieces.{AreSplitPieces}
use Rattle.shelf_blocks.proofs.MakeLemmas.{found}
use Rattle.shelf_blocks.proofs.TurnedLemmas.{all_turned, at_place, defined_at, in_bounds, pieces_added, stored_keys}
use Rattle.shelf_blocks.proofs.turned.turn_one.Goals as goal

pub offset_bounds-definitions-place : goal.offset_bounds-definitions-place
offset_bounds-definitions-place c =
    let m = c.args.filed.now in
    let same = c.policy-policy.ensures in
    let kinds_are = c.kinds-kinds.ensures.value ∙ ap (λ q. q.kinds) same in
    let ds_are = c.definitions.ensures.value ∙ ap (λ q. q.definitions) same in
    let lt = in_bounds m c.args.place c.kinds-kinds.result.now c.definitions.result.now kinds_are ds_are c.id-id.ensures.filed c.requires.place in
    let few = c.definitions.ensures.valid.few in
    omega (arith, lt, few)

pub bounds-definitions-place : goal.bounds-definitions-place
bounds-definitions-place c =
    let same = c.policy-policy.ensures in
    in_bounds c.args.filed.now c.args.place c.kinds-kinds.result.now c.definitions.result.now (c.kinds-kinds.ensures.value ∙ ap (λ q. q.kinds) same) (c.definitions.ensures.value ∙ ap (λ q. q.definitions) same) c.id-id.ensures.filed c.requires.place

pub bounds-definitions-place-2 : goal.bounds-definitions-place-2
bounds-definitions-place-2 c =
    let same = c.policy-policy.ensures in
    in_bounds c.args.filed.now c.args.place c.kinds-kinds.result.now c.definitions.result.now (c.kinds-kinds.ensures.value ∙ ap (λ q. q.kinds) same) (c.definitions.ensures.value ∙ ap (λ q. q.definitions) same) c.id-id.ensures.filed c.requires.place

pub add_split_pieces-requires-clause-granularity : goal.add_split_pieces-requires-clause-granularity
add_split_pieces-requires-clause-granularity c =
    let same = c.policy-policy.ensures in
    let lt = in_bounds c.args.filed.now c.args.place c.kinds-kinds.result.now c.definitions.result.now (c.kinds-kinds.ensures.value ∙ ap (λ q. q.kinds) same) (c.definitions.ensures.value ∙ ap (λ q. q.definitions) same) c.id-id.ensures.filed c.requires.place in
    let shortest = (c.definitions.ensures.valid.each (c.args.place / length c.kinds-kinds.result.now) c.index-definitions-place.result lt).granularity.shortest in
    omega (arith, shortest)

pub add_split_pieces-requires-clause-formed : goal.add_split_pieces-requires-clause-formed
add_split_pieces-requires-clause-formed c =
    let m = c.args.filed.now in
    let made = c.args.made.now in
    let same = c.policy-policy.ensures in
    let kinds = c.kinds-kinds.result.now in
    let ds = c.definitions.result.now in
    let d = slice_index_or ds (c.args.place / length kinds) c.index-definitions-place.result in
    let d_is = at_place m c.args.place kinds ds c.index-definitions-place.result (c.kinds-kinds.ensures.value ∙ ap (λ q. q.kinds) same) (c.definitions.ensures.value ∙ ap (λ q. q.definitions) same) c.id-id.ensures.filed c.requires.place in
    let none : Kept = record { definition = 0; kind = Mean; splits = [] } in
    let kept = slice_index_or m.kept c.args.place none in
    let there = slice_get-get_or m.kept c.args.place none c.requires.place in
    let fits = c.requires.fits kept d there (defined_at m c.args.place kept d c.id-id.ensures.filed there d_is) in
    subst (AreSplits d.granularity) (sym c.deref.ensures.value) fits.formed

pub turned-requires-clause-within : goal.turned-requires-clause-within
turned-requires-clause-within c =
    let m = c.args.filed.now in
    let made = c.args.made.now in
    let same = c.policy-policy.ensures in
    let kinds = c.kinds-kinds.result.now in
    let ds = c.definitions.result.now in
    let d = slice_index_or ds (c.args.place / length kinds) c.index-definitions-place.result in
    let d_is = at_place m c.args.place kinds ds c.index-definitions-place.result (c.kinds-kinds.ensures.value ∙ ap (λ q. q.kinds) same) (c.definitions.ensures.value ∙ ap (λ q. q.definitions) same) c.id-id.ensures.filed c.requires.place in
    let there = found (slice_get m.kept c.args.place) (λ kept. c.series.result.now ≡ kept.splits) c.series.ensures in
    let of = defined_at m c.args.place there.it d c.id-id.ensures.filed there.is d_is in
    let fits = c.requires.fits there.it d there.is of in
    (fits.order, subst (λ (l : List Stored). made.kept.until ≤ length l) (sym there.has) fits.within)

pub turned-requires-clause-rising : goal.turned-requires-clause-rising
turned-requires-clause-rising c =
    let m = c.args.filed.now in
    let made = c.args.made.now in
    let same = c.policy-policy.ensures in
    let kinds = c.kinds-kinds.result.now in
    let ds = c.definitions.result.now in
    let d = slice_index_or ds (c.args.place / length kinds) c.index-definitions-place.result in
    let d_is = at_place m c.args.place kinds ds c.index-definitions-place.result (c.kinds-kinds.ensures.value ∙ ap (λ q. q.kinds) same) (c.definitions.ensures.value ∙ ap (λ q. q.definitions) same) c.id-id.ensures.filed c.requires.place in
    let there = found (slice_get m.kept c.args.place) (λ kept. c.series.result.now ≡ kept.splits) c.series.ensures in
    let of = defined_at m c.args.place there.it d c.id-id.ensures.filed there.is d_is in
    let fits = c.requires.fits there.it d there.is of in
    let now = c.series.result.now in
    let stored = c.deref-2.result.now in
    let written = c.in_ok-stored.ensures.2 in
    let keys : map (λ (s : Stored). s.key) stored ≡ map (λ (s : Split). s.key) made.splits.items =
    ap (map (λ (s : Stored). s.key)) c.deref-2.ensures.value ∙ stored_keys d.granularity c.deref.result.now c.args.places.now c.in_ok-stored.ensures.0 c.in_ok-stored.stored.items written ∙ ap (map (λ (s : Split). s.key)) c.deref.ensures.value in
    let kept = drop made.kept.first (take made.kept.until now) in
    let rising = subst (λ (l : List Stored). IsStrictlyIncreasing (map (λ s. s.key) (drop made.kept.first (take made.kept.until l)) ++ map (λ s. s.key) made.splits.items)) (sym there.has) fits.rising in
    subst IsStrictlyIncreasing (ap (λ ks. map (λ (s : Stored). s.key) kept ++ ks) (sym keys) ∙ sym (map-append (λ (s : Stored). s.key) kept stored)) rising

pub returns-clause-turned : goal.returns-clause-turned
returns-clause-turned c =
    let m = c.args.filed.now in
    let made = c.args.made.now in
    let same = c.policy-policy.ensures in
    let kinds = c.kinds-kinds.result.now in
    let ds = c.definitions.result.now in
    let d = slice_index_or ds (c.args.place / length kinds) c.index-definitions-place.result in
    let d_is = at_place m c.args.place kinds ds c.index-definitions-place.result (c.kinds-kinds.ensures.value ∙ ap (λ q. q.kinds) same) (c.definitions.ensures.value ∙ ap (λ q. q.definitions) same) c.id-id.ensures.filed c.requires.place in
    let there = found (slice_get m.kept c.args.place) (λ kept. c.series.result.now ≡ kept.splits) c.series.ensures in
    let of = defined_at m c.args.place there.it d c.id-id.ensures.filed there.is d_is in
    let fits = c.requires.fits there.it d there.is of in
    let given = c.in_ok-stored.ensures in
    let now = c.series.result.now in
    let written = subst (λ ss. AreSplitPieces d.granularity ss c.args.places.now given.0 c.in_ok-stored.stored.items) c.deref.ensures.value given.2 in
    let is = c.deref-2.ensures.value in
    let t = c.turned.ensures in
    all_turned c.turned.result (λ t. t.0) (λ t. t.1.items) m c.args.place made there.it d c.args.places.now c.args.pieces.now.items given.0 c.add_split_pieces.new.pieces.items c.deref-2.result.now now
    there.is there.has of given.1 (subst (λ l. AreSplitPieces d.granularity made.splits.items c.args.places.now given.0 l) (sym is) written) t.series t.leads t.rising t.made t.gone t.blocks

pub returns-clause-pieces : goal.returns-clause-pieces
returns-clause-pieces c =
    let kinds = c.kinds-kinds.result.now in
    let ds = c.definitions.result.now in
    let d = slice_index_or ds (c.args.place / length kinds) c.index-definitions-place.result in
    let given = c.in_ok-stored.ensures in
    let written = subst (λ l. AreSplitPieces d.granularity c.deref.result.now c.args.places.now given.0 l) (sym c.deref-2.ensures.value) given.2 in
    pieces_added c.turned.result (λ t. t.1.items) d.granularity c.deref.result.now c.args.places.now c.args.pieces.now.items given.0 c.add_split_pieces.new.pieces.items c.deref-2.result.now given.1 written c.turned.ensures.blocks
