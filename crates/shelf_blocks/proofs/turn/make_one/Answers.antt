use Rattle.std.proofs.Common.{◌≡◌, ◌≤◌, ◌<◌, ◌+◌, ◌%◌, ℕ, List, All, IfSome, Option, Some, slice_get, slice_index_or, length, sym, ap, subst, ◌∙◌}
use Rattle.std.specs.Bool.{⊤}
use Rattle.std.proofs.lemmas.Option.{slice_get-get_or}
use Rattle.archive_policy.specs.declared.kind.Kind.TheVariants.{Mean}
use Rattle.series_model.specs.declared.point.Point.{Point}
use Rattle.series_model.specs.Stored.{split_span}
use Rattle.bound_series.specs.Jobs.{AreNew, points_for}
use Rattle.shelf_records.specs.declared.series.Stored.{Stored}
use Rattle.shelf_blocks.specs.Turns.{AreWithin, IsDamagedSplit, IsDamagedSplitOf, IsMade, IsMadeAt}
use Rattle.shelf_blocks.proofs.MakeLemmas.{err_weaker, found, keys_for, made_for, made_is, new_for, ok_weaker, one_place, defined, told_series}
use Rattle.shelf_blocks.proofs.SeriesPlaces.{all_at}
use Rattle.shelf_blocks.proofs.turn.make_one.Goals as goal

pub series-series-requires : goal.series-series-requires
series-series-requires g c =
    let m = c.args.filed.now in
    let p = c.args.prepared.now in
    let kinds = c.kinds-kinds.result.now in
    let kind = slice_index_or kinds c.args.kind Mean in
    let d = slice_index_or m.policy.definitions c.args.definition (record { granularity = 0; points = 0 }) in
    let same = c.policy-policy.ensures in
    let kinds_are = c.kinds-kinds.ensures.value ∙ ap (λ q. q.kinds) same in
    let kind_is = ap (λ ks. slice_get ks c.args.kind) (sym kinds_are) ∙ slice_get-get_or kinds c.args.kind Mean (subst (λ ks. c.args.kind < length ks) (sym kinds_are) c.requires.kind) in
    one_place (g.D.Disk.told c.args.disk.now) m p c.args.definition c.args.kind c.args.place kind d c.id-id.ensures.filed c.requires.policy kind_is (slice_get-get_or m.policy.definitions c.args.definition (record { granularity = 0; points = 0 }) c.requires.definition) c.requires.place

pub made_of-requires-clause-new : goal.made_of-requires-clause-new
made_of-requires-clause-new g c =
    let m = c.args.filed.now in
    let p = c.args.prepared.now in
    let kinds = c.kinds-kinds.result.now in
    let kind = slice_index_or kinds c.args.kind Mean in
    let d = c.index-definitions-definition.result in
    let same = c.policy-policy.ensures in
    let kinds_are = c.kinds-kinds.ensures.value ∙ ap (λ q. q.kinds) same in
    let kind_is = ap (λ ks. slice_get ks c.args.kind) (sym kinds_are) ∙ slice_get-get_or kinds c.args.kind Mean (subst (λ ks. c.args.kind < length ks) (sym kinds_are) c.requires.kind) in
    let ds_are = c.definitions.ensures.value ∙ ap (λ q. q.definitions) same in
    let d_is = slice_get-get_or m.policy.definitions c.args.definition d c.requires.definition ∙ ap Some (ap (λ ds. slice_index_or ds c.args.definition d) (sym ds_are) ∙ sym c.index-definitions-definition.is) in
    subst (λ ps. AreNew d.granularity c.from.result ps) (sym c.points-points.ensures.value) (subst (λ o. AreNew d.granularity o (points_for p c.args.definition kind)) (sym c.from.ensures.value)
    (new_for (g.D.Disk.told c.args.disk.now) m p c.args.definition c.args.kind c.args.place kind d c.id-id.ensures.filed c.requires.policy kind_is d_is c.requires.place c.from.ensures.prepared))

pub made_of-requires-clause-keys : goal.made_of-requires-clause-keys
made_of-requires-clause-keys g c =
    let m = c.args.filed.now in
    let p = c.args.prepared.now in
    let kinds = c.kinds-kinds.result.now in
    let kind = slice_index_or kinds c.args.kind Mean in
    let d = c.index-definitions-definition.result in
    let same = c.policy-policy.ensures in
    let kinds_are = c.kinds-kinds.ensures.value ∙ ap (λ q. q.kinds) same in
    let kind_is = ap (λ ks. slice_get ks c.args.kind) (sym kinds_are) ∙ slice_get-get_or kinds c.args.kind Mean (subst (λ ks. c.args.kind < length ks) (sym kinds_are) c.requires.kind) in
    let ds_are = c.definitions.ensures.value ∙ ap (λ q. q.definitions) same in
    let d_is = slice_get-get_or m.policy.definitions c.args.definition d c.requires.definition ∙ ap Some (ap (λ ds. slice_index_or ds c.args.definition d) (sym ds_are) ∙ sym c.index-definitions-definition.is) in
    let there = found (slice_get m.kept c.args.place) (λ kept. c.series-series.result.now ≡ kept.splits) c.series-series.ensures in
    subst (λ (ss : List Stored). All (λ s. s.key % split_span d.granularity ≡ 0) ss) (sym there.has)
    (keys_for (g.D.Disk.told c.args.disk.now) m p c.args.definition c.args.kind c.args.place kind d c.id-id.ensures.filed c.requires.policy kind_is d_is c.requires.place c.requires.keys there.it there.is)

pub made_of-requires-clause-within : goal.made_of-requires-clause-within
made_of-requires-clause-within g c =
    let m = c.args.filed.now in
    let size = g.D.Disk.size c.args.disk.now in
    let there = found (slice_get m.kept c.args.place) (λ kept. c.series-series.result.now ≡ kept.splits) c.series-series.ensures in
    subst (λ (ss : List Stored). All (λ s. s.block.at + s.block.len ≤ size) ss) (sym there.has) (all_at (AreWithin size) m.kept c.args.place there.it c.requires.within there.is)

pub returns-clause-made : goal.returns-clause-made
returns-clause-made g c =
    let m = c.args.filed.now in
    let p = c.args.prepared.now in
    let told = g.D.Disk.told c.args.disk.now in
    let kinds = c.kinds-kinds.result.now in
    let kind = slice_index_or kinds c.args.kind Mean in
    let d = c.index-definitions-definition.result in
    let same = c.policy-policy.ensures in
    let kinds_are = c.kinds-kinds.ensures.value ∙ ap (λ q. q.kinds) same in
    let kind_is = ap (λ ks. slice_get ks c.args.kind) (sym kinds_are) ∙ slice_get-get_or kinds c.args.kind Mean (subst (λ ks. c.args.kind < length ks) (sym kinds_are) c.requires.kind) in
    let ds_are = c.definitions.ensures.value ∙ ap (λ q. q.definitions) same in
    let d_is = slice_get-get_or m.policy.definitions c.args.definition d c.requires.definition ∙ ap Some (ap (λ ds. slice_index_or ds c.args.definition d) (sym ds_are) ∙ sym c.index-definitions-definition.is) in
    let there = found (slice_get m.kept c.args.place) (λ kept. c.series-series.result.now ≡ kept.splits) c.series-series.ensures in
    let made = made_is c.made_of.result told d c.last-last.result c.from.result c.points-points.result.now c.series-series.result.now c.made_of.ensures.within c.made_of.ensures.formed c.made_of.ensures.rising c.made_of.ensures.after in
    let last_is = c.last-last.ensures ∙ ap (λ r. r.last) c.raw.ensures.value in
    ok_weaker c.made_of.result (IsMade told d c.last-last.result c.from.result c.points-points.result.now c.series-series.result.now) (IsMadeAt told m p c.args.place)
    (λ made is. made_for told m p c.args.definition c.args.kind c.args.place kind d c.id-id.ensures.filed c.requires.policy kind_is d_is c.requires.place there.it made there.is
    (subst (λ (ss : List Stored). IsMade told d p.raw.last p.from (points_for p c.args.definition kind) ss made) there.has
    (subst (λ (ps : List Point). IsMade told d p.raw.last p.from ps c.series-series.result.now made) c.points-points.ensures.value
    (subst (λ (o : Option ℕ). IsMade told d p.raw.last o c.points-points.result.now c.series-series.result.now made) c.from.ensures.value
    (subst (λ (o : Option ℕ). IsMade told d o c.from.result c.points-points.result.now c.series-series.result.now made) last_is is)))))
    made

pub returns-clause-cause : goal.returns-clause-cause
returns-clause-cause g c =
    let m = c.args.filed.now in
    let p = c.args.prepared.now in
    let told = g.D.Disk.told c.args.disk.now in
    let kinds = c.kinds-kinds.result.now in
    let kind = slice_index_or kinds c.args.kind Mean in
    let d = c.index-definitions-definition.result in
    let same = c.policy-policy.ensures in
    let kinds_are = c.kinds-kinds.ensures.value ∙ ap (λ q. q.kinds) same in
    let kind_is = ap (λ ks. slice_get ks c.args.kind) (sym kinds_are) ∙ slice_get-get_or kinds c.args.kind Mean (subst (λ ks. c.args.kind < length ks) (sym kinds_are) c.requires.kind) in
    let ds_are = c.definitions.ensures.value ∙ ap (λ q. q.definitions) same in
    let d_is = slice_get-get_or m.policy.definitions c.args.definition d c.requires.definition ∙ ap Some (ap (λ ds. slice_index_or ds c.args.definition d) (sym ds_are) ∙ sym c.index-definitions-definition.is) in
    let there = found (slice_get m.kept c.args.place) (λ kept. c.series-series.result.now ≡ kept.splits) c.series-series.ensures in
    let of = defined told m p c.args.definition c.args.kind c.args.place kind d c.id-id.ensures.filed c.requires.policy kind_is d_is c.requires.place there.it there.is in
    err_weaker c.made_of.result ⊤ (λ at. IfSome told (λ z. IsDamagedSplit z d.granularity c.series-series.result.now at)) (λ at. IfSome told (λ z. IsDamagedSplitOf z m at))
    (λ rose. rose)
    (λ at damaged. told_series told m c.args.place there.it d at there.is of (subst (λ (ss : List Stored). IfSome told (λ z. IsDamagedSplit z d.granularity ss at)) there.has damaged))
    c.made_of.ensures.cause
