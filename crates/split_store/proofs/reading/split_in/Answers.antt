use Rattle.std.proofs.Common.{List, Some, slice_index_or, sym, ap, ◌∙◌}
use Rattle.std.proofs.lemmas.Option.{slice_get-get_or}
use Rattle.archive_policy.specs.declared.definition.Definition.{Definition}
use Rattle.shelf_records.specs.Series.{block_of}
use Rattle.shelf_records.specs.Shelved.{metric_of}
use Rattle.split_store.proofs.Sound.{split_within}
use Rattle.split_store.proofs.SplitFound.{odd_is, read_is}
use Rattle.split_store.proofs.reading.split_in.Goals as goal

pub read_split_in-requires : goal.read_split_in-requires
read_split_in-requires g c =
    let m = c.in-Some.filed.now in
    let stored = ap (block_of c.args.key) (sym c.in-Some-series_for.ensures.series.0) ∙ sym c.block_of.ensures ∙ c.in-Some-block_of.is in
    record { within = split_within (g.D.Disk.size c.args.blocks.now) c.args.book.now.metrics c.args.metric m c.args.definition c.args.kind c.args.key c.in-Some-block_of.block c.requires.blocks c.in-Some.ensures stored }

pub returns-in-Ok-clause-split : goal.returns-in-Ok-clause-split
returns-in-Ok-clause-split g c =
    let m = c.in-Some.filed.now in
    let r = c.index-definitions-from.result in
    let d = slice_index_or c.definitions.result.now c.from.result r in
    let stored = ap (block_of c.args.key) (sym c.in-Some-series_for.ensures.series.0) ∙ sym c.block_of.ensures ∙ c.in-Some-block_of.is in
    let same = c.definitions.ensures.value ∙ ap (λ p. p.definitions) c.policy.ensures in
    let there = slice_get-get_or m.policy.definitions c.args.definition r c.in-Some-series_for.ensures.series.1
    ∙ ap Some (ap (λ (ds : List Definition). slice_index_or ds c.args.definition r) (sym same) ∙ ap (λ n. slice_index_or c.definitions.result.now n r) (sym c.from.ensures)) in
    read_is (g.D.Disk.told c.args.blocks.now) c.args.book.now.metrics m (metric_of c.args.metric c.args.book.now.metrics) c.args.definition c.args.kind c.args.key d c.in-Some-block_of.block c.in-Ok.split
    c.in-Some.ensures there stored c.in-Ok.ensures.split c.in-Ok.ensures.exact

pub returns-in-Err-clause-cause : goal.returns-in-Err-clause-cause
returns-in-Err-clause-cause g c =
    let m = c.in-Some.filed.now in
    let r = c.index-definitions-from.result in
    let d = slice_index_or c.definitions.result.now c.from.result r in
    let stored = ap (block_of c.args.key) (sym c.in-Some-series_for.ensures.series.0) ∙ sym c.block_of.ensures ∙ c.in-Some-block_of.is in
    let same = c.definitions.ensures.value ∙ ap (λ p. p.definitions) c.policy.ensures in
    let there = slice_get-get_or m.policy.definitions c.args.definition r c.in-Some-series_for.ensures.series.1
    ∙ ap Some (ap (λ (ds : List Definition). slice_index_or ds c.args.definition r) (sym same) ∙ ap (λ n. slice_index_or c.definitions.result.now n r) (sym c.from.ensures)) in
    odd_is c.in-Err.fault _ (g.D.Disk.told c.args.blocks.now) c.args.book.now.metrics c.args.metric m c.args.definition c.args.kind c.args.key d c.in-Some-block_of.block c.in-Some.ensures there stored c.in-Err.ensures.cause
