use Rattle.std.proofs.Common.{sym, subst, ◌∙◌}
use Rattle.pair_reading.proofs.ReadLemmas.{odd_at}
use Rattle.shelf_records.specs.Shelved.{AreBlocks, MayFollow, after_record}
use Rattle.split_store.specs.Damage.IsOddRecord.{unfit}
use Rattle.std.specs.Prelude.{All}
use Rattle.split_store.specs.Loading.{IsOddBehind, IsSound}
use Rattle.split_store.proofs.Sound.{sound_after}
use Rattle.split_store.proofs.LoadLemmas.{odd_behind, read_more}
use Rattle.split_store.proofs.load.load_one.Goals as goal

pub returns-in-Ok-follow-clause-are : goal.returns-in-Ok-follow-clause-are
returns-in-Ok-follow-clause-are g c =
    let found = c.in-Ok-read_shelf.ensures.found in
    let legal = c.in-Ok-follow.ensures.legal in
    read_more c.args.size c.args.index c.in-Ok.body.items c.in-Ok-read_shelf.item c.args.book.metrics c.in-Ok-follow.book.metrics c.args.pair.now.records
    c.in-Ok.ensures.asked c.requires.are found.0 (sym c.deref.ensures.value ∙ found.1) legal.0 legal.1 c.in-Ok-follow.ensures.ok

pub returns-in-Ok-follow-clause-sound : goal.returns-in-Ok-follow-clause-sound
returns-in-Ok-follow-clause-sound g c =
    let legal = c.in-Ok-follow.ensures.legal in
    subst (All IsSound) (sym c.in-Ok-follow.ensures.ok) (sound_after c.args.book.metrics c.in-Ok-read_shelf.item c.metrics-ids.ensures.rising c.requires.sound legal.0)

pub returns-in-Err-Damaged-clause-cause : goal.returns-in-Err-Damaged-clause-cause
returns-in-Err-Damaged-clause-cause g c =
    let found = c.in-Ok-read_shelf.ensures.found in
    let item = c.in-Ok-read_shelf.item in
    let size = c.args.size in
    odd_at (IsOddBehind size) g.D.Disk c.args.pair.now c.read_body.new.pair c.args.index c.in-Ok.body.items c.place_of.result c.read_body.ensures.reads c.in-Ok.ensures.asked
    (odd_behind size c.args.index c.in-Ok.body.items c.args.book.metrics c.args.pair.now.records c.requires.are
    (λ items are. unfit item found.0 (sym c.deref.ensures.value ∙ found.1) (λ fits. c.in-Err-Damaged.ensures.damaged c.in-Err-Damaged.field-0-is
    (subst (λ ms. MayFollow ms item) are fits.0) (subst (λ ms. AreBlocks size (after_record ms item)) are fits.1))))
    c.place_of.ensures.disk c.place_of.ensures.at
