use Rattle.std.proofs.Common.{◌+◌, ◌≤◌, List, map, sym, subst, ◌∙◌}
use Rattle.std.specs.Option.{IsSome}
use Rattle.std.specs.List.{All, flat_map}
use Rattle.gno_codec.specs.declared.item.Block.{Block}
use Rattle.shelf_records.specs.declared.series.Stored.{Stored}
use Rattle.shelf_records.specs.Shelved.{Kept}
use Rattle.shelf_blocks.proofs.Held.{all_front}
use Rattle.split_store.specs.Loading.{IsSound}
use Rattle.split_store.proofs.Sound.{blocks_within, found_has}
use Rattle.split_store.proofs.reading.raw_in.Goals as goal

pub read_series-requires-clause-within : goal.read_series-requires-clause-within
read_series-requires-clause-within g c =
    let m = c.in-Some.filed.now in
    let size = g.D.Disk.size c.args.blocks.now in
    subst (λ (bs : List Block). All (λ b. b.at + b.len ≤ size) bs) (sym c.chunks.ensures)
    (all_front (λ (b : Block). b.at + b.len ≤ size) m.chunks (flat_map (λ (k : Kept). map_blocks k) m.kept) (blocks_within size c.args.book.now.metrics c.args.metric m c.requires.blocks c.in-Some.ensures))
  where
    map_blocks : Kept → List Block
    map_blocks k = map (λ (s : Stored). s.block) k.splits

pub read_series-requires-clause-some : goal.read_series-requires-clause-some
read_series-requires-clause-some g c =
    let m = c.in-Some.filed.now in
    let sound = (found_has IsSound c.args.book.now.metrics c.args.metric m c.requires.sound c.in-Some.ensures).chunks in (
      λ some empty. sound.0 (subst IsSome c.last.ensures some) (sym c.chunks.ensures ∙ empty),
      λ ne. subst IsSome (sym c.last.ensures) (sound.1 (λ empty. ne (c.chunks.ensures ∙ empty))),
    )
