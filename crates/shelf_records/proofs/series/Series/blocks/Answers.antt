use Rattle.std.proofs.Common.{List, map, sym, ap, ◌∙◌}
use Rattle.shelf_records.specs.declared.series.Stored.{Stored}
use Rattle.shelf_records.proofs.Keys.{blocks_stored}
use Rattle.shelf_records.proofs.series.Series.blocks.Goals as goal

pub returns : goal.returns
returns c =
    let s = c.self.inside in
    c.as_slice.ensures.value ∙ sym (blocks_stored s.keys.items s.blocks.items c.self.invariant.paired) ∙ ap (λ (l : List Stored). map (λ (x : Stored). x.block) l) c.self.view_is
