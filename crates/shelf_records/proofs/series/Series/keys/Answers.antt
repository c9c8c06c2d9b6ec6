use Rattle.std.proofs.Common.{List, map, sym, ap, ◌∙◌}
use Rattle.shelf_records.specs.declared.series.Stored.{Stored}
use Rattle.shelf_records.proofs.Keys.{key_of, keys_stored}
use Rattle.shelf_records.proofs.series.Series.keys.Goals as goal

pub returns-clause-keys : goal.returns-clause-keys
returns-clause-keys c =
    let s = c.self.inside in
    c.as_slice.ensures.value ∙ sym (keys_stored s.keys.items s.blocks.items c.self.invariant.paired) ∙ ap (λ (l : List Stored). map key_of l) c.self.view_is
