use Rattle.std.proofs.Common.{◌∙◌, ap}
use Rattle.std.specs.List.{position}
use Rattle.shelf_records.specs.Filed.{is_series_of}
use Rattle.shelf_records.specs.Shelved.{Shelved}
use Rattle.shelf_records.proofs.Places.{place_first}
use Rattle.shelf_records.proofs.filed.Filed.place_of.Goals as goal

pub returns-clause-first : goal.returns-clause-first
returns-clause-first c =
    let f = c.self.inside in
    c.place_in.ensures
    ∙ place_first f.policy c.args.definition c.args.kind f.kept.items c.self.invariant.paired
    ∙ ap (λ (m : Shelved). position (is_series_of c.args.definition c.args.kind) m.kept) c.self.view_is
