use Rattle.std.proofs.Common.{◌≡◌, ◌∙◌, Some, None, ap, sym, rules}
use Rattle.std.specs.List.{position}
use Rattle.shelf_records.specs.Filed.{is_series_of}
use Rattle.shelf_records.specs.Series.{block_of}
use Rattle.shelf_records.proofs.Places.{same_at, splits_nowhere, splits_position}
use Rattle.shelf_records.proofs.filed.Filed.block_of.Goals as goal

pub returns-in-Some : goal.returns-in-Some
returns-in-Some c =
    let kept = c.args.self.now.kept in
    let is : position (is_series_of c.args.definition c.args.kind) kept ≡ Some c.in-Some.place = search rules in
    c.block_of.ensures ∙ ap (block_of c.args.key) (same_at kept c.in-Some.place _ _ c.series.ensures (splits_position c.args.definition c.args.kind kept c.in-Some.place is))

pub returns-in-None : goal.returns-in-None
returns-in-None c =
    let kept = c.args.self.now.kept in
    let is : position (is_series_of c.args.definition c.args.kind) kept ≡ None = search rules in
    sym (ap (block_of c.args.key) (splits_nowhere c.args.definition c.args.kind kept is))
