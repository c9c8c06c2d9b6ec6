use Rattle.std.proofs.Common.{refl}
use Rattle.shelf_records.proofs.Metrics.{no_id}
use Rattle.shelf_records.proofs.book.place_of.Goals as goal

pub returns-else-is_at-clause-none : goal.returns-else-is_at-clause-none
returns-else-is_at-clause-none c =
    no_id c.args.ids.now c.args.id c.count_before-place.result c.requires c.count_before-place.ensures.before c.count_before-place.ensures.behind (c.if-is_at.ensures.absent refl)
