use Rattle.std.proofs.Common.{rules, ◌≡◌, None, sym, ◌∙◌}
use Rattle.shelf_records.specs.Shelved.{metric_of}
use Rattle.split_store.specs.ShelfView.{last_in}
use Rattle.shelf_query.proofs.Scratching.{latest_kept, no_rows}
use Rattle.shelf_query.proofs.answer.answer_of.Goals as goal

pub returns-in_default-clause-rows : goal.returns-in_default-clause-rows
returns-in_default-clause-rows g c policy accepted kept =
    let a = c.args in
    let none : last_in (metric_of a.metric a.shelf.now.metrics) ≡ None = search rules in
    c.new-rows.ensures ∙ sym (no_rows policy a.query.now a.kind accepted (last_in (metric_of a.metric a.shelf.now.metrics)) (latest_kept g.D.Disk a.shelf.now a.metric a.kind policy accepted kept c.requires.live) none)
