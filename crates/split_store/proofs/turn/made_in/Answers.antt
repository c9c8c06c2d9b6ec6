use Rattle.std.proofs.Common.{◌≡◌, Some, sym, ap, subst, ◌∙◌}
use Rattle.shelf_records.specs.Shelved.{Shelved, metric_of}
use Rattle.split_store.specs.Loading.{IsSound}
use Rattle.split_store.specs.Turn.{AreMadeOf}
use Rattle.split_store.proofs.Cuts.{long_kept}
use Rattle.split_store.proofs.Sound.{found_has, series_within}
use Rattle.std.proofs.lemmas.Option.{same_Some}
use Rattle.split_store.proofs.turn.made_in.Goals as goal

pub make_all-requires-clause-keys : goal.make_all-requires-clause-keys
make_all-requires-clause-keys g c =
    (found_has IsSound c.args.book.now.metrics c.args.prepared.now.job.metric c.in-Some.filed.now c.requires.sound (subst (λ id. metric_of id c.args.book.now.metrics ≡ Some c.in-Some.filed.now) (c.metric.ensures ∙ ap (λ j. j.metric) c.job.ensures.value) c.in-Some.ensures)).keys

pub make_all-requires-clause-within : goal.make_all-requires-clause-within
make_all-requires-clause-within g c =
    series_within (g.D.Disk.size c.args.blocks.now) c.args.book.now.metrics c.args.prepared.now.job.metric c.in-Some.filed.now c.requires.blocks
    (subst (λ id. metric_of id c.args.book.now.metrics ≡ Some c.in-Some.filed.now) (c.metric.ensures ∙ ap (λ j. j.metric) c.job.ensures.value) c.in-Some.ensures)

pub returns-in-Ok-clause-made : goal.returns-in-Ok-clause-made
returns-in-Ok-clause-made g c m found =
    let filed = c.in-Some.filed.now in
    let here = subst (λ id. metric_of id c.args.book.now.metrics ≡ Some filed) (c.metric.ensures ∙ ap (λ j. j.metric) c.job.ensures.value) c.in-Some.ensures in
    subst (λ (x : Shelved). AreMadeOf (g.D.Disk.told c.args.blocks.now) x c.args.prepared.now c.in-Ok.made.items) (same_Some filed m (sym here ∙ found))
    (record { count = c.in-Ok.ensures.count ∙ sym (long_kept filed c.id-id.ensures.filed); are = c.in-Ok.ensures.made })
