use Rattle.std.proofs.Common.{rules, ◌≡◌, ◌++◌, ◌-◌, ◌<◌, suc, List, Some, length, drop, get_or, slice_get, sym, ap, subst, ◌∙◌, arith}
use Rattle.std.proofs.lemmas.Option.{slice_get-get_or}
use Rattle.archive_policy.specs.declared.definition.Definition.{Definition}
use Rattle.archive_policy.specs.Policies.{AreKinds, ArchivePolicy}
use Rattle.series_model.specs.Points.{points_of}
use Rattle.series_model.specs.Series.{series_of_measures}
use Rattle.shelf_records.specs.Shelved.{metric_of}
use Rattle.split_store.proofs.Seen.{seen_kept}
use Rattle.shelf_query.specs.Reading.{HasOddSplitOf}
use Rattle.shelf_query.proofs.ReadLemmas.{cause_then, seen_then}
use Rattle.shelf_query.proofs.Scratching.{all_rows, latest_kept, points_kept, policy_kept, rows_more_definitions, some_last}
use Rattle.shelf_query.proofs.answer.add_all.Goals as goal

pub returns-in-Err-add_asked-clause-seen : goal.returns-in-Err-add_asked-clause-seen
returns-in-Err-add_asked-clause-seen g c = seen_then g.D.Disk g.met.D.Disk.came_then g.met.D.Disk.came_goes_on c.args.shelf.now c.loop-i.shelf c.add_asked.new.shelf c.loop-i.invariant.seen c.in-Err-add_asked.ensures.seen

pub returns-in-Err-add_asked-clause-cause : goal.returns-in-Err-add_asked-clause-cause
returns-in-Err-add_asked-clause-cause g c =
    cause_then g.D.Disk g.met.D.Disk.came_later (λ metrics. HasOddSplitOf metrics c.args.metric c.args.kind) c.args.shelf.now c.loop-i.shelf c.add_asked.new.shelf c.in-Err-add_asked.fault c.loop-i.invariant.seen c.in-Err-add_asked.ensures.cause

pub loop-i-preserved : goal.loop-i-preserved
loop-i-preserved g c =
    let a = c.args in
    let own = c.in-Ok.policy in
    let ds = c.definitions-definitions.result.now in
    let i = c.loop-i.i in
    let place = length ds - 1 - i in
    let d = c.index-definitions-place.result in
    let before = c.loop-i-test.true in
    let next : length ds - i ≡ suc place = omega (arith, before) in
    let below : place < length ds = omega (arith, before) in
    let at : get_or ds place d ≡ d = search rules in
    let there : slice_get ds place ≡ Some d = slice_get-get_or ds place d below ∙ ap (λ (x : Definition). Some x) at in
    record {
      rows = λ policy accepted kept.
          let points = points_of a.kind d.granularity (series_of_measures accepted) in
          let same : policy ≡ own = policy_kept g.D.Disk a.shelf.now a.metric a.kind policy accepted kept own (c.in-Some.ensures ∙ ap (λ (x : ArchivePolicy). Some x) (sym c.in-Ok.ensures)) in
          let last = latest_kept g.D.Disk a.shelf.now a.metric a.kind policy accepted kept (some_last (metric_of a.metric a.shelf.now.metrics) a.last c.requires.last) ∙ c.requires.last in
          let points_there = points_kept g.D.Disk a.shelf.now a.metric a.kind policy accepted kept a.last place d (subst AreKinds (c.kinds-kinds.ensures.value ∙ ap (λ (x : ArchivePolicy). x.kinds) (sym same)) c.kinds-kinds.ensures.valid) last
          (ap (λ (x : ArchivePolicy). slice_get x.definitions place) same ∙ ap (λ (l : List Definition). slice_get l place) (sym c.definitions-definitions.ensures.value) ∙ there) in
          rows_more_definitions a.query.now a.kind accepted a.last ds place (length ds - i) d a.rows.now c.loop-i.rows c.add_asked.new.rows below at next (c.loop-i.invariant.rows policy accepted kept)
          (c.in-Ok-add_asked.ensures.rows points (record {
            lives = points_there.lives;
            keeps = seen_kept g.D.Disk a.shelf.now c.loop-i.shelf c.loop-i.invariant.seen points_there.lives points_there.keeps;
            stored = points_there.stored;
            rising = points_there.rising;
            until = points_there.until;
          }))
          (omega arith);
      whole = c.in-Ok-add_asked.ensures.whole;
      seen = seen_then g.D.Disk g.met.D.Disk.came_then g.met.D.Disk.came_goes_on a.shelf.now c.loop-i.shelf c.add_asked.new.shelf c.loop-i.invariant.seen c.in-Ok-add_asked.ensures.seen;
      left = c.in-Ok-add_asked.ensures.left;
    }

pub returns-clause-rows : goal.returns-clause-rows
returns-clause-rows g c policy accepted kept =
    let a = c.args in
    let own = c.in-Ok.policy in
    let ds = c.definitions-definitions.result.now in
    let end = c.loop-i-test.false in
    let none : length ds - c.loop-i.i ≡ 0 = omega (arith, end) in
    let same : policy ≡ own = policy_kept g.D.Disk a.shelf.now a.metric a.kind policy accepted kept own (c.in-Some.ensures ∙ ap (λ (x : ArchivePolicy). Some x) (sym c.in-Ok.ensures)) in
    let last = latest_kept g.D.Disk a.shelf.now a.metric a.kind policy accepted kept (some_last (metric_of a.metric a.shelf.now.metrics) a.last c.requires.last) ∙ c.requires.last in
    c.loop-i.invariant.rows policy accepted kept
    ∙ ap (λ l. a.rows.now ++ l) (all_rows a.query.now a.kind accepted a.last policy (drop (length ds - c.loop-i.i) ds)
    (ap (λ n. drop n ds) none ∙ c.definitions-definitions.ensures.value ∙ ap (λ (x : ArchivePolicy). x.definitions) (sym same)) last)
