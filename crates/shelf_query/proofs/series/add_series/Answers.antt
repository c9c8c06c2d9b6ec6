use Rattle.std.proofs.Common.{rules, ◌≡◌, ◌++◌, ◌+◌, ◌*◌, ◌/◌, ◌%◌, ◌≤◌, sym, ap, subst, ◌∙◌, append-nil, arith}
use Rattle.series_model.specs.Query.{rows_wanted}
use Rattle.series_model.specs.Stored.{split_span}
use Rattle.split_store.specs.ShelfView.{stored_split}
use Rattle.split_store.proofs.Seen.{seen_kept}
use Rattle.shelf_query.specs.Reading.{HasOddSplitOf}
use Rattle.shelf_query.proofs.ReadLemmas.{cause_then, seen_none, seen_then}
use Rattle.shelf_query.proofs.Stretches.{begin_early, first_late, late_key, rows_begin, rows_end, rows_more, whole_key}
use Rattle.shelf_query.proofs.series.add_series.Goals as goal

pub loop-i-init : goal.loop-i-init
loop-i-init g c =
    let a = c.args in
    let first = c.first_wanted.result in
    let length = 3600 * c.nanos-length.result in
    record {
      rows = λ points keeps. sym (
          ap (λ l. a.rows.now ++ l) (rows_begin a.query.now a.series.now.definition.granularity c.oldest_point-oldest.result first (first / length * length + 0 * length) points c.first_wanted.ensures (begin_early first length))
          ∙ append-nil a.rows.now
          );
      whole = c.requires.whole;
      seen = seen_none g.D.Disk g.met.D.Disk.only_now g.met.D.Disk.came_none a.shelf.now;
      left = c.requires.left;
    }

pub returns-in-Err-clause-seen : goal.returns-in-Err-clause-seen
returns-in-Err-clause-seen g c = seen_then g.D.Disk g.met.D.Disk.came_then g.met.D.Disk.came_goes_on c.args.shelf.now c.loop-i.shelf c.add_split.new.shelf c.loop-i.invariant.seen c.in-Err.ensures.seen

pub returns-in-Err-clause-cause : goal.returns-in-Err-clause-cause
returns-in-Err-clause-cause g c =
    let s = c.args.series.now in
    cause_then g.D.Disk g.met.D.Disk.came_later (λ metrics. HasOddSplitOf metrics s.metric s.kind) c.args.shelf.now c.loop-i.shelf c.add_split.new.shelf c.in-Err.fault c.loop-i.invariant.seen c.in-Err.ensures.cause

pub loop-i-preserved : goal.loop-i-preserved
loop-i-preserved g c =
    let a = c.args in
    let s = a.series.now in
    let first = c.first_wanted.result in
    let length = 3600 * c.nanos-length.result in
    let i = c.loop-i.i in
    let key = c.unwrap-key.result in
    let long : length ≡ split_span s.definition.granularity = ap (λ n. 3600 * n) c.nanos-length.ensures.value in
    let at : key ≡ first / length * length + i * length = search rules in
    let late = first_late a.query.now s.definition.granularity c.oldest_point-oldest.result first c.first_wanted.ensures in
    record {
      rows = λ points keeps.
          rows_more a.query.now s.definition.granularity c.oldest_point-oldest.result key length (first / length * length) i _ points (stored_split s.metric s.place s.kind key keeps.lives) a.rows.now c.loop-i.rows c.add_split.new.rows
          keeps.rising long at (ap (λ k. k % length) at ∙ whole_key first length i) (late_key first a.last c.oldest_point-oldest.result length i key s.definition c.oldest_point-oldest.ensures.value long late at) (keeps.stored key)
          (c.loop-i.invariant.rows points keeps) (c.in-Ok.ensures.rows keeps.lives (seen_kept g.D.Disk a.shelf.now c.loop-i.shelf c.loop-i.invariant.seen keeps.lives keeps.keeps));
      whole = c.in-Ok.ensures.whole;
      seen = seen_then g.D.Disk g.met.D.Disk.came_then g.met.D.Disk.came_goes_on a.shelf.now c.loop-i.shelf c.add_split.new.shelf c.loop-i.invariant.seen c.in-Ok.ensures.seen;
      left = c.in-Ok.ensures.left;
    }

pub returns-clause-rows : goal.returns-clause-rows
returns-clause-rows g c points keeps =
    let a = c.args in
    let s = a.series.now in
    let first = c.first_wanted.result in
    let length = 3600 * c.nanos-length.result in
    let i = c.loop-i.i in
    let count = c.stretch_count-count.result in
    let end = c.loop-i-test.false in
    let upto = c.loop-i.auto.i-end in
    let all : count ≡ i = omega (arith, end, upto) in
    let covers : c.end_wanted.result ≤ first / length * length + i * length = subst (λ n. c.end_wanted.result ≤ first / length * length + n * length) all c.stretch_count-count.ensures.covers in
    c.loop-i.invariant.rows points keeps
    ∙ ap (λ l. a.rows.now ++ l)
    (rows_end a.query.now s.definition.granularity c.oldest_point-oldest.result a.last c.end_wanted.result (first / length * length + i * length) points c.end_wanted.ensures.until covers keeps.until
    ∙ ap (λ o. rows_wanted a.query.now s.definition.granularity o points) c.oldest_point-oldest.ensures.value)
