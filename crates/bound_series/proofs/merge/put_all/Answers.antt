use Rattle.std.proofs.Common.{◌≡◌, ◌<◌, ◌≤◌, drop, get_or, sym, ap, ◌∙◌, arith}
use Rattle.std.specs.List.{All}
use Rattle.std.proofs.lemmas.List.Elements.{All-weaker}
use Rattle.series_model.specs.declared.measure.Measure.{Measure}
use Rattle.series_model.proofs.Rising.{Rises_from_rising, times}
use Rattle.bound_series.proofs.Merging.{fold-more}
use Rattle.bound_series.proofs.Places.{rises_far}
use Rattle.bound_series.proofs.merge.put_all.Goals as goal

pub loop-m-preserved : goal.loop-m-preserved
loop-m-preserved c =
    let old = c.args.old.now in
    let new = c.args.new.now in
    let i = c.loop-m.m-index in
    let m = c.m-item.result in
    let out = c.loop-m.merged.items in
    let below = c.loop-m-test.true in
    let own : (get_or new i m).at ≡ m.at = ap (λ (x : Measure). x.at) (sym c.m-item.is) in
    let before : All (λ x. x.at < m.at) out =
    All-weaker (λ x. x.at < (get_or new i m).at) (λ x. x.at < m.at) (λ x less. omega (arith, less, own)) out (c.loop-m.invariant.before i m (omega arith) below) in
    record {
      inside = c.in_ok-place.ensures.inside;
      so_far = c.in_ok-place.ensures.moved ∙ fold-more old new i m out (drop c.loop-m.place old) below c.m-item.is c.loop-m.invariant.so_far before;
      before = λ k d le less.
          let up : (get_or new i m).at < (get_or new k d).at = rises_far new i k m d (Rises_from_rising (times new) c.requires) (omega arith) less in
          All-weaker (λ x. x.at ≤ m.at) (λ x. x.at < (get_or new k d).at) (λ x late. omega (arith, late, up, own)) c.put_next.new.merged.items (c.in_ok-place.ensures.before before);
    }
