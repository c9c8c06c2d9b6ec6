use Rattle.std.proofs.Common.{sym, ◌∙◌}
use Rattle.std.proofs.lemmas.Bool.{false≢true}
use Rattle.series_model.proofs.Rising.{Rises_from_rising, rising_from_Rises, times}
use Rattle.series_model.proofs.TailLaws.{anchored}
use Rattle.bound_series.proofs.Scratch.{points_rise, rising_apart, rising_with}
use Rattle.bound_series.proofs.raw.is_series.Goals as goal

pub returns-then-reaches : goal.returns-then-reaches
returns-then-reaches c =
    let o = c.args.anchor.now in
    let points = c.args.points.now in
    (λ is. absurd (false≢true is), λ rising. absurd (false≢true (sym (rising_apart o points (Rises_from_rising (times (anchored o points)) rising)) ∙ sym c.reaches.ensures ∙ c.if-reaches.true)))

pub returns : goal.returns
returns c =
    let o = c.args.anchor.now in
    let points = c.args.points.now in (
      λ is. rising_from_Rises (times (anchored o points)) (rising_with o points (Rises_from_rising (times points) (c.rises.ensures.0 is)) (sym c.reaches.ensures ∙ c.if-reaches.false)),
      λ rising. c.rises.ensures.1 (rising_from_Rises (times points) (points_rise o points (Rises_from_rising (times (anchored o points)) rising))),
    )
