use Rattle.std.proofs.Common.{◌≡◌, ◌++◌, sym, ap, subst, ◌∙◌}
use Rattle.std.specs.List.{fold}
use Rattle.std.specs.List.Sorted.{IsStrictlyIncreasing}
use Rattle.std.specs.Option.{option_to_list}
use Rattle.series_model.specs.Series.{put}
use Rattle.series_model.proofs.Rising.{Rises-fold, Rises_from_rising, rising_from_Rises, times}
use Rattle.series_model.proofs.TailLaws.{anchored}
use Rattle.bound_series.proofs.Scratch.{points_rise, anchored_put}
use Rattle.bound_series.proofs.raw.Raw.put_series.Goals as goal

pub invariant_of-self : goal.invariant_of-self
invariant_of-self c =
    let o = c.self.inside.anchor in
    let points = c.self.inside.points.items in
    let series = c.args.series.now in
    let members : c.as_slice-then-reaches.result.now ≡ anchored o points =
    c.as_slice-then-reaches.ensures.value ∙ c.in_ok-members.ensures ∙ ap (λ l. option_to_list o ++ l) c.as_slice.ensures.value in
    let items : c.in_ok-self-inside.field-0.items ≡ fold put (anchored o points) series =
    c.in_ok-self-inside.ensures ∙ ap (λ l. fold put l series) members in
    subst (λ l. IsStrictlyIncreasing (times l)) (sym items) (rising_from_Rises (times (fold put (anchored o points) series)) (Rises-fold series (anchored o points) (Rises_from_rising (times (anchored o points)) c.self.invariant)))

pub put_points-requires-clause-points : goal.put_points-requires-clause-points
put_points-requires-clause-points c =
    let o = c.self.inside.anchor in
    let points = c.self.inside.points.items in
    rising_from_Rises (times points) (points_rise o points (Rises_from_rising (times (anchored o points)) c.self.invariant))

pub invariant_of-self-2 : goal.invariant_of-self-2
invariant_of-self-2 c =
    let o = c.self.inside.anchor in
    let points = c.self.inside.points.items in
    let series = c.args.series.now in
    subst (λ l. IsStrictlyIncreasing (times (anchored o l))) (sym c.in_ok-put_points.ensures.ok)
    (rising_from_Rises (times (anchored o (fold put points series))) (anchored_put o points series (Rises_from_rising (times (anchored o points)) c.self.invariant) (Rises_from_rising (times series) c.requires.rising) (sym c.reaches.ensures ∙ c.if-reaches.false)))
