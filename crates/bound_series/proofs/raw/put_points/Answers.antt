use Rattle.std.proofs.Common.{◌≡◌, false, None, sym, ap, ◌∙◌}
use Rattle.std.proofs.lemmas.Bool.{not-true}
use Rattle.series_model.specs.Tail.{last_onto}
use Rattle.series_model.proofs.Rising.{Rises_from_rising, times}
use Rattle.bound_series.specs.Turn.{reaches}
use Rattle.bound_series.proofs.Merging.{fold-behind}
use Rattle.bound_series.proofs.raw.put_points.Goals as goal

pub returns-then-is_behind-clause-ok : goal.returns-then-is_behind-clause-ok
returns-then-is_behind-clause-ok c =
    let points = c.args.points.now.items in
    let series = c.args.series.now in
    let last : c.last_member.result ≡ last_onto None points = c.last_member.ensures ∙ ap (last_onto None) c.as_slice.ensures.value in
    let apart : reaches (last_onto None points) series ≡ false =
    ap (λ o. reaches o series) (sym last) ∙ not-true (reaches c.last_member.result series) (sym c.is_behind.ensures ∙ c.if-is_behind.true) in
    c.in_ok-extend_from_slice.ensures.items
    ∙ sym (fold-behind points series (Rises_from_rising (times points) c.requires.points) (Rises_from_rising (times series) c.requires.series) apart)
