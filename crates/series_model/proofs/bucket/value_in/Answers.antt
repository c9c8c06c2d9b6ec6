use Rattle.std.proofs.Common.{◌≡◌, ◌+◌, Some, take, sym, ap, ◌∙◌, arith, leb, ltb, ◌&&◌}
use Rattle.std.specs.List.{slice_get}
use Rattle.std.proofs.lemmas.Option.{slice_get-get_or}
use Rattle.series_model.proofs.Tallies.{is_in, values_inside, values_outside}
use Rattle.series_model.proofs.bucket.value_in.Goals as goal

pub returns-then-is_in-clause-value : goal.returns-then-is_in-clause-value
returns-then-is_in-clause-value c g end =
    let series = c.args.series.now in
    let i = c.args.i in
    let m = c.index-series-i.result in
    let there : slice_get series i ≡ Some m = slice_get-get_or series i m (omega arith) ∙ ap Some (sym c.index-series-i.is) in
    let tested : is_in g c.args.start m.at ≡ c.is_in.result =
    sym (c.is_in.ensures ∙ ap (λ e. leb c.args.start m.at && ltb m.at e) end) in
    values_inside c.args.kind g c.args.start (take i series) (take (i + 1) series) m c.value_for-value.result (c.value_for-value.ensures.value m there) (tested ∙ c.if-is_in.true)

pub returns-else-is_in-clause-value : goal.returns-else-is_in-clause-value
returns-else-is_in-clause-value c g end =
    let series = c.args.series.now in
    let i = c.args.i in
    let m = c.index-series-i.result in
    let there : slice_get series i ≡ Some m = slice_get-get_or series i m (omega arith) ∙ ap Some (sym c.index-series-i.is) in
    let tested : is_in g c.args.start m.at ≡ c.is_in.result =
    sym (c.is_in.ensures ∙ ap (λ e. leb c.args.start m.at && ltb m.at e) end) in
    values_outside c.args.kind g c.args.start (take i series) (take (i + 1) series) m c.value_for-value.result (c.value_for-value.ensures.value m there) (tested ∙ c.if-is_in.false)
