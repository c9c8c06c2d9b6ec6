use Rattle.std.proofs.Common.{◌≡◌, ◌∷◌, drop, sym, ap, ◌∙◌, arith}
use Rattle.gno_num.proofs.GrammarLemmas.{front_with}
use Rattle.measure_json.proofs.ShortLemmas.{no_fraction, point_fraction, all_of}
use Rattle.measure_json.proofs.short.short_fraction.Goals as goal

pub returns-then-not-has_point : goal.returns-then-not-has_point
returns-then-not-has_point c = no_fraction c.args.whole c.args.text.now

pub returns-else-places-eq0 : goal.returns-else-places-eq0
returns-else-places-eq0 c =
    let text = c.args.text.now in
    let behind = c.skip-has_point.result.1.now in
    let places = c.digits_onto-number.result.1 in
    let begun : text ≡ 46 ∷ behind = front_with 46 text (sym c.skip-has_point.ensures.found ∙ c.if-not-has_point.false) ∙ ap (λ r. 46 ∷ r) (sym c.skip-has_point.ensures.rest) in
    point_fraction c.args.whole text behind c.digits_onto-number.result.0 places _ begun c.digits_onto-number.ensures.number c.digits_onto-number.ensures.digits c.digits_onto-number.ensures.few c.digits_onto-number.ensures.within c.if-places-eq0.false (all_of behind places)
