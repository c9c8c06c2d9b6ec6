use Rattle.std.proofs.Common.{◌≡◌, ◌+◌, ◌-◌, Bool, true, false, cond, pos, take, drop, length, get_or, sym, ap, ◌∙◌, arith, rules}
use Rattle.std.proofs.lemmas.Int.{ints}
use Rattle.std.specs.List.{list_any}
use Rattle.std.specs.Ordering.{int_eq}
use Rattle.series_model.specs.Bucket.{distinct_count}
use Rattle.series_model.proofs.Tallies.{distinct_next}
use Rattle.series_model.proofs.kinds.distinct_count.Goals.{then-not-is_among, else-not-is_among}
use Rattle.series_model.proofs.kinds.distinct_count.Goals as goal

pub loop-i-preserved : goal.loop-i-preserved
loop-i-preserved c =
    let values = c.args.values.now in
    let i = c.loop-i.i in
    let rest = take (length values - (i + 1)) (drop (i + 1) values) in
    let among : c.is_among.result ≡ list_any (λ w. int_eq w (get_or values i (pos 0))) rest = search (rules, ints) in
    let next : distinct_count (drop i values) ≡ cond c.is_among.result 0 1 + distinct_count (drop (i + 1) values) =
    distinct_next values i (omega arith) ∙ ap (λ b. cond b 0 1 + distinct_count (drop (i + 1) values)) (sym among) in
    let step : (b : Bool) → c.is_among.result ≡ b → distinct_count (drop i values) ≡ cond b 0 1 + distinct_count (drop (i + 1) values) =
    λ (b : Bool) (is : c.is_among.result ≡ b). next ∙ ap (λ x. cond x 0 1 + distinct_count (drop (i + 1) values)) is in
    elim c.if-not-is_among.branch [
      | then-not-is_among w ↦ record { rest = omega (arith, step false w.if-not-is_among.true); few = omega arith }
      | else-not-is_among w ↦ record { rest = omega (arith, step true w.if-not-is_among.false); few = omega arith }
    ]
