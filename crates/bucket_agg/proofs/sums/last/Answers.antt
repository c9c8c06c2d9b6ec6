use Rattle.std.proofs.Common.{◌≡◌, ◌-◌, ℤ, Option, pos, length, ap, ◌∙◌, rules, to_z, of_z, w64}
use Rattle.std.specs.Option.{unwrap_or}
use Rattle.std.proofs.lemmas.Int.{ints}
use Rattle.std.proofs.lemmas.Option.{unwrap_or-slice_get}
use Rattle.series_model.proofs.Tallies.{last_is}
use Rattle.bucket_agg.proofs.sums.last.Goals as goal

pub returns : goal.returns
returns c =
    let values = c.args.values.now in
    let same : to_z w64 (of_z w64 c.unwrap_or.result) ≡ c.unwrap_or.result = search (rules, ints) in
    same ∙ c.unwrap_or.ensures ∙ ap (λ (o : Option ℤ). unwrap_or o (pos 0)) (c.copied.ensures ∙ c.last.ensures.value)
    ∙ unwrap_or-slice_get values (length values - 1) (pos 0) ∙ last_is values
