use Rattle.std.proofs.Common.{◌%◌, ap, ◌∙◌}
use Rattle.series_model.specs.Answer.{oldest_point_of}
use Rattle.series_model.specs.Stored.{split_span}
use Rattle.shelf_blocks.proofs.TurnLemmas.{key_multiple}
use Rattle.shelf_blocks.proofs.turn.oldest_of.Goals as goal

pub returns-in-Some-clause-multiple : goal.returns-in-Some-clause-multiple
returns-in-Some-clause-multiple c =
    let d = c.args.definition.now in
    ap (λ k. k % split_span d.granularity) c.oldest_key.ensures ∙ key_multiple (oldest_point_of c.in-Some.at d) d.granularity
