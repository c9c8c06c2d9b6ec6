use Rattle.std.proofs.Common.{◌≡◌, ◌%◌, ap, ◌∙◌, rules}
use Rattle.series_model.specs.Answer.{oldest_point_of}
use Rattle.retention_cut.proofs.KeptLaws.{oldest-multiple}
use Rattle.retention_cut.proofs.oldest.oldest_point.Goals as goal

pub returns-clause-multiple : goal.returns-clause-multiple
returns-clause-multiple c =
    let last = c.args.last in
    let d = c.args.definition.now in
    let value : c.unwrap.result ≡ oldest_point_of last d = search rules in
    ap (λ at. at % d.granularity) value ∙ oldest-multiple last d
