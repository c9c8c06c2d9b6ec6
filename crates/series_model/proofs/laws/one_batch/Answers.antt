use Rattle.series_model.specs.AcceptedLaws.{accepted_of-push}
use Rattle.series_model.proofs.laws.one_batch.Goals as goal

pub returns : goal.returns
returns c = accepted_of-push
