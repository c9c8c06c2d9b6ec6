use Rattle.std.proofs.Common.{refl}
use Rattle.measure_query.proofs.SeenLemmas.{asked_from}
use Rattle.measure_query.proofs.seen.Seen.asked.Goals as goal

pub returns : goal.returns
returns c pairs is =
    asked_from pairs c.args.self.now _ is refl refl c.unwrap_or.ensures refl c.unwrap_or-2.ensures c.unwrap_or-3.ensures
