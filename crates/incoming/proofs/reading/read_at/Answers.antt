use Rattle.std.proofs.Common.{◌≡◌, ap}
use Rattle.incoming.specs.declared.mark.Mark.{Mark}
use Rattle.incoming.proofs.Places.{answer_told, others_told}
use Rattle.incoming.proofs.Results.{match_then}
use Rattle.incoming.proofs.reading.read_at.Goals as goal

pub returns-in-Ok-clause-found : goal.returns-in-Ok-clause-found
returns-in-Ok-clause-found g c =
    answer_told c.args.pair.now.records c.args.first c.args.marks.now c.args.at c.mark_at-mark.result c.in-Ok.batch c.requires.known c.in-Ok.ensures.found

pub returns-in-Err-clause-cause : goal.returns-in-Err-clause-cause
returns-in-Err-clause-cause g c =
    match_then c.in-Err.fault _ _ _ _ _ (others_told c.args.pair.now.records c.args.first c.args.marks.now c.args.at c.mark_at-mark.result _ c.requires.known c.mark_at-mark.ensures) c.in-Err.ensures.cause
