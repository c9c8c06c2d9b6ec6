use Rattle.std.proofs.Common.{◌∙◌, refl, subst}
use Rattle.std.proofs.KnownBytes.{Appends-nil}
use Rattle.gnocchi_run.specs.Doing.{TellsCounts}
use Rattle.gnocchi_run.specs.Ending.{WritesText}
use Rattle.gnocchi_run.proofs.checking.tell_counts.Goals as goal

pub returns-in-Ok-clause-tells : goal.returns-in-Ok-clause-tells
returns-in-Ok-clause-tells g c =
    TellsCounts.told (subst (λ text. WritesText text (g.K.Sink.taken c.args.sink.now) (g.K.Sink.taken c.tell.new.sink) c.tell.result) (c.as_bytes.ensures.value ∙ c.in-Ok.ensures) c.tell.ensures.tells)

pub returns-in-Err-clause-tells : goal.returns-in-Err-clause-tells
returns-in-Err-clause-tells g c = TellsCounts.starved refl (Appends-nil (g.K.Sink.taken c.args.sink.now))
