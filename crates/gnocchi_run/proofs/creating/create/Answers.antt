use Rattle.std.proofs.KnownBytes.{Appends-nil}
use Rattle.gnocchi_run.specs.Doing.{CreatesStore}
use Rattle.gnocchi_run.proofs.creating.create.Goals as goal

pub returns-in-Ok-clause-creates : goal.returns-in-Ok-clause-creates
returns-in-Ok-clause-creates g c = CreatesStore.made c.in-Ok.solo c.in-Ok.ensures.made c.into_disks.ensures.all c.tell.ensures.tells

pub returns-in-Err-clause-creates : goal.returns-in-Err-clause-creates
returns-in-Err-clause-creates g c =
    CreatesStore.unmade c.in-Err.fault c.in-Err.ensures.unmade c.status_of_store.ensures.value (Appends-nil (g.K.Sink.taken c.args.sink.now))
