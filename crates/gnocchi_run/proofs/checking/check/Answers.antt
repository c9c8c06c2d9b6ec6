use Rattle.std.proofs.KnownBytes.{Appends-nil}
use Rattle.gnocchi_run.specs.Doing.{ChecksStore}
use Rattle.gnocchi_run.proofs.checking.check.Goals as goal

pub returns-in-Ok-clause-checks : goal.returns-in-Ok-clause-checks
returns-in-Ok-clause-checks g c =
    ChecksStore.counted c.in-Ok.solo c.counts.result c.in-Ok.ensures.found c.into_disks.ensures.all
    (λ books lists new are. c.counts.ensures books lists (c.in-Ok.ensures.found.stands books new) are)
    c.tell_counts-status.ensures.tells

pub returns-in-Err-clause-checks : goal.returns-in-Err-clause-checks
returns-in-Err-clause-checks g c =
    ChecksStore.unfound c.in-Err.fault c.in-Err.ensures.unfound c.status_of_store.ensures.value (Appends-nil (g.K.Sink.taken c.args.sink.now))
