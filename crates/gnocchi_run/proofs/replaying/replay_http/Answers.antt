use Rattle.std.proofs.KnownBytes.{Appends-nil, Keeps-refl}
use Rattle.gnocchi_run.specs.Doing.{RunsOver}
use Rattle.gnocchi_run.proofs.replaying.replay_http.Goals as goal

pub returns-in-Ok-clause-runs : goal.returns-in-Ok-clause-runs
returns-in-Ok-clause-runs g c =
    RunsOver.answered c.in-Ok.solo c.answer_connection-status.new.front c.in-Ok.ensures.opened c.answer_connection-status.ensures.answers c.into_disks.ensures.all

pub returns-in-Err-clause-runs : goal.returns-in-Err-clause-runs
returns-in-Err-clause-runs g c =
    RunsOver.unopened c.in-Err.fault c.in-Err.ensures.unopened c.status_of_store.ensures.value
    (Keeps-refl (g.S.Source.left c.args.source.now)) (Appends-nil (g.K.Sink.taken c.args.sink.now))
