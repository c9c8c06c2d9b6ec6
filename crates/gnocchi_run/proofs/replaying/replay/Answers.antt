use Rattle.std.proofs.KnownBytes.{Appends-nil, Keeps-refl}
use Rattle.command_line.specs.declared.status.Status.TheVariants.{Done, Input}
use Rattle.gnocchi_run.proofs.Complete.{starved_store}
use Rattle.gnocchi_run.specs.Doing.{RunsOver}
use Rattle.gnocchi_run.proofs.replaying.replay.Goals as goal

pub returns-in-Ok-clause-runs : goal.returns-in-Ok-clause-runs
returns-in-Ok-clause-runs g c =
    RunsOver.answered c.in-Ok.solo c.answer_script-status.new.front c.in-Ok.ensures.opened c.answer_script-status.ensures.answers c.into_disks.ensures.all

pub returns-in-Err-clause-runs : goal.returns-in-Err-clause-runs
returns-in-Err-clause-runs g c =
    RunsOver.unopened c.in-Err.fault c.in-Err.ensures.unopened c.status_of_store.ensures.value
    (Keeps-refl (g.S.Source.left c.args.source.now)) (Appends-nil (g.K.Sink.taken c.args.sink.now))

pub returns-in-Err-clause-complete : goal.returns-in-Err-clause-complete
returns-in-Err-clause-complete g c input lines left whole short un = starved_store c.in-Err.fault c.status_of_store.result Done c.status_of_store.ensures.value un

pub returns-in-Err-clause-refused : goal.returns-in-Err-clause-refused
returns-in-Err-clause-refused g c input lines left whole short un = starved_store c.in-Err.fault c.status_of_store.result Input c.status_of_store.ensures.value un
