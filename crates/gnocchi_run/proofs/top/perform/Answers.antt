use Rattle.std.proofs.Common.{refl}
use Rattle.std.proofs.KnownBytes.{Keeps-refl}
use Rattle.gnocchi_run.proofs.Asked.{performed}
use Rattle.gnocchi_run.specs.declared.task.Task.TheVariants.{Create, Replay, ReplayHttp, Check}
use Rattle.gnocchi_run.proofs.top.perform.Goals as goal

pub returns-in-Create-clause-performs : goal.returns-in-Create-clause-performs
returns-in-Create-clause-performs g c =
    let left = g.S.Source.left c.args.source.now in
    performed g.D.Disk (Create c.in-Create.sacks c.in-Create.number) c.args.task c.args.disks.items c.args.disks.items c.create.result.0.items
    left left (g.K.Sink.taken c.args.sink.now) (g.K.Sink.taken c.create.new.sink) c.create.result.1 c.in-Create.is refl (c.create.ensures.creates, Keeps-refl left)

pub returns-in-Replay-clause-performs : goal.returns-in-Replay-clause-performs
returns-in-Replay-clause-performs g c =
    performed g.D.Disk (Replay c.in-Replay.start c.in-Replay.sacks) c.args.task c.args.disks.items c.args.disks.items c.replay.result.0.items
    (g.S.Source.left c.args.source.now) (g.S.Source.left c.replay.new.source) (g.K.Sink.taken c.args.sink.now) (g.K.Sink.taken c.replay.new.sink) c.replay.result.1
    c.in-Replay.is refl c.replay.ensures.runs

pub returns-in-Replay-clause-complete : goal.returns-in-Replay-clause-complete
returns-in-Replay-clause-complete g c start sacks input lines is left whole short un = c.replay.ensures.complete input lines left whole short un

pub returns-in-Replay-clause-refused : goal.returns-in-Replay-clause-refused
returns-in-Replay-clause-refused g c start sacks input lines is left whole short un = c.replay.ensures.refused input lines left whole short un

pub returns-in-ReplayHttp-clause-performs : goal.returns-in-ReplayHttp-clause-performs
returns-in-ReplayHttp-clause-performs g c =
    performed g.D.Disk (ReplayHttp c.in-ReplayHttp.start c.in-ReplayHttp.sacks) c.args.task c.args.disks.items c.args.disks.items c.replay_http.result.0.items
    (g.S.Source.left c.args.source.now) (g.S.Source.left c.replay_http.new.source) (g.K.Sink.taken c.args.sink.now) (g.K.Sink.taken c.replay_http.new.sink) c.replay_http.result.1
    c.in-ReplayHttp.is refl c.replay_http.ensures.runs

pub returns-in-Check-clause-performs : goal.returns-in-Check-clause-performs
returns-in-Check-clause-performs g c =
    let left = g.S.Source.left c.args.source.now in
    performed g.D.Disk (Check c.in-Check.sacks) c.args.task c.args.disks.items c.args.disks.items c.check.result.0.items
    left left (g.K.Sink.taken c.args.sink.now) (g.K.Sink.taken c.check.new.sink) c.check.result.1 c.in-Check.is refl (c.check.ensures.checks, Keeps-refl left)
