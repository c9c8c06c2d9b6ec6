use Rattle.std.proofs.Common.{refl}
use Rattle.gnocchi_run.proofs.Starved.{no_connection}
use Rattle.rest_api.specs.declared.conn_end.ConnEnd.TheVariants as connections
use Rattle.gnocchi_run.proofs.replaying.answer_connection.Goals as goal

pub returns-in_default-clause-answers : goal.returns-in_default-clause-answers
returns-in_default-clause-answers g c = record {
  end = connections.Memory;
  status_is = refl;
  serves = no_connection g.F.Histories.stands c.args.front.now (g.S.Source.left c.args.source.now) (g.K.Sink.taken c.args.sink.now);
}

pub returns-clause-answers : goal.returns-clause-answers
returns-clause-answers g c = record { end = c.serve_stream.result; status_is = c.status_of_connection.ensures.value; serves = c.serve_stream.ensures.serves }
