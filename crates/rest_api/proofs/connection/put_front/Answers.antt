use Rattle.rest_api.proofs.ConnectionLemmas.{front_written}
use Rattle.rest_api.proofs.connection.put_front.Goals as goal

pub returns-in-Err-clause-err : goal.returns-in-Err-clause-err
returns-in-Err-clause-err g c =
    front_written (g.K.Sink.taken c.args.sink.now) (g.K.Sink.taken c.put_all.new.sink) c.args.text.now c.in-Err.ensures.err
