use Rattle.http_conn.proofs.LawLemmas.{front}
use Rattle.http_conn.proofs.laws.front_first.Goals as goal

pub returns : goal.returns
returns c = front
