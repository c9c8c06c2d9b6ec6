use Rattle.http_conn.proofs.LawLemmas.{agree}
use Rattle.http_conn.proofs.laws.one_answer.Goals as goal

pub returns : goal.returns
returns c = agree
