use Rattle.front_api.proofs.GoingOn.{sack_goes_on}
use Rattle.front_api.proofs.seen_laws.bench_histories_go_on.Goals as goal

pub returns : goal.returns
returns g c = record {
  claim = λ sack result old new call. sack_goes_on _ _ _ result old new call;
  commit = λ prepared result old new call. sack_goes_on _ _ _ result old new call;
  release = λ ticket result old new call. sack_goes_on _ _ _ result old new call;
}
