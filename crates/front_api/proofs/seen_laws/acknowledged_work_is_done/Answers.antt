use Rattle.front_api.proofs.Acknowledged.{answered_now, drained_now, posted_last, posted_once, refreshed_now}
use Rattle.front_api.proofs.seen_laws.acknowledged_work_is_done.Goals as goal

pub returns : goal.returns
returns c = record {
  posted = λ metric measures number old new call. posted_once metric measures number old new call;
  posted_last = λ metric measures number old new call. posted_last metric measures number old new call;
  refreshed = λ metric done old new call. refreshed_now metric done old new call;
  answered = λ metric query rows old new call. answered_now metric query rows old new call;
  drained = λ turns old new call. drained_now turns old new call;
}
