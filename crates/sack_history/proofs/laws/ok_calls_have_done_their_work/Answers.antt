use Rattle.sack_history.proofs.Doing.{answered_ok, committed_ok, created_ok, drained_ok, dropped_ok, posted_ok, refreshed_ok}
use Rattle.sack_history.proofs.laws.ok_calls_have_done_their_work.Goals as goal

pub returns : goal.returns
returns c = record {
  created = λ sack m policy value before own legal call. created_ok sack before own legal m policy value call;
  dropped = λ sack m value before own legal call. dropped_ok sack before own legal m value call;
  posted = λ sack m measures number before own legal call. posted_ok sack before own legal m measures number call;
  answered = λ sack m query rows before own legal call. answered_ok sack before own legal m query rows call;
  committed = λ sack p done before own legal call. committed_ok sack before own legal p done call;
  refreshed = λ sack m done before own legal call. refreshed_ok sack before own legal m done call;
  drained = λ sack number before own legal call. drained_ok sack before own legal number call;
}
