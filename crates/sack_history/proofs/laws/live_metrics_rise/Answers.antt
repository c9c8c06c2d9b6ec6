use Rattle.sack_history.proofs.Identified.{live_ids-all, live_ids-live, live_ids-rise}
use Rattle.sack_history.proofs.laws.live_metrics_rise.Goals as goal

pub returns : goal.returns
returns c = record {
  rise = λ counts. live_ids-rise counts;
  live = λ counts m among. live_ids-live counts m among;
  all = λ counts m live. live_ids-all counts m live;
}
