use Rattle.series_model.proofs.Rising.{rising_from_Rises}
use Rattle.sack_history.specs.Lives.{pending_posts}
use Rattle.sack_history.proofs.Numbers.{numbers}
use Rattle.sack_history.proofs.Turning.{part_of_metric, pending_rises}
use Rattle.sack_history.proofs.laws.waiting_posts_rise.Goals as goal

pub returns : goal.returns
returns c = record {
  rise = λ counts legal. rising_from_Rises (numbers (pending_posts counts)) (pending_rises counts legal);
  part = λ m counts legal. part_of_metric m counts legal;
}
