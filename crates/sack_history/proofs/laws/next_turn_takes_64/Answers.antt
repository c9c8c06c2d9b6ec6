use Rattle.std.proofs.Common.{◌≡◌, ◌≢◌, List, [], ◌∷◌, refl}
use Rattle.series_model.specs.declared.metric.MetricId.{MetricId}
use Rattle.sack_history.specs.declared.entry.Counted.{Counted}
use Rattle.sack_history.specs.Legal.{MayCount}
use Rattle.sack_history.specs.Lives.{Posted, pending_of}
use Rattle.sack_history.specs.Turns.{next_turn}
use Rattle.sack_history.proofs.Turning.{pending-turn, turn_may, up_to-turn}
use Rattle.sack_history.proofs.laws.next_turn_takes_64.Goals as goal

pub returns : goal.returns
returns c = record {
  may = λ m counts legal some. by m counts (pending_of m counts) refl some;
  posts = λ m counts legal. up_to-turn m counts legal;
  left = λ m counts legal. pending-turn m counts legal;
}
  where
    by : (m : MetricId) (counts : List Counted) (posts : List Posted) → pending_of m counts ≡ posts → pending_of m counts ≢ [] → MayCount counts (next_turn m counts)
    by m counts [] is some = absurd (some is)
    by m counts (p ∷ rest) is some = turn_may m counts p rest is
