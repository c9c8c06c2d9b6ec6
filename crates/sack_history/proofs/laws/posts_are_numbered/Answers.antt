use Rattle.std.proofs.Common.{arith}
use Rattle.sack_history.specs.Lives.{all_posts}
use Rattle.sack_history.proofs.Ordered.{numbered_at, ordered}
use Rattle.sack_history.proofs.laws.posts_are_numbered.Goals as goal

pub returns : goal.returns
returns c = record {
  number = λ counts k p legal there. omega (arith, numbered_at 0 (all_posts counts) (ordered counts legal).numbered k p there);
  next = λ counts legal. omega (arith, (ordered counts legal).number);
}
