use Rattle.shelf_blocks.proofs.Linking.{committed_splits}
use Rattle.shelf_blocks.proofs.laws.written_turn_is_held.Goals as goal

pub returns : goal.returns
returns c = λ old new m p splits all series moves pieces filed prepared same count made turned fills was holds. committed_splits old new m p splits all series moves pieces filed prepared same count made turned fills was holds
