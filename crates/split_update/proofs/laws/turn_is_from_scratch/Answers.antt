use Rattle.split_update.proofs.Scratch.{from_scratch}
use Rattle.split_update.proofs.laws.turn_is_from_scratch.Goals as goal

pub returns : goal.returns
returns c p before i d kind positive is among scratch = from_scratch p before i d kind positive is among scratch
