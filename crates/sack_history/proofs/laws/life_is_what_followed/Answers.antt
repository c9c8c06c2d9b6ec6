use Rattle.sack_history.proofs.Followed.{last_life, life_that_followed}
use Rattle.sack_history.proofs.laws.life_is_what_followed.Goals as goal

pub returns : goal.returns
returns c = record {
  followed = λ m before policy since within. life_that_followed m before policy since within;
  last = λ m counts life is. last_life m counts life is;
}
