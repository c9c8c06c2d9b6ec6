use Rattle.front_api.proofs.Turning.{drained_turns, told_turns}
use Rattle.front_api.proofs.seen_laws.turns_are_done_entries.Goals as goal

pub returns : goal.returns
returns c = record {
  sack = λ turns before own call. drained_turns turns before own call;
  all = λ turns old new opened call. told_turns turns old new opened call;
}
