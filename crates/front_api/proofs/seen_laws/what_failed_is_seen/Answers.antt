use Rattle.std.proofs.Common.{refl}
use Rattle.front_api.proofs.Failing.{answered, clean_earlier, in_sack, opened_later, posted, refreshed}
use Rattle.front_api.proofs.FailingIndex.{all_drained, controlled}
use Rattle.front_api.specs.FaultWords.{answer_words, sack_words}
use Rattle.front_api.proofs.seen_laws.what_failed_is_seen.Goals as goal

pub returns : goal.returns
returns c = record {
  post = λ metric measures result old new opened call none. in_sack _ sack_words (λ s. record { no_disk = refl; no_damage = refl }) _ result (λ h own does clean. posted metric measures result h own does clean) old new opened.sacks call none.sacks;
  refresh = λ metric result old new opened call none. in_sack _ sack_words (λ s. record { no_disk = refl; no_damage = refl }) _ result (λ h own does clean. refreshed metric result h own does clean) old new opened.sacks call none.sacks;
  answer = λ metric query result old new opened call none. in_sack _ answer_words (λ s. record { no_disk = refl; no_damage = refl }) _ result (λ h own does clean. answered metric query result h own does clean) old new opened.sacks call none.sacks;
  drain = λ result old new opened call none. all_drained 0 old.sacks new.sacks result opened.sacks call.sacks none.sacks;
  control = λ command result old new opened call none. controlled command result old new opened call none;
  earlier = λ old new on none. clean_earlier old new on none;
  later = λ old new on opened. opened_later old new on opened;
}
