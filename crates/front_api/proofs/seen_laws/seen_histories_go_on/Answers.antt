use Rattle.front_api.proofs.GoingOn.{all_further, all_stay, controlling_goes_on, drain_goes_on, sack_goes_on, stays}
use Rattle.std.proofs.Common.{sym, subst}
use Rattle.front_api.specs.SeenLaws.{BookGoesOn}
use Rattle.front_api.proofs.seen_laws.seen_histories_go_on.Goals as goal

pub returns : goal.returns
returns c = record {
  post = λ metric measures result old new call. sack_goes_on _ _ _ result old new call;
  refresh = λ metric result old new call. sack_goes_on _ _ _ result old new call;
  answer = λ metric query result old new call. sack_goes_on _ _ _ result old new call;
  drain = λ result old new call. record {
    index = subst (BookGoesOn old.index) (sym call.index) (stays old.index);
    sacks = drain_goes_on 0 0 old.sacks new.sacks result call.sacks;
  };
  control = λ command result old new call. controlling_goes_on command result old new call;
  none = λ books. all_stay books;
  several = λ old mid new a b. all_further old mid new a b;
}
