use Rattle.std.proofs.Common.{List, sym, subst}
use Rattle.measure_query.specs.Key.{Pair}
use Rattle.measure_query.specs.Query.{IsAsked, everything}
use Rattle.measure_query.proofs.QueryLemmas.{no_pairs, nothing_asked}
use Rattle.measure_query.proofs.laws.empty_asks_for_all.Goals as goal

pub returns : goal.returns
returns c = subst (λ (pairs : List Pair). IsAsked pairs everything) (sym no_pairs) nothing_asked
