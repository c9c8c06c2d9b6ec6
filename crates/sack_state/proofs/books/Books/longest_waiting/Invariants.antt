use Rattle.std.proofs.Common.{◌≡◌, None, take}
use Rattle.std.specs.List.{fold}
use Rattle.sack_state.proofs.FirstLemmas.{least_with}
use Rattle.sack_state.proofs.books.Books.longest_waiting.Given as goal

-- the first of the metrics so far
abbrev pub invariant-loop-metric : goal.invariant-loop-metric
invariant-loop-metric g l = l.first ≡ fold (least_with l.self) None (take l.metric-index l.ids)
