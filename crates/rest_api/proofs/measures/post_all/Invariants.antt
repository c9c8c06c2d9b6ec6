use Rattle.std.proofs.Common.{◌≡◌, take}
use Rattle.front_api.specs.Seen.{LeadsTo}
use Rattle.rest_api.specs.Measures.{PostsEach}
use Rattle.rest_api.proofs.measures.post_all.Given as goal

abbrev pub invariant-loop-stored : goal.invariant-loop-stored
invariant-loop-stored g l = record {
  does : LeadsTo g.F.Histories.stands l.fn.front l.front (PostsEach (take l.stored l.entries));
  same : (g.F.Histories.sack_count l.front ≡ g.F.Histories.sack_count l.fn.front) × (g.F.Histories.duty l.front ≡ g.F.Histories.duty l.fn.front) × (g.F.Histories.made l.front ≡ g.F.Histories.made l.fn.front);
}
