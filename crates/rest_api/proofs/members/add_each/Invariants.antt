use Rattle.std.proofs.Common.{◌≡◌, ◌≤◌, List, length, take}
use Rattle.control_docs.specs.Lists.{list_front}
use Rattle.front_api.specs.Seen.{LeadsTo}
use Rattle.rest_api.specs.Members.{AddsEach}
use Rattle.serde_json.specs.Data.{Data}
use Rattle.rest_api.proofs.members.add_each.Given as goal

abbrev pub invariant-loop-stored : goal.invariant-loop-stored
invariant-loop-stored g l =
    (documents : List Data) × (l.text.items ≡ list_front documents) × (l.count ≡ length documents) × (l.count ≤ l.stored)
    × LeadsTo g.F.Histories.stands l.fn.front l.front (AddsEach l.resource (take l.stored l.members) documents)
    × (g.F.Histories.sack_count l.front ≡ g.F.Histories.sack_count l.fn.front) × (g.F.Histories.duty l.front ≡ g.F.Histories.duty l.fn.front) × (g.F.Histories.made l.front ≡ g.F.Histories.made l.fn.front)
