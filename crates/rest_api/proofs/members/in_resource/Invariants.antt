use Rattle.std.proofs.Common.{◌≡◌, filter, take}
use Rattle.front_api.specs.Maps.{is_in}
use Rattle.rest_api.specs.Members.{borrowed}
use Rattle.rest_api.proofs.members.in_resource.Given as goal

abbrev pub invariant-loop-doc : goal.invariant-loop-doc
invariant-loop-doc l = borrowed l.its.items ≡ filter (is_in l.resource) (take l.doc-index l.docs)
