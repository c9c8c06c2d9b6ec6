use Rattle.std.proofs.Common.{◌≡◌, map, take}
use Rattle.front_api.specs.Replies.{resource_doc}
use Rattle.metric_index.specs.Catalog.{maps_in}
use Rattle.metric_index.proofs.catalog.Catalog.resource_docs.Given as goal

abbrev pub invariant-loop-resource : goal.invariant-loop-resource
invariant-loop-resource l = l.docs.items ≡ map (resource_doc (maps_in l.self)) (take l.resource-index l.self.resources.items)
