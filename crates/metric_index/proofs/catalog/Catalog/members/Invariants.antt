use Rattle.std.proofs.Common.{◌≡◌, [], take}
use Rattle.std.specs.List.{filter, fold}
use Rattle.front_api.specs.Maps.{is_in}
use Rattle.front_api.specs.Replies.{with_member}
use Rattle.front_api.specs.Tables.{Rises, name_cmp}
use Rattle.metric_index.proofs.catalog.Catalog.members.Given as goal

abbrev pub invariant-loop-doc : goal.invariant-loop-doc
invariant-loop-doc l = record {
  are : l.members.items ≡ fold with_member [] (filter (is_in l.resource) (take l.doc-index l.doc-items));
  rise : Rises name_cmp (λ m. m.0) l.members.items;
  same : l.doc-items ≡ l.self.metrics.items;
}
