use Rattle.std.proofs.Common.{◌≡◌, ℕ, List, subst}
use Rattle.front_api.specs.declared.command.MetricDoc.{MetricDoc}
use Rattle.front_api.specs.Replies.{doc_refusal}
use Rattle.metric_index.specs.Catalog.{maps_in}
use Rattle.metric_index.proofs.catalog.Catalog.refuse_doc.Goals as goal

pub returns : goal.returns
returns c =
    let d : MetricDoc = c.args.doc.now in
    subst (λ (b : List ℕ). c.refuse_parts.result ≡ doc_refusal (maps_in c.args.self.now) (record { id = d.id; policy = b; name = d.name; unit = d.unit; resource = d.resource })) c.bytes.ensures.value (c.refuse_parts.ensures d.unit)
