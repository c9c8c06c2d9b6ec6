use Rattle.std.proofs.Common.{◌≡◌, ℕ, List, sym, ap, subst, ◌∙◌}
use Rattle.std.specs.Bool.{IsTrue}
use Rattle.std.specs.Option.{is_some}
use Rattle.gno_codec.specs.declared.item.IndexItem.{IndexItem}
use Rattle.front_api.specs.declared.command.MetricDoc.{MetricDoc}
use Rattle.front_api.specs.Replies.{doc_refusal}
use Rattle.metric_index.specs.Catalog.{maps_in}
use Rattle.metric_index.specs.Items.{May, counted_of}
use Rattle.metric_index.proofs.KeptLemmas.{none_iff}
use Rattle.metric_index.proofs.catalog.Catalog.may.Goals as goal

pub returns-in-AddMetric : goal.returns-in-AddMetric
returns-in-AddMetric c =
    let m = maps_in c.args.self.now in
    let b = c.is_none-in-AddMetric.result in
    let a = c.in-AddMetric in
    let doc : MetricDoc = record { id = a.id; policy = a.policy; name = a.name; unit = a._unit; resource = a.resource } in
    let same : c.refuse_parts.result ≡ doc_refusal m doc =
    subst (λ (p : List ℕ). c.refuse_parts.result ≡ doc_refusal m (record { id = a.id; policy = p; name = a.name; unit = a._unit; resource = a.resource })) c.bytes-in-AddMetric.ensures.value (c.refuse_parts.ensures a._unit) in
    subst (λ (i : IndexItem). (IsTrue b → May m (counted_of i)) × (May m (counted_of i) → IsTrue b)) (sym a.is)
    (none_iff (doc_refusal m doc) b (ap is_some (sym same) ∙ c.is_none-in-AddMetric.ensures))
