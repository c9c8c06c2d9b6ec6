use Rattle.std.proofs.Common.{ℕ, List, arith, sym, subst}
use Rattle.std.proofs.lemmas.Cmp.{nat_list_cmp_total}
use Rattle.series_model.specs.declared.metric.MetricId.{MetricId}
use Rattle.front_api.specs.Tables.{Rises, name_cmp}
use Rattle.front_api.proofs.SortedTables.{Rises-none}
use Rattle.metric_index.proofs.ReplyLemmas.{members_more}
use Rattle.metric_index.proofs.catalog.Catalog.members.Goals as goal

pub loop-doc-init : goal.loop-doc-init
loop-doc-init c = record {
  are = c.new-members.ensures.items;
  rise = subst (λ (ms : List (List ℕ × MetricId)). Rises name_cmp (λ m. m.0) ms) (sym c.new-members.ensures.items) (Rises-none name_cmp nat_list_cmp_total (λ (m : List ℕ × MetricId). m.0));
  same = c.deref-doc-items.ensures.value;
}

pub loop-doc-preserved : goal.loop-doc-preserved
loop-doc-preserved c = record {
  are = members_more c.args.resource c.deref-doc-items.result.now c.loop-doc.doc-index c.doc-item.result c.loop-doc.members.items c.add_member.new.members.items (omega arith) (sym c.doc-item.is) c.loop-doc.invariant.are c.in_ok-add_member.ensures.added;
  rise = c.in_ok-add_member.ensures.rise;
  same = c.loop-doc.invariant.same;
}
