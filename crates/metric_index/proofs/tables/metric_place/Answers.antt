use Rattle.std.proofs.Common.{◌≡◌, refl, rules}
use Rattle.std.specs.Cmp.{nat_cmp_total}
use Rattle.std.specs.Ordering.{nat_cmp}
use Rattle.metric_index.proofs.Answering.{answers_by}
use Rattle.front_api.specs.declared.command.MetricDoc.{MetricDoc}
use Rattle.metric_index.proofs.PlaceLemmas.{place_found}
use Rattle.metric_index.proofs.tables.metric_place.Goals as goal

pub returns : goal.returns
returns c =
    let facts = c.binary_search_by.ensures in
    place_found nat_cmp nat_cmp_total (λ (p : MetricDoc). p.id.0) c.args.id c.args.metrics.now c.binary_search_by.result c.requires facts.bound
    (facts.position (λ p. nat_cmp p.id.0 c.args.id) (answers_by _ _ (λ f. f.0.now ≡ c.args.id) (λ f a r h called is. search rules) _ refl))
