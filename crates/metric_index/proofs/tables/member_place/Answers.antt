use Rattle.std.proofs.Common.{◌≡◌, ℕ, List, refl, rules}
use Rattle.std.proofs.lemmas.Cmp.{nat_list_cmp_total}
use Rattle.metric_index.proofs.Answering.{answers_by}
use Rattle.series_model.specs.declared.metric.MetricId.{MetricId}
use Rattle.front_api.specs.Tables.{name_cmp}
use Rattle.metric_index.proofs.PlaceLemmas.{place_found}
use Rattle.metric_index.proofs.tables.member_place.Goals as goal

pub returns : goal.returns
returns c =
    let facts = c.binary_search_by.ensures in
    place_found name_cmp nat_list_cmp_total (λ (p : List ℕ × MetricId). p.0) c.args.name.now c.args.members.now c.binary_search_by.result c.requires facts.bound
    (facts.position (λ p. name_cmp p.0 c.args.name.now) (answers_by _ _ (λ f. f.0.now ≡ c.args.name.now) (λ f a r h called is. search rules) _ refl))
