use Rattle.std.proofs.Common.{◌≡◌, refl, rules}
use Rattle.std.proofs.lemmas.Cmp.{nat_list_cmp_total}
use Rattle.metric_index.proofs.Answering.{answers_by}
use Rattle.archive_policy.specs.Policies.{ArchivePolicy}
use Rattle.front_api.specs.Tables.{name_cmp}
use Rattle.metric_index.proofs.PlaceLemmas.{place_found}
use Rattle.metric_index.proofs.tables.policy_place.Goals as goal

pub returns : goal.returns
returns c =
    let facts = c.binary_search_by.ensures in
    place_found name_cmp nat_list_cmp_total (λ (p : ArchivePolicy). p.name) c.args.name.now c.args.policies.now c.binary_search_by.result c.requires facts.bound
    (facts.position (λ p. name_cmp p.name c.args.name.now) (answers_by _ _ (λ f. f.0.now ≡ c.args.name.now) (λ f a r h called is. search rules) _ refl))
